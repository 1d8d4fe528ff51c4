use Rattle.std.proofs.Common.{sym, ◌∙◌}
use Rattle.lent.specs.Refused.{start_kept}
use Rattle.lent.proofs.start.Goals as goal

pub returns-then-is_err : goal.returns-then-is_err
returns-then-is_err c =
    let o = c.opinion-opinion in
    (o.ensures, sym (start_kept c.args.s.now c.args.words.now o.result o.ensures (sym c.is_err.ensures.value ∙ c.if-is_err.true)))
