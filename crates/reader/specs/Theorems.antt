-- The promises of Statement. Assumes nothing.
use Rattle.std.specs.Prelude.{ℕ, ◌≤◌, ◌≡◌, true, List, Option, Some, None, is_some, unwrap_or}
use Rattle.std.proofs.Common.{sym, ap, ◌∙◌, true≢false}
use Rattle.std.proofs.lemmas.Bool.{false≢true}
use Rattle.bounded.specs.Tests.{both, and-true}
use Rattle.wording.specs.declared.Parts.{Parts}
use Rattle.wording.specs.Explanation.{Explanation, Fits, parts_of}
use Rattle.wording.specs.Text.{text_of}
use Rattle.reader.specs.Reading.{explanation_in, fits, same, is_text, reading_of}
use Rattle.reader.specs.Back.{read_back}
use Rattle.reader.specs.Same.{same_true, same_self}
use Rattle.reader.specs.Fitted.{fits_true, true_fits}
use Rattle.reader.specs.Statement.{ReadBack, SameText, ReadsExactly, NoText}

-- the text of what fits is a text
pub text_is : (e : Explanation) → Fits e → is_text (text_of e) ≡ true
unfolding is_text
text_is e f = rw (read_back e) (simp (true_fits e f, same_self (text_of e)))

-- and there is no other
pub is_text_lem : (l : List ℕ) → is_text l ≡ true → Fits (explanation_in l) × (text_of (explanation_in l) ≡ l)
unfolding is_text
is_text_lem l t =
    let q = and-true (fits (explanation_in l)) (same (text_of (explanation_in l)) l) t in
    (fits_true (explanation_in l) q.0, same_true (text_of (explanation_in l)) l q.1)

pub read_text : ReadBack
unfolding reading_of
read_text e f = simp (text_is e f, read_back e)

pub same_text : SameText
same_text e f q = sym (read_back e) ∙ ap explanation_in q ∙ read_back f

-- parts are given of a text alone
parts_given : (l : List ℕ) (p : Parts) → reading_of l ≡ Some p → (is_text l ≡ true) × (p ≡ parts_of (explanation_in l))
unfolding reading_of
parts_given l p e =
    both (is_text l)
    (λ y. let q : Some (parts_of (explanation_in l)) ≡ Some p = sym (simp y) ∙ e in (y, sym (ap (λ (o : Option Parts). unwrap_or o p) q)))
    (λ n. let q : None ≡ Some p = sym (simp n) ∙ e in absurd (false≢true (ap is_some q)))

pub reads_exactly : ReadsExactly
reads_exactly l p e =
    let g = parts_given l p e in
    let q = is_text_lem l g.0 in
    record { explanation = explanation_in l; fits = q.0; parts = g.1; text = sym q.1 }

pub no_text : NoText
unfolding reading_of
no_text l n e f q =
    let y : is_text l ≡ true = ap is_text (sym q) ∙ text_is e f in
    let z : Some (parts_of (explanation_in l)) ≡ None = sym (simp y) ∙ n in
    true≢false (ap is_some z)

-- for a caller who goes over the jobs
pub reading_few : (l : List ℕ) (p : Parts) → Some p ≡ reading_of l → p.count ≤ 16
reading_few l p e =
    let g = parts_given l p (sym e) in
    rw g.1 (is_text_lem l g.0).0.few
