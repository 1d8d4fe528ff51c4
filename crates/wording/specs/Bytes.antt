-- The bytes of a phrase written into a lent buffer, by `put_bytes`. Assumes nothing.
use Rattle.std.specs.Prelude.{ℕ, ◌+◌, ◌-◌, ◌≡◌, refl, List, length}
use Rattle.std.proofs.Common.{◌∙◌, arith, append_assoc}
use Rattle.std.proofs.lemmas.List.Edits.{paste_all}
use Rattle.std.proofs.lemmas.Slice.{put_mid-paste}
use borrow.Rule.Slice.PartMut.{put_mid}
use Rattle.decimal.specs.Buffer.{overlay, Wrote}

-- p is what the part of the buffer d holds that was written
pub bytes_written : (t d p : List ℕ) (at : ℕ) → p ≡ t → Wrote (length t) t d (put_mid at (at + length t - at) d p) at (at + length t)
unfolding overlay
bytes_written t d p at q = record {
  buffer = put_mid-paste at _ d p t (length t) q (omega arith) refl ∙ paste_all d at t (length t) refl ∙ simp append_assoc;
  place = refl;
  short = omega arith;
}
