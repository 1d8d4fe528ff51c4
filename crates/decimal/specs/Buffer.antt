-- Text in a lent buffer. Assumes nothing.
use Rattle.std.specs.Prelude.{ℕ, ◌+◌, ◌≤◌, ◌<◌, ◌≡◌, refl, List, [], ◌∷◌, ◌++◌, take, drop, set}
use Rattle.std.proofs.Common.{sym, ap, ◌∙◌, append_assoc, append-nil, add_assoc, add-zero, add-one, arith, length-drop, take-append-drop, drop-drop, take_at}
use Rattle.std.proofs.Math.ListN.{length, length-append, length-take}
use Rattle.std.proofs.Math.Seq.{drop-append-add}
use Rattle.std.proofs.lemmas.List.{set_split}

-- the buffer d with the bytes of t from place `at` on; the rest is as it was
unfoldable pub overlay : List ℕ → ℕ → List ℕ → List ℕ
overlay d at t = take at d ++ t ++ drop (at + length t) d

-- t, of no more than `most` bytes, was written at a place of the buffer, and `next` is the place past it
pub record Wrote (most : ℕ) (t before after : List ℕ) (at next : ℕ) : Type 0 where
  pub buffer : after ≡ overlay before at t
  pub place : next ≡ at + length t
  pub short : length t ≤ most

-- ---- the laws of `overlay`

pub overlay_none : (d : List ℕ) (at : ℕ) → overlay d at [] ≡ d
unfolding overlay
overlay_none d at = simp (append-nil, add-zero, take-append-drop)

module _ (d : List ℕ) (at : ℕ) (t : List ℕ) (fits : at + length t ≤ length d) where
  pub overlay_length : length (overlay d at t) ≡ length d
  unfolding overlay
  overlay_length = simp (length-append, length-take, length-drop) (omega arith)

  front_length : length (take at d ++ t) ≡ at + length t
  front_length = simp (length-append, length-take) (omega arith)

  rest_drop : (n : ℕ) → drop (at + length t + n) (take at d ++ t ++ drop (at + length t) d) ≡ drop (at + length t + n) d
  rest_drop n = rw (← front_length) (drop-append-add (take at d ++ t) _ n) ∙ drop-drop n (at + length t) d

  -- one text after another is both as one
  pub overlay_more : (u : List ℕ) → overlay (overlay d at t) (at + length t) u ≡ overlay d at (t ++ u)
  unfolding overlay
  overlay_more u =
      rw (take_at (take at d ++ t) (drop (at + length t) d) (at + length t) front_length, rest_drop (length u))
      (simp (append_assoc, length-append, add_assoc))

-- ---- the laws of `Wrote`

pub wrote_none : (m : ℕ) (d : List ℕ) (at : ℕ) → Wrote m [] d d at at
wrote_none m d at = record { buffer = sym (overlay_none d at); place = omega arith; short = omega arith }

pub wrote_byte : (d : List ℕ) (at b : ℕ) → at < length d → Wrote 1 (b ∷ []) d (set d at b) at (at + 1)
unfolding overlay
wrote_byte d at b h = record {
  buffer = set_split d at b h ∙ simp (append_assoc, add-one);
  place = omega arith;
  short = omega arith;
}

pub wrote_length : (m : ℕ) (t d e : List ℕ) (at p : ℕ) → at + length t ≤ length d → Wrote m t d e at p → length e ≡ length d
wrote_length m t d e at p fits w = rw w.buffer (overlay_length d at t fits)

pub wrote_more : (m₁ m₂ : ℕ) (t u d e f : List ℕ) (at p q : ℕ) → at + length t ≤ length d → Wrote m₁ t d e at p → Wrote m₂ u e f p q
    → Wrote (m₁ + m₂) (t ++ u) d f at q
wrote_more m₁ m₂ t u d e f at p q fits v w = record {
  buffer = w.buffer ∙ rw (v.buffer, v.place) (overlay_more d at t fits u);
  place = rw length-append (omega arith);
  short = rw length-append (omega arith);
}

-- a greater bound
pub wrote_within : (m k : ℕ) (t d e : List ℕ) (at p : ℕ) → m ≤ k → Wrote m t d e at p → Wrote k t d e at p
wrote_within m k t d e at p h w = record { buffer = w.buffer; place = w.place; short = omega arith }

-- ---- a text that is written piece by piece, by a loop that knows what it still owes

-- what is owed now, written to the buffer as it is now, gives the same as all of the text, written to the buffer as it was
pub record Owing (all first : List ℕ) (start : ℕ) (owed out : List ℕ) (end : ℕ) : Type 0 where
  pub same : length out ≡ length first
  pub buffer : overlay out end owed ≡ overlay first start all
  pub total : end + length owed ≡ start + length all

pub owing_start : (all first : List ℕ) (start : ℕ) (owed : List ℕ) → owed ≡ all → Owing all first start owed first start
owing_start all first start owed e = record {
  same = refl;
  buffer = ap (overlay first start) e;
  total = ap (λ (t : List ℕ). start + length t) e;
}

module _ (all first : List ℕ) (start : ℕ) (owed out : List ℕ) (end : ℕ) (now : Owing all first start owed out end) where
  -- a first part of it is written
  pub owing_next : (m : ℕ) (t u after : List ℕ) (next : ℕ) → owed ≡ t ++ u → end + length t ≤ length out → Wrote m t out after end next
      → Owing all first start u after next
  owing_next m t u after next e fits w = record {
    same = wrote_length m t out after end next fits w ∙ now.same;
    buffer = rw (w.buffer, w.place) (overlay_more out end t fits u) ∙ ap (overlay out end) (sym e) ∙ now.buffer;
    total = omega (arith, w.place, now.total, ap length e ∙ length-append t u);
  }

  -- all of it is written
  pub owing_last : (m k : ℕ) (t after : List ℕ) (next : ℕ) → owed ≡ t → Wrote m t out after end next → length all ≤ k → Wrote k all first after start next
  owing_last m k t after next e w l = record {
    buffer = w.buffer ∙ ap (overlay out end) (sym e) ∙ now.buffer;
    place = omega (arith, w.place, now.total, ap length e);
    short = l;
  }

  -- nothing is owed
  pub owing_done : (k : ℕ) → owed ≡ [] → length all ≤ k → Wrote k all first out start end
  owing_done k e l = owing_last 0 k [] out end e (wrote_none 0 out end) l
