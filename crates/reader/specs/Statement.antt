-- What is promised of reading a text (docs/EXPLANATIONS.md). Definitions only. Assumes nothing.
use Rattle.std.specs.Prelude.{ℕ, ◌≡◌, List, Some, None}
use Rattle.wording.specs.declared.Parts.{Parts}
use Rattle.wording.specs.Explanation.{Explanation, Fits, parts_of}
use Rattle.wording.specs.Text.{text_of}
use Rattle.reader.specs.Reading.{reading_of}

-- WHAT WAS WRITTEN IS READ BACK: the text of each explanation that fits gives its parts
abbrev pub ReadBack : Type 0
ReadBack = (e : Explanation) → Fits e → reading_of (text_of e) ≡ Some (parts_of e)

-- NO TWO EXPLANATIONS HAVE THE SAME TEXT, whatever their numbers and however many jobs
abbrev pub SameText : Type 0
SameText = (e f : Explanation) → text_of e ≡ text_of f → e ≡ f

-- l is the text of an explanation that fits, and p are its parts
pub record TextRead (l : List ℕ) (p : Parts) : Type 0 where
  pub explanation : Explanation
  pub fits : Fits explanation
  pub parts : p ≡ parts_of explanation
  pub text : l ≡ text_of explanation

-- NOTHING ELSE IS READ: bytes from which parts are given are the text of the explanation with these parts
abbrev pub ReadsExactly : Type 0
ReadsExactly = (l : List ℕ) (p : Parts) → reading_of l ≡ Some p → TextRead l p

-- WHAT IS NOT READ IS NO TEXT of an explanation that fits
abbrev pub NoText : Type 0
NoText = (l : List ℕ) → reading_of l ≡ None → (e : Explanation) → Fits e → text_of e ≡ l → ⊥
