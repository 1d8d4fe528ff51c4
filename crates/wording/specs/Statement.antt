-- What is guaranteed of the text of an explanation (docs/EXPLANATIONS.md). Definitions only. Assumes nothing.
use Rattle.std.specs.Prelude.{◌≤◌, length}
use Rattle.wording.specs.Explanation.{Explanation, Fits}
use Rattle.wording.specs.Text.{text_of}

-- THE TEXT IS SHORT: 16 jobs at most, with numbers of 64 bits, take no more than 1,951 bytes
abbrev pub TextShort : Type 0
TextShort = (e : Explanation) → Fits e → length (text_of e) ≤ 1951
