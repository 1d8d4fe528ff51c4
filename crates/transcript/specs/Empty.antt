-- No output is empty, so a length of 0 says that the buffer was too short (docs/SPECIFICATION.md §8.5). Assumes nothing.
use Rattle.std.specs.Prelude.{ℕ, ◌≤◌, ◌<◌, ◌≡◌, List, length, take}
use Rattle.std.proofs.Common.{arith, length-append}
use Rattle.lines.specs.Lines.{lines_of}
use Rattle.lines.specs.Text.{line_length}
use Rattle.table.specs.Verdict.{Opinion, opinion_of}
use Rattle.report.specs.Text.{opinion_text}
use Rattle.transcript.specs.Transcript.{input_limit, row_limit, rows_in, printed_of, output_of, room_for, Transcribed}
use Rattle.report.specs.Whole.{too_short, printed}

pub first_line : (a : Opinion) → 1 ≤ length (opinion_text a)
unfolding opinion_text
first_line a = simp length-append (omega (arith, line_length 0 77 a.number a.first a.second))

pub never_empty : (input : List ℕ) → 1 ≤ length (output_of input)
unfolding output_of printed_of
never_empty input = simp length-append (omega (arith, first_line (opinion_of (rows_in row_limit (lines_of (take input_limit input))))))

pub zero_short : (input before after : List ℕ) (r : ℕ) → Transcribed input before after r → r ≡ 0 → length before < room_for (length input)
zero_short input before after r (too_short l e z) h = l
zero_short input before after r (printed l p) h = absurd (omega (arith, never_empty input, p.place, h))
