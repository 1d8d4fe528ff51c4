-- The table of a seed (docs/WORKLOAD.md). Definitions only. Assumes nothing.
use Rattle.std.specs.Prelude.{ℕ, zero, suc, ◌+◌, ◌*◌, ◌/◌, ◌%◌, ◌^◌, List, [], ◌∷◌, ◌++◌}
use Rattle.report.specs.Rows.{row_words}

-- digit k of the seed in octal, from the lowest, 0
unfoldable pub digit_of : ℕ → ℕ → ℕ
digit_of seed k = seed / 8 ^ k % 8

-- 5 to 12 rows
unfoldable pub row_count : ℕ → ℕ
row_count seed = 5 + digit_of seed 0

-- row i of n rows, by its digit: C, T, D
unfoldable pub row_by : ℕ → ℕ → ℕ → ℕ × ℕ × ℕ
row_by n i q = (3 + q % 2, 4 * (n + i) + q / 2 % 2 + 2 * (q / 4), 4 * (n + i) + q / 2 % 2)

unfoldable pub row_of : ℕ → ℕ → ℕ × ℕ × ℕ
row_of seed i = row_by (row_count seed) i (digit_of seed (i + 1))

-- the first k rows
unfoldable pub rows_to : ℕ → ℕ → List (ℕ × ℕ × ℕ)
rows_to seed zero = []
rows_to seed (suc k) = rows_to seed k ++ row_of seed k ∷ []

abbrev pub rows_of_seed : ℕ → List (ℕ × ℕ × ℕ)
rows_of_seed seed = rows_to seed (row_count seed)

-- the table as a slice of numbers
unfoldable pub table_of : ℕ → List ℕ
table_of seed = row_words (rows_of_seed seed)
