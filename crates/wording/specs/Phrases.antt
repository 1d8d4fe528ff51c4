-- The phrases of an explanation, as bytes (docs/EXPLANATIONS.md). Definitions only. Assumes nothing.
use Rattle.std.specs.Prelude.{ℕ, List, [], ◌∷◌}

-- ---- how many jobs wait

-- 'Waiting jobs: '
abbrev pub waiting_jobs : List ℕ
waiting_jobs = 87 ∷ 97 ∷ 105 ∷ 116 ∷ 105 ∷ 110 ∷ 103 ∷ 32 ∷ 106 ∷ 111 ∷ 98 ∷ 115 ∷ 58 ∷ 32 ∷ []

-- '.⏎'
abbrev pub stop : List ℕ
stop = 46 ∷ 10 ∷ []

-- ---- a waiting job

-- 'Row '
abbrev pub row : List ℕ
row = 82 ∷ 111 ∷ 119 ∷ 32 ∷ []

-- ', due at '
abbrev pub due_at : List ℕ
due_at = 44 ∷ 32 ∷ 100 ∷ 117 ∷ 101 ∷ 32 ∷ 97 ∷ 116 ∷ 32 ∷ []

-- ', budget '
abbrev pub budget : List ℕ
budget = 44 ∷ 32 ∷ 98 ∷ 117 ∷ 100 ∷ 103 ∷ 101 ∷ 116 ∷ 32 ∷ []

-- ---- after a budget of 0

-- ' (holds later jobs back)'
abbrev pub holds : List ℕ
holds = 32 ∷ 40 ∷ 104 ∷ 111 ∷ 108 ∷ 100 ∷ 115 ∷ 32 ∷ 108 ∷ 97 ∷ 116 ∷ 101 ∷ 114 ∷ 32 ∷ 106 ∷ 111 ∷ 98 ∷ 115 ∷ 32 ∷ 98 ∷ 97 ∷ 99 ∷ 107 ∷ 41 ∷ []

-- ---- whether it was a candidate

-- ': candidate.⏎'
abbrev pub candidate : List ℕ
candidate = 58 ∷ 32 ∷ 99 ∷ 97 ∷ 110 ∷ 100 ∷ 105 ∷ 100 ∷ 97 ∷ 116 ∷ 101 ∷ 46 ∷ 10 ∷ []

-- ': not a candidate.⏎'
abbrev pub not_candidate : List ℕ
not_candidate = 58 ∷ 32 ∷ 110 ∷ 111 ∷ 116 ∷ 32 ∷ 97 ∷ 32 ∷ 99 ∷ 97 ∷ 110 ∷ 100 ∷ 105 ∷ 100 ∷ 97 ∷ 116 ∷ 101 ∷ 46 ∷ 10 ∷ []

-- ---- in a mixed session

-- 'Brittle deadline '
abbrev pub brittle_from : List ℕ
brittle_from = 66 ∷ 114 ∷ 105 ∷ 116 ∷ 116 ∷ 108 ∷ 101 ∷ 32 ∷ 100 ∷ 101 ∷ 97 ∷ 100 ∷ 108 ∷ 105 ∷ 110 ∷ 101 ∷ 32 ∷ []

-- ': of the candidates only the first may be due later.⏎'
abbrev pub brittle_to : List ℕ
brittle_to = 58 ∷ 32 ∷ 111 ∷ 102 ∷ 32 ∷ 116 ∷ 104 ∷ 101 ∷ 32 ∷ 99 ∷ 97 ∷ 110 ∷ 100 ∷ 105 ∷ 100 ∷ 97 ∷ 116 ∷ 101 ∷ 115 ∷ 32 ∷ 111 ∷ 110 ∷ 108 ∷ 121 ∷ 32 ∷ 116 ∷ 104 ∷ 101 ∷ 32 ∷ 102 ∷ 105 ∷ 114 ∷ 115 ∷ 116 ∷ 32 ∷ 109 ∷ 97 ∷ 121 ∷ 32 ∷ 98 ∷ 101 ∷ 32 ∷ 100 ∷ 117 ∷ 101 ∷ 32 ∷ 108 ∷ 97 ∷ 116 ∷ 101 ∷ 114 ∷ 46 ∷ 10 ∷ []

-- ---- what is chosen

-- 'Chosen: row '
abbrev pub chosen_row : List ℕ
chosen_row = 67 ∷ 104 ∷ 111 ∷ 115 ∷ 101 ∷ 110 ∷ 58 ∷ 32 ∷ 114 ∷ 111 ∷ 119 ∷ 32 ∷ []

-- 'Chosen: idle'
abbrev pub chosen_idle : List ℕ
chosen_idle = 67 ∷ 104 ∷ 111 ∷ 115 ∷ 101 ∷ 110 ∷ 58 ∷ 32 ∷ 105 ∷ 100 ∷ 108 ∷ 101 ∷ []

-- ', by word '
abbrev pub by_word : List ℕ
by_word = 44 ∷ 32 ∷ 98 ∷ 121 ∷ 32 ∷ 119 ∷ 111 ∷ 114 ∷ 100 ∷ 32 ∷ []

-- ', no word decided.⏎'
abbrev pub no_word : List ℕ
no_word = 44 ∷ 32 ∷ 110 ∷ 111 ∷ 32 ∷ 119 ∷ 111 ∷ 114 ∷ 100 ∷ 32 ∷ 100 ∷ 101 ∷ 99 ∷ 105 ∷ 100 ∷ 101 ∷ 100 ∷ 46 ∷ 10 ∷ []

-- ---- the span, and what set it

-- 'Span '
abbrev pub span : List ℕ
span = 83 ∷ 112 ∷ 97 ∷ 110 ∷ 32 ∷ []

-- ': its remaining ticks.⏎'
abbrev pub by_remaining : List ℕ
by_remaining = 58 ∷ 32 ∷ 105 ∷ 116 ∷ 115 ∷ 32 ∷ 114 ∷ 101 ∷ 109 ∷ 97 ∷ 105 ∷ 110 ∷ 105 ∷ 110 ∷ 103 ∷ 32 ∷ 116 ∷ 105 ∷ 99 ∷ 107 ∷ 115 ∷ 46 ∷ 10 ∷ []

-- ': set by a word.⏎'
abbrev pub by_span_word : List ℕ
by_span_word = 58 ∷ 32 ∷ 115 ∷ 101 ∷ 116 ∷ 32 ∷ 98 ∷ 121 ∷ 32 ∷ 97 ∷ 32 ∷ 119 ∷ 111 ∷ 114 ∷ 100 ∷ 46 ∷ 10 ∷ []

-- ': the most allowed, for lack of a word.⏎'
abbrev pub by_lack : List ℕ
by_lack = 58 ∷ 32 ∷ 116 ∷ 104 ∷ 101 ∷ 32 ∷ 109 ∷ 111 ∷ 115 ∷ 116 ∷ 32 ∷ 97 ∷ 108 ∷ 108 ∷ 111 ∷ 119 ∷ 101 ∷ 100 ∷ 44 ∷ 32 ∷ 102 ∷ 111 ∷ 114 ∷ 32 ∷ 108 ∷ 97 ∷ 99 ∷ 107 ∷ 32 ∷ 111 ∷ 102 ∷ 32 ∷ 97 ∷ 32 ∷ 119 ∷ 111 ∷ 114 ∷ 100 ∷ 46 ∷ 10 ∷ []

-- ': nothing waits.⏎'
abbrev pub by_nothing : List ℕ
by_nothing = 58 ∷ 32 ∷ 110 ∷ 111 ∷ 116 ∷ 104 ∷ 105 ∷ 110 ∷ 103 ∷ 32 ∷ 119 ∷ 97 ∷ 105 ∷ 116 ∷ 115 ∷ 46 ∷ 10 ∷ []
