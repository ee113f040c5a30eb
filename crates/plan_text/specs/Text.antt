-- What the printing program prints of its input (specification, "The printing program"). Assumes nothing.
use Rattle.std.specs.Prelude.{List, [], ◌∷◌, ◌++◌, map, ℕ, length, get_or, drop, Option, Some, None}
use Rattle.refusals.specs.Numbers.{number_of}
use Rattle.refusals.specs.Due.{refused_or}
use Rattle.table.specs.Check.{table_refusal}
use Rattle.weighted_arrays.specs.Plan.{Plan}
use Rattle.planning.specs.Rounds.{plan_of}
use Rattle.printing.specs.Lines.{line, refused_word, refused}
use Rattle.parsing.specs.Text.{parse}

-- line after line
unfoldable pub printed_lines : List (List ℕ) → List ℕ
printed_lines [] = []
printed_lines (l ∷ ls) = line l ++ printed_lines ls

-- the numbers of each line: the sizes, and then for each array its weight and its counts
unfoldable pub line_numbers : Plan → List (List ℕ)
line_numbers p = (p.rows ∷ p.columns ∷ p.denominator ∷ length p.arrays ∷ []) ∷ map (λ a. a.weight ∷ a.counts) p.arrays

unfoldable pub listing : Plan → List ℕ
listing p = printed_lines (line_numbers p)

-- the longest listing of a laid-out plan: a first line of 16 bytes, and 170 lines of a weight of 10 digits and 144 counts of 5
abbrev pub max_listing : ℕ
max_listing = 148766

-- the two words
abbrev pub refused_text : List ℕ
refused_text = refused_word ++ (32 ∷ 116 ∷ 101 ∷ 120 ∷ 116 ∷ 10 ∷ [])

-- what is printed of a table: the listing of its plan, or its refusal
abbrev pub table_output : ℕ → ℕ → ℕ → List ℕ → List ℕ
table_output r c d g = refused_or (λ x. refused (number_of x)) (listing (plan_of r c d g)) (table_refusal r c d g)

-- the numbers are r, c, D and then the cells: what is printed of them
abbrev pub printed : Option (List ℕ) → List ℕ
printed None = refused_text
printed (Some n) = table_output (get_or n 0 0) (get_or n 1 0) (get_or n 2 0) (drop 3 n)

-- what the program prints of an input; `refused text` comes before any other refusal
unfoldable pub output : List ℕ → List ℕ
output s = printed (parse s)
