-- Literal cases of the calls that tell a plan's sizes, cells and arrays; the plan's bytes are typed out. Assumes nothing.
use Rattle.std.specs.Prelude.{List, [], ◌∷◌, ℕ, length, replicate}
use Rattle.base.specs.Buffers.{written}
use Rattle.refusals.specs.Answer.{answer_number}
use Rattle.refusals.specs.Due.{answer_of, after}
use Rattle.weighted_arrays.specs.Plan.{cell_count}
use Rattle.form.specs.Form.{decode}
use Rattle.form.specs.Examples.{wide, largest}
use Rattle.opening.specs.Examples.{longer, heavy}
use Rattle.plan_parts.specs.Sizes.{size_numbers}
use Rattle.opening.specs.Open.{part_refusal}
use Rattle.plan_parts.specs.Array.{Buffers, buffers, array_refusal, array_into}

-- a plan and a buffer; the number that the call returns, and the buffer as it leaves it
pub record Case : Type 0 where
  pub plan : List ℕ
  pub buffer : List ℕ
  pub number : ℕ
  pub result : List ℕ

abbrev pub tells : List ℕ → List ℕ → List ℕ → Case
tells b buffer result = record { plan = b; buffer = buffer; number = 0; result = result }

abbrev pub refuses : List ℕ → List ℕ → ℕ → Case
refuses b buffer n = record { plan = b; buffer = buffer; number = n; result = buffer }

abbrev pub said : Case → List ℕ
said x = x.number ∷ x.result

abbrev pub told_sizes : Case → List ℕ
told_sizes x =
    let o = part_refusal x.plan 4 (length x.buffer) in
    answer_number (answer_of o) ∷ after o (written (size_numbers x.plan) x.buffer) x.buffer

abbrev pub size_cases : List Case
size_cases =
    tells wide (8 ∷ 8 ∷ 8 ∷ 8 ∷ []) (2 ∷ 3 ∷ 7 ∷ 1000 ∷ [])
    ∷ tells wide (8 ∷ 8 ∷ 8 ∷ 8 ∷ 9 ∷ []) (2 ∷ 3 ∷ 7 ∷ 1000 ∷ 9 ∷ [])
    ∷ tells wide (replicate 256 8) (2 ∷ 3 ∷ 7 ∷ 1000 ∷ replicate 252 8)
    ∷ tells largest (8 ∷ 8 ∷ 8 ∷ 8 ∷ []) (1 ∷ 1 ∷ 1 ∷ 65535 ∷ [])
    ∷ refuses wide (8 ∷ 8 ∷ 8 ∷ []) 7
    ∷ refuses longer (8 ∷ 8 ∷ 8 ∷ 8 ∷ []) 5
    ∷ refuses heavy (8 ∷ 8 ∷ 8 ∷ 8 ∷ []) 6
    -- with 7
    ∷ refuses longer [] 5
    ∷ refuses heavy (8 ∷ 8 ∷ 8 ∷ []) 6
    ∷ []

abbrev pub told_cells : Case → List ℕ
told_cells x =
    let o = part_refusal x.plan (cell_count (decode x.plan)) (length x.buffer) in
    answer_number (answer_of o) ∷ after o (written (decode x.plan).cells x.buffer) x.buffer

abbrev pub cell_cases : List Case
cell_cases =
    tells wide (8 ∷ 8 ∷ 8 ∷ 8 ∷ 8 ∷ 8 ∷ []) (300400 ∷ 70 ∷ 65936 ∷ 1500 ∷ 260 ∷ 999 ∷ [])
    ∷ tells wide (8 ∷ 8 ∷ 8 ∷ 8 ∷ 8 ∷ 8 ∷ 9 ∷ []) (300400 ∷ 70 ∷ 65936 ∷ 1500 ∷ 260 ∷ 999 ∷ 9 ∷ [])
    ∷ tells wide (replicate 256 8) (300400 ∷ 70 ∷ 65936 ∷ 1500 ∷ 260 ∷ 999 ∷ replicate 250 8)
    ∷ tells largest (8 ∷ []) (65535000 ∷ [])
    ∷ refuses wide (8 ∷ 8 ∷ 8 ∷ 8 ∷ 8 ∷ []) 7
    ∷ refuses longer (8 ∷ 8 ∷ 8 ∷ 8 ∷ 8 ∷ 8 ∷ []) 5
    ∷ refuses heavy (8 ∷ 8 ∷ 8 ∷ 8 ∷ 8 ∷ 8 ∷ []) 6
    -- with 7
    ∷ refuses longer [] 5
    ∷ refuses heavy (8 ∷ 8 ∷ 8 ∷ 8 ∷ 8 ∷ []) 6
    ∷ []

-- a plan, an array number and the two buffers, for the weight and for the counts; the number that the call returns, and the buffers as it leaves them
pub record ArrayCase : Type 0 where
  pub plan : List ℕ
  pub array : ℕ
  pub given : Buffers
  pub number : ℕ
  pub left : Buffers

abbrev pub tells_array : List ℕ → ℕ → Buffers → Buffers → ArrayCase
tells_array b k given left = record { plan = b; array = k; given = given; number = 0; left = left }

abbrev pub refuses_array : List ℕ → ℕ → Buffers → ℕ → ArrayCase
refuses_array b k given n = record { plan = b; array = k; given = given; number = n; left = given }

abbrev pub told_array : ArrayCase → ℕ × Buffers
told_array x =
    let o = array_refusal x.plan x.array (length x.given.weights) (length x.given.counts) in
    (answer_number (answer_of o), after o (array_into x.plan x.array x.given) x.given)

abbrev pub said_array : ArrayCase → ℕ × Buffers
said_array x = (x.number, x.left)

-- buffers of just the needed lengths
abbrev pub enough : Buffers
enough = buffers (8 ∷ []) (8 ∷ 8 ∷ 8 ∷ 8 ∷ 8 ∷ 8 ∷ [])

abbrev pub array_cases : List ArrayCase
array_cases =
    tells_array wide 1 enough (buffers (100 ∷ []) (300 ∷ 0 ∷ 66 ∷ 1 ∷ 1 ∷ 1 ∷ []))
    ∷ tells_array wide 2 enough (buffers (494 ∷ []) (300 ∷ 0 ∷ 66 ∷ 2 ∷ 0 ∷ 1 ∷ []))
    -- the last one, with longer buffers, whose rest stays
    ∷ tells_array wide 7 (buffers (8 ∷ 9 ∷ []) (8 ∷ 8 ∷ 8 ∷ 8 ∷ 8 ∷ 8 ∷ 9 ∷ [])) (buffers (64 ∷ 9 ∷ []) (301 ∷ 1 ∷ 65 ∷ 1 ∷ 0 ∷ 1 ∷ 9 ∷ []))
    ∷ tells_array wide 2 (buffers (replicate 256 8) (replicate 256 8)) (buffers (494 ∷ replicate 255 8) (300 ∷ 0 ∷ 66 ∷ 2 ∷ 0 ∷ 1 ∷ replicate 250 8))
    ∷ tells_array largest 1 (buffers (8 ∷ []) (8 ∷ [])) (buffers (65535 ∷ []) (1000 ∷ []))
    -- no array 0, none above the last, and none of which only the low part is a number of an array
    ∷ refuses_array wide 0 enough 14
    ∷ refuses_array wide 8 enough 14
    ∷ refuses_array wide 257 enough 14
    ∷ refuses_array wide 65537 enough 14
    ∷ refuses_array wide 16777217 enough 14
    ∷ refuses_array wide 2147483649 enough 14
    ∷ refuses_array wide 4294967295 enough 14
    -- no room for the weight, or for the counts
    ∷ refuses_array wide 1 (buffers [] (8 ∷ 8 ∷ 8 ∷ 8 ∷ 8 ∷ 8 ∷ [])) 7
    ∷ refuses_array wide 1 (buffers (8 ∷ []) (8 ∷ 8 ∷ 8 ∷ 8 ∷ 8 ∷ [])) 7
    ∷ refuses_array longer 1 enough 5
    ∷ refuses_array heavy 1 enough 6
    -- 14 with 7; 5 and 6 with both
    ∷ refuses_array wide 8 (buffers [] []) 14
    ∷ refuses_array longer 0 (buffers [] []) 5
    ∷ refuses_array heavy 0 (buffers [] []) 6
    ∷ []
