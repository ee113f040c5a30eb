-- Literal cases of draws (specification, "Stored plan, form 1" and "Refusals"); the plans' bytes are typed out. Assumes nothing.
use Rattle.std.specs.Prelude.{List, [], ◌∷◌, ◌++◌, ℕ, length, replicate}
use Rattle.base.specs.Buffers.{written}
use Rattle.refusals.specs.Answer.{answer_number}
use Rattle.refusals.specs.Due.{answer_of, after}
use Rattle.form.specs.Examples.{wide, recurring, largest}
use Rattle.opening.specs.Examples.{one_cell}
use Rattle.drawing.specs.Draw.{draw_refusal, drawn_array}

-- a draw: a plan, a number and a buffer; the number that it returns, and the buffer as it leaves it
pub record Draw : Type 0 where
  pub plan : List ℕ
  pub asked : ℕ
  pub buffer : List ℕ
  pub number : ℕ
  pub result : List ℕ

abbrev pub drawn : Draw → List ℕ
drawn x =
    let o = draw_refusal x.plan x.asked (length x.buffer) in
    answer_number (answer_of o) ∷ after o (written (drawn_array x.plan x.asked) x.buffer) x.buffer

abbrev pub said : Draw → List ℕ
said x = x.number ∷ x.result

abbrev pub draws : List ℕ → ℕ → List ℕ → List ℕ → Draw
draws b d buffer result = record { plan = b; asked = d; buffer = buffer; number = 0; result = result }

abbrev pub refuses : List ℕ → ℕ → List ℕ → ℕ → Draw
refuses b d buffer n = record { plan = b; asked = d; buffer = buffer; number = n; result = buffer }

abbrev pub six : List ℕ
six = 8 ∷ 8 ∷ 8 ∷ 8 ∷ 8 ∷ 8 ∷ []

abbrev pub five : List ℕ
five = 8 ∷ 8 ∷ 8 ∷ 8 ∷ 8 ∷ []

abbrev pub draw_cases : List Draw
draw_cases =
    -- the arrays begin at numbers 0, 100, 594, 595, 600, 776 and 936
    draws wide 0 six (300 ∷ 0 ∷ 66 ∷ 1 ∷ 1 ∷ 1 ∷ [])
    ∷ draws wide 99 six (300 ∷ 0 ∷ 66 ∷ 1 ∷ 1 ∷ 1 ∷ [])
    ∷ draws wide 100 six (300 ∷ 0 ∷ 66 ∷ 2 ∷ 0 ∷ 1 ∷ [])
    ∷ draws wide 593 six (300 ∷ 0 ∷ 66 ∷ 2 ∷ 0 ∷ 1 ∷ [])
    ∷ draws wide 594 six (300 ∷ 1 ∷ 66 ∷ 2 ∷ 0 ∷ 0 ∷ [])
    ∷ draws wide 595 six (300 ∷ 1 ∷ 66 ∷ 2 ∷ 0 ∷ 1 ∷ [])
    ∷ draws wide 600 six (301 ∷ 0 ∷ 66 ∷ 1 ∷ 0 ∷ 1 ∷ [])
    ∷ draws wide 776 six (301 ∷ 0 ∷ 66 ∷ 1 ∷ 1 ∷ 1 ∷ [])
    ∷ draws wide 936 six (301 ∷ 1 ∷ 65 ∷ 1 ∷ 0 ∷ 1 ∷ [])
    ∷ draws wide 999 six (301 ∷ 1 ∷ 65 ∷ 1 ∷ 0 ∷ 1 ∷ [])
    -- the second array has seven stretches of numbers
    ∷ draws recurring 100 six (300 ∷ 0 ∷ 66 ∷ 2 ∷ 0 ∷ 1 ∷ [])
    ∷ draws recurring 399 six (300 ∷ 0 ∷ 66 ∷ 2 ∷ 0 ∷ 1 ∷ [])
    ∷ draws recurring 400 six (300 ∷ 0 ∷ 66 ∷ 2 ∷ 0 ∷ 1 ∷ [])
    ∷ draws recurring 593 six (300 ∷ 0 ∷ 66 ∷ 2 ∷ 0 ∷ 1 ∷ [])
    ∷ draws recurring 594 six (300 ∷ 1 ∷ 66 ∷ 2 ∷ 0 ∷ 0 ∷ [])
    -- the last number of the largest denominator
    ∷ draws largest 65534 (8 ∷ []) (1000 ∷ [])
    -- what the buffer has beyond the array stays
    ∷ draws wide 0 (8 ∷ 8 ∷ 8 ∷ 8 ∷ 8 ∷ 8 ∷ 9 ∷ 7 ∷ []) (300 ∷ 0 ∷ 66 ∷ 1 ∷ 1 ∷ 1 ∷ 9 ∷ 7 ∷ [])
    ∷ draws wide 0 (replicate 256 8) (300 ∷ 0 ∷ 66 ∷ 1 ∷ 1 ∷ 1 ∷ replicate 250 8)
    -- 5, 6, 7 and 8 alone
    ∷ refuses (wide ++ (0 ∷ [])) 0 six 5
    ∷ refuses (one_cell 2 0 1 0) 0 six 6
    ∷ refuses wide 0 five 7
    ∷ refuses wide 1000 six 8
    -- 8: numbers of which only the low part is below D
    ∷ refuses wide 1024 six 8
    ∷ refuses wide 65536 six 8
    ∷ refuses wide 66130 six 8
    ∷ refuses wide 16777216 six 8
    ∷ refuses wide 2147483648 six 8
    ∷ refuses wide 4294967295 six 8
    ∷ refuses largest 65535 (8 ∷ []) 8
    ∷ refuses largest 65536 (8 ∷ []) 8
    ∷ refuses largest 4294967295 (8 ∷ []) 8
    -- two of them: 5 and 7, 5 and 8, 6 and 7, 6 and 8, 7 and 8
    ∷ refuses (wide ++ (0 ∷ [])) 0 five 5
    ∷ refuses (wide ++ (0 ∷ [])) 1000 six 5
    ∷ refuses (one_cell 2 0 1 0) 0 [] 6
    ∷ refuses (one_cell 2 0 1 0) 2 six 6
    ∷ refuses wide 1000 five 7
    ∷ []
