-- Literal cases of the call "variances" (specification, "Variances"); the plans' bytes and the numerators are typed out, and no definition of this project finds them. Assumes nothing.
use Rattle.std.specs.Prelude.{List, [], ◌∷◌, ◌++◌, ℕ, ℤ, pos, neg_ℤ, length, set, drop}
use Rattle.refusals.specs.Answer.{answer_number}
use Rattle.refusals.specs.Due.{answer_of, after}
use Rattle.form.specs.Form.{decode}
use Rattle.form.specs.Examples.{square, wide, recurring}
use Rattle.opening.specs.Examples.{three_ones, grand_varies, one_cell, zeros}
use Rattle.opening.specs.Open.{part_refusal}
use Rattle.variances.specs.Variance.{numerators}

-- the listing of the specification: two by two, D 10, cells 3 4 5 6
abbrev pub listed : List ℕ
listed =
    -- form, r, c, K, zero
    1 ∷ 0 ∷ 2 ∷ 2 ∷ 4 ∷ 0 ∷ 0 ∷ 0
    -- D and the offset of the table
    ∷ 10 ∷ 0 ∷ 0 ∷ 0 ∷ 48 ∷ 0 ∷ 0 ∷ 0
    -- weight and offset of each array
    ∷ 2 ∷ 0 ∷ 0 ∷ 0 ∷ 64 ∷ 0 ∷ 0 ∷ 0
    ∷ 1 ∷ 0 ∷ 0 ∷ 0 ∷ 72 ∷ 0 ∷ 0 ∷ 0
    ∷ 4 ∷ 0 ∷ 0 ∷ 0 ∷ 80 ∷ 0 ∷ 0 ∷ 0
    ∷ 3 ∷ 0 ∷ 0 ∷ 0 ∷ 88 ∷ 0 ∷ 0 ∷ 0
    -- the table
    ∷ 3 ∷ 0 ∷ 0 ∷ 0 ∷ 4 ∷ 0 ∷ 0 ∷ 0 ∷ 5 ∷ 0 ∷ 0 ∷ 0 ∷ 6 ∷ 0 ∷ 0 ∷ 0
    -- the arrays
    ∷ 0 ∷ 0 ∷ 0 ∷ 0 ∷ 0 ∷ 0 ∷ 1 ∷ 0
    ∷ 0 ∷ 0 ∷ 0 ∷ 0 ∷ 1 ∷ 0 ∷ 1 ∷ 0
    ∷ 0 ∷ 0 ∷ 1 ∷ 0 ∷ 1 ∷ 0 ∷ 0 ∷ 0
    ∷ 1 ∷ 0 ∷ 0 ∷ 0 ∷ 0 ∷ 0 ∷ 1 ∷ 0 ∷ []

-- one row, D 4, cells 4 6
abbrev pub one_row : List ℕ
one_row =
    1 ∷ 0 ∷ 1 ∷ 2 ∷ 2 ∷ 0 ∷ 0 ∷ 0
    ∷ 4 ∷ 0 ∷ 0 ∷ 0 ∷ 32 ∷ 0 ∷ 0 ∷ 0
    ∷ 2 ∷ 0 ∷ 0 ∷ 0 ∷ 40 ∷ 0 ∷ 0 ∷ 0
    ∷ 2 ∷ 0 ∷ 0 ∷ 0 ∷ 44 ∷ 0 ∷ 0 ∷ 0
    ∷ 4 ∷ 0 ∷ 0 ∷ 0 ∷ 6 ∷ 0 ∷ 0 ∷ 0
    ∷ 1 ∷ 0 ∷ 1 ∷ 0
    ∷ 1 ∷ 0 ∷ 2 ∷ 0 ∷ []

-- one row, D 10, cells 3 4: the arrays 0 0, 0 1 and 1 0
abbrev pub never_both : List ℕ
never_both =
    1 ∷ 0 ∷ 1 ∷ 2 ∷ 3 ∷ 0 ∷ 0 ∷ 0
    ∷ 10 ∷ 0 ∷ 0 ∷ 0 ∷ 40 ∷ 0 ∷ 0 ∷ 0
    ∷ 3 ∷ 0 ∷ 0 ∷ 0 ∷ 48 ∷ 0 ∷ 0 ∷ 0
    ∷ 4 ∷ 0 ∷ 0 ∷ 0 ∷ 52 ∷ 0 ∷ 0 ∷ 0
    ∷ 3 ∷ 0 ∷ 0 ∷ 0 ∷ 56 ∷ 0 ∷ 0 ∷ 0
    ∷ 3 ∷ 0 ∷ 0 ∷ 0 ∷ 4 ∷ 0 ∷ 0 ∷ 0
    ∷ 0 ∷ 0 ∷ 0 ∷ 0
    ∷ 0 ∷ 0 ∷ 1 ∷ 0
    ∷ 1 ∷ 0 ∷ 0 ∷ 0 ∷ []

-- one row, D 65,535, cells 65,502,232 and 65,502,233, with remainders 32,767 and 32,768: the arrays 999 1000 and 1000 999
abbrev pub largest_counts : List ℕ
largest_counts =
    1 ∷ 0 ∷ 1 ∷ 2 ∷ 2 ∷ 0 ∷ 0 ∷ 0
    ∷ 255 ∷ 255 ∷ 0 ∷ 0 ∷ 32 ∷ 0 ∷ 0 ∷ 0
    ∷ 0 ∷ 128 ∷ 0 ∷ 0 ∷ 40 ∷ 0 ∷ 0 ∷ 0
    ∷ 255 ∷ 127 ∷ 0 ∷ 0 ∷ 44 ∷ 0 ∷ 0 ∷ 0
    ∷ 24 ∷ 124 ∷ 231 ∷ 3 ∷ 25 ∷ 124 ∷ 231 ∷ 3
    ∷ 231 ∷ 3 ∷ 232 ∷ 3
    ∷ 232 ∷ 3 ∷ 231 ∷ 3 ∷ []

-- the listing's plan with a byte more: 5; and with a weight one too large: 6
abbrev pub longer : List ℕ
longer = listed ++ (0 ∷ [])

abbrev pub heavy : List ℕ
heavy = set listed 16 3

-- a plan and a buffer; the number that the call returns, and the buffer as it leaves it
pub record Case : Type 0 where
  pub plan : List ℕ
  pub buffer : List ℤ
  pub number : ℕ
  pub result : List ℤ

abbrev pub tells : List ℕ → List ℤ → List ℤ → Case
tells b buffer result = record { plan = b; buffer = buffer; number = 0; result = result }

abbrev pub refuses : List ℕ → List ℤ → ℕ → Case
refuses b buffer n = record { plan = b; buffer = buffer; number = n; result = buffer }

abbrev pub said : Case → List ℤ
said x = pos x.number ∷ x.result

abbrev pub told : Case → List ℤ
told x =
    let o = part_refusal x.plan 3 (length x.buffer) in
    pos (answer_number (answer_of o)) ∷ after o (numerators (decode x.plan) ++ drop 3 x.buffer) x.buffer

abbrev pub minus : ℕ → ℤ
minus n = neg_ℤ (pos n)

abbrev pub eights : List ℤ
eights = pos 8 ∷ pos 8 ∷ pos 8 ∷ []

abbrev pub cases : List Case
cases =
    -- 3·7 + 4·6 + 5·5 + 6·4; the second cell and the fourth, 10·0 - 4·6; the second and the third, 10·4·1·1 - 4·5
    tells listed eights (pos 94 ∷ minus 24 ∷ pos 20 ∷ [])
    -- four times 1·1; cells of a row or a column 2·0 - 1·1, of a diagonal 2·1 - 1·1
    ∷ tells square eights (pos 4 ∷ minus 1 ∷ pos 1 ∷ [])
    -- counts above 1: the first cell and the fourth, and the first and the fifth
    ∷ tells wide eights (pos 808403 ∷ minus 200000 ∷ pos 56000 ∷ [])
    -- equal arrays recur
    ∷ tells recurring eights (pos 808403 ∷ minus 200000 ∷ pos 56000 ∷ [])
    -- a grand total that is not whole
    ∷ tells grand_varies eights (pos 3 ∷ minus 1 ∷ pos 1 ∷ [])
    -- one cell: there are no two, whatever its variance
    ∷ tells (one_cell 1 1 1 1) eights (pos 0 ∷ pos 0 ∷ pos 0 ∷ [])
    ∷ tells three_ones eights (pos 2 ∷ pos 0 ∷ pos 0 ∷ [])
    -- a whole cell and another: 2·2, and 4·(2·1·1 + 2·1·2) - 4·6
    ∷ tells one_row eights (pos 4 ∷ pos 0 ∷ pos 0 ∷ [])
    -- the only covariance is negative, 10·0 - 3·4, and so is the largest
    ∷ tells never_both eights (pos 45 ∷ minus 12 ∷ minus 12 ∷ [])
    -- large counts: twice 32,767·32,768, and that much below 0
    ∷ tells largest_counts eights (pos 2147418112 ∷ minus 1073709056 ∷ minus 1073709056 ∷ [])
    -- zeros
    ∷ tells (zeros 12 1 72 72) eights (pos 0 ∷ pos 0 ∷ pos 0 ∷ [])
    -- what the buffer has beyond the three stays
    ∷ tells listed (pos 8 ∷ pos 8 ∷ pos 8 ∷ minus 9 ∷ []) (pos 94 ∷ minus 24 ∷ pos 20 ∷ minus 9 ∷ [])
    ∷ tells three_ones (pos 8 ∷ pos 8 ∷ pos 8 ∷ pos 9 ∷ minus 9 ∷ []) (pos 2 ∷ pos 0 ∷ pos 0 ∷ pos 9 ∷ minus 9 ∷ [])
    -- 7, 5 and 6 alone
    ∷ refuses listed (pos 8 ∷ pos 8 ∷ []) 7
    ∷ refuses listed [] 7
    ∷ refuses three_ones (pos 8 ∷ []) 7
    ∷ refuses longer eights 5
    ∷ refuses [] eights 5
    ∷ refuses heavy eights 6
    -- 5 and 7, 6 and 7, 5 and 6
    ∷ refuses longer [] 5
    ∷ refuses heavy (pos 8 ∷ pos 8 ∷ []) 6
    ∷ refuses (heavy ++ (0 ∷ [])) eights 5
    ∷ []
