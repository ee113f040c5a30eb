-- What the variance program prints of stored plans that it reads one after another (specification, "The variance program"). Assumes nothing.
use Rattle.std.specs.Prelude.{Bool, true, false, cond, ◌&&◌, List, [], ◌∷◌, ◌++◌, ℕ, zero, suc, ℤ, pos, negsuc, length, take, drop, leb}
use Rattle.refusals.specs.Numbers.{number_of}
use Rattle.refusals.specs.Due.{refused_or}
use Rattle.form.specs.Form.{length_of, start_right, decode}
use Rattle.opening.specs.Open.{open_refusal}
use Rattle.variances.specs.Variance.{numerators}
use Rattle.printing.specs.Lines.{decimal, refused}

-- a number in base ten; before one below zero stands byte 45, a minus sign
unfoldable pub signed : ℤ → List ℕ
signed (pos n) = decimal n
signed (negsuc n) = 45 ∷ decimal (suc n)

-- the rest of a plan's line, after its number: each numerator with a space before it, and byte 10 at the end
unfoldable pub rest_of_line : List ℤ → List ℕ
rest_of_line [] = 10 ∷ []
rest_of_line (z ∷ l) = 32 ∷ (signed z ++ rest_of_line l)

-- what is printed of the bytes of plan number n: a line, or their refusal
unfoldable pub plan_text : ℕ → List ℕ → List ℕ
plan_text n b = refused_or (λ x. refused (number_of x)) (decimal n ++ rest_of_line (numerators (decode b))) (open_refusal b)

-- the run goes on after bytes that open, and ends with others
unfoldable pub goes_on : List ℕ → Bool
goes_on b = refused_or (λ _. false) true (open_refusal b)

-- what is printed of plans that stand one after another, the first of them being number n
unfoldable pub printed_from : ℕ → List (List ℕ) → List ℕ
printed_from n [] = []
printed_from n (b ∷ l) = plan_text n b ++ cond (goes_on b) (printed_from (suc n) l) []

-- how many bytes belong to a plan that begins with these, the first eight or all that are left: as many as they say, if form, zero field and sizes are
-- right, else no more than eight
unfoldable pub to_read : List ℕ → ℕ
to_read b = cond (leb 8 (length b) && start_right b) (length_of b) 8

-- the plans of an input, at most n of them; the last may be cut short
unfoldable pub plans_to : ℕ → List ℕ → List (List ℕ)
plans_to zero s = []
plans_to (suc n) [] = []
plans_to (suc n) (x ∷ s) =
    let k = to_read (take 8 (x ∷ s)) in
    take k (x ∷ s) ∷ plans_to n (drop k (x ∷ s))

-- all of them: an input has no more plans than bytes
abbrev pub plans_of : List ℕ → List (List ℕ)
plans_of s = plans_to (length s) s

-- plans put one after another
unfoldable pub joined : List (List ℕ) → List ℕ
joined [] = []
joined (b ∷ l) = b ++ joined l

-- what the program prints of an input
unfoldable pub program_text : List ℕ → List ℕ
program_text s = printed_from 1 (plans_of s)
