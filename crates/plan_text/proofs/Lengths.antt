-- How long the listing of a laid-out plan, or a refusal, is at most. Assumes nothing.
use mathlib.Core.Path.{◌≡◌, ap, ◌∙◌}
use mathlib.Core.Bool.{true}
use mathlib.Core.List.{List, [], ◌∷◌}
use Prim.Native.Nat.{ℕ, zero, suc, ◌+◌, ◌*◌, ◌<◌, ◌≤◌}
use native.Mathlib.Omega.{arith}
use lib.ListN.{length, get_or, length-append}
use Rattle.base.specs.Lists.{join_to}
use Rattle.weighted_arrays.specs.Plan.{array_at}
use Rattle.form.specs.Form.{laid_out, decode}
use Rattle.form.specs.Clauses.{Laid}
use Rattle.form.proofs.Layouts.{laid}
use Rattle.reading.proofs.Readings.{decode_arrays, decode_few, counts_length, weight_small, counts_small}
use Rattle.printing.specs.Lines.{decimal, spaced, line, refused}
use Rattle.printing.specs.Clauses.{Room}
use Rattle.printing.proofs.Decimals.{decimal_length, decimal_most}
use Rattle.plan_text.specs.Text.{line_numbers, listing, max_listing}
use Rattle.plan_text.specs.Clauses.{plan_line}
use Rattle.plan_text.proofs.Lines.{array_line_lem, listing_whole}

-- a line of numbers that after the first have at most five digits
spaced_length : (x : ℕ) (l : List ℕ) → ((i : ℕ) → get_or l i 0 < 100000) → length (spaced (x ∷ l)) ≤ length (decimal x) + 6 * length l
unfolding spaced
spaced_length x [] h = omega arith
spaced_length x (y ∷ l) h =
    omega (arith, length-append (decimal x) (32 ∷ spaced (y ∷ l)), spaced_length y l (λ i. h (suc i)), decimal_length 4 y (h 0))

module _ (b : List ℕ) (l : laid_out b ≡ true) where
  within : Laid b
  within = laid b l

  abbrev line_of : ℕ → List ℕ
  line_of k = line (plan_line (decode b) k)

  module _ (bytes : (k : ℕ) → get_or b k 0 < 256) where
    head_length : length (line_of 0) ≤ 16
    unfolding line spaced line_numbers decode
    head_length = simp length-append
        (omega (
          arith,
          decimal_length 1 (decode b).rows (omega (arith, within.sizes.rows)),
          decimal_length 1 (decode b).columns (omega (arith, within.sizes.columns)),
          decimal_length 4 (decode b).denominator (omega (arith, within.denominator)),
          decimal_length 2 (length (decode b).arrays) (omega (arith, decode_arrays b, within.sizes.arrays)),
        ))

    array_length : (k : ℕ) → k < length (decode b).arrays → length (line_of (suc k)) ≤ 875
    unfolding line
    array_length k h =
        let a = array_at (decode b).arrays k in
        let numbers = spaced_length a.weight a.counts (λ i. omega (arith, counts_small b bytes k i h)) in
        let is : length (line_of (suc k)) ≡ length (spaced (a.weight ∷ a.counts)) + 1 =
        ap (λ (n : List ℕ). length (line n)) (array_line_lem (decode b) k h) ∙ length-append (spaced (a.weight ∷ a.counts)) (10 ∷ []) in
        omega (arith, is, numbers, counts_length b k h, decode_few b l, decimal_length 9 a.weight (omega (arith, weight_small b bytes k h)))

    lines_length : (k : ℕ) → k ≤ length (decode b).arrays → length (join_to (suc k) line_of) ≤ 16 + 875 * k
    unfolding join_to
    lines_length zero h = omega (arith, head_length)
    lines_length (suc k) h = omega (arith, lines_length k (omega arith), length-append (join_to (suc k) line_of) (line_of (suc k)), array_length k h)

    pub listing_length : length (listing (decode b)) ≤ max_listing
    listing_length = omega (arith, ap length (listing_whole (decode b)), lines_length (length (decode b).arrays) (omega arith), decode_arrays b, within.sizes.arrays)

    pub listing_room : (out : List ℕ) (at : ℕ) → at + max_listing ≤ length out → Room out at (listing (decode b))
    listing_room out at h = record { fits = omega (arith, listing_length) }

-- a refusal fits where any listing does
pub refusal_room : (n : ℕ) {out : List ℕ} → max_listing ≤ length out → Room out 0 (refused n)
unfolding refused line spaced
refusal_room n h = record { fits = omega (arith, length-append (decimal n) (10 ∷ []), decimal_most n) }
