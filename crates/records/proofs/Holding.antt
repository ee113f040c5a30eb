-- What a record that fits is known to hold. Assumes nothing.
use mathlib.Core.Path.{◌≡◌, refl}
use mathlib.Core.Bool.{Bool, true, false, ◌&&◌, ◌||◌}
use Prim.Native.Nat.{ℕ, ◌+◌, ◌-◌, ◌*◌, ◌<◌, ◌≤◌}
use native.Mathlib.Omega.{arith}
use lib.ListN.{get_or}
use lib.Dec.{leb, ltb, eqb}
use borrow.Author.Tests.{leb-true, ltb-true, eqb-true}
use Rattle.base.specs.Lists.{sum_to}
use Rattle.base.proofs.Lists.{and_left, and_right, tabulate_all}
use Rattle.weighted_arrays.specs.Plan.{Plan, cell_count}
use Rattle.bits.specs.Bits.{bit_of, bit_bytes, spare_clear}
use Rattle.records.specs.Record.{CampaignRecord, max_rounds, taken_sum, within, fits}

-- the second of two tests passes where the first does not
other_passes : (a b : Bool) → (a || b) ≡ true → (a ≡ false) → b ≡ true
other_passes true b h e = cc
other_passes false b h e = h

module _ (p : Plan) (s : CampaignRecord) (f : fits p s ≡ true) where
  abbrev spare_right : Bool
  spare_right = spare_clear p.denominator s.bits

  abbrev count_right : Bool
  count_right = eqb s.taken (sum_to p.denominator (bit_of s.bits))

  abbrev stands : Bool
  stands = within p.denominator s.taken s.rounds

  -- spare bits, count and where the campaign stands
  first_three : (spare_right && count_right && stands) ≡ true
  unfolding fits
  first_three = and_left (spare_right && count_right && stands) _ f

  first_two : (spare_right && count_right) ≡ true
  first_two = and_left (spare_right && count_right) stands first_three

  pub fit_spare : (d : ℕ) → p.denominator ≤ d → d < 8 * bit_bytes p.denominator → bit_of s.bits d ≡ 0
  fit_spare d h l =
      let at : p.denominator + (d - p.denominator) ≡ d = omega arith in
      let zero : bit_of s.bits (p.denominator + (d - p.denominator)) ≡ 0 = eqb-true _ _ (tabulate_all (λ i. eqb (bit_of s.bits (p.denominator + i)) 0) (8 * bit_bytes p.denominator - p.denominator) (λ i. i)
      (and_left spare_right count_right first_two) (d - p.denominator) (omega arith)) in
      rw at at zero

  pub fit_count : s.taken ≡ sum_to p.denominator (bit_of s.bits)
  fit_count = eqb-true _ _ (and_right spare_right count_right first_two)

  -- where the campaign stands: at most 1,000 rounds, a number free, and after 1,000 rounds none taken
  abbrev few : Bool
  few = leb s.rounds max_rounds

  abbrev free : Bool
  free = ltb s.taken p.denominator

  abbrev before_last : Bool
  before_last = ltb s.rounds max_rounds

  three : (few && free && (before_last || eqb s.taken 0)) ≡ true
  unfolding within
  three = and_right (spare_right && count_right) stands first_three

  pub fit_rounds : s.rounds ≤ max_rounds
  fit_rounds = leb-true _ _ (and_left few free (and_left (few && free) _ three))

  pub fit_free : s.taken < p.denominator
  fit_free = ltb-true _ _ (and_right few free (and_left (few && free) _ three))

  pub fit_going : 0 < s.taken → s.rounds < max_rounds
  fit_going h = go before_last refl
    where
      go : (t : Bool) → before_last ≡ t → s.rounds < max_rounds
      go true e = ltb-true _ _ e
      go false e = let none : s.taken ≡ 0 = eqb-true _ _ (other_passes before_last _ (and_right (few && free) _ three) e) in absurd (omega arith)

  pub fit_tally : (i : ℕ) → i < cell_count p → get_or s.tally i 0 ≡ s.rounds * get_or p.cells i 0 + taken_sum p s.bits i
  unfolding fits
  fit_tally i l =
      eqb-true _ _ (tabulate_all (λ j. eqb (get_or s.tally j 0) (s.rounds * get_or p.cells j 0 + taken_sum p s.bits j)) (cell_count p) (λ i. i)
      (and_right (spare_right && count_right && stands) _ f) i l)
