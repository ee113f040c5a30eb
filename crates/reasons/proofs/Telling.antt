-- What a reason says of the round that it is told of. Assumes nothing.
use mathlib.Core.Path.{◌≡◌, refl, subst}
use mathlib.Core.Bool.{Bool, true, false, cond}
use Prim.Native.Nat.{ℕ}
use lib.Dec.{eqb}
use Rattle.table.specs.Whole.{down}
use Rattle.planning.specs.Rounds.{Round}
use Rattle.reasons.specs.declared.Explanation.{Explanation}
use Rattle.reasons.specs.declared.Direction.{Direction}
use Rattle.reasons.specs.declared.Direction.TheVariants.{Down, Up, AllWhole}
use Rattle.reasons.specs.Reason.{expected_in, count_in, set_by, all_whole, reason_of}

-- a direction, with whether all are whole and whether the entry was rounded down
abbrev pub Says : Bool → Bool → Direction → Type 0
Says a b AllWhole = a ≡ true
Says a b Down = b ≡ true
Says a b Up = b ≡ false

says : (a b : Bool) → Says a b (cond a AllWhole (cond b Down Up))
says true b = refl
says false true = refl
says false false = refl

-- of a round
pub told : (r c : ℕ) (x : Round) {y : Explanation} → reason_of r c x ≡ y
    → (set_by r c x ≡ y.entry)
    × Says (all_whole r c x) (eqb (count_in r c x (set_by r c x)) (down x.left (expected_in r c x (set_by r c x)))) y.direction
unfolding reason_of
told r c x h =
    let P : Explanation → Type 0 = λ y. (set_by r c x ≡ y.entry)
    × Says (all_whole r c x) (eqb (count_in r c x (set_by r c x)) (down x.left (expected_in r c x (set_by r c x)))) y.direction in
    subst P h (refl, says _ _)
