-- Sentences of the specification that follow from the definitions. Assumes nothing.
use mathlib.Core.Path.{◌≡◌, refl}
use mathlib.Core.Bool.{true}
use Prim.Native.Nat.{ℕ, ◌+◌, ◌*◌, ◌/◌, ◌%◌, ◌≤◌}
use native.Mathlib.Nat.{mul-le-mul, add-mul, one-mul, div-add-mod'}
use native.Mathlib.Omega.{arith}
use lib.ListN.{length}
use borrow.Author.Tests.{eq-eqb, eqb-true}
use Rattle.table.specs.Table.{max_entries, entry_places}
use Rattle.table.specs.Whole.{down, whole}
use Rattle.planning.specs.Rounds.{limit_of}
use Rattle.table.proofs.EntryPlaces.{entries_length}

pub few_entries : (r c : ℕ) → r ≤ 12 → c ≤ 12 → length (entry_places r c) ≤ max_entries
few_entries r c hr hc = omega (arith, entries_length r c, mul-le-mul hr hc)

pub whole_limit : (w e : ℕ) → whole w e ≡ true → limit_of w e (down w e) ≡ w
unfolding limit_of whole
whole_limit w e h =
    let q : e / w * w + e % w ≡ e = div-add-mod' e w in
    let z : e % w ≡ 0 = eqb-true (e % w) 0 h in
    let t : (e / w + 1) * w ≡ e / w * w + 1 * w = add-mul (e / w) 1 w in
    rw (eq-eqb (e / w) (e / w) refl) (omega (arith, q, z, t, one-mul w))
