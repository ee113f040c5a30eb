-- An array whose entries lie between the bounds is a controlled rounding. Assumes nothing.
use mathlib.Core.Path.{◌≡◌, sym, ◌∙◌}
use mathlib.Core.Bool.{Bool, false}
use mathlib.Core.List.{List, []}
use Prim.Native.Nat.{ℕ, ◌*◌, ◌<◌, ◌≤◌}
use native.Mathlib.Decide.{dec_lt}
use native.Mathlib.Omega.{arith}
use lib.ListN.{length, get_or, get_or-eq_default}
use borrow.Author.Tests.{eq-eqb, ne_eqb}
use Rattle.base.specs.Lists.{all}
use Rattle.base.proofs.Every.{every_ext, every_place}
use Rattle.table.specs.Table.{total, entry_places}
use Rattle.table.specs.Whole.{rounds_to}
use Rattle.table.specs.Clauses.{IsTable}
use Rattle.table.proofs.Roundings.{rounds_between}
use Rattle.is_rounding.specs.Rounding.{two_ways, is_rounding}
use Rattle.is_rounding.specs.Clauses.{Cells, Bounds, entries_between}

-- each entry lies between the bounds just if it is the table's, rounded down or up
pub between_rounds : {entries : List (List ℕ)} {d : ℕ} {g low high : List ℕ} → Bounds entries d g low high → (n : List ℕ)
    → entries_between entries n low high ≡ all (λ s. rounds_to d (total g s) (total n s)) entries
unfolding entries_between
between_rounds {entries} {d} {g} b n =
    let test : List ℕ → Bool = λ s. rounds_to d (total g s) (total n s) in
    every_ext (length entries) _ (λ e. test (get_or entries e [])) (λ e i. rw (b.lows e i, b.highs e i) (sym (rounds_between d _ _)))
    ∙ every_place test entries []

-- an accepted table
module _ {r c d : ℕ} {g : List ℕ} (t : IsTable r c d g) where
  pub table_cells : Cells d g
  table_cells = record { some = t.some_denominator; denominator = t.denominator; within = λ i. small i (dec_lt i (length g)) }
    where
      small : (i : ℕ) → Dec (i < length g) → get_or g i 0 ≤ 1000 * d
      small i (yes l) = t.within i l
      small i (no l) = omega (arith, get_or-eq_default g 0 {n = i} (omega arith))

  module _ (n : List ℕ) where
    pub other_length : (length n ≡ length g → ⊥) → false ≡ is_rounding (two_ways r c) d g n
    unfolding is_rounding
    other_length h = simp (ne_eqb (length n) (r * c) (λ e. h (e ∙ sym t.shape.cells)))

    pub held_rounding : length n ≡ length g → {low high : List ℕ} {x : Bool} → Bounds (entry_places r c) d g low high → x ≡ entries_between (entry_places r c) n low high
        → x ≡ is_rounding (two_ways r c) d g n
    unfolding is_rounding
    held_rounding e b h = h ∙ between_rounds b n ∙ sym (simp (eq-eqb (length n) (r * c) (e ∙ t.shape.cells)))
