-- What the check of two parts says, and the ways through it. Assumes nothing.
use Rattle.std.specs.Prelude.{Option, Some, None, Result, Ok, Err}
use mathlib.Core.Path.{◌≡◌, refl, sym, ap, ap₂, ◌∙◌}
use mathlib.Core.List.{List}
use mathlib.Core.Logic.{⊎_elim}
use Prim.Native.Nat.{ℕ, ◌*◌}
use native.Mathlib.Omega.{arith}
use mir.Val.{Fits}
use mir.Syntax.{w64}
use Rattle.base.specs.Lists.{all}
use Rattle.refusals.specs.declared.Refusal.{Refusal}
use Rattle.refusals.specs.declared.Refusal.TheVariants.{LargeCell}
use Rattle.refusals.specs.Due.{due, refused_or}
use Rattle.refusals.specs.Clauses.{lower_of}
use Rattle.refusals.proofs.Dues.{due_first}
use Rattle.refusals.proofs.Eithers.{Alike, no_rows, row, lower_due, either_due}
use Rattle.table.specs.Clauses.{IsTable, check_of}
use Rattle.table.specs.Check.{table_tests, table_refusal, BelowZero}
use Rattle.table.specs.declared.Table.{Table}
use Rattle.table.proofs.Checks.{passed_all, below_zero, four_or_none}
use Rattle.table.proofs.Tables.{taken, not_taken}
use Rattle.table.proofs.Totals.{small_product}
use Rattle.pool.specs.declared.check.Pair.{Pair}
use Rattle.pool.specs.Pool.{parts_tests, pooling_refusal, EitherBelowZero}
use Rattle.pool.specs.Clauses.{parts_answer}

-- the number of an accepted table's cells fits
pub product_fits : (r c d : ℕ) (g : List ℕ) {k : Result Table Refusal} {t : Table} → k ≡ check_of r c d g → k ≡ Ok t → Fits w64 (t.rows * t.columns)
product_fits r c d g {t = t} e h =
    let s = (taken r c d g e t h).table.shape in
    rw (taken r c d g e t h).sizes (small_product s.rows s.columns)

module _ (r c d : ℕ) (g : List ℕ) (e : ℕ) (h : List ℕ) where
  alike : Alike (table_tests r c d g) (table_tests r c e h)
  unfolding all
  alike = row _ _ _ refl refl (row _ _ _ refl refl (row _ _ _ refl refl (row _ _ _ refl refl no_rows)))

  parts_due : due (parts_tests r c d g e h) ≡ lower_due (table_refusal r c d g) (table_refusal r c e h)
  unfolding table_refusal
  parts_due = either_due alike

  -- two parts that are refused nothing are tables
  pub record Both : Type 0 where
    pub first : IsTable r c d g
    pub second : IsTable r c e h

  pub both : due (parts_tests r c d g e h) ≡ None → Both
  both n = go (table_refusal r c d g) (table_refusal r c e h) refl refl (sym parts_due ∙ n)
    where
      go : (o p : Option Refusal) → table_refusal r c d g ≡ o → table_refusal r c e h ≡ p → lower_due o p ≡ None → Both
      go None None a b q = record { first = passed_all r c d g a; second = passed_all r c e h b }
      go None (Some y) a b q = absurd (let z : ◌≡◌ {A = ℕ} 0 1 = cc in omega arith)
      go (Some x) None a b q = absurd (let z : ◌≡◌ {A = ℕ} 0 1 = cc in omega arith)
      go (Some x) (Some y) a b q = absurd (let z : ◌≡◌ {A = ℕ} 0 1 = cc in omega arith)

  -- a cell of either below zero, where none of 1 to 3 applies
  pub either_below_zero : EitherBelowZero r c d g e h → pooling_refusal r c d g e h ≡ Some LargeCell
  unfolding pooling_refusal
  either_below_zero z = due_first (parts_tests r c d g e h) _ LargeCell (parts_due ∙ ⊎_elim first second z.below)
    where
      first : BelowZero r c d g → lower_due (table_refusal r c d g) (table_refusal r c e h) ≡ Some LargeCell
      first b = ⊎_elim (ap₂ lower_due (below_zero r c d g b)) (ap₂ lower_due (below_zero r c d g b)) (four_or_none r c e h z.second_sizes)

      second : BelowZero r c e h → lower_due (table_refusal r c d g) (table_refusal r c e h) ≡ Some LargeCell
      second b = ⊎_elim
          (λ q. ap₂ lower_due q (below_zero r c e h b))
          (λ q. ap₂ lower_due q (below_zero r c e h b))
          (four_or_none r c d g z.first_sizes)

  -- the ways through the check
  module _ {one other : Result Table Refusal} (p : one ≡ check_of r c d g) (q : other ≡ check_of r c e h) where
    answered : (o : Option Refusal) → due (parts_tests r c d g e h) ≡ o
        → refused_or Err (Ok (record { cells = r * c; first = d; second = e })) o ≡ parts_answer r c d g e h
    unfolding parts_answer
    answered o w = rw w refl

    pub both_refused : {x y z : Refusal} → one ≡ Err x → other ≡ Err y → z ≡ lower_of x y → Err z ≡ parts_answer r c d g e h
    both_refused {x} {y} {z} a b s =
        ap Err s ∙ answered (Some (lower_of x y)) (parts_due ∙ rw (not_taken r c d g p x a, not_taken r c e h q y b) refl)

    pub first_refused : {x : Refusal} {u : Table} → one ≡ Err x → other ≡ Ok u → Err x ≡ parts_answer r c d g e h
    first_refused {x} {u} a b = answered (Some x) (parts_due ∙ rw (not_taken r c d g p x a, (taken r c e h q u b).nothing_due) refl)

    module _ {t : Table} (a : one ≡ Ok t) where
      pub second_refused : {y : Refusal} → other ≡ Err y → Err y ≡ parts_answer r c d g e h
      second_refused {y} b = answered (Some y) (parts_due ∙ rw ((taken r c d g p t a).nothing_due, not_taken r c e h q y b) refl)

      pub both_accepted : {u : Table} → other ≡ Ok u
          → Ok (record { cells = t.rows * t.columns; first = t.denominator; second = u.denominator }) ≡ parts_answer r c d g e h
      both_accepted {u} b =
          rw ((taken r c d g p t a).sizes, (taken r c e h q u b).sizes)
          (answered None (parts_due ∙ rw ((taken r c d g p t a).nothing_due, (taken r c e h q u b).nothing_due) refl))

-- what the answer says
module _ (r c d : ℕ) (g : List ℕ) (e : ℕ) (h : List ℕ) {k : Result Pair Refusal} (is : k ≡ parts_answer r c d g e h) where
  pub parts_refused : {x : Refusal} → k ≡ Err x → due (parts_tests r c d g e h) ≡ Some x
  unfolding parts_answer
  parts_refused {x} w = go (due (parts_tests r c d g e h)) refl (sym w ∙ is)
    where
      go : (o : Option Refusal) → due (parts_tests r c d g e h) ≡ o
          → ◌≡◌ {A = Result Pair Refusal} (Err x) (refused_or Err (Ok (record { cells = r * c; first = d; second = e })) o)
          → due (parts_tests r c d g e h) ≡ Some x
      go None a b = absurd (let z : ◌≡◌ {A = ℕ} 0 1 = cc in omega arith)
      go (Some y) a b = a ∙ cc

  -- two parts that are accepted: nothing is due, and the answer has their cells and denominators
  pub record PairTaken (p : Pair) : Type 0 where
    pub nothing_due : due (parts_tests r c d g e h) ≡ None
    pub sizes : p ≡ record { cells = r * c; first = d; second = e }

  pub parts_taken : {p : Pair} → k ≡ Ok p → PairTaken p
  unfolding parts_answer
  parts_taken {p} w = go (due (parts_tests r c d g e h)) refl (sym w ∙ is)
    where
      go : (o : Option Refusal) → due (parts_tests r c d g e h) ≡ o
          → Ok p ≡ refused_or Err (Ok (record { cells = r * c; first = d; second = e })) o → PairTaken p
      go None a b = record { nothing_due = a; sizes = cc }
      go (Some y) a b = absurd (let z : ◌≡◌ {A = ℕ} 0 1 = cc in omega arith)
