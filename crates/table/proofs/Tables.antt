-- An accepted table is refused nothing; and the calls that take a table and a lent buffer. Assumes nothing.
use Rattle.std.specs.Prelude.{Some, None, Result, Ok, Err}
use mathlib.Core.Path.{◌≡◌, sym, ◌∙◌}
use mathlib.Core.Bool.{true}
use mathlib.Core.List.{List, [], ◌∷◌, ◌++◌}
use Prim.Native.Nat.{ℕ, ◌<◌, ◌≤◌}
use lib.Dec.{ltb}
use borrow.Author.Tests.{le-leb, eq-eqb, lt-ltb, le-ltb}
use Rattle.base.proofs.Lists.{all_intro}
use Rattle.refusals.specs.declared.Refusal.{Refusal}
use Rattle.refusals.specs.declared.Refusal.TheVariants.{Buffer}
use Rattle.refusals.specs.Due.{Test, refuse, due}
use Rattle.refusals.proofs.Dues.{due_first, due_second}
use Rattle.table.specs.Check.{cells_within, table_tests, table_refusal}
use Rattle.table.specs.Clauses.{IsTable, check_of}
use Rattle.table.specs.declared.Table.{Table}
use Rattle.table.proofs.Checks.{inside, Taken, accepted, refused}

pub table_accepted : {r c d : ℕ} {g : List ℕ} → IsTable r c d g → table_refusal r c d g ≡ None
unfolding table_refusal due
table_accepted {r} {c} {d} {g} t =
    let s = t.shape in
    simp (
      inside 12 r s.some_rows s.rows,
      inside 12 c s.some_columns s.columns,
      inside 65535 d t.some_denominator t.denominator,
      eq-eqb _ _ s.cells,
      within,
    )
  where
    within : cells_within d g ≡ true
    within = all_intro _ g 0 (λ k h. le-leb _ _ (t.within k h))

-- what the answer of the check says
module _ (r c d : ℕ) (g : List ℕ) {k : Result Table Refusal} (e : k ≡ check_of r c d g) where
  pub taken : (t : Table) → k ≡ Ok t → Taken r c d g t
  taken t h = accepted r c d g t (sym h ∙ e)

  pub not_taken : (x : Refusal) → k ≡ Err x → table_refusal r c d g ≡ Some x
  not_taken x h = refused r c d g x (sym h ∙ e)

-- the refusals of a call that takes a table and a buffer of `room`, and needs `need` of it
module _ (r c d : ℕ) (g : List ℕ) (room need : ℕ) where
  buffer : List Test
  buffer = refuse Buffer (ltb room need) ∷ []

  pub refused_table : (x : Refusal) → table_refusal r c d g ≡ Some x → due (table_tests r c d g ++ (refuse Buffer (ltb room need) ∷ [])) ≡ Some x
  unfolding table_refusal
  refused_table x h = due_first (table_tests r c d g) _ x h

  module _ (h : table_refusal r c d g ≡ None) where
    pub refused_buffer : room < need → due (table_tests r c d g ++ (refuse Buffer (ltb room need) ∷ [])) ≡ Some Buffer
    unfolding table_refusal due buffer
    refused_buffer l = due_second (table_tests r c d g) buffer h ∙ simp (lt-ltb room need l)

    pub refused_nothing : need ≤ room → due (table_tests r c d g ++ (refuse Buffer (ltb room need) ∷ [])) ≡ None
    unfolding table_refusal due buffer
    refused_nothing l = due_second (table_tests r c d g) buffer h ∙ simp (le-ltb room need l)
