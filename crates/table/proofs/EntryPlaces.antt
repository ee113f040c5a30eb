-- How many entries there are, and where each stands among them. Assumes nothing.
use mathlib.Core.Path.{◌≡◌, sym, ap, ◌∙◌}
use mathlib.Core.List.{List, [], ◌∷◌, ◌++◌}
use Prim.Native.Nat.{ℕ, ◌+◌, ◌*◌, ◌<◌}
use native.Mathlib.Nat.{add-zero, add_assoc}
use native.Mathlib.Omega.{arith}
use lib.ListN.{length, get_or, length-append, get_or-append}
use lib.Seq.{get_or-append-add}
use Rattle.base.specs.Lists.{tabulate}
use Rattle.base.proofs.Lists.{length_tabulate, get_d_tabulate}
use Rattle.table.specs.Table.{cell_places, row_places, column_places, all_places, entry_places}

-- in the first part of a list, and after it
module _ (n : ℕ) (f : ℕ → List ℕ) (rest : List (List ℕ)) where
  in-part : (i : ℕ) → i < n → get_or (tabulate n f ++ rest) i [] ≡ f i
  in-part i h = get_or-append (tabulate n f) rest [] i (rw (length_tabulate n f) h) ∙ get_d_tabulate n f i [] h

  after_part : (i : ℕ) → get_or (tabulate n f ++ rest) (n + i) [] ≡ get_or rest i []
  after_part i = ap (λ (m : ℕ). get_or (tabulate n f ++ rest) (m + i) []) (sym (length_tabulate n f)) ∙ get_or-append-add (tabulate n f) rest i []

-- the entries from the rows on, from the columns on, and the last
module _ (r c : ℕ) where
  abbrev pub from_grand : List (List ℕ)
  from_grand = all_places r c ∷ []

  abbrev pub from_columns : List (List ℕ)
  from_columns = tabulate c (column_places r c) ++ from_grand

  abbrev pub from_rows : List (List ℕ)
  from_rows = tabulate r (row_places c) ++ from_columns

  pub entries_length : length (entry_places r c) ≡ r * c + r + c + 1
  unfolding entry_places
  entries_length =
      simp length-append (omega (arith, length_tabulate (r * c) cell_places, length_tabulate r (row_places c), length_tabulate c (column_places r c)))

  pub cell_at : (k : ℕ) → k < r * c → get_or (entry_places r c) k [] ≡ cell_places k
  unfolding entry_places
  cell_at k h = in-part (r * c) cell_places from_rows k h

  from_rows_lem : (i : ℕ) → get_or (entry_places r c) (r * c + i) [] ≡ get_or from_rows i []
  unfolding entry_places
  from_rows_lem i = after_part (r * c) cell_places from_rows i

  pub row_at : (i : ℕ) → i < r → get_or (entry_places r c) (r * c + i) [] ≡ row_places c i
  row_at i h = from_rows_lem i ∙ in-part r (row_places c) from_columns i h

  from_columns_lem : (j : ℕ) → get_or (entry_places r c) (r * c + r + j) [] ≡ get_or from_columns j []
  from_columns_lem j = rw (add_assoc (r * c) r j) (from_rows_lem (r + j) ∙ after_part r (row_places c) from_columns j)

  pub column_at : (j : ℕ) → j < c → get_or (entry_places r c) (r * c + r + j) [] ≡ column_places r c j
  column_at j h = from_columns_lem j ∙ in-part c (column_places r c) from_grand j h

  pub grand_at : get_or (entry_places r c) (r * c + r + c) [] ≡ all_places r c
  grand_at = from_columns_lem c ∙ rw (add-zero c) at (after_part c (column_places r c) from_grand 0)
