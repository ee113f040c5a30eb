-- Each kind of entry is among the entries. Assumes nothing.
use mathlib.Core.Path.{refl}
use mathlib.Core.List.Memᴰ
use mathlib.Core.List.Memᴰ.{head as here}
use mathlib.Core.List.Memᴰ.{tail as there}
use mathlib.Core.List.{Memᴰ as Member}
use Prim.Native.Nat.{ℕ, zero, suc, ◌*◌, ◌<◌}
use native.Mathlib.Omega.{arith}
use Rattle.base.specs.Lists.{tabulate}
use Rattle.table.specs.Table.{cell_places, row_places, column_places, all_places, entry_places}

member_tabulate {ℓ} : {A : Type ℓ} (n : ℕ) (f : ℕ → A) (i : ℕ) → i < n → Member (f i) (tabulate n f)
unfolding tabulate
member_tabulate zero f i h = absurd (omega arith)
member_tabulate (suc n) f zero h = here refl
member_tabulate (suc n) f (suc i) h = there (member_tabulate n (λ i. f (suc i)) i (omega arith))

module _ (r c : ℕ) where
  pub cell_in_lem : (i : ℕ) → i < r * c → Member (cell_places i) (entry_places r c)
  unfolding entry_places
  cell_in_lem i h = Memᴰ.append_left _ (member_tabulate (r * c) cell_places i h)

  pub row_in : (i : ℕ) → i < r → Member (row_places c i) (entry_places r c)
  unfolding entry_places
  row_in i h = Memᴰ.append_right (tabulate (r * c) cell_places) (Memᴰ.append_left _ (member_tabulate r (row_places c) i h))

  pub column_in : (j : ℕ) → j < c → Member (column_places r c j) (entry_places r c)
  unfolding entry_places
  column_in j h =
      Memᴰ.append_right (tabulate (r * c) cell_places)
      (Memᴰ.append_right (tabulate r (row_places c)) (Memᴰ.append_left _ (member_tabulate c (column_places r c) j h)))

  pub grand_in : Member (all_places r c) (entry_places r c)
  unfolding entry_places
  grand_in =
      Memᴰ.append_right (tabulate (r * c) cell_places)
      (Memᴰ.append_right (tabulate r (row_places c)) (Memᴰ.append_right (tabulate c (column_places r c)) (here refl)))
