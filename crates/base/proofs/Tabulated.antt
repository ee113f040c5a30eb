-- A list is what its numbers, listed one after another, make. Assumes nothing.
use mathlib.Core.Path.{◌≡◌, sym, ◌∙◌}
use mathlib.Core.List.{List}
use Prim.Native.Nat.{ℕ, ◌<◌}
use native.Mathlib.Omega.{arith}
use lib.ListN.{length, get_or}
use lib.Seq.{ext_get_or}
use Rattle.base.specs.Lists.{tabulate}
use Rattle.base.proofs.Lists.{length_tabulate, get_d_tabulate}

pub tabulate_get_d {ℓ} : {A : Type ℓ} (l : List A) (n : ℕ) (d : A) (f : ℕ → A) → length l ≡ n → ((i : ℕ) → i < n → f i ≡ get_or l i d)
    → tabulate n f ≡ l
tabulate_get_d l n d f e h =
    ext_get_or d (tabulate n f) l (length_tabulate n f ∙ sym e)
    (λ i p. let q : i < n = omega (arith, length_tabulate n f) in get_d_tabulate n f i d q ∙ h i q)
