-- The numbers of a scale, and pooled cells by it. Assumes nothing.
use mathlib.Core.Path.{◌≡◌, refl, sym, ap, ◌∙◌}
use mathlib.Core.Bool.{Bool, ◌&&◌}
use mathlib.Core.List.{List, [], ◌∷◌, zip_with}
use Prim.Native.Nat.{ℕ, ◌+◌, ◌*◌, ◌<◌, ◌≤◌}
use native.Mathlib.Nat.{mul-le-mul, mul_comm, mul-zero, div-le_of_le-mul}
use native.Mathlib.Omega.{arith}
use lib.ListN.{length, get_or}
use lib.Dec.{leb}
use borrow.Author.Tests.{leb-true}
use mir.Val.{Fits}
use mir.Syntax.{w32}
use Rattle.std.specs.List.{list_all, zip}
use Rattle.base.specs.Lists.{all}
use Rattle.base.specs.Buffers.{written}
use Rattle.base.specs.Clauses.{Filled}
use Rattle.base.proofs.Zips.{zip_length, zip_at}
use Rattle.base.proofs.Lists.{all_elim}
use Rattle.base.proofs.Tabulated.{tabulate_get_d}
use Rattle.base.proofs.Filling.{front_all}
use Rattle.table.specs.Check.{cells_within}
use Rattle.multiples.specs.Multiple.{least_multiple}
use Rattle.multiples.proofs.Multiples.{multiple_small}
use Rattle.pool.specs.declared.Scale.{Scale}
use Rattle.pool.specs.Pool.{scaled_cells}
use Rattle.pool.specs.Clauses.{Denominators, scale_of, Scaled, Writable}

-- the scale of two denominators
module _ {d e : ℕ} (s : Denominators d e) where
  small : least_multiple d e ≤ d * e
  small = multiple_small d e s.some_first s.some_second

  -- a factor is at most the other denominator
  pub scale_scaled : (n : ℕ) (g h : List ℕ) → length g ≡ length h → Scaled (scale_of n d e) g h
  scale_scaled n g h alike = record {
    factors = record {
      first_small = omega (arith, div-le_of_le-mul d small, s.second);
      second_small = let turned : least_multiple d e ≤ e * d = omega (arith, small, mul_comm d e) in omega (arith, div-le_of_le-mul e turned, s.first);
    };
    denominator_small = omega (arith, small, mul-le-mul s.first s.second);
    alike = alike;
  }

-- the pooled cell at a place
abbrev pub cell_at : Scale → List ℕ → List ℕ → ℕ → ℕ
cell_at s g h i = s.first * get_or g i 0 + s.second * get_or h i 0

abbrev pub cells_of : Scale → List ℕ → List ℕ → List ℕ
cells_of s g h = scaled_cells s.first s.second g h

module _ {s : Scale} {g h : List ℕ} (ready : Scaled s g h) where
  cells_length : length (cells_of s g h) ≡ length g
  cells_length = zip_length _ g h ready.alike

  cells_at : (i : ℕ) → get_or (cells_of s g h) i 0 ≡ cell_at s g h i
  cells_at i = zip_at (λ x y. s.first * x + s.second * y) (omega (arith, mul-zero s.first, mul-zero s.second)) g h ready.alike i

-- a test of the pairs of two lists, as one of what is made of each pair
zipped : (t : ℕ → Bool) (f : ℕ → ℕ → ℕ) (g h : List ℕ) → list_all (λ (p : ℕ × ℕ). t (f p.0 p.1)) (zip g h) ≡ all t (zip_with f g h)
unfolding all zip_with
zipped t f [] h = refl
zipped t f (x ∷ g) [] = refl
zipped t f (x ∷ g) (y ∷ h) = ap (λ (b : Bool). t (f x y) && b) (zipped t f g h)

pub cells_tested : (s : Scale) (g h : List ℕ) (bound : ℕ) → bound ≡ 1000 * s.denominator
    → list_all (λ (p : ℕ × ℕ). leb (s.first * p.0 + s.second * p.1) bound) (zip g h) ≡ cells_within s.denominator (cells_of s g h)
cells_tested s g h bound e = rw e (zipped (λ x. leb x (1000 * s.denominator)) (λ x y. s.first * x + s.second * y) g h)

-- the loop that writes
module _ {s : Scale} {g h old : List ℕ} (ready : Writable s g h old) where
  pub cell_narrow : (i x : ℕ) → i < length g → x ≡ cell_at s g h i → Fits w32 x
  cell_narrow i x l e =
      let inside : i < length (cells_of s g h) = omega (arith, cells_length ready.scaled) in
      let low : get_or (cells_of s g h) i 0 ≤ 1000 * s.denominator = leb-true _ _ (all_elim _ (cells_of s g h) 0 ready.within i inside) in
      record { fits = omega (arith, cells_at ready.scaled i, ready.denominator_small) }

  pub cells_written : {new : List ℕ} {i : ℕ} → Filled (cell_at s g h) 0 old new i → i ≤ length g → length g ≤ i → new ≡ written (cells_of s g h) old
  cells_written {new} {i} f a b =
      front_all f a b ready.room
      ∙ ap (λ (l : List ℕ). written l old) (tabulate_get_d (cells_of s g h) (length g) 0 (cell_at s g h) (cells_length ready.scaled) (λ k l. sym (cells_at ready.scaled k)))
