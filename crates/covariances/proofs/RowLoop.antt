-- The loop over one row of sums and cells: what is left of both, and the extremes of what it has taken. Assumes nothing.
use mathlib.Core.Path.{◌≡◌, refl, sym, ap, ◌∙◌}
use mathlib.Core.List.{List, [], ◌∷◌}
use Prim.Native.Nat.{ℕ, ◌+◌, ◌<◌, min, max}
use native.Mathlib.Omega.{arith}
use lib.ListN.{length, get_or, take, length-drop}
use lib.Seq.{get_or-take, length-take-le}
use Rattle.base.specs.Lists.{tabulate}
use Rattle.covariances.specs.declared.Extremes.{Extremes}
use Rattle.covariances.specs.Clauses.{lifted, Liftable, lifted_row, ExtremesReady, ExtremesOf}
use Rattle.covariances.proofs.Folds.{foldl_more, Left, left_all, left_there, left_is, left_next, left_none}

pub record RowTo (d : ℕ) (cells : List ℕ) (a : ℕ) (sums : List ℕ) (e : Extremes) (us vs : List ℕ) (k : ℕ) (r : Extremes) : Type 0 where
  pub sums_left : Left (take a sums) us k
  pub cells_left : Left (take a cells) vs k
  pub folded : ExtremesOf e (tabulate k (lifted_row d cells a sums)) r

module _ {d a : ℕ} {cells sums : List ℕ} {e : Extremes} where
  pub row_none : {us vs : List ℕ} → us ≡ take a sums → vs ≡ take a cells → RowTo d cells a sums e us vs 0 e
  unfolding tabulate
  row_none p q = record { sums_left = rw p (left_all (take a sums)); cells_left = rw q (left_all (take a cells)); folded = record { low = refl; high = refl } }

  module _ (h : ExtremesReady d cells a sums) {us vs : List ℕ} {k : ℕ} {r : Extremes} (t : RowTo d cells a sums e us vs k r) where
    module _ {x y : ℕ} {us' vs' : List ℕ} (p : us ≡ x ∷ us') (q : vs ≡ y ∷ vs') where
      before : k < a
      before = omega (arith, left_there t.cells_left q, length-take-le a cells (omega (arith, h.there)))

      sum_is : x ≡ get_or sums k 0
      sum_is = left_is t.sums_left p ∙ get_or-take a sums k 0 before

      cell_is : y ≡ get_or cells k 0
      cell_is = left_is t.cells_left q ∙ get_or-take a cells k 0 before

      pub row_liftable : Liftable d x (get_or cells a 0) y
      row_liftable = rw (sum_is, cell_is) (h.liftable k before)

      module _ {z : ℕ} (i : z ≡ lifted d x (get_or cells a 0) y) where
        same : z ≡ lifted_row d cells a sums k
        same = rw (sum_is, cell_is) at i

        more : {s : Extremes} → s.low ≡ min r.low z → s.high ≡ max r.high z → RowTo d cells a sums e us' vs' (k + 1) s
        more u v = record {
          sums_left = left_next t.sums_left p;
          cells_left = left_next t.cells_left q;
          folded = record {
            low = u ∙ ap (min r.low) same ∙ ap (λ (n : ℕ). min n (lifted_row d cells a sums k)) t.folded.low ∙ sym (foldl_more min e.low _ k);
            high = v ∙ ap (max r.high) same ∙ ap (λ (n : ℕ). max n (lifted_row d cells a sums k)) t.folded.high ∙ sym (foldl_more max e.high _ k);
          };
        }

        pub row_more : {n : ℕ} {s : Extremes} → n ≡ k + 1 → s.low ≡ min r.low z → s.high ≡ max r.high z → RowTo d cells a sums e us' vs' n s
        row_more m u v = rw m (more u v)

    pub row_level : length us ≡ length vs
    row_level = omega (
      arith,
      ap length t.sums_left.is,
      ap length t.cells_left.is,
      length-drop k (take a sums),
      length-drop k (take a cells),
      length-take-le a sums (omega (arith, h.there, h.few, h.room)),
      length-take-le a cells (omega (arith, h.there)),
    )

    pub row_all : vs ≡ [] → ExtremesOf e (tabulate a (lifted_row d cells a sums)) r
    row_all p =
        let all : k ≡ a = omega (arith, left_none t.cells_left p, length-take-le a cells (omega (arith, h.there))) in
        rw all at t.folded
