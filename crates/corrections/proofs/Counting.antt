-- What is left over of a cell, its count, and the loops over them. Assumes nothing.
use mathlib.Core.Path.{◌≡◌, sym, ap, ◌∙◌}
use mathlib.Core.List.{List}
use Prim.Native.Nat.{ℕ, ◌+◌, ◌<◌, ◌≤◌}
use native.Mathlib.Omega.{arith}
use lib.IntN.{ℤ, pos}
use lib.ListN.{length, get_or, set, length-map, get_or-map}
use mir.Syntax.{w16, w32}
use mir.Val.{SFits, to_z, of_z}
use mir.Facts.{to_z-of_z}
use Rattle.base.specs.Lists.{tabulate}
use Rattle.base.specs.Buffers.{written}
use Rattle.base.proofs.Tabulated.{tabulate_get_d}
use Rattle.base.proofs.Storing.{Stored, stored_more, stored_all}
use Rattle.base.proofs.Signs.{there, wider_is}
use Rattle.division.specs.Division.{rest}
use Rattle.division.specs.Clauses.{Divides}
use Rattle.division.specs.declared.Divided.{Divided}
use Rattle.corrections.specs.Clauses.{rests, RestsReady, count_of, CountsReady}

each_rest : (d : ℕ) (g : List ℤ) → tabulate (length g) (λ i. rest d (get_or g i (pos 0))) ≡ rests d g
each_rest d g = tabulate_get_d (rests d g) (length g) (rest d (pos 0)) _ (length-map g (rest d)) (λ i h. sym (get_or-map (rest d) g i (pos 0)))

-- the loop over what is left over
module _ {d : ℕ} {g : List ℤ} {old : List ℕ} (r : RestsReady d g old) {k : ℕ} {out : List ℕ} where
  pub rests_more : SFits w32 (get_or g k (pos 0)) → {x : ℤ} → x ≡ to_z w32 (of_z w32 (get_or g k (pos 0))) → {q : Divided} → Divides d (there x) q
      → Stored (λ i. rest d (get_or g i (pos 0))) old out k → k < length g → Stored (λ i. rest d (get_or g i (pos 0))) old (set out k q.rest) (k + 1)
  rests_more f e p s h = stored_more s (rw (ap there e ∙ wider_is f) at p.rest_is) (omega (arith, r.room))

  pub rests_all : Stored (λ i. rest d (get_or g i (pos 0))) old out k → k ≤ length g → length g ≤ k → out ≡ written (rests d g) old
  rests_all s a b = stored_all s a b ∙ ap (λ (l : List ℕ). written l old) (each_rest d g)

-- the loop over the counts
module _ {d : ℕ} {g : List ℤ} {n : List ℕ} {old : List ℤ} (r : CountsReady d g n old) where
  abbrev count_at : ℕ → ℤ
  count_at k = count_of d (get_or g k (pos 0)) (get_or n k 0)

  pub counts_more : {k : ℕ} → k < length g → SFits w32 (get_or g k (pos 0)) → {out : List ℤ} → Stored count_at old out k
      → {x : ℤ} → x ≡ count_of d (to_z w32 (of_z w32 (get_or g k (pos 0)))) (get_or n k 0) → Stored count_at old (set out k (to_z w16 (of_z w16 x))) (k + 1)
  counts_more {k} h f s e =
      let is = rw (to_z-of_z f) at e in
      stored_more s (ap (λ (z : ℤ). to_z w16 (of_z w16 z)) is ∙ to_z-of_z (r.fit k h)) (omega (arith, r.room))
