-- What a plan that opens is known to meet, entry by entry, and that its arrays make up any total of the table. Assumes nothing.
use mathlib.Core.Path.{◌≡◌, sym, ap, ◌∙◌}
use mathlib.Core.List.{List, [], ◌∷◌, map, Memᴰ as Member}
use Prim.Native.Nat.{ℕ, ◌+◌, ◌*◌, ◌<◌, ◌≤◌}
use native.Mathlib.Nat.{mul-add, mul-zero}
use native.Mathlib.Decide.{dec_lt}
use native.Mathlib.Omega.{arith}
use lib.ListN.{length, get_or, get_or-eq_default}
use Rattle.base.specs.Lists.{sum}
use Rattle.table.specs.Table.{total}
use Rattle.table.specs.Whole.{down, up}
use Rattle.table.proofs.Roundings.{rounds_low, rounds_high}
use Rattle.base.proofs.Lists.{length_tabulate, all_at_member, tabulate_member}
use Rattle.base.proofs.Sums.{list_add, list_ext, list_zero}
use Rattle.weighted_arrays.specs.Plan.{Weighted, Plan, cell_count}
use Rattle.form.specs.Form.{decode}
use Rattle.reading.proofs.Readings.{cells_length}
use Rattle.opening.specs.Open.{held_to, held, weighted, Opens}
use Rattle.opening.proofs.Opens.{Consistent, opens_each}

-- what is known of the plan that some bytes hold, once they open: its lists are as long as its sizes say, and the conditions of opening hold
pub record Sound (p : Plan) : Type 0 where
  pub cells : length p.cells ≡ cell_count p
  pub counts : (a : Weighted) → Member a p.arrays → length a.counts ≡ cell_count p
  pub meets : Consistent p

-- a count lies between the entry over w rounded down and that rounded up
abbrev pub Between : ℕ → ℕ → ℕ → Type 0
Between w e n = (down w e ≤ n) × (n ≤ up w e)

-- as each entry of each array does
pub entry_between_lem : {p : Plan} → Sound p → (a : Weighted) → Member a p.arrays → (s : List ℕ) → Member s (held_to p.rows p.columns)
    → Between p.denominator (total p.cells s) (total a.counts s)
entry_between_lem {p} o a m s t =
    let h = all_at_member _ _ (all_at_member (held p) _ o.meets.rounded m) t in
    (rounds_low _ _ _ h, rounds_high _ _ _ h)

-- the counts are as many as the sizes say, whatever the bytes
counts_many : (b : List ℕ) (a : Weighted) → Member a (decode b).arrays → length a.counts ≡ cell_count (decode b)
unfolding decode
counts_many b a m = tabulate_member (λ (x : Weighted). length x.counts ≡ cell_count (decode b)) _ _ m (λ k h. length_tabulate _ _)

pub sound : (b : List ℕ) → Opens b → Sound (decode b)
sound b o = record { cells = cells_length b; counts = counts_many b; meets = opens_each b o }

-- the totals of the arrays times their weights, place by place
weighted_total : (l : List Weighted) (s : List ℕ) → sum (map (λ a. a.weight * total a.counts s) l) ≡ sum (map (weighted l) s)
unfolding sum total
weighted_total l [] = list_ext _ (λ a. 0) l (λ a m. mul-zero a.weight) ∙ list_zero l
weighted_total l (i ∷ s) =
    list_ext _ (λ a. a.weight * get_or a.counts i 0 + a.weight * total a.counts s) l (λ a m. mul-add a.weight _ _)
    ∙ list_add _ _ l ∙ ap (λ (x : ℕ). weighted l i + x) (weighted_total l s)

module _ {p : Plan} (o : Sound p) where
  -- the weighted counts at any place, also beyond the table, are the table's
  pub weighted_cell : (i : ℕ) → weighted p.arrays i ≡ get_or p.cells i 0
  weighted_cell i = go (dec_lt i (cell_count p))
    where
      none : (a : Weighted) → Member a p.arrays → cell_count p ≤ i → a.weight * get_or a.counts i 0 ≡ 0
      none a m l = ap (λ (x : ℕ). a.weight * x) (get_or-eq_default a.counts 0 (omega (arith, o.counts a m))) ∙ mul-zero a.weight

      go : Dec (i < cell_count p) → weighted p.arrays i ≡ get_or p.cells i 0
      go (yes h) = o.meets.cells i h
      go (no n) =
          let l : cell_count p ≤ i = omega arith in
          list_ext _ (λ a. 0) p.arrays (λ a m. none a m l) ∙ list_zero p.arrays ∙ sym (get_or-eq_default p.cells 0 (omega (arith, o.cells)))

  -- and so is any total of the arrays times their weights
  pub weighted_places : (s : List ℕ) → sum (map (λ a. a.weight * total a.counts s) p.arrays) ≡ total p.cells s
  unfolding total
  weighted_places s = weighted_total p.arrays s ∙ list_ext _ _ s (λ i m. weighted_cell i)
