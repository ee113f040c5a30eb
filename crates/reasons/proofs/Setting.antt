-- The entry that set the weight, searched for among the limits on the grid, and the way it was rounded. Assumes nothing.
use mathlib.Core.Path.{◌≡◌, refl, sym, ap, ap₂, subst, ◌∙◌}
use mathlib.Core.List.{List}
use Prim.Native.Nat.{ℕ, ◌*◌, ◌<◌}
use native.Mathlib.Omega.{arith}
use lib.ListN.{get_or}
use lib.Dec.{eqb}
use mir.Val.{Fits}
use mir.Syntax.{w64}
use Rattle.base.specs.Search.{first_that}
use Rattle.base.proofs.Listing.{listed_at}
use Rattle.base.proofs.Searches.{first_keeps, first_same, first_map}
use Rattle.table.specs.Table.{total}
use Rattle.table.specs.Clauses.{Shape}
use Rattle.grid.specs.Clauses.{grid_at, grid_of, grid_order}
use Rattle.grid.proofs.GridPlaces.{grid_entry}
use Rattle.first_rounding.specs.First.{first_rounding}
use Rattle.planning.specs.Rounds.{limit_of, round_on}
use Rattle.planning.specs.Clauses.{limit_at, HoldsTable, NextArray}
use Rattle.reasons.specs.declared.Entry.{Entry}
use Rattle.reasons.specs.declared.Entry.TheVariants.{GrandTotal}
use Rattle.reasons.specs.declared.Direction.{Direction}
use Rattle.reasons.specs.Reason.{expected_in, count_in, sets, set_by, reason, reason_of}
use Rattle.limit_search.specs.Clauses.{holds}
use Rattle.reasons.specs.Clauses.{entry_at, directed}
use Rattle.reasons.proofs.Naming.{Stands, stands_grand, order_stands, order_names}
use Rattle.reasons.proofs.Wholes.{all_whole_is}

-- the place that the search finds is one of an entry
pub found_stands : {r c : ℕ} {g : List ℕ} → Shape r c g → (l : List ℕ) (x : ℕ) → Stands r c (first_that (holds l x) (grid_order r c) 168)
found_stands {r} {c} s l x = first_keeps (holds l x) (Stands r c) (grid_order r c) (order_stands s) (stands_grand s)

module _ {r c w : ℕ} {e n l : List ℕ} {x : ℕ} (o : NextArray w e n l x) (wp : 0 < w) (g : List ℕ) (s : Shape r c g) (is : e ≡ grid_of r c g) where
  -- entry, count and limit at a place where an entry stands
  module _ {k : ℕ} (t : Stands r c k) where
    entry_is : get_or e k 0 ≡ expected_in r c (round_on r c w g) (entry_at k)
    unfolding grid_at
    entry_is = ap (λ (y : List ℕ). get_or y k 0) is ∙ grid_entry r c g k t.small ∙ ap (total g) t.places

    count_is : get_or n k 0 ≡ count_in r c (round_on r c w g) (entry_at k)
    unfolding grid_at
    count_is =
        ap (λ (y : List ℕ). get_or y k 0) (o.array r c g s is)
        ∙ grid_entry r c (first_rounding r c w g) k t.small
        ∙ ap (total (first_rounding r c w g)) t.places

    sets_is : sets r c (round_on r c w g) (entry_at k) ≡ holds l x k
    sets_is =
        ap₂ eqb (sym (listed_at 169 (limit_at w e n) l o.limits k t.small ∙ ap₂ (limit_of w) entry_is count_is)) (sym (o.weight r c g s is))

  set_by_is : set_by r c (round_on r c w g) ≡ entry_at (first_that (holds l x) (grid_order r c) 168)
  unfolding set_by
  set_by_is =
      ap (λ (y : List Entry). first_that (sets r c (round_on r c w g)) y GrandTotal) (sym (order_names s))
      ∙ first_map (sets r c (round_on r c w g)) entry_at (grid_order r c) 168
      ∙ ap entry_at (first_same _ (holds l x) (grid_order r c) 168 (λ k m. sets_is (order_stands s k m)))

  -- the reason, by what stands at the place
  pub reason_is : {k : ℕ} → k ≡ first_that (holds l x) (grid_order r c) 168 → reason (entry_at k) (directed w x (get_or e k 0) (get_or n k 0)) ≡ reason_of r c (round_on r c w g)
  unfolding reason_of
  reason_is {k} f =
      let t : Stands r c k = subst (Stands r c) (sym f) (found_stands s l x) in
      let named : set_by r c (round_on r c w g) ≡ entry_at k = set_by_is ∙ ap entry_at (sym f) in
      rw (named, all_whole_is s w wp, entry_is t, count_is t, o.weight r c g s is) refl

  pub reason_told : {k : ℕ} → k ≡ first_that (holds l x) (grid_order r c) 168 → {named : Entry} → named ≡ entry_at k
      → {way : Direction} → way ≡ directed w x (get_or e k 0) (get_or n k 0) → reason named way ≡ reason_of r c (round_on r c w g)
  reason_told {k} f i h = ap₂ reason i h ∙ reason_is f

-- the search on a remaining table
module _ {r c : ℕ} {e : List ℕ} (h : HoldsTable r c e) (l : List ℕ) (x : ℕ) {k : ℕ} (f : k ≡ first_that (holds l x) (grid_order r c) 168) where
  pub place_small : k < 169
  place_small = omega (arith, f, (found_stands h.shape l x).small)

  pub place_scaled : Fits w64 (k * 8)
  place_scaled = record { fits = omega (arith, place_small) }
