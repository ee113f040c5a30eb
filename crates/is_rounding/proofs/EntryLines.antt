-- Some entries, kind by kind, and the loops over them. Assumes nothing.
use mathlib.Core.Path.{◌≡◌, refl, sym, ap, ◌∙◌}
use mathlib.Core.Bool.{Bool, true, false, not, cond, ◌&&◌}
use mathlib.Core.List.{List, []}
use Prim.Native.Nat.{ℕ, ◌+◌, ◌*◌, ◌<◌, ◌≤◌}
use native.Mathlib.Nat.{zero-add, add-zero, mul-one, mul-le-mul, mul-le-mul_right, le_trans, div-le_of_le-mul}
use native.Mathlib.Omega.{arith}
use lib.ListN.{length, get_or}
use lib.Dec.{eqb}
use mir.Val.{Fits, bool_byte}
use mir.Syntax.{w32, w64}
use Rattle.base.specs.Lists.{every}
use Rattle.base.specs.Clauses.{Filled}
use Rattle.base.proofs.SumLoops.{Summed, summed_none, summed_more, summed_all}
use Rattle.base.proofs.Every.{sum_none, every_add, every_ext, every_intro}
use Rattle.base.proofs.Filling.{filled_none, filled_join}
use Rattle.table.specs.Table.{total, entry_places}
use Rattle.table.specs.Whole.{down, gap, up}
use Rattle.table.specs.Clauses.{Dividable, Divides, Shape}
use Rattle.table.specs.declared.whole.Divided.{Divided}
use Rattle.table.proofs.EntryPlaces.{entries_length, cell_at, row_at, column_at, grand_at}
use Rattle.table.proofs.Totals.{reach_row, reach_column, reach_one, reach_all}
use Rattle.table.proofs.EntryBounds.{total_at_most}
use Rattle.table.proofs.Roundings.{gap_le}
use Rattle.is_rounding.specs.declared.Lines.{Lines}
use Rattle.is_rounding.specs.Clauses.{line_places, cell_lines, row_lines, column_lines, grand_lines, Placed, Cells, Room, BoundsFrom, entry_of, Bounds, between, lines_between, entries_between}

-- the entries of a kind stand from a place on among some entries
pub record Stands (entries : List (List ℕ)) (k : Lines) (from : ℕ) : Type 0 where
  pub at : (l : ℕ) → l < k.count → get_or entries (from + l) [] ≡ line_places k l

module _ (r c : ℕ) where
  pub stands_cells : Stands (entry_places r c) (cell_lines (r * c)) 0
  stands_cells = record { at = λ l h. rw (zero-add l, mul-one l) (cell_at r c l h) }

  pub stands_rows : Stands (entry_places r c) (row_lines r c) (r * c)
  stands_rows = record { at = row_at r c }

  pub stands_columns : Stands (entry_places r c) (column_lines r c) (r * c + r)
  stands_columns = record { at = λ l h. rw (mul-one l) (column_at r c l h) }

  pub stands_grand : Stands (entry_places r c) (grand_lines (r * c)) (r * c + r + c)
  stands_grand = record { at = λ l h. let z : l ≡ 0 = omega arith in rw (z, add-zero (r * c + r + c)) (grand_at r c) }

-- each kind lies among the cells
module _ {r c : ℕ} {g : List ℕ} (s : Shape r c g) where
  few : r * c ≤ 144
  few = mul-le-mul s.rows s.columns

  pub placed_cells : Placed (cell_lines (r * c)) 0 (length g)
  placed_cells = record {
    few = few;
    stride_small = omega arith;
    room = omega (arith, few);
    reach = λ l h. rw (mul-one l) (reach_one s l h);
  }

  pub placed_rows : Placed (row_lines r c) (r * c) (length g)
  placed_rows = record {
    few = omega (arith, s.rows);
    stride_small = s.columns;
    room = omega (arith, few, s.rows);
    reach = reach_row s;
  }

  pub placed_columns : Placed (column_lines r c) (r * c + r) (length g)
  placed_columns = record {
    few = omega (arith, s.columns);
    stride_small = omega arith;
    room = omega (arith, few, s.rows, s.columns);
    reach = λ l h. rw (mul-one l) (reach_column s l h);
  }

  pub placed_grand : Placed (grand_lines (r * c)) (r * c + r + c) (length g)
  placed_grand = record {
    few = omega arith;
    stride_small = omega arith;
    room = omega (arith, few, s.rows, s.columns);
    reach = λ l h. let z : l ≡ 0 = omega arith in rw z (reach_all s);
  }

-- an entry of the table over d
module _ {k : Lines} {from l d : ℕ} {g : List ℕ} (p : Placed k from (length g)) (t : Cells d g) (h : l < k.count) where
  most : total g (line_places k l) ≤ d * 144000
  most =
      let number : k.number ≤ 144 = (p.reach l h).count_small in
      let some : total g (line_places k l) ≤ 144 * (1000 * d) = le_trans (total_at_most g (1000 * d) t.within k.number _) (mul-le-mul_right (1000 * d) number) in
      omega arith

  whole_small : down d (total g (line_places k l)) ≤ 144000
  whole_small = div-le_of_le-mul d most

  pub line_dividable : {x : ℕ} → x ≡ total g (line_places k l) → Dividable d x
  line_dividable e = record { some = t.some; small = omega (arith, e, most, t.denominator) }

  module _ {x : ℕ} {q : Divided} (e : x ≡ total g (line_places k l)) (i : Divides d x q) where
    pub whole_is : q.whole ≡ down d (total g (line_places k l))
    whole_is = i.whole_is ∙ ap (down d) e

    gap_is : q.gap ≡ gap d (total g (line_places k l))
    gap_is = i.gap_is ∙ ap (gap d) e

    pub whole_fits : Fits w32 q.whole
    whole_fits = record { fits = omega (arith, whole_is, whole_small) }

    module _ {v : ℕ} (j : v ≡ q.gap) where
      pub up_is : q.whole + v ≡ up d (total g (line_places k l))
      up_is = omega (arith, whole_is, gap_is)

      pub up_sum : Fits w64 (q.whole + v)
      up_sum = record { fits = omega (arith, up_is, whole_small, gap_le d (total g (line_places k l))) }

      pub up_fits : Fits w32 (q.whole + v)
      up_fits = record { fits = omega (arith, up_is, whole_small, gap_le d (total g (line_places k l))) }

-- a loop over the lines of a kind
pub bounds_none : (d : ℕ) (f : ℕ → ℕ) (from : ℕ) (low high : List ℕ) → BoundsFrom d f from low high low high 0
bounds_none d f from low high = record { lows = filled_none _ from low; highs = filled_none _ from high }

module _ {d : ℕ} {f : ℕ → ℕ} {from : ℕ} {low high low' high' : List ℕ} {l : ℕ} (b : BoundsFrom d f from low high low' high' l) where
  pub bounds_length : Room low high → Room low' high'
  bounds_length r = record { low_length = b.lows.len ∙ r.low_length; high_length = b.highs.len ∙ r.high_length }

-- one kind after another: the bounds of the first n entries, and of one kind more
pub record BoundsTo (entries : List (List ℕ)) (d : ℕ) (g a₀ b₀ a b : List ℕ) (n : ℕ) : Type 0 where
  pub are : BoundsFrom d (entry_of entries g) 0 a₀ b₀ a b n

module _ {entries : List (List ℕ)} {d : ℕ} {g a₀ b₀ a b : List ℕ} {n : ℕ} (so_far : BoundsTo entries d g a₀ b₀ a b n) where
  kind_joined : (h : ℕ → ℕ) {x₀ x y : List ℕ} {k : Lines} → Filled (λ e. h (entry_of entries g e)) 0 x₀ x n → Stands entries k n
      → Filled (λ l. h (total g (line_places k l))) n x y k.count → Filled (λ e. h (entry_of entries g e)) 0 x₀ y (n + k.count)
  kind_joined h p s q =
      let z : n ≡ 0 + n = omega arith in
      filled_join p (rw z at q) (λ l i. ap (λ (places : List ℕ). h (total g places)) (sym (s.at l i)))

  pub kind_bounds : {k : Lines} {a' b' : List ℕ} → Stands entries k n → BoundsFrom d (λ l. total g (line_places k l)) n a b a' b' k.count
      → BoundsTo entries d g a₀ b₀ a' b' (n + k.count)
  kind_bounds s q = record {
    are = record { lows = kind_joined (down d) so_far.are.lows s q.lows; highs = kind_joined (up d) so_far.are.highs s q.highs };
  }

  pub bounds_of : Room a₀ b₀ → length entries ≡ n → Bounds entries d g a b
  bounds_of room all = record {
    room = bounds_length so_far.are room;
    lows = λ e i. rw (zero-add e) at (so_far.are.lows.inside e (omega arith));
    highs = λ e i. rw (zero-add e) at (so_far.are.highs.inside e (omega arith));
  }

pub cells_bounds : (r c d : ℕ) (g : List ℕ) {a b a' b' : List ℕ} → BoundsFrom d (λ l. total g (line_places (cell_lines (r * c)) l)) 0 a b a' b' (r * c)
    → BoundsTo (entry_places r c) d g a b a' b' (r * c)
cells_bounds r c d g {a} {b} q = rw (zero-add (r * c)) at (kind_bounds (record { are = bounds_none d (entry_of (entry_places r c) g) 0 a b }) (stands_cells r c) q)

-- an array's entries between the bounds
abbrev line_between : List ℕ → List ℕ → List ℕ → Lines → ℕ → ℕ → Bool
line_between n low high k from l = between (get_or low (from + l) 0) (get_or high (from + l) 0) (total n (line_places k l))

-- s is how many of the first l entries of a kind are not
pub record Outside (n low high : List ℕ) (k : Lines) (from l s : ℕ) : Type 0 where
  pub sum : Summed (λ i. cond (line_between n low high k from i) 0 1) 2 l s

pub outside_none : (n low high : List ℕ) (k : Lines) (from : ℕ) → Outside n low high k from 0 0
outside_none n low high k from = record { sum = summed_none _ 2 }

outside_small : (b : Bool) → cond b 0 1 < 2
outside_small true = omega arith
outside_small false = omega arith

outside_byte : (b : Bool) → bool_byte (not b) ≡ cond b 0 1
outside_byte true = refl
outside_byte false = refl

none_so : (b : Bool) → b ≡ eqb (cond b 0 1) 0
none_so true = refl
none_so false = refl

module _ {n low high : List ℕ} {k : Lines} {from l s : ℕ} (m : Outside n low high k from l s) where
  pub outside_more : {x y : ℕ} {v : Bool} → x ≡ total n (line_places k l) → v ≡ between (get_or low (from + l) 0) (get_or high (from + l) 0) x → y ≡ bool_byte (not v)
      → Outside n low high k from (l + 1) (s + y)
  outside_more {x} {y} {v} e i q =
      let is : y ≡ cond (line_between n low high k from l) 0 1 = rw (i, e) at (q ∙ outside_byte v) in
      record { sum = summed_more m.sum y is (rw is (outside_small (line_between n low high k from l))) }

  pub outside_all : l ≤ k.count → k.count ≤ l → eqb s 0 ≡ lines_between n low high k from
  unfolding lines_between
  outside_all h q =
      let f : ℕ → ℕ = λ i. cond (line_between n low high k from i) 0 1 in
      ap (λ (x : ℕ). eqb x 0) (summed_all m.sum h q).0 ∙ sym (sum_none k.count f) ∙ every_ext k.count _ _ (λ i _. sym (none_so (line_between n low high k from i)))

-- one kind after another: whether the first entries of an array n lie between their bounds, and those of one kind more
module _ (n low high : List ℕ) where
  module _ (entries : List (List ℕ)) where
    entry_between : ℕ → Bool
    entry_between e = between (get_or low e 0) (get_or high e 0) (entry_of entries n e)

    kind_more : {k : Lines} {from : ℕ} → Stands entries k from → every (from + k.count) entry_between ≡ (every from entry_between && lines_between n low high k from)
    unfolding entry_between lines_between
    kind_more {k} {from} s =
        every_add from k.count entry_between
        ∙ ap (λ (b : Bool). every from entry_between && b)
        (every_ext k.count _ _ (λ l i. ap (λ (places : List ℕ). between (get_or low (from + l) 0) (get_or high (from + l) 0) (total n places)) (s.at l i)))

  pub all_kinds : (r c : ℕ) → entries_between (entry_places r c) n low high
      ≡ (lines_between n low high (cell_lines (r * c)) 0 && lines_between n low high (row_lines r c) (r * c) && lines_between n low high (column_lines r c) (r * c + r)
      && lines_between n low high (grand_lines (r * c)) (r * c + r + c))
  unfolding entries_between entry_between
  all_kinds r c =
      let e : List (List ℕ) = entry_places r c in
      let none : every 0 (entry_between e) ≡ true = every_intro _ 0 (λ i h. absurd (omega arith)) in
      let cells : every (r * c) (entry_between e) ≡ lines_between n low high (cell_lines (r * c)) 0 = rw (zero-add (r * c), none) at (kind_more e (stands_cells r c)) in
      rw (entries_length r c, kind_more e (stands_grand r c), kind_more e (stands_columns r c), kind_more e (stands_rows r c), cells) refl
