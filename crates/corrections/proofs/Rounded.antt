-- From an accepted table of corrections to the buffer that its rounding is written to. Assumes nothing.
use Rattle.std.specs.Prelude.{None}
use mathlib.Core.Path.{◌≡◌, sym, ap, ap₂, ◌∙◌}
use mathlib.Core.Bool.{true}
use mathlib.Core.List.{List, [], map}
use Prim.Native.Nat.{ℕ, zero, suc, ◌*◌, ◌/◌, ◌<◌, ◌≤◌}
use native.Mathlib.Decide.{dec_lt}
use native.Mathlib.Nat.{div-eq_of_lt, div-le_of_le-mul, div-lt_iff_lt-mul, mul_comm, zero-div, zero-mod}
use native.Mathlib.Omega.{arith}
use borrow.Author.Tests.{leb-true}
use lib.Dec.{eqb}
use lib.IntN.{ℤ, pos, negsuc, neg_ℤ, ◌+ℤ◌, ◌*ℤ◌}
use lib.ListN.{length, get_or, take, length-map, get_or-map}
use lib.Signed.{le_z}
use mir.Syntax.{w16}
use mir.Val.{SFits}
use Rattle.base.specs.Buffers.{written}
use Rattle.base.proofs.Lists.{and_left, and_right, all_elim}
use Rattle.base.proofs.Tabulated.{tabulate_get_d}
use Rattle.base.proofs.Buffers.{written_at, written_length, written_front}
use Rattle.base.proofs.Differences.{sub_below, sub_above}
use Rattle.division.specs.Division.{down, rest}
use Rattle.division.proofs.Meanings.{parts_of}
use Rattle.table.specs.Table.{entry_places}
use Rattle.table.specs.Clauses.{IsTable}
use Rattle.table.proofs.Checks.{Sized, sized_table}
use Rattle.table.proofs.EntryPlaces.{entries_length, cell_at}
use Rattle.table.proofs.Sizes.{few_cells}
use Rattle.table.proofs.Totals.{total_cell}
use Rattle.table.proofs.Roundings.{gap_le, rounds_high}
use Rattle.table.specs.Table as natural-table
use Rattle.table.specs.Whole as natural-whole
use Rattle.is_rounding.specs.Rounding as rounding
use Rattle.first_rounding.specs.First as natural
use Rattle.first_rounding.proofs.Existence.{first_exists}
use Rattle.first_rounding.proofs.Roundings.{rounding_length}
use Rattle.corrections.specs.Rounding.{IsFirst, first_rounding}
use Rattle.correction_check.specs.Check.{cell_within, table_refusal}
use Rattle.corrections.specs.Clauses.{rests, RestsReady, count_of, counts_of, CountsReady}
use Rattle.corrections.proofs.Moved.{plus, moved, moved_at, moved_length, Parted, first_moved, is_first}
use Rattle.correction_check.proofs.Accepted.{accepted_sizes, accepted_cells}

-- a cell within the bounds, over d rounded down and at most one more, fits 16 bits
module _ (d : ℕ) (h : 0 < d) where
  below : (z : ℤ) (n : ℕ) → cell_within (1000 * d) z ≡ true → n ≤ 1 → SFits w16 (count_of d z n)
  below (pos m) n t l =
      let most : m ≤ d * 1000 = omega (arith, leb-true m (1000 * d) (and_right (le_z (neg_ℤ (pos (1000 * d))) (pos m)) _ t), mul_comm d 1000) in
      record { sfits = omega (arith, div-le_of_le-mul d most) }
  below (negsuc m) n t l = go (dec_lt n (suc (m / d))) (low (1000 * d) (and_left (le_z (neg_ℤ (pos (1000 * d))) (negsuc m)) _ t))
    where
      low : (b : ℕ) → le_z (neg_ℤ (pos b)) (negsuc m) ≡ true → m < b
      low zero s = let z : ◌≡◌ {A = ℕ} 0 1 = cc in absurd (omega arith)
      low (suc b) s = omega (arith, leb-true m b s)

      go : Dec (n < suc (m / d)) → m < 1000 * d → SFits w16 (count_of d (negsuc m) n)
      go (yes k) b = let q : m / d < 1000 = (div-lt_iff_lt-mul h).1 b in rw (sub_below n (suc (m / d)) k) (record { sfits = omega arith })
      go (no k) b = rw (sub_above n (suc (m / d)) (omega arith)) (record { sfits = omega arith })

module _ (r c d : ℕ) (g : List ℤ) (a : table_refusal r c d g ≡ None) where
  sizes : Sized r c d (length g)
  sizes = accepted_sizes r c d g a

  some : 0 < d
  some = sizes.some_denominator

  rests_length : length (rests d g) ≡ length g
  rests_length = length-map g (rest d)

  rest_at : (k : ℕ) → get_or (rests d g) k 0 ≡ rest d (get_or g k (pos 0))
  rest_at k = ap (λ (n : ℕ). get_or (rests d g) k n) (sym (zero-mod d)) ∙ get_or-map (rest d) g k (pos 0)

  rests_table : IsTable r c d (rests d g)
  rests_table = sized_table (rw (sym rests_length) at sizes) (λ k h. omega (arith, rest_at k, (parts_of d (get_or g k (pos 0)) some).small))

  pub few : r * c ≤ 144
  few = few_cells rests_table.shape

  pub rests_ready : {old : List ℕ} → length old ≡ 144 → RestsReady d g old
  rests_ready e = record { some = some; denominator = sizes.denominator; room = omega (arith, e, few, sizes.count) }

  -- the multiples that are set aside, and the first controlled rounding of what is left over
  wholes : List ℤ
  wholes = map (down d) g

  parted : Parted d g wholes (rests d g)
  unfolding wholes
  parted = record {
    cells = λ k. sym (parts_of d (get_or g k (pos 0)) some).sum
        ∙ ap₂ (λ (z : ℤ) (n : ℕ). z *ℤ pos d +ℤ pos n)
        (sym (ap (get_or (map (down d) g) k) (ap pos (sym (zero-div d))) ∙ get_or-map (down d) g k (pos 0))) (sym (rest_at k));
    length_g = sym rests_length;
    length_q = length-map g (down d) ∙ sym rests_length;
  }

  firsts : List ℕ
  firsts = natural.first_rounding r c d (rests d g)

  first : natural.IsFirst r c d (rests d g) firsts
  unfolding firsts
  first = first_exists rests_table.shape some

  firsts_length : length firsts ≡ length g
  firsts_length = rounding_length rests_table.shape d firsts first.rounding ∙ sym sizes.count

  is_moved : first_rounding r c d g ≡ moved wholes firsts
  is_moved = first_moved rests_table.shape some parted firsts first

  pub exists : IsFirst r c d g (first_rounding r c d g)
  exists = rw is_moved (is_first rests_table.shape some parted firsts first)

  -- each count of what is left over is 0 or 1
  firsts_small : (k : ℕ) → k < length g → get_or firsts k 0 ≤ 1
  unfolding rounding.is_rounding
  firsts_small k h =
      let inside : k < length (entry_places r c) = omega (arith, entries_length r c, sizes.count) in
      let there = all_elim (λ x. natural-whole.rounds_to d (natural-table.total (rests d g) x) (natural-table.total firsts x)) (entry_places r c) []
      (and_right (eqb (length firsts) (r * c)) _ first.rounding) k inside in
      let rounds = rw (cell_at r c k (omega (arith, sizes.count)), total_cell (rests d g) k, total_cell firsts k) at there in
      let less : get_or (rests d g) k 0 < d = omega (arith, rest_at k, (parts_of d (get_or g k (pos 0)) some).small) in
      omega (arith, rounds_high d _ _ rounds, gap_le d (get_or (rests d g) k 0), div-eq_of_lt less)

  -- what the functions leave
  module _ (old : List ℕ) {out : List ℕ} (l : length old ≡ 144) (e : out ≡ written (rests d g) old) where
    pub prefix_fits : length g ≤ length out
    prefix_fits = omega (arith, ap length e ∙ written_length (rests d g) old rests_length (rests_ready {old = old} l).room, (rests_ready {old = old} l).room)

    prefix_is : take (length g) out ≡ rests d g
    prefix_is = ap (take (length g)) e ∙ written_front (rests d g) old rests_length

    pub prefix_length : length g ≡ length (take (length g) out)
    prefix_length = sym (ap length prefix_is ∙ rests_length)

    pub left_table : IsTable r c d (take (length g) out)
    left_table = rw prefix_is rests_table

    module _ (room : List ℕ) {made : List ℕ} (m : length room ≡ 144) (f : made ≡ written (natural.first_rounding r c d (take (length g) out)) room) where
      made_at : (k : ℕ) → k < length g → get_or made k 0 ≡ get_or firsts k 0
      unfolding firsts
      made_at k h =
          ap (λ (n : List ℕ). get_or n k 0) (f ∙ ap (λ (n : List ℕ). written (natural.first_rounding r c d n) room) prefix_is)
          ∙ written_at firsts room firsts_length k h

      pub counts_ready : {buffer : List ℤ} → r * c ≤ length buffer → CountsReady d g made buffer
      counts_ready b = record {
        some = some;
        few = omega (arith, few, sizes.count);
        room = omega (arith, sizes.count);
        fit = λ k h. below d some (get_or g k (pos 0)) (get_or made k 0) (all_elim _ g (pos 0) (accepted_cells r c d g a) k h) (omega (arith, made_at k h, firsts_small k h));
      }

      counts_are : counts_of d g made ≡ first_rounding r c d g
      unfolding wholes
      counts_are =
          tabulate_get_d (moved wholes firsts) (length g) (pos 0) _ (moved_length wholes firsts (length-map g (down d) ∙ sym firsts_length) ∙ length-map g (down d))
          (λ k h. sym (moved_at wholes firsts (length-map g (down d) ∙ sym firsts_length) k
          ∙ ap₂ plus (ap (get_or (map (down d) g) k) (ap pos (sym (zero-div d))) ∙ get_or-map (down d) g k (pos 0)) (sym (made_at k h))))
          ∙ sym is_moved

      pub counts_written : (buffer : List ℤ) {new : List ℤ} → new ≡ written (counts_of d g made) buffer → new ≡ written (first_rounding r c d g) buffer
      counts_written buffer n = n ∙ ap (λ (x : List ℤ). written x buffer) counts_are
