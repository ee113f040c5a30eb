-- The first array after a controlled rounding that lies between the bounds is the next one. Assumes nothing.
use Rattle.std.specs.Prelude.{Option, Some, None}
use mathlib.Core.Path.{◌≡◌, refl, sym, ap, ◌∙◌}
use mathlib.Core.Bool.{true, false, false≢true}
use mathlib.Core.List.{List}
use Prim.Native.Nat.{ℕ, ◌+◌, ◌*◌, ◌^◌, ◌<◌, ◌≤◌}
use native.Mathlib.Nat.{div-le_of_le-mul, mul_comm}
use native.Mathlib.Omega.{arith}
use lib.ListN.{get_or}
use mir.Syntax.{w32}
use mir.Val.{Fits}
use Rattle.base.specs.Buffers.{written}
use Rattle.table.specs.Table.{total, entry_places}
use Rattle.table.specs.Whole.{down}
use Rattle.table.specs.Clauses.{IsTable}
use Rattle.table.proofs.EntryPlaces.{entries_length, cell_at}
use Rattle.table.proofs.Totals.{total_cell}
use Rattle.is_rounding.specs.Rounding.{two_ways, is_rounding}
use Rattle.is_rounding.specs.Clauses.{Bounds}
use Rattle.is_rounding.proofs.Rounded.{held_rounding}
use Rattle.first_rounding.specs.Order.{Before}
use Rattle.first_rounding.proofs.Roundings.{rounding_length}
use Rattle.next_rounding.specs.Next.{Follows, next_rounding}
use Rattle.next_rounding.specs.Clauses.{Places, number_in, numbered, Small, IsNumbering, NumberReady, passes, NoneFrom, FirstFrom, NextReady, Found}
use Rattle.next_rounding.proofs.Following.{one_follows, next_follows}
use Rattle.next_rounding.proofs.Numbers.{numbered_length, number_of_array, count_least, count_most, number_below, array_of_number, before_less, less_before}
use Rattle.next_rounding.proofs.Loops.{power_few}

-- the bounds of a table
module _ {r c d : ℕ} {g : List ℕ} (t : IsTable r c d g) {low high : List ℕ} (b : Bounds (entry_places r c) d g low high) where
  pub low_is : (p : ℕ) → p < r * c → get_or low p 0 ≡ down d (get_or g p 0)
  low_is p h =
      b.lows p (omega (arith, entries_length r c))
      ∙ ap (down d) (ap (total g) (cell_at r c p h) ∙ total_cell g p)

  low_most : (p : ℕ) → p < r * c → get_or low p 0 ≤ 1000
  low_most p h =
      let most : get_or g p 0 ≤ d * 1000 = omega (arith, t.within p (omega (arith, t.shape.cells)), mul_comm d 1000) in
      omega (arith, low_is p h, div-le_of_le-mul d most)

  pub numbering : Small r c → {places : List ℕ} → Places r c places → IsNumbering r c places low high
  numbering s p = record { small = s; places_are = p; room = b.room; counts = low_most }

module _ {r c d : ℕ} {g n counts : List ℕ} (t : IsTable r c d g) (ready : NextReady r c d g n counts) {low high : List ℕ} (b : Bounds (entry_places r c) d g low high) where
  lows : (p : ℕ) → p < r * c → get_or low p 0 ≡ down d (get_or g p 0)
  lows = low_is t b

  pub number_ready : NumberReady r c low n
  number_ready = record {
    len = rounding_length t.shape d n ready.rounding;
    least = count_least t.shape d low lows n ready.rounding;
    most = count_most t.shape d low lows n ready.rounding;
  }

  -- an array passes just if it is a controlled rounding
  passes_is : (x : ℕ) → passes r c low high x ≡ is_rounding (two_ways r c) d g (numbered r c low x)
  passes_is x = held_rounding t (numbered r c low x) (numbered_length t.shape low x ∙ sym t.shape.cells) b refl

  module _ {m : ℕ} (is : m ≡ number_in r c low n) where
    pub number_fits : Fits w32 (m + 1)
    number_fits = record { fits = omega (arith, number_below t.shape d low lows n ready.rounding, power_few ready.small) }

    -- a controlled rounding after n has a number from m + 1 on, so it was not skipped
    not_skipped : {x : ℕ} → ((y : ℕ) → m + 1 ≤ y → y < x → passes r c low high y ≡ false)
        → (k : List ℕ) → is_rounding (two_ways r c) d g k ≡ true → Before r c n k → number_in r c low k < x → ⊥
    not_skipped skipped k h after l =
        let less : number_in r c low n < number_in r c low k = before_less t.shape d low lows n k ready.rounding h after in
        let array : numbered r c low (number_in r c low k) ≡ k = array_of_number t.shape d low lows k h in
        let passed : passes r c low high (number_in r c low k) ≡ true = passes_is (number_in r c low k) ∙ ap (is_rounding (two_ways r c) d g) array ∙ h in
        false≢true (sym (skipped (number_in r c low k) (omega arith) l) ∙ passed)

    is_next : (o : Option (List ℕ)) → Follows r c d g n o → next_rounding r c d g n ≡ o
    is_next o h = one_follows t.shape d n (next_rounding r c d g n) o (next_follows t.shape d n) h

    pub not_found : NoneFrom (passes r c low high) (m + 1) (2 ^ (r * c)) → Found (next_rounding r c d g n) counts false counts
    not_found f =
        let last : Follows r c d g n None =
        record { none_after = λ k i after. not_skipped f.skipped k i after (number_below t.shape d low lows k i) } in
        rw (is_next None last) (record { answer = refl; left = refl })

    module _ {x : ℕ} (f : FirstFrom (passes r c low high) (m + 1) (2 ^ (r * c)) x) where
      next : Follows r c d g n (Some (numbered r c low x))
      next =
          let rounds : is_rounding (two_ways r c) d g (numbered r c low x) ≡ true = sym (passes_is x) ∙ f.passes in
          let number : number_in r c low (numbered r c low x) ≡ x = number_of_array t.shape low x f.below in
          record {
            rounding = rounds;
            after = less_before t.shape d low lows n (numbered r c low x) ready.rounding rounds (omega (arith, f.least));
            none_between = λ k i after before. not_skipped f.skipped k i after
                (omega (arith, before_less t.shape d low lows k (numbered r c low x) i rounds before));
          }

      pub found : {new : List ℕ} → new ≡ written (numbered r c low x) counts → Found (next_rounding r c d g n) counts true new
      found w = rw (is_next (Some (numbered r c low x)) next) (record { answer = refl; left = w })
