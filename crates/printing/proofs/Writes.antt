-- Bytes written into a buffer, one part after another. Assumes nothing.
use mathlib.Core.Path.{◌≡◌, refl, sym, ap, ◌∙◌}
use mathlib.Core.Logic.{⊎_elim}
use mathlib.Core.List.{List, [], ◌∷◌, ◌++◌}
use Prim.Native.Nat.{ℕ, zero, suc, ◌+◌, ◌-◌, ◌/◌, ◌%◌, ◌<◌, ◌≤◌}
use native.Mathlib.Nat.{eq-or-lt_of_le, le_of_suc-le-suc}
use native.Mathlib.Numerals.{add-one}
use native.Mathlib.Omega.{arith}
use lib.ListN.{length, set, take, drop, length-append}
use lib.Seq.{length-take-le}
use Rattle.base.specs.Lists.{join_to}
use Rattle.base.proofs.Puts.{length_put, put_then, put_start, put_one, put_nothing, put_part}
use Rattle.printing.specs.Lines.{decimal}
use Rattle.printing.specs.Clauses.{Room, gap_before}
use Rattle.printing.specs.Write.{Wrote}
use Rattle.printing.proofs.Decimals.{decimal_small, decimal_more}

module _ (out : List ℕ) (at : ℕ) where
  pub wrote_none : Wrote out at [] out at
  wrote_none = record { next = omega arith; buffer = put_nothing out at }

  pub wrote_byte : (b : ℕ) → at + 1 ≤ length out → Wrote out at (b ∷ []) (set out at b) (at + 1)
  wrote_byte b h = record { next = refl; buffer = put_one out at b h }

  -- copied over the part that they take
  pub wrote_copied : (s : List ℕ) → Wrote out at s (take at out ++ (s ++ drop (at + length s - at) (drop at out))) (at + length s)
  wrote_copied s = record { next = refl; buffer = put_part out s at _ (omega arith) }

-- a buffer keeps its length
pub wrote_length : {out : List ℕ} {at : ℕ} {s after : List ℕ} {end : ℕ} → Wrote out at s after end → Room out at s → length after ≡ length out
wrote_length {out} {at} {s} w h = ap length w.buffer ∙ length_put out at s h.fits

-- what was written from the start on lies inside the buffer
module _ {out s after : List ℕ} {r : ℕ} (w : Wrote out 0 s after r) where
  pub wrote_inside : r ≤ length after
  wrote_inside = omega (arith, w.next, ap length (w.buffer ∙ put_start out s), length-append s (drop (length s) out))

  pub wrote_part : r ≡ length (take r after)
  wrote_part = sym (length-take-le r after wrote_inside)

-- what is written next, if both fit
module _ (s t : List ℕ) {out : List ℕ} {at : ℕ} (h : Room out at (s ++ t)) where
  pub room_first : Room out at s
  room_first = record { fits = omega (arith, h.fits, length-append s t) }

  module _ {after : List ℕ} {end : ℕ} (w : Wrote out at s after end) where
    pub room_then : Room after end t
    room_then = record { fits = omega (arith, h.fits, w.next, length-append s t, wrote_length w room_first) }

    pub wrote_then : {last : List ℕ} {r : ℕ} → Wrote after end t last r → Wrote out at (s ++ t) last r
    wrote_then {last} v = record {
      next = omega (arith, w.next, v.next, length-append s t);
      buffer = put_then out at s t after last w.buffer v.buffer w.next (omega (arith, w.next, h.fits, length-append s t));
    }

-- a loop that writes f 0, f 1, .. up to f (n - 1)
pub join_more : (f : ℕ → List ℕ) (k : ℕ) → join_to (k + 1) f ≡ join_to k f ++ f k
unfolding join_to
join_more f k = ap (λ (i : ℕ). join_to i f) (add-one k)

join_length : (f : ℕ → List ℕ) (k n : ℕ) → k ≤ n → length (join_to k f) ≤ length (join_to n f)
unfolding join_to
join_length f k zero h = let e : k ≡ zero = omega arith in rw e (omega arith)
join_length f k (suc n) h = ⊎_elim
    (λ e. rw e (omega arith))
    (λ l. omega (arith, join_length f k n (le_of_suc-le-suc l), length-append (join_to n f) (f n)))
    (eq-or-lt_of_le h)

-- the first k of n parts, which make up s, are written, and s fits
pub record Writing (f : ℕ → List ℕ) (n k : ℕ) (s out : List ℕ) (at : ℕ) (after : List ℕ) (end : ℕ) : Type 0 where
  pub whole : join_to n f ≡ s
  pub room : Room out at s
  pub below : k ≤ n
  pub wrote : Wrote out at (join_to k f) after end

pub writing_none : (f : ℕ → List ℕ) (n : ℕ) {s out : List ℕ} {at : ℕ} → join_to n f ≡ s → Room out at s → Writing f n 0 s out at out at
unfolding join_to
writing_none f n {out = out} {at = at} e h = record { whole = e; room = h; below = omega arith; wrote = wrote_none out at }

module _ {f : ℕ → List ℕ} {n k : ℕ} {s out : List ℕ} {at : ℕ} {after : List ℕ} {end : ℕ} (w : Writing f n k s out at after end) where
  pub writing_length : length after ≡ length out
  writing_length = wrote_length w.wrote (record { fits = omega (arith, w.room.fits, ap length w.whole, join_length f k n w.below) })

  pub writing_all : n ≤ k → Wrote out at s after end
  writing_all l =
      let e : k ≡ n = omega (arith, w.below) in
      rw (ap (λ (i : ℕ). join_to i f) e ∙ w.whole) at w.wrote

  module _ (l : k < n) where
    here : Room out at (join_to k f ++ f k)
    here = record { fits = omega (arith, w.room.fits, ap length w.whole, ap length (join_more f k), join_length f (k + 1) n (omega arith)) }

    pub writing_room : Room after end (f k)
    writing_room = room_then (join_to k f) (f k) here w.wrote

    pub writing_more : {last : List ℕ} {r : ℕ} → Wrote after end (f k) last r → Writing f n (k + 1) s out at last r
    writing_more v = record { whole = w.whole; room = w.room; below = omega arith; wrote = rw (join_more f k) (wrote_then (join_to k f) (f k) here w.wrote v) }

-- a number, digit by digit
module _ (x : ℕ) {out : List ℕ} {at : ℕ} (h : Room out at (decimal x)) where
  pub small_room : x < 10 → at + 1 ≤ length out
  small_room s = (rw (decimal_small x s) at h).fits

  pub small_wrote : x < 10 → {last : List ℕ} {r : ℕ} → Wrote out at ((48 + x) ∷ []) last r → Wrote out at (decimal x) last r
  small_wrote s w = rw (decimal_small x s) w

  module _ (t : 10 ≤ x) (b : x < 18446744073709551616) where
    split : Room out at (decimal (x / 10) ++ ((48 + x % 10) ∷ []))
    split = rw (decimal_more x t b) at h

    pub tenth_room : Room out at (decimal (x / 10))
    tenth_room = room_first (decimal (x / 10)) _ split

    module _ {after : List ℕ} {end : ℕ} (w : Wrote out at (decimal (x / 10)) after end) where
      pub last_room : end + 1 ≤ length after
      last_room = (room_then (decimal (x / 10)) _ split w).fits

      pub last_wrote : {last : List ℕ} {r : ℕ} → Wrote after end ((48 + x % 10) ∷ []) last r → Wrote out at (decimal x) last r
      last_wrote v = rw (decimal_more x t b) (wrote_then (decimal (x / 10)) _ split w v)

-- a number of a line, with the space before it
later : (i : ℕ) → (i ≡ 0 → ⊥) → gap_before i ≡ 32 ∷ []
later zero h = absurd (h refl)
later (suc i) h = refl

module _ (i : ℕ) (x : List ℕ) {out : List ℕ} {at : ℕ} (h : Room out at (gap_before i ++ x)) (l : i ≡ 0 → ⊥) where
  both : Room out at ((32 ∷ []) ++ x)
  both = rw (later i l) at h

  pub later_wrote : {after last : List ℕ} {end r : ℕ} → Wrote out at (32 ∷ []) after end → Wrote after end x last r → Wrote out at (gap_before i ++ x) last r
  later_wrote w v = rw (later i l) (wrote_then (32 ∷ []) x both w v)
