-- What parsing a text says on each way through its tests. Assumes nothing.
use Rattle.std.specs.Prelude.{Option, Some, None}
use mathlib.Core.Path.{◌≡◌, refl, sym, ap, ap₂, ◌∙◌}
use mathlib.Core.Bool.{Bool, true, false, cond, ◌&&◌}
use mathlib.Core.Logic.{◌⊎◌, inl, inr}
use mathlib.Core.List.{List, [], ◌∷◌, ◌++◌, append_assoc, append-nil}
use Prim.Native.Nat.{ℕ, suc, ◌+◌, ◌-◌, ◌*◌, ◌<◌, ◌≤◌}
use native.Mathlib.Decide.{dec_lt}
use native.Mathlib.Numerals.{add-one}
use native.Mathlib.Omega.{arith}
use borrow.Author.Count.{below_more}
use borrow.Author.Tests.{le-leb, lt-leb, leb-true, ne_eqb}
use lib.ListN.{length, get_or, set, drop, replicate, length-append, drop_of_length-le}
use lib.Seq.{drop-cons, get_or-append_seam, set-append_seam}
use lib.Dec.{leb}
use Rattle.std.specs.Int.{from_bool}
use Rattle.base.specs.Lists.{all}
use Rattle.base.proofs.Lists.{and_left, and_both, all_intro, all_fails, all_append}
use Rattle.parsing.specs.Text.{is_digit, is_gap, is_text, is_number, numbers_from, parse}
use Rattle.parsing.specs.declared.Numbers.{Numbers}
use Rattle.parsing.specs.Clauses.{padded, parsed_of}

-- 48 is the least digit
pub digit_least : (x : ℕ) → is_digit x ≡ true → 48 ≤ x
digit_least x h = leb-true 48 x (and_left (leb 48 x) (leb x 57) h)

-- the tests of a byte
module _ (x : ℕ) where
  pub digit_test : 48 ≤ x → x ≤ 57 → is_digit x ≡ true
  digit_test a b = rw (le-leb 48 x a, le-leb x 57 b) refl

  below_digits : x < 48 → is_digit x ≡ false
  below_digits h = rw (lt-leb 48 x h) refl

  not_digit : (48 ≤ x → 58 ≤ x) → is_digit x ≡ false
  not_digit h = go (dec_lt x 48)
    where
      go : Dec (x < 48) → is_digit x ≡ false
      go (yes l) = below_digits l
      go (no m) = rw (le-leb 48 x (omega arith), lt-leb x 57 (h (omega arith))) refl

  gap_no_digit : (x ≡ 10) ⊎ (x ≡ 32) → is_digit x ≡ false
  gap_no_digit (inl e) = below_digits (omega arith)
  gap_no_digit (inr e) = below_digits (omega arith)

  gap_test : (x ≡ 10) ⊎ (x ≡ 32) → is_gap x ≡ true
  gap_test (inl e) = rw e refl
  gap_test (inr e) = rw e refl

  not_gap : ((x ≡ 10) ⊎ (x ≡ 32) → ⊥) → is_gap x ≡ false
  not_gap h = rw (ne_eqb x 32 (λ e. h (inr e)), ne_eqb x 10 (λ e. h (inl e))) refl

-- the number that is being read, if any: its digits so far, as a list and as a value
abbrev held_in : Option ℕ → List ℕ
held_in None = []
held_in (Some v) = v ∷ []

abbrev value_in : Option ℕ → ℕ
value_in None = 0
value_in (Some v) = v

abbrev is_some : Option ℕ → Bool
is_some None = false
is_some (Some v) = true

-- a digit, another byte and the end of the text
from_digit : (o : Option ℕ) (x : ℕ) (l : List ℕ) → is_digit x ≡ true → numbers_from o (x ∷ l) ≡ numbers_from (Some (value_in o * 10 + (x - 48))) l
unfolding numbers_from
from_digit None x l h = rw h (ap (λ (v : ℕ). numbers_from (Some v) l) (omega arith))
from_digit (Some v) x l h = rw (h, numbers_from)

from_gap : (o : Option ℕ) (x : ℕ) (l : List ℕ) → is_digit x ≡ false → numbers_from o (x ∷ l) ≡ held_in o ++ numbers_from None l
unfolding numbers_from
from_gap None x l h = rw h
from_gap (Some v) x l h = rw (h, numbers_from)

from_end : (o : Option ℕ) → numbers_from o [] ≡ held_in o
unfolding numbers_from
from_end None = refl
from_end (Some v) = refl

and_no : (a : Bool) {b : Bool} → b ≡ false → (a && b) ≡ false
and_no true e = e
and_no false e = refl

-- a number that is too large stays so
from_large : (l : List ℕ) (v : ℕ) → 4294967295 < v → all is_number (numbers_from (Some v) l) ≡ false
unfolding all numbers_from
from_large [] v h = rw (lt-leb v 4294967295 h)
from_large (x ∷ l) v h = go (is_digit x) (from_large l (v * 10 + (x - 48)) (omega arith))
  where
    go : (b : Bool) → all is_number (numbers_from (Some (v * 10 + (x - 48))) l) ≡ false
        → all is_number (elim b [ true ↦ numbers_from (Some (v * 10 + (x - 48))) l | false ↦ v ∷ numbers_from None l ]) ≡ false
    go true e = e
    go false e = rw (lt-leb v 4294967295 h)

-- the array of the numbers
module _ (n : List ℕ) (h : length n < 2048) where
  padded_cut : (o : Option ℕ) → padded (n ++ held_in o) ≡ n ++ (value_in o ∷ replicate (2047 - length n) 0)
  padded_cut None =
      let e : 2048 - length n ≡ suc (2047 - length n) = omega arith in
      ap padded (append-nil n) ∙ ap (λ (k : ℕ). n ++ replicate k 0) e
  padded_cut (Some v) =
      let e : 2048 - length (n ++ (v ∷ [])) ≡ 2047 - length n = omega (arith, length-append n (v ∷ [])) in
      append_assoc n (v ∷ []) _ ∙ ap (λ (k : ℕ). n ++ (v ∷ replicate k 0)) e

  padded_value : (o : Option ℕ) → get_or (padded (n ++ held_in o)) (length n) 0 ≡ value_in o
  padded_value o = ap (λ (l : List ℕ). get_or l (length n) 0) (padded_cut o) ∙ get_or-append_seam n (value_in o) _ 0

  padded_set : (o : Option ℕ) (v : ℕ) → set (padded (n ++ held_in o)) (length n) v ≡ padded (n ++ (v ∷ []))
  padded_set o v = ap (λ (l : List ℕ). set l (length n) v) (padded_cut o) ∙ set-append_seam n (value_in o) _ v ∙ sym (padded_cut (Some v))

-- the bytes before place i are read: the numbers that ended, and the one that is being read
pub record Scanned (s : List ℕ) (i : ℕ) (reading : Bool) (count : ℕ) (numbers : List ℕ) : Type 0 where
  pub done : List ℕ
  pub last : Option ℕ
  pub is_reading : reading ≡ is_some last
  pub counted : count ≡ length done
  pub held : numbers ≡ padded (done ++ held_in last)
  pub found : numbers_from None s ≡ done ++ numbers_from last (drop i s)
  pub clean : (k : ℕ) → k < i → is_text (get_or s k 0) ≡ true
  pub small : all is_number (done ++ held_in last) ≡ true
  pub few : 2 * count + from_bool reading ≤ i
  pub short : length s ≤ 4096
  pub inside : i ≤ length s

small_more : (l k : List ℕ) (n : ℕ) → all is_number (l ++ k) ≡ true → n ≤ 4294967295 → all is_number (l ++ (n ∷ [])) ≡ true
unfolding all
small_more l k n e h =
    all_append is_number l (n ∷ []) ∙ and_both (and_left (all is_number l) (all is_number k) (sym (all_append is_number l k) ∙ e)) (rw (le-leb n 4294967295 h))

held_size : (o : Option ℕ) → length (held_in o) ≡ from_bool (is_some o)
held_size None = refl
held_size (Some v) = refl

size_small : (b : Bool) → from_bool b ≤ 1
size_small true = omega arith
size_small false = omega arith

pub scanned_none : (s : List ℕ) → length s ≤ 4096 → Scanned s 0 false 0 (replicate 2048 0)
unfolding all
scanned_none s h = record {
  done = [];
  last = None;
  is_reading = refl;
  counted = refl;
  held = refl;
  found = refl;
  clean = λ k l. absurd (omega arith);
  small = refl;
  few = omega arith;
  short = h;
  inside = omega arith;
}

-- the tests of `parse`
cond_none : (b : Bool) → ◌≡◌ {A = Option (List ℕ)} (cond b None None) None
cond_none true = refl
cond_none false = refl

module _ (s : List ℕ) where
  parse_long : 4096 < length s → parse s ≡ None
  unfolding parse
  parse_long h = rw (lt-leb (length s) 4096 h)

  parse_other : all is_text s ≡ false → parse s ≡ None
  unfolding parse
  parse_other h = simp (h, cond_none)

  parse_few : length (numbers_from None s) < 3 → parse s ≡ None
  unfolding parse
  parse_few h = simp (lt-leb 3 (length (numbers_from None s)) h, cond_none)

  parse_large : all is_number (numbers_from None s) ≡ false → parse s ≡ None
  unfolding parse
  parse_large h = simp (h, cond_none)

  parse_accepted : length s ≤ 4096 → all is_text s ≡ true → 3 ≤ length (numbers_from None s) → all is_number (numbers_from None s) ≡ true → parse s ≡ Some (numbers_from None s)
  unfolding parse
  parse_accepted h t n l = simp (le-leb (length s) 4096 h, t, le-leb 3 (length (numbers_from None s)) n, l)

  pub too_long : 4096 < length s → ◌≡◌ {A = Option Numbers} None (parsed_of (parse s))
  too_long h = sym (ap parsed_of (parse_long h))

module _ {s : List ℕ} {i : ℕ} {reading : Bool} {count : ℕ} {numbers : List ℕ} (w : Scanned s i reading count numbers) where
  pub scanned_same : {n : List ℕ} {c : ℕ} {r : Bool} → n ≡ numbers → c ≡ count → r ≡ reading → Scanned s i r c n
  scanned_same e f g = rw (e, f, g) w

  module _ (l : i < length s) where
    pub scanned_room : count < 2048
    scanned_room = omega (arith, w.few, w.short)

    value_is : get_or numbers count 0 ≡ value_in w.last
    value_is = ap₂ (λ (n : List ℕ) (k : ℕ). get_or n k 0) w.held w.counted ∙ padded_value w.done (omega (arith, w.counted, scanned_room)) w.last

    found_here : numbers_from None s ≡ w.done ++ numbers_from w.last (get_or s i 0 ∷ drop (i + 1) s)
    found_here = w.found ∙ ap (λ (r : List ℕ). w.done ++ numbers_from w.last r) (drop-cons s i 0 l ∙ ap (λ (k : ℕ). get_or s i 0 ∷ drop k s) (sym (add-one i)))

    clean_more : is_text (get_or s i 0) ≡ true → (k : ℕ) → k < i + 1 → is_text (get_or s k 0) ≡ true
    clean_more h = below_more (λ (k : ℕ). is_text (get_or s k 0) ≡ true) i w.clean h

    module _ (low : 48 ≤ get_or s i 0) (high : get_or s i 0 ≤ 57) where
      digit : is_digit (get_or s i 0) ≡ true
      digit = digit_test (get_or s i 0) low high

      found_digit : (n : ℕ) → n ≡ get_or numbers count 0 * 10 + (get_or s i 0 - 48) → numbers_from None s ≡ w.done ++ numbers_from (Some n) (drop (i + 1) s)
      found_digit n e =
          found_here
          ∙ ap (λ (r : List ℕ). w.done ++ r) (from_digit w.last (get_or s i 0) (drop (i + 1) s) digit)
          ∙ ap (λ (v : ℕ). w.done ++ numbers_from (Some v) (drop (i + 1) s)) (ap (λ (v : ℕ). v * 10 + (get_or s i 0 - 48)) (sym value_is) ∙ sym e)

      pub too_large : 4294967295 < get_or numbers count 0 * 10 + (get_or s i 0 - 48) → ◌≡◌ {A = Option Numbers} None (parsed_of (parse s))
      too_large h =
          let n = get_or numbers count 0 * 10 + (get_or s i 0 - 48) in
          let f : all is_number (numbers_from None s) ≡ false =
          ap (all is_number) (found_digit n refl) ∙ all_append is_number w.done _ ∙ and_no (all is_number w.done) (from_large (drop (i + 1) s) n h) in
          sym (ap parsed_of (parse_large s f))

      pub scanned_digit : (n : ℕ) → n ≡ get_or numbers count 0 * 10 + (get_or s i 0 - 48) → n ≤ 4294967295 → Scanned s (i + 1) true count (set numbers count n)
      scanned_digit n e h = record {
        done = w.done;
        last = Some n;
        is_reading = refl;
        counted = w.counted;
        held = ap₂ (λ (r : List ℕ) (k : ℕ). set r k n) w.held w.counted ∙ padded_set w.done (omega (arith, w.counted, scanned_room)) w.last n;
        found = found_digit n e;
        clean = clean_more (rw digit refl);
        small = small_more w.done (held_in w.last) n w.small h;
        few = omega (arith, w.few);
        short = w.short;
        inside = omega arith;
      }

    pub other_byte : (48 ≤ get_or s i 0 → 58 ≤ get_or s i 0) → ((get_or s i 0 ≡ 10) ⊎ (get_or s i 0 ≡ 32) → ⊥) → ◌≡◌ {A = Option Numbers} None (parsed_of (parse s))
    other_byte d g =
        let f : is_text (get_or s i 0) ≡ false = rw (not_digit (get_or s i 0) d) (not_gap (get_or s i 0) g) in
        sym (ap parsed_of (parse_other s (all_fails is_text s 0 i l f)))

    pub scanned_gap : (get_or s i 0 ≡ 10) ⊎ (get_or s i 0 ≡ 32) → (k : ℕ) → k ≡ from_bool reading → Scanned s (i + 1) false (count + k) numbers
    scanned_gap g k e = record {
      done = w.done ++ held_in w.last;
      last = None;
      is_reading = refl;
      counted = sym (length-append w.done (held_in w.last) ∙ ap₂ ◌+◌ (sym w.counted) (held_size w.last ∙ ap from_bool (sym w.is_reading) ∙ sym e));
      held = w.held ∙ ap padded (sym (append-nil (w.done ++ held_in w.last)));
      found = found_here ∙ ap (λ (r : List ℕ). w.done ++ r) (from_gap w.last (get_or s i 0) (drop (i + 1) s) (gap_no_digit (get_or s i 0) g)) ∙ sym (append_assoc w.done (held_in w.last) _);
      clean = clean_more (rw (gap_no_digit (get_or s i 0) g) (gap_test (get_or s i 0) g));
      small = rw (append-nil (w.done ++ held_in w.last)) w.small;
      few = omega (arith, w.few, size_small reading);
      short = w.short;
      inside = omega arith;
    }

  module _ (m : length s ≤ i) (k : ℕ) (ke : k ≡ from_bool reading) where
    all_found : numbers_from None s ≡ w.done ++ held_in w.last
    all_found = w.found ∙ ap (λ (r : List ℕ). w.done ++ numbers_from w.last r) (drop_of_length-le s m) ∙ ap (λ (r : List ℕ). w.done ++ r) (from_end w.last)

    count_found_lem : count + k ≡ length (numbers_from None s)
    count_found_lem = sym (ap length all_found ∙ length-append w.done (held_in w.last) ∙ ap₂ ◌+◌ (sym w.counted) (held_size w.last ∙ ap from_bool (sym w.is_reading) ∙ sym ke))

    pub too_few : count + k < 3 → ◌≡◌ {A = Option Numbers} None (parsed_of (parse s))
    too_few h = sym (ap parsed_of (parse_few s (omega (arith, count_found_lem))))

    pub accepted_text : 3 ≤ count + k → ◌≡◌ {A = Option Numbers} (Some (record { count = count + k; numbers = numbers })) (parsed_of (parse s))
    accepted_text h =
        let t : all is_text s ≡ true = all_intro is_text s 0 (λ j l. w.clean j (omega arith)) in
        let a = parse_accepted s w.short t (omega (arith, count_found_lem)) (ap (all is_number) all_found ∙ w.small) in
        let r : numbers ≡ padded (numbers_from None s) = w.held ∙ ap padded (sym all_found) in
        ap₂ {C = Option Numbers} (λ (c : ℕ) (n : List ℕ). Some (record { count = c; numbers = n })) count_found_lem r ∙ sym (ap parsed_of a)
