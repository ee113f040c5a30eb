-- What the readers of any bytes say on each way through their tests. Assumes nothing.
use Rattle.std.specs.Prelude.{Some, None}
use mathlib.Core.Path.{◌≡◌, sym}
use mathlib.Core.Bool.{true, false, and-false}
use mathlib.Core.List.{List}
use Prim.Native.Nat.{ℕ, ◌+◌, ◌*◌, ◌-◌, ◌<◌, ◌≤◌}
use native.Mathlib.Omega.{arith}
use lib.ListN.{length, take, drop}
use borrow.Author.Tests.{lt-leb, le-leb, lt-ltb, le-ltb}
use Rattle.byte_numbers.specs.Bytes.{number}
use Rattle.form.specs.Form.{amount_of, offset_of, count_of}
use Rattle.view.specs.Find.{has_entry, found_weight, found_count}
use Rattle.byte_numbers.proofs.Numbers.{part_number_lem}

module _ (b : List ℕ) (k : ℕ) where
  there : k ≤ 170 → 16 + 8 * k ≤ length b → has_entry b k ≡ true
  there h l = simp (le-leb k 170 h, le-leb (16 + 8 * k) (length b) l)

  pub weight_found : k ≤ 170 → 16 + 8 * k ≤ length b → (x : ℕ) → x ≡ amount_of b k → Some x ≡ found_weight b k
  unfolding found_weight
  weight_found h l x e = simp (there h l, e)

  module _ (i : ℕ) where
    pub no_entry : false ≡ has_entry b k → None ≡ found_count b k i
    unfolding found_count
    no_entry h = simp (sym h)

    pub no_cell : 144 ≤ i → None ≡ found_count b k i
    unfolding found_count
    no_cell h = simp (le-ltb i 144 h, and-false)

    -- the place lies beyond the bytes
    pub beyond : length b < offset_of b k + 2 * i + 2 → None ≡ found_count b k i
    unfolding found_count
    beyond h = simp (lt-leb (offset_of b k + 2 * i + 2) (length b) h, and-false)

    -- a count that stands among the bytes
    pub count_stands : true ≡ has_entry b k → i < 144 → offset_of b k + 2 * i + 2 ≤ length b → (x : ℕ) → x ≡ count_of b k i → Some x ≡ found_count b k i
    unfolding found_count
    count_stands t m n x e = simp (sym t, lt-ltb i 144 m, le-leb (offset_of b k + 2 * i + 2) (length b) n, e)

    pub count_there : k ≤ 170 → 16 + 8 * k ≤ length b → i < 144 → offset_of b k + 2 * i + 2 ≤ length b → (x : ℕ) → x ≡ count_of b k i → Some x ≡ found_count b k i
    count_there h l = count_stands (sym (there h l))

    -- a count that is read in the body that an offset points to
    module _ {at : ℕ} (a : at ≡ offset_of b k) where
      pub count_found_lem : k ≤ 170 → 16 + 8 * k ≤ length b → i < 144 → at ≤ length b - (2 * i + 2) → 2 * i + 2 ≤ length b
          → (x : ℕ) → x ≡ number 2 (take (length b - at) (drop at b)) (2 * i) → Some x ≡ found_count b k i
      count_found_lem h l m n o x e = count_there h l m (omega arith) x (part_number_lem b at (offset_of b k) a 2 (2 * i) x e)
