-- Laws on writing a plan that a caller holds in buffers. Assumes nothing.
use mathlib.Core.Path.{◌≡◌, refl, sym, ap, ◌∙◌}
use mathlib.Core.List.{List, ◌++◌}
use Prim.Native.Nat.{ℕ, zero, suc, ◌+◌, ◌*◌, ◌<◌}
use native.Mathlib.Omega.{arith}
use lib.ListN.{length, get_or, length-append}
use Rattle.base.specs.Lists.{tabulate, join_to}
use Rattle.base.specs.Buffers.{written, put_at}
use Rattle.base.proofs.Lists.{length_tabulate, get_d_tabulate}
use Rattle.base.proofs.Joins.{length_join, join_ext, join_join}
use Rattle.base.proofs.Puts.{put_then, put_start, Put, put_more}
use Rattle.form.specs.declared.Sizes.{Sizes}
use Rattle.weighted_arrays.specs.Plan.{Weighted, array_at}
use Rattle.byte_numbers.specs.Bytes.{bytes}
use Rattle.form.specs.Form.{head, contents_entry, body_at, amount_in, encode}
use Rattle.form.specs.Clauses.{Bounded}
use Rattle.form.proofs.Encodings.{length_entry, length_head}
use Rattle.byte_numbers.proofs.Held.{length_numbers}
use Rattle.writing.specs.Clauses.{buffered_array, buffered_plan, buffered_amount, buffered_entry, numbers, Listed, Writable}

-- the entries of the contents
module _ {s : Sizes} {weights old : List ℕ} (l : Listed s weights old) {i end : ℕ} (h : i < end) (q : end ≡ s.arrays + 1) where
  pub entries_more : (mid new : List ℕ) → Put old 8 (join_to i (buffered_entry s weights)) mid
      → (amount offset : ℕ) → amount ≡ buffered_amount s.denominator weights i → offset ≡ body_at s.rows s.columns s.arrays i
      → new ≡ put_at mid (8 + 8 * i) (contents_entry amount offset) → Put old 8 (join_to (i + 1) (buffered_entry s weights)) new
  entries_more mid new p amount offset f o e =
      put_more 8 (s.arrays + 1) old 8 _ i mid new (λ j. length_entry _ _) p (rw (f, o) at e) (omega arith) l.room

-- the bytes of a plan in buffers
module _ (s : Sizes) (g weights counts : List ℕ) where
  abbrev r : ℕ
  r = s.rows

  abbrev c : ℕ
  c = s.columns

  abbrev k : ℕ
  k = s.arrays

  abbrev held : ℕ → Weighted
  held = buffered_array (r * c) weights counts

  amount_held : (i : ℕ) → i < k + 1 → amount_in (buffered_plan s g weights counts) i ≡ buffered_amount s.denominator weights i
  amount_held zero l = refl
  amount_held (suc i) l = ap (λ (a : Weighted). a.weight) (get_d_tabulate k held i _ (omega arith))

  count_held : (j i : ℕ) → j < k → i < r * c → get_or (array_at (tabulate k held) j).counts i 0 ≡ get_or counts (j * (r * c) + i) 0
  count_held j i l m =
      ap (λ (a : Weighted). get_or a.counts i 0) (get_d_tabulate k held j _ l)
      ∙ get_d_tabulate (r * c) (λ i. get_or counts (j * (r * c) + i) 0) i 0 m

  encode_held : encode (buffered_plan s g weights counts)
      ≡ head r c k ++ join_to (k + 1) (buffered_entry s weights) ++ numbers 4 (r * c) g ++ numbers 2 (k * (r * c)) counts
  unfolding encode
  encode_held =
      let contents = join_ext (k + 1) _ (buffered_entry s weights) (λ i l. ap (λ (x : ℕ). contents_entry x (body_at r c k i)) (amount_held i l)) in
      let bodies =
      join_ext k _ _ (λ j l. join_ext (r * c) _ _ (λ i m. ap (bytes 2) (count_held j i l m)))
      ∙ sym (join_join k (r * c) (λ i. bytes 2 (get_or counts i 0)))
      in
      rw (length_tabulate k held, contents, bodies) refl

  -- the four parts, one after another
  module _ {old : List ℕ} (w : Writable s g weights counts old) where
    pub bounded : Bounded r c k
    bounded = record { rows = w.shape.rows; columns = w.shape.columns; arrays = w.arrays }

    pub listed : {plan : List ℕ} → length plan ≡ length old → Listed s weights plan
    listed e = record { sizes = bounded; weighed = w.weighed; room = omega (arith, w.room, e) }

    pub plan_written : (one two three new : List ℕ) (a b : ℕ)
        → one ≡ put_at old 0 (head r c k) → two ≡ put_at one 8 (join_to (k + 1) (buffered_entry s weights))
        → a ≡ body_at r c k 0 → three ≡ put_at two a (numbers 4 (length g) g) → b ≡ body_at r c k 1 → new ≡ put_at three b (numbers 2 (k * (r * c)) counts)
        → new ≡ written (encode (buffered_plan s g weights counts)) old
    plan_written one two three new a b e f p h q i =
        let first = head r c k in
        let second = join_to (k + 1) (buffered_entry s weights) in
        let third = numbers 4 (r * c) g in
        let n : length first ≡ 8 = length_head r c k in
        let m : length second ≡ (k + 1) * 8 = length_join (k + 1) 8 _ (λ j. length_entry _ _) in
        let t : length third ≡ 4 * (r * c) = length_numbers (r * c) 4 (λ j. get_or g j 0) in
        let both : length (first ++ second) ≡ length first + length second = length-append first second in
        let most : length (first ++ second ++ third) ≡ length (first ++ second) + length third = length-append (first ++ second) third in
        let x = put_then old 0 first second one two e f (omega arith) (omega (arith, w.room)) in
        let y = put_then old 0 (first ++ second) third two three x (rw w.shape.cells at h) (omega arith) (omega (arith, w.room)) in
        let z = put_then old 0 (first ++ second ++ third) _ three new y i (omega arith) (omega (arith, w.room)) in
        z ∙ put_start old _ ∙ ap (λ (l : List ℕ). written l old) (sym encode_held)
