-- What stands where in a stored plan. Assumes nothing.
use mathlib.Core.Path.{◌≡◌, refl, ◌∙◌}
use mathlib.Core.List.{List, ◌++◌}
use Prim.Native.Nat.{ℕ, suc, ◌+◌, ◌*◌, ◌<◌, ◌≤◌}
use native.Mathlib.Nat.{mul_comm}
use native.Mathlib.Omega.{arith}
use lib.ListN.{length, get_or, length-append}
use Rattle.base.specs.Lists.{join_to}
use Rattle.weighted_arrays.specs.Plan.{Plan, array_at}
use Rattle.byte_numbers.specs.Bytes.{bytes}
use Rattle.form.specs.Form.{head, contents_entry, body_at, plan_length, amount_in, encode}
use Rattle.byte_numbers.proofs.Held.{length_bytes, length_numbers}
use Rattle.base.proofs.Joins.{length_join, Holds, holds_all, holds_left, holds_right, holds_part}

pub length_head : (r c k : ℕ) → length (head r c k) ≡ 8
unfolding head bytes
length_head r c k = refl

pub length_entry : (amount offset : ℕ) → length (contents_entry amount offset) ≡ 8
unfolding contents_entry bytes
length_entry amount offset = refl

-- the four parts of a stored plan
module _ (p : Plan) where
  abbrev r : ℕ
  r = p.rows

  abbrev c : ℕ
  c = p.columns

  abbrev k : ℕ
  k = length p.arrays

  abbrev count_in : ℕ → ℕ → ℕ
  count_in j i = get_or (array_at p.arrays j).counts i 0

  abbrev contents : List ℕ
  contents = join_to (k + 1) (λ i. contents_entry (amount_in p i) (body_at r c k i))

  abbrev table : List ℕ
  table = join_to (r * c) (λ i. bytes 4 (get_or p.cells i 0))

  abbrev body : ℕ → List ℕ
  body j = join_to (r * c) (λ i. bytes 2 (count_in j i))

  abbrev bodies : List ℕ
  bodies = join_to k body

  length_contents : length contents ≡ 8 * (k + 1)
  length_contents = length_join (k + 1) 8 _ (λ i. length_entry _ _) ∙ mul_comm (k + 1) 8

  length_table : length table ≡ 4 * (r * c)
  length_table = length_numbers (r * c) 4 (λ i. get_or p.cells i 0)

  length_bodies : length bodies ≡ k * (2 * (r * c))
  length_bodies = length_join k (2 * (r * c)) _ (λ j. length_numbers (r * c) 2 (count_in j))

  pub encode_length : length (encode p) ≡ plan_length r c k
  unfolding encode
  encode_length =
      simp length-append (omega (arith, length_head r c k, length_contents, length_table, length_bodies))

  all_parts : Holds (encode p) 0 (head r c k ++ contents ++ table ++ bodies)
  unfolding encode
  all_parts = holds_all (encode p)

  at_contents : Holds (encode p) 8 contents
  at_contents = holds_right (head r c k) (holds_left table (holds_left bodies all_parts)) (omega (arith, length_head r c k))

  at_table : Holds (encode p) (body_at r c k 0) table
  at_table = holds_right (head r c k ++ contents) (holds_left bodies all_parts) (simp length-append (omega (arith, length_head r c k, length_contents)))

  at_bodies : Holds (encode p) (body_at r c k 0 + 4 * (r * c)) bodies
  at_bodies = holds_right (head r c k ++ contents ++ table) all_parts
      (simp length-append (omega (arith, length_head r c k, length_contents, length_table)))

  -- entry i of the contents
  pub holds_entry : (i : ℕ) → i ≤ k → Holds (encode p) (8 + 8 * i) (contents_entry (amount_in p i) (body_at r c k i))
  holds_entry i l = holds_part (k + 1) 8 _ (λ i. length_entry _ _) at_contents i (omega arith) (omega arith)

  -- cell i of the table
  pub holds_cell : (i : ℕ) → i < r * c → Holds (encode p) (body_at r c k 0 + 4 * i) (bytes 4 (get_or p.cells i 0))
  holds_cell i l = holds_part (r * c) 4 _ (λ i. length_bytes 4 _) at_table i l (omega arith)

  -- body j of the arrays, and its cell i
  holds_body : (j : ℕ) → j < k → Holds (encode p) (body_at r c k (suc j)) (body j)
  holds_body j l = holds_part k (2 * (r * c)) body (λ j. length_numbers (r * c) 2 (count_in j)) at_bodies j l refl

  pub holds_count : (j i : ℕ) → j < k → i < r * c → Holds (encode p) (body_at r c k (suc j) + 2 * i) (bytes 2 (count_in j i))
  holds_count j i l m = holds_part (r * c) 2 _ (λ i. length_bytes 2 _) (holds_body j l) i m (omega arith)
