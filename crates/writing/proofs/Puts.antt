-- Laws on the bytes of a plan that are put into a buffer one part after another. Assumes nothing.
use mathlib.Core.Path.{◌≡◌, refl, ap}
use mathlib.Core.List.{List}
use Prim.Native.Nat.{ℕ, ◌+◌, ◌*◌, ◌<◌, ◌≤◌}
use native.Mathlib.Omega.{arith}
use lib.ListN.{length, get_or, take}
use Rattle.std.proofs.lemmas.List.{get_or-take}
use Rattle.base.specs.Buffers.{put_at}
use Rattle.base.proofs.Puts.{put_then, Put, put_more}
use Rattle.base.proofs.Joins.{join_ext}
use Rattle.std.proofs.lemmas.List.{length-take-le}
use Rattle.byte_numbers.specs.Bytes.{bytes}
use Rattle.form.specs.Form.{head, contents_entry}
use Rattle.byte_numbers.proofs.Held.{length_bytes}
use Rattle.writing.specs.Clauses.{numbers}

-- an entry of the contents
module _ (old : List ℕ) (at : ℕ) where
  pub put_entry : (amount offset : ℕ) (mid new : List ℕ) → mid ≡ put_at old at (bytes 4 amount) → new ≡ put_at mid (at + 4) (bytes 4 offset)
      → at + 8 ≤ length old → new ≡ put_at old at (contents_entry amount offset)
  unfolding contents_entry
  put_entry amount offset mid new e f h = put_then old at _ _ mid new e f (omega (arith, length_bytes 4 amount)) (omega arith)

-- "Head, 8 bytes"
pub put_head : (r c k : ℕ) (old one two three four new : List ℕ) → one ≡ put_at old 0 (bytes 2 1) → two ≡ put_at one 2 (bytes 1 r)
    → three ≡ put_at two 3 (bytes 1 c) → four ≡ put_at three 4 (bytes 2 k) → new ≡ put_at four 6 (bytes 2 0) → 8 ≤ length old
    → new ≡ put_at old 0 (head r c k)
unfolding head bytes
put_head r c k old one two three four new e f g h i l =
    let a = put_then old 0 _ _ one two e f refl (omega arith) in
    let b = put_then old 0 _ _ two three a g refl (omega arith) in
    let d = put_then old 0 _ _ three four b h refl (omega arith) in
    put_then old 0 _ _ four new d i refl (omega arith)

pub numbers_more : (w n : ℕ) (l : List ℕ) (old : List ℕ) (at i : ℕ) (mid new : List ℕ) → Put old at (numbers w i l) mid
    → new ≡ put_at mid (at + w * i) (bytes w (get_or l i 0)) → i < n → at + w * n ≤ length old → Put old at (numbers w (i + 1) l) new
numbers_more w n l old at i mid new = put_more w n old at _ i mid new (λ j. length_bytes w _)

-- the first n numbers of a list
pub numbers_taken : (w n : ℕ) (l : List ℕ) → n ≤ length l → numbers w (length (take n l)) (take n l) ≡ numbers w n l
numbers_taken w n l h =
    rw (length-take-le n l h) (join_ext n _ _ (λ i m. ap (bytes w) (get_or-take n l i 0 m)))
