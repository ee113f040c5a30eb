-- A plan that is read into a buffer in two parts: eight bytes, and as many more as these say. Assumes nothing.
use mathlib.Core.Path.{◌≡◌, sym, ap, ◌∙◌}
use mathlib.Core.List.{List, ◌++◌}
use Prim.Native.Nat.{ℕ, ◌+◌, ◌-◌, ◌<◌, ◌≤◌}
use native.Mathlib.Decide.{dec_lt}
use native.Mathlib.Omega.{arith}
use lib.ListN.{length, take, drop, length-append, length-drop}
use lib.Seq.{length-take-le, take-take, take_at}
use mir.Val.{Fits}
use mir.Syntax.{w64}
use Rattle.form.specs.Form.{max_length}
use Rattle.variance_text.specs.VarianceText.{to_read}
use Rattle.variance_text.specs.Read.{PlanLength, HasRead}
use Rattle.variance_text.proofs.Starts.{short_eight, read_least}

pub eight_count : (x : List ℕ) → max_length ≤ length x → 8 ≡ length (take 8 x)
eight_count x room = sym (length-take-le 8 x (omega arith))

-- the buffer has room for any plan; the first eight bytes of it become h, of which the first i were read
module _ (x h : List ℕ) (i : ℕ) (room : max_length ≤ length x) (kept : length h ≡ length (take 8 x)) (few : i ≤ length h) where
  eight : length h ≡ 8
  eight = kept ∙ sym (eight_count x room)

  first_length : length (h ++ drop 8 x) ≡ length x
  first_length = omega (arith, eight, length-append h (drop 8 x), length-drop 8 x)

  pub head_inside : i ≤ length (h ++ drop 8 x)
  head_inside = omega (arith, eight, first_length)

  pub head_count : i ≡ length (take i (h ++ drop 8 x))
  head_count = sym (length-take-le i (h ++ drop 8 x) head_inside)

  -- j of some bytes more were read into t
  pub sum_fits : (t : List ℕ) (j : ℕ) → j ≤ length t → length t ≤ max_length → Fits w64 (i + j)
  sum_fits t j more most = record { fits = omega (arith, eight) }

  -- the bytes from there on become t, of which the first j were read
  module _ (n : ℕ) (long : PlanLength (take i (h ++ drop 8 x)) n) (t : List ℕ) (j : ℕ) where
    module _ (same : length t ≡ length (take (n - 8) (drop 8 (h ++ drop 8 x)))) (more : j ≤ length t) where
      rest : length t ≡ n - 8
      rest = same ∙ length-take-le (n - 8) _ (omega (arith, length-drop 8 (h ++ drop 8 x), first_length, long.most))

      abbrev after : List ℕ
      after = take 8 (h ++ drop 8 x) ++ (t ++ drop (n - 8) (drop 8 (h ++ drop 8 x)))

      start : length (take 8 (h ++ drop 8 x)) ≡ 8
      start = length-take-le 8 (h ++ drop 8 x) (omega (arith, first_length))

      all_inside : i + j ≤ length after
      all_inside = omega (
        arith,
        eight,
        start,
        length-append (take 8 (h ++ drop 8 x)) (t ++ drop (n - 8) (drop 8 (h ++ drop 8 x))),
        length-append t (drop (n - 8) (drop 8 (h ++ drop 8 x))),
      )

      -- with fewer than eight bytes nothing more is read; else the first eight are still there
      no_more : Dec (i < 8) → i + j ≤ to_read (take 8 (take (i + j) after))
      no_more (yes s) =
          let e = short_eight (take i (h ++ drop 8 x)) (omega (arith, head_count)) in
          omega (arith, long.is, e, rest, read_least (take 8 (take (i + j) after)))
      no_more (no s) =
          let q : i ≡ 8 = omega (arith, eight) in
          let e : take 8 (take (i + j) after) ≡ take i (h ++ drop 8 x) =
          take-take 8 (i + j) after (omega arith) ∙ take_at (take 8 (h ++ drop 8 x)) _ 8 start ∙ ap (λ (k : ℕ). take k (h ++ drop 8 x)) (sym q) in
          omega (arith, long.is, ap to_read e, rest, long.least)

      pub has_read : HasRead after (i + j)
      has_read = record { inside = all_inside; no_more = no_more (dec_lt i 8) }
