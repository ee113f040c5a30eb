-- The line of a plan, part by part. Assumes nothing.
use Rattle.std.specs.Prelude.{Option, Some, None}
use mathlib.Core.Path.{◌≡◌, refl, sym, ◌∙◌}
use mathlib.Core.List.{List, [], ◌∷◌, ◌++◌, append_assoc}
use Prim.Native.Nat.{ℕ, ◌+◌, ◌≤◌}
use native.Mathlib.Omega.{arith}
use lib.IntN.{ℤ, pos, sub_ℕ}
use lib.ListN.{length, length-append}
use Rattle.refusals.specs.declared.Refusal.{Refusal}
use Rattle.refusals.specs.Numbers.{number_of}
use Rattle.refusals.specs.Due.{refused_or}
use Rattle.form.specs.Form.{decode}
use Rattle.opening.specs.Open.{open_refusal}
use Rattle.covariances.specs.Covariance.{lift}
use Rattle.variances.specs.declared.Numerators.{Numerators}
use Rattle.variances.specs.Variance.{numerators}
use Rattle.variances.specs.Clauses.{numerators_of}
use Rattle.printing.specs.Lines.{decimal, spaced, line, refused}
use Rattle.printing.specs.Clauses.{Room}
use Rattle.printing.specs.Write.{Wrote}
use Rattle.printing.proofs.Decimals.{decimal_most}
use Rattle.printing.proofs.Writes.{room_first, room_then, wrote_then}
use Rattle.variance_text.specs.VarianceText.{signed, rest_of_line, plan_text}
use Rattle.variance_text.specs.Write.{max_line}
use Rattle.variance_text.proofs.Signs.{signed_most}

-- a space, and what follows it
pub gap_wrote : (s : List ℕ) {out : List ℕ} {at : ℕ} → Room out at (32 ∷ s) → {after : List ℕ} {end : ℕ} → Wrote out at (32 ∷ []) after end
    → {last : List ℕ} {r : ℕ} → Wrote after end s last r → Wrote out at (32 ∷ s) last r
gap_wrote s h w v = wrote_then (32 ∷ []) s h w v

-- the three numerators, each with the space before it, and the end of the line
module _ (n : Numerators) where
  abbrev one : List ℕ
  one = 32 ∷ decimal n.variances

  abbrev two : List ℕ
  two = 32 ∷ signed (sub_ℕ n.smallest lift)

  abbrev three : List ℕ
  three = 32 ∷ signed (sub_ℕ n.largest lift)

  rest_is : rest_of_line (numerators_of n) ≡ one ++ two ++ three ++ (10 ∷ [])
  unfolding rest_of_line signed
  rest_is = sym (append_assoc (one ++ two) three (10 ∷ []) ∙ append_assoc one two (three ++ (10 ∷ [])))

  module _ {out : List ℕ} {at : ℕ} (h : Room out at (rest_of_line (numerators_of n))) where
    all_parts : Room out at (one ++ two ++ three ++ (10 ∷ []))
    all_parts = rw rest_is at h

    up_to_three : Room out at (one ++ two ++ three)
    up_to_three = room_first (one ++ two ++ three) _ all_parts

    up_to_two : Room out at (one ++ two)
    up_to_two = room_first (one ++ two) _ up_to_three

    pub first_room : Room out at one
    first_room = room_first one two up_to_two

    module _ {o₁ : List ℕ} {e₁ : ℕ} (w₁ : Wrote out at one o₁ e₁) where
      pub second_room : Room o₁ e₁ two
      second_room = room_then one two up_to_two w₁

      module _ {o₂ : List ℕ} {e₂ : ℕ} (w₂ : Wrote o₁ e₁ two o₂ e₂) where
        two_wrote : Wrote out at (one ++ two) o₂ e₂
        two_wrote = wrote_then one two up_to_two w₁ w₂

        pub third_room : Room o₂ e₂ three
        third_room = room_then (one ++ two) three up_to_three two_wrote

        module _ {o₃ : List ℕ} {e₃ : ℕ} (w₃ : Wrote o₂ e₂ three o₃ e₃) where
          three_wrote : Wrote out at (one ++ two ++ three) o₃ e₃
          three_wrote = wrote_then (one ++ two) three up_to_three two_wrote w₃

          pub last_room : e₃ + 1 ≤ length o₃
          last_room = (room_then (one ++ two ++ three) _ all_parts three_wrote).fits

          pub rest_wrote : {o₄ : List ℕ} {r : ℕ} → Wrote o₃ e₃ (10 ∷ []) o₄ r → Wrote out at (rest_of_line (numerators_of n)) o₄ r
          rest_wrote v = rw rest_is (wrote_then (one ++ two ++ three) _ all_parts three_wrote v)

-- how long a line is at most
rest_cons : (z : ℤ) (l : List ℤ) → length (rest_of_line (z ∷ l)) ≤ 22 + length (rest_of_line l)
unfolding rest_of_line
rest_cons z l = omega (arith, signed_most z, length-append (signed z) (rest_of_line l))

rest_none : length (rest_of_line []) ≡ 1
unfolding rest_of_line
rest_none = refl

rest_most : (x y z : ℤ) → length (rest_of_line (x ∷ y ∷ z ∷ [])) ≤ 67
rest_most x y z = omega (arith, rest_cons x (y ∷ z ∷ []), rest_cons y (z ∷ []), rest_cons z [], rest_none)

pub line_most : (k : ℕ) (x y z : ℤ) → length (decimal k ++ rest_of_line (x ∷ y ∷ z ∷ [])) ≤ max_line
line_most k x y z = omega (arith, decimal_most k, rest_most x y z, length-append (decimal k) (rest_of_line (x ∷ y ∷ z ∷ [])))

-- the line, and room for it
module _ (k : ℕ) (n : Numerators) {out : List ℕ} (h : max_line ≤ length out) where
  whole : Room out 0 (decimal k ++ rest_of_line (numerators_of n))
  whole = record { fits = omega (arith, line_most k (pos n.variances) (sub_ℕ n.smallest lift) (sub_ℕ n.largest lift)) }

  pub number_room : Room out 0 (decimal k)
  number_room = room_first (decimal k) _ whole

  module _ {after : List ℕ} {end : ℕ} (w : Wrote out 0 (decimal k) after end) where
    pub numerators_room : Room after end (rest_of_line (numerators_of n))
    numerators_room = room_then (decimal k) _ whole w

    pub line_wrote : {last : List ℕ} {r : ℕ} → Wrote after end (rest_of_line (numerators_of n)) last r
        → Wrote out 0 (decimal k ++ rest_of_line (numerators_of n)) last r
    line_wrote v = wrote_then (decimal k) _ whole w v

-- a refusal is shorter
refusal_most : (n : ℕ) → length (refused n) ≤ max_line
unfolding refused line spaced
refusal_most n = omega (arith, length-append (decimal n) (10 ∷ []), decimal_most n)

pub refusal_room : (n : ℕ) {out : List ℕ} → max_line ≤ length out → Room out 0 (refused n)
refusal_room n h = record { fits = omega (arith, refusal_most n) }

pub text_most : (n : ℕ) (b : List ℕ) → length (plan_text n b) ≤ max_line
unfolding plan_text numerators
text_most n b = go (open_refusal b)
  where
    go : (o : Option Refusal) → length (refused_or (λ x. refused (number_of x)) (decimal n ++ rest_of_line (numerators (decode b))) o) ≤ max_line
    go None = line_most n _ _ _
    go (Some x) = refusal_most (number_of x)
