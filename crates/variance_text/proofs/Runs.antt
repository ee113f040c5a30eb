-- Plans one after another: what each adds to the text, and how an input is cut into them. Assumes nothing.
use mathlib.Core.Path.{◌≡◌, refl, sym, ap, ◌∙◌}
use mathlib.Core.Bool.{Bool, true, false, cond, ◌&&◌}
use mathlib.Core.List.{List, [], ◌∷◌, ◌++◌, append_assoc, append-nil}
use Prim.Native.Nat.{ℕ, zero, suc, ◌+◌, ◌-◌, ◌≤◌}
use native.Mathlib.Omega.{arith}
use lib.ListN.{length, take, drop, take-append-drop, length-drop}
use lib.Seq.{take-add}
use Rattle.base.specs.Lists.{all}
use Rattle.base.proofs.Lists.{and_left, and_right}
use Rattle.variance_text.specs.VarianceText.{plan_text, goes_on, printed_from, to_read, plans_to, plans_of, joined}
use Rattle.variance_text.proofs.Starts.{read_least}

module _ (n : ℕ) (b : List ℕ) (l : List (List ℕ)) where
  printed_on : goes_on b ≡ true → printed_from n (b ∷ l) ≡ plan_text n b ++ printed_from (suc n) l
  unfolding printed_from
  printed_on h = simp h

  printed_last : goes_on b ≡ false → printed_from n (b ∷ l) ≡ plan_text n b
  unfolding printed_from
  printed_last h = simp h (append-nil (plan_text n b))

printed_one : (n : ℕ) (b : List ℕ) → printed_from n (b ∷ []) ≡ plan_text n b
unfolding printed_from
printed_one n b = go (goes_on b)
  where
    go : (t : Bool) → plan_text n b ++ cond t [] [] ≡ plan_text n b
    go true = append-nil (plan_text n b)
    go false = append-nil (plan_text n b)

-- while all plans open, each adds its own text
pub printed_more : (n : ℕ) (l : List (List ℕ)) (b : List ℕ) → all goes_on l ≡ true
    → printed_from n (l ++ (b ∷ [])) ≡ printed_from n l ++ plan_text (n + length l) b
unfolding all printed_from
printed_more n [] b h = let e : n ≡ n + 0 = omega arith in printed_one n b ∙ ap (λ (k : ℕ). plan_text k b) e
printed_more n (x ∷ l) b h =
    let here : goes_on x ≡ true = and_left (goes_on x) (all goes_on l) h in
    let later = printed_more (suc n) l b (and_right (goes_on x) (all goes_on l) h) in
    let e : suc n + length l ≡ n + suc (length l) = omega arith in
    printed_on n x (l ++ (b ∷ [])) here
    ∙ ap (λ s. plan_text n x ++ s) (later ∙ ap (λ (k : ℕ). printed_from (suc n) l ++ plan_text k b) e)
    ∙ sym (append_assoc (plan_text n x) (printed_from (suc n) l) (plan_text (n + suc (length l)) b))
    ∙ ap (λ s. s ++ plan_text (n + suc (length l)) b) (sym (printed_on n x l here))

-- after one that does not open, nothing is printed
pub printed_ended : (n : ℕ) (l m : List (List ℕ)) → all goes_on l ≡ false → printed_from n (l ++ m) ≡ printed_from n l
unfolding all
printed_ended n [] m h = absurd (let z : ◌≡◌ {A = ℕ} 0 1 = cc in omega arith)
printed_ended n (x ∷ l) m h = go (goes_on x) refl h (λ e. printed_ended (suc n) l m e)
  where
    go : (t : Bool) → goes_on x ≡ t → (t && all goes_on l) ≡ false → (all goes_on l ≡ false → printed_from (suc n) (l ++ m) ≡ printed_from (suc n) l)
        → printed_from n (x ∷ (l ++ m)) ≡ printed_from n (x ∷ l)
    go true e k f = printed_on n x (l ++ m) e ∙ ap (λ s. plan_text n x ++ s) (f k) ∙ sym (printed_on n x l e)
    go false e k f = printed_last n x (l ++ m) e ∙ sym (printed_last n x l e)

-- an input's plans make it up again
plans_whole : (n : ℕ) (s : List ℕ) → length s ≤ n → joined (plans_to n s) ≡ s
unfolding plans_to joined
plans_whole zero [] h = refl
plans_whole zero (x ∷ s) h = absurd (omega arith)
plans_whole (suc n) [] h = refl
plans_whole (suc n) (x ∷ s) h =
    let k = to_read (take 8 (x ∷ s)) in
    let few : length (drop k (x ∷ s)) ≤ n = omega (arith, length-drop k (x ∷ s), read_least (take 8 (x ∷ s))) in
    ap (λ r. take k (x ∷ s) ++ r) (plans_whole n (drop k (x ∷ s)) few) ∙ take-append-drop k (x ∷ s)

pub input_whole : (s : List ℕ) → joined (plans_of s) ≡ s
input_whole s = plans_whole (length s) s (omega arith)

-- the first eight bytes and as many more as they say are the first plan
pub plan_parts : (s : List ℕ) → take 8 s ++ take (to_read (take 8 s) - 8) (drop 8 s) ≡ take (to_read (take 8 s)) s
plan_parts s =
    let e : 8 + (to_read (take 8 s) - 8) ≡ to_read (take 8 s) = omega (arith, read_least (take 8 s)) in
    sym (take-add 8 (to_read (take 8 s) - 8) s) ∙ ap (λ (k : ℕ). take k s) e
