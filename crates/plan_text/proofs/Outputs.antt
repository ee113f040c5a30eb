-- What is printed of a table's plan, and of the numbers of a text. Assumes nothing.
use Rattle.std.specs.Prelude.{Option, Some, None, Result, Ok, Err}
use mathlib.Core.Path.{◌≡◌, refl, sym, ap, ◌∙◌}
use mathlib.Core.Bool.{true}
use mathlib.Core.List.{List, ◌++◌}
use Prim.Native.Nat.{ℕ, ◌-◌, ◌≤◌}
use native.Mathlib.Omega.{arith}
use lib.ListN.{length, get_or, take, drop, replicate, length-append}
use lib.Seq.{take_at}
use Rattle.refusals.specs.declared.Refusal.{Refusal}
use Rattle.refusals.specs.Numbers.{number_of}
use Rattle.refusals.specs.Due.{due, refused_or, after}
use Rattle.table.specs.Check.{table_refusal}
use Rattle.table.proofs.Tables.{refused_table, refused_nothing}
use Rattle.form.specs.Form.{max_length, laid_out, decode}
use Rattle.opening.proofs.Opening.{opens_layout}
use Rattle.plan.specs.Call.{plan_bytes, plan_tests, plan_refusal, plan_answer, PlanAnswers}
use Rattle.plan.proofs.Planning.{promised}
use Rattle.table.proofs.Checks.{passed_all}
use Rattle.printing.specs.Lines.{refused}
use Rattle.printing.specs.Write.{Wrote}
use Rattle.parsing.specs.declared.Numbers.{Numbers}
use Rattle.parsing.specs.Clauses.{padded, parsed_of}
use Rattle.parsing.specs.Text.{parse}
use Rattle.plan_text.specs.Text.{listing, refused_text, table_output, printed, output}
use Rattle.parsing.proofs.Answers.{accepted_count, padded_at, padded_part}

-- the first n bytes of a buffer are laid out, and list what is printed
pub record Listed (n : ℕ) (new s : List ℕ) : Type 0 where
  pub inside : n ≤ length new
  pub len : n ≡ length (take n new)
  pub laid : laid_out (take n new) ≡ true
  pub lists : listing (decode (take n new)) ≡ s

-- what the call "plan" left, in a buffer with room for any plan
module _ {r c d : ℕ} {g old new : List ℕ} {p : Result ℕ Refusal} (f : PlanAnswers r c d g old p new) (room : max_length ≤ length old) where
  -- with so much room nothing is due but what the table gives
  due_so : plan_refusal r c d g (length old) ≡ table_refusal r c d g
  unfolding plan_refusal
  due_so = go (table_refusal r c d g) refl
    where
      go : (o : Option Refusal) → table_refusal r c d g ≡ o → due (plan_tests r c d g (length old)) ≡ table_refusal r c d g
      go None e = refused_nothing r c d g (length old) _ e (omega (arith, (promised (passed_all r c d g e)).len_high)) ∙ sym e
      go (Some x) e = refused_table r c d g (length old) _ x e ∙ sym e

  told : p ≡ refused_or Err (Ok (length (plan_bytes r c d g))) (table_refusal r c d g)
  unfolding plan_answer
  told = f.answer ∙ ap (refused_or Err (Ok (length (plan_bytes r c d g)))) due_so

  pub refusal_printed : (x : Refusal) → p ≡ Err x → (out after : List ℕ) (end : ℕ) → Wrote out 0 (refused (number_of x)) after end
      → Wrote out 0 (table_output r c d g) after end
  refusal_printed x h out after end w = rw (go (table_refusal r c d g) refl) at w
    where
      go : (o : Option Refusal) → table_refusal r c d g ≡ o → refused (number_of x) ≡ table_output r c d g
      go None e = let a = told in let z : ◌≡◌ {A = ℕ} 0 1 = cc in absurd (omega arith)
      go (Some y) e = let a = told in let q : x ≡ y = cc in ap (λ z. refused (number_of z)) q ∙ rw e refl

  pub plan_listed : (n : ℕ) → p ≡ Ok n → Listed n new (table_output r c d g)
  unfolding after
  plan_listed n h = go (table_refusal r c d g) refl
    where
      rest : List ℕ
      rest = drop (length (plan_bytes r c d g)) old

      go : (o : Option Refusal) → table_refusal r c d g ≡ o → Listed n new (table_output r c d g)
      go (Some x) e = let a = told in let z : ◌≡◌ {A = ℕ} 0 1 = cc in absurd (omega arith)
      go None e =
          let a = told in
          let m : n ≡ length (plan_bytes r c d g) = cc in
          let q : new ≡ plan_bytes r c d g ++ rest = rw (due_so, e) at f.buffer in
          let b : take n new ≡ plan_bytes r c d g = ap (take n) q ∙ take_at (plan_bytes r c d g) rest n (sym m) in
          let k = promised (passed_all r c d g e) in
          record {
            inside = omega (arith, m, ap length q, length-append (plan_bytes r c d g) rest);
            len = m ∙ ap length (sym b);
            laid = ap laid_out b ∙ opens_layout (plan_bytes r c d g) k.opening;
            lists = ap listing (ap decode b ∙ k.decodes) ∙ rw e refl;
          }

pub listing_printed : {n : ℕ} {new s : List ℕ} → Listed n new s → (out after : List ℕ) (end : ℕ)
    → Wrote out 0 (listing (decode (take n new))) after end → Wrote out 0 s after end
listing_printed l out after end w = rw l.lists at w

-- the numbers of an accepted text, as its answer holds them
pub record Held (p : Numbers) (s : List ℕ) : Type 0 where
  pub enough : 3 ≤ p.count
  pub inside : p.count ≤ length p.numbers
  pub prints : table_output (get_or p.numbers 0 0) (get_or p.numbers 1 0) (get_or p.numbers 2 0) (take (p.count - 3) (drop 3 p.numbers)) ≡ output s

module _ (s : List ℕ) {r : Option Numbers} (e : r ≡ parsed_of (parse s)) where
  refused_one : (o : Option (List ℕ)) → r ≡ parsed_of o → r ≡ None → refused_text ≡ printed o
  refused_one None q h = refl
  refused_one (Some n) q h = let o : ◌≡◌ {A = ℕ} 0 1 = cc in absurd (omega arith)

  pub text_refused : r ≡ None → {out after : List ℕ} {end : ℕ} → Wrote out 0 refused_text after end → Wrote out 0 (output s) after end
  unfolding output
  text_refused h w = rw (refused_one (parse s) e h) at w

  module _ {p : Numbers} (h : r ≡ Some p) where
    held_by : (o : Option (List ℕ)) → parse s ≡ o → r ≡ parsed_of o → Held p s
    unfolding output
    held_by None a q = let o : ◌≡◌ {A = ℕ} 0 1 = cc in absurd (omega arith)
    held_by (Some n) a q =
        let k = accepted_count s n a in
        let is : p ≡ record { count = length n; numbers = padded n } = cc in
        rw is (record {
          enough = k.0;
          inside = omega (arith, length-append n (replicate (2048 - length n) 0));
          prints = simp (padded_at n 0 (omega arith), padded_at n 1 (omega arith), padded_at n 2 (omega arith), padded_part n 3 k.0, a);
        })

    pub numbers_held : Held p s
    numbers_held = held_by (parse s) refl e

pub table_printed : {p : Numbers} {s : List ℕ} → Held p s → {out after : List ℕ} {end : ℕ}
    → Wrote out 0 (table_output (get_or p.numbers 0 0) (get_or p.numbers 1 0) (get_or p.numbers 2 0) (take (p.count - 3) (drop 3 p.numbers))) after end
    → Wrote out 0 (output s) after end
table_printed l w = rw l.prints at w
