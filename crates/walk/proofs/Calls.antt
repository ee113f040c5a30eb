-- The ways through the two calls. Assumes nothing.
use Rattle.std.specs.Prelude.{Option, Some, None, Result, Ok, Err, ⊤}
use mathlib.Core.Path.{◌≡◌, refl, sym, ap, ◌∙◌}
use mathlib.Core.Bool.{Bool, true, false, false≢true, not}
use mathlib.Core.List.{List, [], ◌∷◌, ◌++◌}
use Prim.Native.Nat.{ℕ, ◌*◌, ◌<◌, ◌≤◌}
use lib.ListN.{length}
use native.Mathlib.Omega.{arith}
use lib.Dec.{leb}
use borrow.Author.Tests.{le-leb, lt-ltb, le-ltb, leb-true, not-false}
use Rattle.base.specs.Buffers.{written}
use Rattle.base.proofs.Lists.{and_left, and_right}
use Rattle.refusals.specs.declared.Refusal.{Refusal}
use Rattle.refusals.specs.declared.Refusal.TheVariants.{LargeCell, Buffer, NotRounding}
use Rattle.refusals.specs.Due.{Test, refuse, due, answer_of, after, Answers}
use Rattle.refusals.proofs.Dues.{due_next, due_first, due_second, not_here, not_later}
use Rattle.table.specs.Check.{table_refusal, cells_within, size_test, denominator_test, count_test, BelowZero}
use Rattle.table.specs.Clauses.{answered, check_of, check_of_cells}
use Rattle.table.specs.declared.Table.{Table}
use Rattle.table.proofs.Checks.{answered_refused, answered_nothing, answered_sizes, passed_all, below_zero}
use Rattle.is_rounding.specs.Rounding.{two_ways, is_rounding}
use Rattle.first_rounding.specs.First.{first_rounding}
use Rattle.rounding.specs.Call.{round_refusal}
use Rattle.next_rounding.specs.Next.{next_rounding}
use Rattle.next_rounding.specs.Clauses.{Small, Found}
use Rattle.walk.specs.declared.Step.{Step}
use Rattle.walk.specs.declared.Step.TheVariants.{Next, Last}
use Rattle.walk.specs.Call.{walk_within, walk_size_test, walk_tests, room_test, array_tests, first_refusal, next_refusal, step_of, next_answer, next_left}
use Rattle.walk.specs.Clauses.{sides_check, walk_check}

-- 1 and 15, whatever else is tested after them
module _ (r c : ℕ) {k : Result ⊤ Refusal} (e : k ≡ sides_check r c) where
  abbrev sides : List Test
  sides = size_test r c ∷ walk_size_test r c ∷ []

  sides_due : {x : Refusal} → k ≡ Err x → (l : List Test) → due (size_test r c ∷ walk_size_test r c ∷ l) ≡ Some x
  unfolding sides_check answer_of
  sides_due {x} h l = due_first sides l x (go (due sides) (sym h ∙ e))
    where
      go : (o : Option Refusal) → Err x ≡ answer_of o → o ≡ Some x
      go None q = absurd (let z : ◌≡◌ {A = ℕ} 0 1 = cc in omega arith)
      go (Some y) q = cc

  small_due : k ≡ Ok tt → (l : List Test) → due (size_test r c ∷ walk_size_test r c ∷ l) ≡ due (size_test r c ∷ l)
  unfolding sides_check answer_of
  small_due h l =
      let nothing = go (due sides) (sym h ∙ e) in
      due_second sides l nothing ∙ sym (due_next (size_test r c) l (not_here (size_test r c) (walk_size_test r c ∷ []) nothing))
    where
      go : (o : Option Refusal) → Ok tt ≡ answer_of o → o ≡ None
      go None q = refl
      go (Some y) q = absurd (let z : ◌≡◌ {A = ℕ} 0 1 = cc in omega arith)

module _ (r c d : ℕ) (g : List ℕ) where
  -- the refusals of a table that come after
  abbrev later : List Test
  later = denominator_test d ∷ count_test (length g) (r * c) ∷ refuse LargeCell (not (cells_within d g)) ∷ []

  -- the check, and the first call, in which the table's own follows
  module _ {k : Result ⊤ Refusal} (e : k ≡ sides_check r c) where
    pub large_refused : {x : Refusal} → k ≡ Err x → walk_check r c d g ≡ Err x
    unfolding walk_check
    large_refused h = ap (answered r c d) (sides_due r c e h later)

    pub small_checked : k ≡ Ok tt → check_of r c d g ≡ walk_check r c d g
    unfolding walk_check check_of check_of_cells
    small_checked h = ap (answered r c d) (sym (small_due r c e h later))

    pub first_refused : {x : Refusal} → k ≡ Err x → (room : ℕ) → first_refusal r c d g room ≡ Some x
    unfolding first_refusal
    first_refused h room = sides_due r c e h (later ++ (room_test r c room ∷ []))

    pub first_rounds : k ≡ Ok tt → {old new : List ℕ} {a : Result ⊤ Refusal}
        → Answers (round_refusal r c d g (length old)) (written (first_rounding r c d g) old) old a new
        → Answers (first_refusal r c d g (length old)) (written (first_rounding r c d g) old) old a new
    unfolding first_refusal round_refusal
    first_rounds h {old} q = rw (small_due r c e h (later ++ (room_test r c (length old) ∷ []))) q

  -- where nothing is due, the table is accepted, and small
  module _ (h : due (walk_tests r c d g) ≡ None) where
    nothing_table : table_refusal r c d g ≡ None
    unfolding table_refusal
    nothing_table =
        due_next (size_test r c) later (not_here (size_test r c) (walk_size_test r c ∷ later) h)
        ∙ not_later (walk_size_test r c) later (not_later (size_test r c) (walk_size_test r c ∷ later) h)

    within : walk_within r c ≡ true
    within = not-false _ (not_here (walk_size_test r c) later (not_later (size_test r c) (walk_size_test r c ∷ later) h))

    nothing_small : Small r c
    nothing_small =
        let s = (passed_all r c d g nothing_table).shape in
        record {
          some_rows = s.some_rows;
          rows = leb-true r 4 (and_left (leb r 4) (leb c 4) within);
          some_columns = s.some_columns;
          columns = leb-true c 4 (and_right (leb r 4) (leb c 4) within);
        }

-- what the check's answer says
module _ (r c d : ℕ) (g : List ℕ) where
  not_taken : {x : Refusal} → walk_check r c d g ≡ Err x → due (walk_tests r c d g) ≡ Some x
  unfolding walk_check
  not_taken {x} h = answered_refused r c d (due (walk_tests r c d g)) x (sym h)

  pub next_refused : (n : List ℕ) (room : ℕ) {x : Refusal} → walk_check r c d g ≡ Err x → next_refusal r c d g n room ≡ Some x
  unfolding next_refusal
  next_refused n room {x} h = due_first (walk_tests r c d g) (array_tests r c d g n room) x (not_taken h)

  module _ {t : Table} (h : walk_check r c d g ≡ Ok t) where
    nothing : due (walk_tests r c d g) ≡ None
    unfolding walk_check
    nothing = answered_nothing r c d (due (walk_tests r c d g)) t (sym h)

    sizes : t ≡ record { rows = r; columns = c; denominator = d }
    unfolding walk_check
    sizes = answered_sizes r c d (due (walk_tests r c d g)) t (sym h)

    many : length g ≡ r * c
    many = (passed_all r c d g (nothing_table r c d g nothing)).shape.cells

    pub is_small : Small t.rows t.columns
    is_small = rw sizes (nothing_small r c d g nothing)

    -- the second
    module _ (n : List ℕ) {b : Bool} (f : b ≡ is_rounding (two_ways t.rows t.columns) t.denominator g n) where
      tested : b ≡ is_rounding (two_ways r c) d g n
      tested = rw sizes at f

      pub no_rounding : b ≡ false → (room : ℕ) → next_refusal r c d g n room ≡ Some NotRounding
      unfolding next_refusal due
      no_rounding l room = due_second (walk_tests r c d g) (array_tests r c d g n room) nothing ∙ simp (sym tested ∙ l)

      module _ (l : b ≡ true) where
        module _ (room : ℕ) where
          pub next_short : room < length g → next_refusal r c d g n room ≡ Some Buffer
          unfolding next_refusal due
          next_short s =
              let m : room < r * c = omega (arith, many) in
              due_second (walk_tests r c d g) (array_tests r c d g n room) nothing ∙ simp (sym tested ∙ l, lt-ltb room (r * c) m)

          pub next_enough : length g ≤ room → next_refusal r c d g n room ≡ None
          unfolding next_refusal due
          next_enough s =
              let m : r * c ≤ room = omega (arith, many) in
              due_second (walk_tests r c d g) (array_tests r c d g n room) nothing ∙ simp (sym tested ∙ l, le-ltb room (r * c) m)

    pub found_so : (n : List ℕ) {old new : List ℕ} {b : Bool} → Found (next_rounding t.rows t.columns t.denominator g n) old b new
        → Found (next_rounding r c d g n) old b new
    found_so n f = rw sizes at f

-- the answer of the second call and its buffer, by what is due
module _ (r c d : ℕ) (g n old : List ℕ) where
  pub refused_answer : {x : Refusal} → next_refusal r c d g n (length old) ≡ Some x → Err x ≡ next_answer r c d g n (length old)
  unfolding next_answer
  refused_answer h = rw h refl

  pub refused_left : {x : Refusal} → next_refusal r c d g n (length old) ≡ Some x → old ≡ next_left r c d g n old
  unfolding next_left after
  refused_left h = rw h refl

  module _ (h : next_refusal r c d g n (length old) ≡ None) {b : Bool} {new : List ℕ} (f : Found (next_rounding r c d g n) old b new) where
    pub found_left : new ≡ next_left r c d g n old
    unfolding next_left after
    found_left = rw h f.left

    pub next_so : b ≡ true → Ok Next ≡ next_answer r c d g n (length old)
    unfolding next_answer
    next_so e = rw h (go (next_rounding r c d g n) f)
      where
        go : (o : Option (List ℕ)) → Found o old b new → ◌≡◌ {A = Result Step Refusal} (Ok Next) (Ok (step_of o))
        go (Some k) s = refl
        go None s = absurd (false≢true (sym s.answer ∙ e))

    pub last_so : b ≡ false → Ok Last ≡ next_answer r c d g n (length old)
    unfolding next_answer
    last_so e = rw h (go (next_rounding r c d g n) f)
      where
        go : (o : Option (List ℕ)) → Found o old b new → ◌≡◌ {A = Result Step Refusal} (Ok Last) (Ok (step_of o))
        go (Some k) s = absurd (false≢true (sym e ∙ s.answer))
        go None s = refl

-- an accepted table that is small, a controlled rounding of it and a buffer with room: nothing is due
module _ (r c d : ℕ) (g : List ℕ) (h : table_refusal r c d g ≡ None) (hr : r ≤ 4) (hc : c ≤ 4) where
  size_fits : (size_test r c).applies ≡ false
  unfolding table_refusal
  size_fits = not_here (size_test r c) (later r c d g) h

  nothing_due : due (walk_tests r c d g) ≡ None
  unfolding table_refusal
  nothing_due =
      due_next (size_test r c) (walk_size_test r c ∷ later r c d g) size_fits
      ∙ due_next (walk_size_test r c) (later r c d g) (simp (le-leb r 4 hr, le-leb c 4 hc))
      ∙ not_later (size_test r c) (later r c d g) h

  pub nothing_first : (room : ℕ) → r * c ≤ room → first_refusal r c d g room ≡ None
  unfolding first_refusal due
  nothing_first room l = due_second (walk_tests r c d g) (room_test r c room ∷ []) nothing_due ∙ simp (le-ltb room (r * c) l)

  pub nothing_next : (n : List ℕ) → is_rounding (two_ways r c) d g n ≡ true → (room : ℕ) → r * c ≤ room → next_refusal r c d g n room ≡ None
  unfolding next_refusal due
  nothing_next n i room l =
      due_second (walk_tests r c d g) (array_tests r c d g n room) nothing_due
      ∙ simp (i, le-ltb room (r * c) l)

-- a cell below zero in a small table is 4, whatever else is lent
module _ (r c d : ℕ) (g : List ℕ) (hr : r ≤ 4) (hc : c ≤ 4) (z : BelowZero r c d g) where
  four : due (walk_tests r c d g) ≡ Some LargeCell
  unfolding table_refusal
  four =
      let size = not_here (size_test r c) (denominator_test d ∷ count_test (length g) (r * c) ∷ []) z.sizes in
      due_next (size_test r c) (walk_size_test r c ∷ later r c d g) size
      ∙ due_next (walk_size_test r c) (later r c d g) (simp (le-leb r 4 hr, le-leb c 4 hc))
      ∙ sym (due_next (size_test r c) (later r c d g) size) ∙ below_zero r c d g z

  pub first_below_zero : (room : ℕ) → first_refusal r c d g room ≡ Some LargeCell
  unfolding first_refusal
  first_below_zero room = due_first (walk_tests r c d g) (room_test r c room ∷ []) LargeCell four

  pub next_below_zero : (n : List ℕ) (room : ℕ) → next_refusal r c d g n room ≡ Some LargeCell
  unfolding next_refusal
  next_below_zero n room =
      due_first (walk_tests r c d g) (array_tests r c d g n room) LargeCell four
