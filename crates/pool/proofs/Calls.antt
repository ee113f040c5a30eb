-- The ways through the call "pool". Assumes nothing.
use Rattle.std.specs.Prelude.{Some, None, Result, Ok, Err, ⊤}
use mathlib.Core.Path.{◌≡◌, sym, ap, ◌∙◌}
use mathlib.Core.Bool.{Bool, true, false, not, ◌||◌}
use mathlib.Core.List.{List, [], ◌∷◌}
use Prim.Native.Nat.{ℕ, ◌*◌, ◌<◌, ◌≤◌}
use native.Mathlib.Omega.{arith}
use lib.ListN.{length, set}
use lib.Dec.{ltb}
use borrow.Author.Tests.{lt-ltb, le-ltb, not-true, not-false}
use Rattle.base.specs.Buffers.{written}
use Rattle.base.proofs.Buffers.{one_set}
use Rattle.refusals.specs.declared.Refusal.{Refusal}
use Rattle.refusals.specs.declared.Refusal.TheVariants.{Multiple, PooledCell, Buffer}
use Rattle.refusals.specs.Due.{refuse, due, Answers}
use Rattle.refusals.proofs.Dues.{due_first, due_second, refused_so, accepted_so}
use Rattle.table.specs.Check.{cells_within}
use Rattle.multiples.specs.Multiple.{least_multiple}
use Rattle.pool.specs.declared.check.Pair.{Pair}
use Rattle.pool.specs.declared.Scale.{Scale}
use Rattle.pool.specs.Pool.{pooled_cells, parts_tests, pooling_tests, pooling_refusal, pool_refusal, Lent, lent, pooled_into}
use Rattle.pool.specs.Clauses.{parts_answer, Denominators, scale_of, Scaled, Writable}
use Rattle.pool.proofs.Checking.{Both, both, PairTaken, parts_refused, parts_taken}
use Rattle.pool.proofs.Scales.{cells_of, scale_scaled}
use Rattle.pool.proofs.Pooling.{multiple_due, cell_due, nothing_due}

-- the call's answer, by what is due
module _ (r c d : ℕ) (g : List ℕ) (e : ℕ) (h numbers cells : List ℕ) where
  abbrev Says : Result ⊤ Refusal → Lent → Type 0
  Says a new = Answers (pool_refusal r c d g e h (length numbers) (length cells)) (pooled_into d g e h (lent numbers cells)) (lent numbers cells) a new

  refused_by : {x : Refusal} → pooling_refusal r c d g e h ≡ Some x → Says (Err x) (lent numbers cells)
  unfolding pool_refusal pooling_refusal
  refused_by {x} q = refused_so (due_first (pooling_tests r c d g e h) _ x q)

  -- 7, where nothing else is due
  module _ (free : pooling_refusal r c d g e h ≡ None) where
    buffer_by : pool_refusal r c d g e h (length numbers) (length cells) ≡ due (refuse Buffer (ltb (length numbers) 1 || ltb (length cells) (r * c)) ∷ [])
    unfolding pool_refusal pooling_refusal
    buffer_by = due_second (pooling_tests r c d g e h) _ free

    short_numbers : length numbers < 1 → Says (Err Buffer) (lent numbers cells)
    unfolding due
    short_numbers l = refused_so (buffer_by ∙ simp (lt-ltb (length numbers) 1 l))

    module _ (some : 1 ≤ length numbers) where
      short_cells : length cells < r * c → Says (Err Buffer) (lent numbers cells)
      unfolding due
      short_cells l = refused_so (buffer_by ∙ simp (le-ltb (length numbers) 1 some, lt-ltb (length cells) (r * c) l))

      both_written : {x : ℕ} {new : List ℕ} → r * c ≤ length cells → x ≡ least_multiple d e → new ≡ written (pooled_cells d g e h) cells
          → Says (Ok tt) (lent (set numbers 0 x) new)
      unfolding due
      both_written {x} {new} l p q =
          accepted_so (buffer_by ∙ simp (le-ltb (length numbers) 1 some, le-ltb (length cells) (r * c) l))
          (let a : set numbers 0 x ≡ written (least_multiple d e ∷ []) numbers = one_set numbers x some ∙ ap (λ (y : ℕ). written (y ∷ []) numbers) p in cc)

-- what the code knows of two parts that were accepted, of their scale and of their pooled cells
module _ (r c d : ℕ) (g : List ℕ) (e : ℕ) (h : List ℕ) {k : Result Pair Refusal} (is : k ≡ parts_answer r c d g e h) {p : Pair} (q : k ≡ Ok p) where
  told : PairTaken r c d g e h is p
  told = parts_taken r c d g e h is q

  tables : Both r c d g e h
  tables = both r c d g e h told.nothing_due

  denominators : Denominators d e
  denominators = record {
    some_first = tables.first.some_denominator;
    first = tables.first.denominator;
    some_second = tables.second.some_denominator;
    second = tables.second.denominator;
  }

  pub pair_denominators : Denominators p.first p.second
  pair_denominators = rw told.sizes denominators

  module _ {s : Scale} (z : s ≡ scale_of p.cells p.first p.second) where
    scale_is : s ≡ scale_of (r * c) d e
    scale_is = rw told.sizes at z

    pub cells_scaled : Scaled s g h
    cells_scaled = rw scale_is (scale_scaled denominators (r * c) g h (tables.first.shape.cells ∙ sym tables.second.shape.cells))

    pub multiple_above : 65535 < s.denominator → pooling_refusal r c d g e h ≡ Some Multiple
    multiple_above l = multiple_due r c d g e h told.nothing_due (rw scale_is at l)

    module _ (low : s.denominator ≤ 65535) {b : Bool} (w : b ≡ cells_within s.denominator (cells_of s g h)) where
      within_is : b ≡ cells_within (least_multiple d e) (pooled_cells d g e h)
      unfolding pooled_cells
      within_is = rw scale_is at w

      pub cell_above : not b ≡ true → pooling_refusal r c d g e h ≡ Some PooledCell
      cell_above n = cell_due r c d g e h told.nothing_due (rw scale_is at low) (sym within_is ∙ not-true b n)

      module _ (n : not b ≡ false) where
        pub none_above : pooling_refusal r c d g e h ≡ None
        none_above = nothing_due r c d g e h told.nothing_due (rw scale_is at low) (sym within_is ∙ not-false b n)

        pub can_write : (cells : List ℕ) → s.cells ≤ length cells → Writable s g h cells
        can_write cells room = record {
          scaled = cells_scaled;
          denominator_small = low;
          within = sym w ∙ not-false b n;
          room = let l : r * c ≤ length cells = rw scale_is at room in omega (arith, tables.first.shape.cells);
        }

-- the ways through the call
module _ (r c d : ℕ) (g : List ℕ) (e : ℕ) (h numbers cells : List ℕ) {k : Result Pair Refusal} (is : k ≡ parts_answer r c d g e h) where
  pub parts_stop : {x : Refusal} → k ≡ Err x → Says r c d g e h numbers cells (Err x) (lent numbers cells)
  unfolding pooling_refusal
  parts_stop {x} q = refused_by r c d g e h numbers cells (due_first (parts_tests r c d g e h) _ x (parts_refused r c d g e h is q))

  module _ {p : Pair} (q : k ≡ Ok p) {s : Scale} (z : s ≡ scale_of p.cells p.first p.second) where
    pub multiple_stops : 65535 < s.denominator → Says r c d g e h numbers cells (Err Multiple) (lent numbers cells)
    multiple_stops l = refused_by r c d g e h numbers cells (multiple_above r c d g e h is q z l)

    module _ (low : s.denominator ≤ 65535) {b : Bool} (w : b ≡ cells_within s.denominator (cells_of s g h)) where
      pub cell_stops : not b ≡ true → Says r c d g e h numbers cells (Err PooledCell) (lent numbers cells)
      cell_stops n = refused_by r c d g e h numbers cells (cell_above r c d g e h is q z low w n)

      module _ (n : not b ≡ false) where
        free : pooling_refusal r c d g e h ≡ None
        free = none_above r c d g e h is q z low w n

        pub numbers_stop : length numbers < 1 → Says r c d g e h numbers cells (Err Buffer) (lent numbers cells)
        numbers_stop l = short_numbers r c d g e h numbers cells free l

        module _ (some : 1 ≤ length numbers) where
          pub cells_stop : length cells < s.cells → Says r c d g e h numbers cells (Err Buffer) (lent numbers cells)
          cells_stop l = short_cells r c d g e h numbers cells free some (rw (scale_is r c d g e h is q z) at l)

          pub pooled : {x : ℕ} {new : List ℕ} → s.cells ≤ length cells → x ≡ s.denominator → new ≡ written (cells_of s g h) cells
              → Says r c d g e h numbers cells (Ok tt) (lent (set numbers 0 x) new)
          unfolding pooled_cells
          pooled room a v =
              let i = scale_is r c d g e h is q z in
              both_written r c d g e h numbers cells free some (rw i at room) (rw i at a) (rw i at v)
