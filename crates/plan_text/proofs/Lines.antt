-- The lines of a plan's listing. Assumes nothing.
use mathlib.Core.Path.{◌≡◌, refl, sym, ap, ◌∙◌}
use mathlib.Core.List.{List, [], ◌∷◌, ◌++◌, append-nil, map}
use Prim.Native.Nat.{ℕ, zero, suc, ◌+◌, ◌*◌, ◌<◌, ◌≤◌}
use native.Mathlib.Nat.{not-suc-le-zero, le_of_suc-le-suc}
use native.Mathlib.Numerals.{add-one}
use native.Mathlib.Omega.{arith}
use lib.ListN.{length, get_or, take, replicate, length-map}
use lib.Seq.{ext_get_or, length-take-le, get_or-take}
use mir.Val.{Fits}
use mir.Syntax.{w32, w64}
use Rattle.base.specs.Lists.{join_to}
use Rattle.base.specs.Buffers.{written}
use Rattle.base.proofs.Buffers.{written_at}
use Rattle.form.specs.declared.Sizes.{Sizes}
use Rattle.weighted_arrays.specs.Plan.{Weighted, Plan, array_at}
use Rattle.form.specs.Form.{rows_of, columns_of, denominator_of, decode}
use Rattle.reading.specs.Clauses.{Sized}
use Rattle.reading.proofs.Readings.{decode_arrays, counts_length}
use Rattle.reading.proofs.Sizing.{sized_laid, arrays_are, cells_are, sized_few}
use Rattle.printing.specs.Lines.{line}
use Rattle.printing.specs.Clauses.{Room}
use Rattle.printing.specs.Write.{Wrote}
use Rattle.printing.proofs.Writes.{Writing, writing_none, writing_more, writing_room, writing_all}
use Rattle.printing.proofs.Lines.{join_none, join_cons}
use Rattle.plan_text.specs.Text.{printed_lines, line_numbers, listing}
use Rattle.plan_text.specs.Clauses.{plan_line}

lines_join : (l : List (List ℕ)) → printed_lines l ≡ join_to (length l) (λ k. line (get_or l k []))
unfolding printed_lines
lines_join [] = sym (join_none _)
lines_join (x ∷ l) = ap (λ k. line x ++ k) (lines_join l) ∙ join_cons (λ k. line (get_or (x ∷ l) k [])) (length l)

-- the lines of a plan's listing
module _ (p : Plan) where
  abbrev array_line : Weighted → List ℕ
  array_line a = a.weight ∷ a.counts

  pub lines_many : length (line_numbers p) ≡ suc (length p.arrays)
  unfolding line_numbers
  lines_many = ap suc (length-map p.arrays array_line)

  pub listing_whole : join_to (suc (length p.arrays)) (λ k. line (plan_line p k)) ≡ listing p
  unfolding listing
  listing_whole = ap (λ (n : ℕ). join_to n (λ k. line (plan_line p k))) (sym lines_many) ∙ sym (lines_join (line_numbers p))

  pub array_line_lem : (k : ℕ) → k < length p.arrays → plan_line p (suc k) ≡ array_line (array_at p.arrays k)
  unfolding line_numbers
  array_line_lem k h = go p.arrays k h
    where
      go : (l : List Weighted) (k : ℕ) → k < length l → get_or (map array_line l) k [] ≡ array_line (array_at l k)
      go [] k h = absurd (not-suc-le-zero h)
      go (x ∷ l) zero h = refl
      go (x ∷ l) (suc k) h = go l k (le_of_suc-le-suc h)

-- the lines of a plan that is laid out
module _ {s : Sizes} {b : List ℕ} (z : Sized s b) where
  pub rows_fit : Fits w32 s.rows
  rows_fit = record { fits = rw z.sizes (omega (arith, (sized_laid z).sizes.rows)) }

  pub columns_fit : Fits w32 s.columns
  columns_fit = record { fits = rw z.sizes (omega (arith, (sized_laid z).sizes.columns)) }

  pub arrays_fit : Fits w32 s.arrays
  arrays_fit = record { fits = rw z.sizes (omega (arith, (sized_laid z).sizes.arrays)) }

  pub head_line : s.rows ∷ s.columns ∷ s.denominator ∷ s.arrays ∷ [] ≡ plan_line (decode b) 0
  unfolding decode line_numbers
  head_line = rw z.sizes (ap (λ (m : ℕ). rows_of b ∷ columns_of b ∷ denominator_of b ∷ m ∷ []) (sym (decode_arrays b)))

  pub numbers_fit : Fits w64 (1 + s.rows * s.columns)
  numbers_fit = record { fits = omega (arith, sized_few z) }

  abbrev cells : ℕ
  cells = s.rows * s.columns

  -- the numbers of the line of array k: its weight, and then its counts, as many of those that were copied
  module _ {k : ℕ} (h : k < s.arrays) where
    abbrev array : List ℕ
    array = (array_at (decode b).arrays k).counts

    there : k < length (decode b).arrays
    there = omega (arith, arrays_are z)

    long : length array ≡ cells
    long = counts_length b k there ∙ cells_are z

    module _ (read mapped copied : List ℕ) (r : read ≡ written array (replicate 144 0)) (m : length copied ≡ 144) (q : copied ≡ mapped)
        (e : (i : ℕ) → i < 144 → get_or mapped i 0 ≡ get_or read i 0) where
      same : copied ++ [] ≡ copied
      same = append-nil copied

      pub numbers_inside : 1 + cells ≤ suc (length (copied ++ []))
      numbers_inside = omega (arith, ap length same, sized_few z)

      part_long : length (take cells copied) ≡ cells
      part_long = length-take-le cells copied (omega (arith, sized_few z))

      place : (i : ℕ) → i < cells → get_or (take cells copied) i 0 ≡ get_or array i 0
      place i l =
          get_or-take cells copied i 0 l ∙ ap (λ (x : List ℕ). get_or x i 0) q ∙ e i (omega (arith, sized_few z)) ∙ ap (λ (x : List ℕ). get_or x i 0) r
          ∙ written_at array (replicate 144 0) long i l

      part : take cells copied ≡ array
      part = ext_get_or 0 _ _ (part_long ∙ sym long) (λ i l. place i (omega (arith, part_long)))

      numbers : (w : ℕ) → take (1 + cells) (w ∷ (copied ++ [])) ≡ w ∷ array
      numbers w =
          let n : 1 + cells ≡ suc cells = omega arith in
          ap (λ (n : ℕ). take n (w ∷ (copied ++ []))) n ∙ ap (λ (l : List ℕ). w ∷ take cells l) same ∙ ap (λ (l : List ℕ). w ∷ l) part

      pub numbers_part : (w : ℕ) → 1 + cells ≡ length (take (1 + cells) (w ∷ (copied ++ [])))
      numbers_part w = sym (ap length (numbers w) ∙ omega (arith, long))

      module _ {w : ℕ} (a : w ≡ (array_at (decode b).arrays k).weight) where
        array_numbers : take (1 + cells) (w ∷ (copied ++ [])) ≡ plan_line (decode b) (k + 1)
        array_numbers = numbers w ∙ ap (λ (n : ℕ). n ∷ array) a ∙ sym (array_line_lem (decode b) k there) ∙ sym (ap (plan_line (decode b)) (add-one k))

        pub array_room : {out : List ℕ} {at : ℕ} → Room out at (line (plan_line (decode b) (k + 1))) → Room out at (line (take (1 + cells) (w ∷ (copied ++ []))))
        array_room p = rw array_numbers p

        pub array_wrote : {out after : List ℕ} {at end : ℕ} → Wrote out at (line (take (1 + cells) (w ∷ (copied ++ [])))) after end
            → Wrote out at (line (plan_line (decode b) (k + 1))) after end
        array_wrote p = rw array_numbers at p

  -- the listing, line by line: k lines are written
  abbrev pub Listing : ℕ → List ℕ → ℕ → List ℕ → ℕ → Type 0
  Listing k out at after end = Writing (λ j. line (plan_line (decode b) j)) (s.arrays + 1) k (listing (decode b)) out at after end

  listing_none : {out : List ℕ} {at : ℕ} → Room out at (listing (decode b)) → Listing 0 out at out at
  listing_none r =
      let f : s.arrays + 1 ≡ suc (length (decode b).arrays) = add-one s.arrays ∙ ap suc (sym (arrays_are z)) in
      writing_none (λ k. line (plan_line (decode b) k)) (s.arrays + 1) (ap (λ (k : ℕ). join_to k (λ k. line (plan_line (decode b) k))) f ∙ listing_whole (decode b)) r

  module _ {out : List ℕ} {at : ℕ} (r : Room out at (listing (decode b))) where
    pub head_room : Room out at (line (plan_line (decode b) 0))
    head_room = writing_room (listing_none r) (omega arith)

    pub head_wrote : {after : List ℕ} {end : ℕ} → Wrote out at (line (plan_line (decode b) 0)) after end → Listing (0 + 1) out at after end
    head_wrote w = writing_more (listing_none r) (omega arith) w

  module _ {k : ℕ} {out after : List ℕ} {at end : ℕ} (w : Listing (k + 1) out at after end) where
    pub line_room : k < s.arrays → Room after end (line (plan_line (decode b) (k + 1)))
    line_room h = writing_room w (omega arith)

    pub line_wrote : k < s.arrays → {last : List ℕ} {r : ℕ} → Wrote after end (line (plan_line (decode b) (k + 1))) last r → Listing (k + 1 + 1) out at last r
    line_wrote h v = writing_more w (omega arith) v

    pub listing_wrote : s.arrays ≤ k → Wrote out at (listing (decode b)) after end
    listing_wrote h = writing_all w (omega arith)
