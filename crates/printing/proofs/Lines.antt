-- Lines of numbers, and refusals. Assumes nothing.
use mathlib.Core.Path.{◌≡◌, refl, sym, ap, ◌∙◌}
use mathlib.Core.List.{List, [], ◌∷◌, ◌++◌, append_assoc, append-nil}
use Prim.Native.Nat.{ℕ, zero, suc, ◌+◌, ◌<◌, ◌≤◌}
use native.Mathlib.Nat.{not-suc-le-zero, le_of_suc-le-suc}
use native.Mathlib.Omega.{arith}
use lib.ListN.{length, get_or, take}
use lib.Seq.{take-length}
use Rattle.base.specs.Lists.{join_to}
use Rattle.printing.specs.Lines.{decimal, spaced, line, refused_word, refused}
use Rattle.printing.specs.Clauses.{Room, gap_before}
use Rattle.printing.specs.Write.{Wrote}
use Rattle.printing.proofs.Writes.{room_first, room_then, wrote_then, Writing, writing_none, writing_all, writing_room, writing_more}

-- parts that are joined, and one before them
pub join_none : (f : ℕ → List ℕ) → join_to 0 f ≡ []
unfolding join_to
join_none f = refl

pub join_cons : (f : ℕ → List ℕ) (n : ℕ) → f 0 ++ join_to n (λ i. f (suc i)) ≡ join_to (suc n) f
unfolding join_to
join_cons f zero = append-nil (f 0)
join_cons f (suc n) = sym (append_assoc (f 0) (join_to n (λ i. f (suc i))) (f (suc n))) ∙ ap (λ l. l ++ f (suc n)) (join_cons f n)

-- a number of a line, with the space before it
unfoldable pub part_of : List ℕ → ℕ → List ℕ
part_of l i = gap_before i ++ decimal (get_or l i 0)

spaced_suc : (l : List ℕ) (i : ℕ) → i < length l → spaced (take (suc i) l) ≡ spaced (take i l) ++ part_of l i
unfolding spaced part_of
spaced_suc [] i h = absurd (not-suc-le-zero h)
spaced_suc (x ∷ l) zero h = refl
spaced_suc (x ∷ []) (suc i) h = absurd (not-suc-le-zero (le_of_suc-le-suc h))
spaced_suc (x ∷ y ∷ l) (suc zero) h = refl
spaced_suc (x ∷ y ∷ l) (suc (suc i)) h =
    ap (λ k. decimal x ++ (32 ∷ k)) (spaced_suc (y ∷ l) (suc i) (le_of_suc-le-suc h))
    ∙ sym (append_assoc (decimal x) (32 ∷ spaced (y ∷ take i l)) _)

spaced_join : (l : List ℕ) (i : ℕ) → i ≤ length l → spaced (take i l) ≡ join_to i (part_of l)
unfolding spaced join_to
spaced_join l zero h = refl
spaced_join l (suc i) h = spaced_suc l i h ∙ ap (λ k. k ++ part_of l i) (spaced_join l i (omega arith))

module _ (l : List ℕ) where
  spaced_whole : join_to (length l) (part_of l) ≡ spaced l
  spaced_whole = sym (spaced_join l (length l) (omega arith)) ∙ ap spaced (take-length l)

  module _ {out : List ℕ} {at : ℕ} (h : Room out at (line l)) where
    line_parts : Room out at (spaced l ++ (10 ∷ []))
    unfolding line
    line_parts = h

    pub numbers_none : (n : ℕ) → n ≡ length l → Writing (part_of l) n 0 (spaced l) out at out at
    numbers_none n e = writing_none (part_of l) n (ap (λ (k : ℕ). join_to k (part_of l)) e ∙ spaced_whole) (room_first (spaced l) _ line_parts)

    module _ {n i : ℕ} {after : List ℕ} {end : ℕ} (w : Writing (part_of l) n i (spaced l) out at after end) (m : n ≤ i) where
      pub end_room : (x : ℕ) → Room after end (x ∷ [])
      end_room x = record { fits = (room_then (spaced l) _ line_parts (writing_all w m)).fits }

      pub line_wrote : {last : List ℕ} {r : ℕ} → Wrote after end (10 ∷ []) last r → Wrote out at (line l) last r
      unfolding line
      line_wrote v = wrote_then (spaced l) _ line_parts (writing_all w m) v

  -- a number that was read for its place in the line
  module _ {s out : List ℕ} {at n i : ℕ} {after : List ℕ} {end : ℕ} (w : Writing (part_of l) n i s out at after end) (m : i < n) {x : ℕ} (e : x ≡ get_or l i 0) where
    pub place_room : Room after end (gap_before i ++ decimal x)
    unfolding part_of
    place_room = rw e (writing_room w m)

    pub place_more : {last : List ℕ} {r : ℕ} → Wrote after end (gap_before i ++ decimal x) last r → Writing (part_of l) n (i + 1) s out at last r
    unfolding part_of
    place_more v = writing_more w m (rw e at v)

-- a refusal, part by part
abbrev pub refused_space : List ℕ
refused_space = refused_word ++ (32 ∷ [])

module _ (n : ℕ) {out : List ℕ} {at : ℕ} (h : Room out at (refused n)) where
  parts : Room out at (refused_space ++ decimal n ++ (10 ∷ []))
  unfolding refused line spaced
  parts = h

  number : Room out at (refused_space ++ decimal n)
  number = room_first (refused_space ++ decimal n) _ parts

  pub refusal_word : Room out at refused_space
  refusal_word = room_first refused_space _ number

  -- the number in 32 bits, and then in 64
  module _ (x y : ℕ) (d : y ≡ n) (e : x ≡ y) {after : List ℕ} {end : ℕ} (w : Wrote out at refused_space after end) where
    pub refusal_number : Room after end (decimal x)
    refusal_number = rw (e ∙ d) (room_then refused_space _ number w)

    module _ {last : List ℕ} {stop : ℕ} (v : Wrote after end (decimal x) last stop) where
      both : Wrote out at (refused_space ++ decimal n) last stop
      both = wrote_then refused_space _ number w (rw (e ∙ d) at v)

      pub refusal_end : Room last stop (10 ∷ [])
      refusal_end = room_then (refused_space ++ decimal n) _ parts both

      pub refusal_wrote : {all : List ℕ} {r : ℕ} → Wrote last stop (10 ∷ []) all r → Wrote out at (refused n) all r
      unfolding refused line spaced
      refusal_wrote u = wrote_then (refused_space ++ decimal n) _ parts both u
