-- What the readers of a plan that is laid out find. Assumes nothing.
use mathlib.Core.Path.{◌≡◌, sym, ap, ◌∙◌}
use mathlib.Core.Bool.{true}
use mathlib.Core.List.{List}
use Prim.Native.Nat.{ℕ, suc, ◌+◌, ◌*◌, ◌<◌, ◌≤◌}
use native.Mathlib.Nat.{mul-le-mul_right, add-mul, one-mul}
use native.Mathlib.Numerals.{add-one}
use native.Mathlib.Decide.{dec_lt}
use native.Mathlib.Omega.{arith}
use lib.ListN.{length, get_or, get_or-eq_default}
use Rattle.base.specs.Lists.{tabulate}
use Rattle.base.proofs.Lists.{length_tabulate, get_d_tabulate}
use Rattle.weighted_arrays.specs.Plan.{Weighted, array_at, cell_count}
use Rattle.form.specs.Form.{body_at, rows_of, columns_of, arrays_of, amount_of, offset_of, count_of, laid_out, decode}
use Rattle.form.specs.Clauses.{Laid}
use Rattle.byte_numbers.proofs.Numbers.{number_small, number_four_small}
use Rattle.form.proofs.Layouts.{cells_few, laid}

-- the arrays of the plan that some bytes hold
module _ (b : List ℕ) where
  abbrev held : ℕ → Weighted
  held k = record { weight = amount_of b (suc k); counts = tabulate (rows_of b * columns_of b) (count_of b (suc k)) }

  pub decode_arrays : length (decode b).arrays ≡ arrays_of b
  unfolding decode
  decode_arrays = length_tabulate (arrays_of b) held

  module _ (k : ℕ) (h : k < length (decode b).arrays) where
    few : k < arrays_of b
    few = omega (arith, decode_arrays)

    decode_array : array_at (decode b).arrays k ≡ held k
    unfolding decode
    decode_array = get_d_tabulate (arrays_of b) held k _ few

    pub decode_weight : (array_at (decode b).arrays k).weight ≡ amount_of b (k + 1)
    decode_weight = ap (λ a. a.weight) decode_array ∙ ap (amount_of b) (sym (add-one k))

    pub decode_counts : (array_at (decode b).arrays k).counts ≡ tabulate (rows_of b * columns_of b) (count_of b (k + 1))
    decode_counts = ap (λ a. a.counts) decode_array ∙ ap (λ (n : ℕ). tabulate (rows_of b * columns_of b) (count_of b n)) (sym (add-one k))

    -- every array has a count for each cell
    pub counts_length : length (array_at (decode b).arrays k).counts ≡ cell_count (decode b)
    unfolding decode
    counts_length = ap length decode_counts ∙ length_tabulate _ _

  -- every weight and every count fits its bytes
  pub weight_small : ((k : ℕ) → get_or b k 0 < 256) → (k : ℕ) → k < length (decode b).arrays → (array_at (decode b).arrays k).weight < 4294967296
  weight_small bytes k h = rw (decode_weight k h) (number_four_small b bytes _)

  pub counts_small : ((k : ℕ) → get_or b k 0 < 256) → (k i : ℕ) → k < length (decode b).arrays → get_or (array_at (decode b).arrays k).counts i 0 < 65536
  counts_small bytes k i h = go (dec_lt i (rows_of b * columns_of b))
    where
      go : Dec (i < rows_of b * columns_of b) → get_or (array_at (decode b).arrays k).counts i 0 < 65536
      go (yes l) = rw (ap (λ (n : List ℕ). get_or n i 0) (decode_counts k h) ∙ get_d_tabulate _ (count_of b (k + 1)) i 0 l) (number_small b bytes _)
      go (no l) = omega (arith, get_or-eq_default (array_at (decode b).arrays k).counts 0 {n = i} (omega (arith, ap length (decode_counts k h), length_tabulate (rows_of b * columns_of b) (count_of b (k + 1)))))

  pub cells_length : length (decode b).cells ≡ cell_count (decode b)
  unfolding decode
  cells_length = length_tabulate _ _

pub decode_few : (b : List ℕ) → laid_out b ≡ true → cell_count (decode b) ≤ 144
unfolding decode
decode_few b h = cells_few (laid b h).sizes

-- the bodies of a plan that is laid out lie within it
module _ {b : List ℕ} (l : Laid b) where
  abbrev n : ℕ
  n = rows_of b * columns_of b

  pub table_inside : offset_of b 0 + 4 * n ≤ length b
  table_inside = omega (arith, l.len, l.offsets 0 (omega arith))

  pub body_inside : (j : ℕ) → j < arrays_of b → offset_of b (j + 1) + 2 * n ≤ length b
  body_inside j h =
      let at : offset_of b (j + 1) ≡ body_at (rows_of b) (columns_of b) (arrays_of b) (suc j) =
      l.offsets (j + 1) (omega arith) ∙ ap (body_at (rows_of b) (columns_of b) (arrays_of b)) (add-one j) in
      let more : (j + 1) * (2 * n) ≤ arrays_of b * (2 * n) = mul-le-mul_right (2 * n) (omega arith) in
      omega (arith, l.len, add-mul j 1 (2 * n), one-mul (2 * n))

  pub contents_room : 16 + 8 * arrays_of b ≤ length b
  contents_room = omega (arith, l.len)

-- a plan that is laid out has a head
pub laid_long : (b : List ℕ) → laid_out b ≡ true → 16 ≤ length b
laid_long b h = omega (arith, (laid b h).len)
