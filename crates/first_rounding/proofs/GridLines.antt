-- A table's grid rounded down and up, line by line: what is said of lines that are `next` apart, with places `step` apart,
-- is used for rows (13 and 1) and for columns (1 and 13). Assumes nothing.
use mathlib.Core.Path.{◌≡◌, ap, ◌∙◌}
use mathlib.Core.List.{List}
use Prim.Native.Nat.{ℕ, ◌+◌, ◌*◌, ◌≤◌, ◌<◌}
use native.Mathlib.Decide.{dec_lt}
use native.Mathlib.Nat.{div-le_self}
use native.Mathlib.Omega.{arith}
use lib.ListN.{length, get_or, get_or-eq_default}
use Rattle.base.specs.Lists.{tabulate, sum_to}
use Rattle.grid.specs.Clauses.{grid_at, grid_of}
use Rattle.table.specs.Whole.{down, up, gap}
use Rattle.table.specs.Clauses.{Shape, max_entry}
use Rattle.base.proofs.Lists.{length_tabulate}
use Rattle.base.proofs.Listing.{listed_at}
use Rattle.base.proofs.Sums.{sum_ext, sum_add}
use Rattle.grid.proofs.GridPlaces.{grid_at_lem}
use Rattle.table.proofs.Roundings.{gap_le}
use Rattle.line_sums.specs.Clauses.{at, Caps}
use Rattle.first_rounding.specs.Clauses.{line_sum, Quotients, LineFits, LinesFit, Needs}
use Rattle.first_rounding.proofs.Lines.{low as low_of, high as high-of, gaps_le}
use Rattle.first_rounding.proofs.Matrices.{Grid, turned, LineSums, LineNeeds}

-- the parts of a grid x at the places of such lines
pub record Laid (w : ℕ) (x : Grid) (low high : List ℕ) (next step : ℕ) : Type 0 where
  pub next_small : next ≤ 13
  pub step_small : step ≤ 13
  pub inside : (p : ℕ) → p < 13 → p * next + 12 * step < 169
  pub low_at : (p q : ℕ) → p < 13 → q < 13 → get_or low (p * next + q * step) 0 ≡ down w (x p q)
  pub high_at : (p q : ℕ) → p < 13 → q < 13 → get_or high (p * next + q * step) 0 ≡ up w (x p q)
  pub low_small : (k : ℕ) → get_or low k 0 ≤ max_entry + 1
  pub high_small : (k : ℕ) → get_or high k 0 ≤ max_entry + 1

module _ {w : ℕ} (wp : 0 < w) {x : Grid} {low high : List ℕ} {next step : ℕ} (l : Laid w x low high next step) where
  downs_are : (p : ℕ) → p < 13 → line_sum low (p * next) step ≡ sum_to 12 (λ q. down w (x p q))
  unfolding line_sum
  downs_are p h = sum_ext 12 _ _ (λ q k. l.low_at p q h (omega arith))

  ups_are : (p : ℕ) → p < 13 → line_sum high (p * next) step ≡ sum_to 12 (λ q. up w (x p q))
  unfolding line_sum
  ups_are p h = sum_ext 12 _ _ (λ q k. l.high_at p q h (omega arith))

  line_fits : (v : List ℕ) → ((k : ℕ) → get_or v k 0 ≤ max_entry + 1) → (p : ℕ) → p < 13 → LineFits v (p * next) step
  line_fits v small p h = record { step_small = l.step_small; inside = l.inside p h; small = small }

  module _ (s : LineSums x) where
    pub lines_fit : LinesFit low high next step
    lines_fit = record {
      next_small = l.next_small;
      cells = λ p h.
          let hp : p < 13 = omega arith in
          let is = s.line p hp in
          let top = l.high_at p 12 hp (omega arith) in
          record {
            fits = line_fits low l.low_small p hp;
            least = omega (arith, downs_are p hp, top, low_of w wp (x p) (x p 12) is);
            most = omega (arith, downs_are p hp, top, high-of w wp (x p) (x p 12) is, gaps_le w wp (x p) (x p 12) is, gap_le w (x p 12));
          };
      totals =
          let hp : 12 < 13 = omega arith in
          let is = s.line 12 hp in
          let both = sum_add 12 (λ q. down w (x 12 q)) (λ q. gap w (x 12 q)) in
          record {
            fits = line_fits high l.high_small 12 hp;
            least = omega (arith, ups_are 12 hp, both, l.low_at 12 12 hp hp, high-of w wp (x 12) (x 12 12) is);
            most = omega (arith, ups_are 12 hp, both, l.low_at 12 12 hp hp, low_of w wp (x 12) (x 12 12) is, gaps_le w wp (x 12) (x 12 12) is);
          };
    }

  pub line_needs : (n : List ℕ) → Needs low high next step n → LineNeeds w x (λ p. get_or n p 0)
  line_needs n d = record {
    cells = λ p h. omega (arith, d.cells p h, downs_are p (omega arith), l.high_at p 12 (omega arith) (omega arith));
    totals = omega (arith, d.totals, ups_are 12 (omega arith), l.low_at 12 12 (omega arith) (omega arith));
  }

module _ {r c : ℕ} {g : List ℕ} (s : Shape r c g) {w : ℕ} {e low high cap : List ℕ} (is : e ≡ grid_of r c g) (t : Quotients w e low high cap)
    (small : (k : ℕ) → get_or e k 0 ≤ max_entry) where
  -- what f gives of the entries, listed
  module _ (f : ℕ → ℕ) (l : List ℕ) (listed : l ≡ tabulate 169 (λ k. f (get_or e k 0))) where
    part_at : (p q : ℕ) → p < 13 → q < 13 → at l p q ≡ f (grid_at r c g p q)
    part_at p q hp hq =
        listed_at 169 (λ k. f (get_or e k 0)) l listed (p * 13 + q) (omega arith)
        ∙ ap f (ap (λ (v : List ℕ). get_or v (p * 13 + q) 0) is ∙ grid_at_lem r c g p q hp hq)

    part_small : (b : ℕ) → ((x : ℕ) → x ≤ max_entry → f x ≤ b) → (k : ℕ) → get_or l k 0 ≤ b
    part_small b h k = go (dec_lt k 169)
      where
        go : Dec (k < 169) → get_or l k 0 ≤ b
        go (yes i) = rw (listed_at 169 (λ k. f (get_or e k 0)) l listed k i) (h (get_or e k 0) (small k))
        go (no i) = omega (arith, get_or-eq_default l 0 {n = k} (omega (arith, ap length listed, length_tabulate 169 (λ k. f (get_or e k 0)))))

  pub down_at : (p q : ℕ) → p < 13 → q < 13 → at low p q ≡ down w (grid_at r c g p q)
  down_at = part_at (down w) low t.downs

  pub up_at : (p q : ℕ) → p < 13 → q < 13 → at high p q ≡ up w (grid_at r c g p q)
  up_at = part_at (up w) high t.ups

  pub gap_at : (p q : ℕ) → p < 13 → q < 13 → at cap p q ≡ gap w (grid_at r c g p q)
  gap_at = part_at (gap w) cap t.gaps

  pub down_small : (k : ℕ) → get_or low k 0 ≤ max_entry + 1
  down_small = part_small (down w) low t.downs (max_entry + 1) (λ x h. omega (arith, div-le_self x w))

  up_small : (k : ℕ) → get_or high k 0 ≤ max_entry + 1
  up_small = part_small (up w) high t.ups (max_entry + 1) (λ x h. omega (arith, div-le_self x w, gap_le w x))

  pub caps : Caps cap
  caps = record {
    len = ap length t.gaps ∙ length_tabulate 169 _;
    bit = λ p q hp hq. part_small (gap w) cap t.gaps 1 (λ x h. gap_le w x) (p * 13 + q);
  }

  pub laid_rows : Laid w (grid_at r c g) low high 13 1
  laid_rows = record {
    next_small = omega arith;
    step_small = omega arith;
    inside = λ p h. omega arith;
    low_at = λ p q hp hq. let k : p * 13 + q * 1 ≡ p * 13 + q = omega arith in rw k (down_at p q hp hq);
    high_at = λ p q hp hq. let k : p * 13 + q * 1 ≡ p * 13 + q = omega arith in rw k (up_at p q hp hq);
    low_small = down_small;
    high_small = up_small;
  }

  pub laid_columns : Laid w (turned (grid_at r c g)) low high 1 13
  laid_columns = record {
    next_small = omega arith;
    step_small = omega arith;
    inside = λ p h. omega arith;
    low_at = λ p q hp hq. let k : p * 1 + q * 13 ≡ q * 13 + p = omega arith in rw k (down_at q p hq hp);
    high_at = λ p q hp hq. let k : p * 1 + q * 13 ≡ q * 13 + p = omega arith in rw k (up_at q p hq hp);
    low_small = down_small;
    high_small = up_small;
  }
