-- What the search of a block keeps, and what the searches of three blocks find. Assumes nothing.
use Rattle.std.specs.Prelude.{Option, Some, None, unwrap_or}
use Rattle.std.specs.Option.{MatchOption, option_or}
use Rattle.std.specs.List.{AllWithin, HoldsAt, slice_range}
use Rattle.std.proofs.lemmas.List.{get_or-drop, get_or-take, length-drop, length-take-le}
use lib.Dec.{eqb}
use mathlib.Core.Path.{◌≡◌, refl, sym, ap, ap₂, subst, ◌∙◌}
use mathlib.Core.Bool.{Bool, true, false, cond}
use mathlib.Core.List.{List, [], ◌∷◌, ◌++◌}
use Prim.Native.Nat.{ℕ, ◌+◌, ◌-◌, ◌*◌, ◌/◌, ◌%◌, ◌<◌, ◌≤◌}
use native.Mathlib.Decide.{dec_lt}
use native.Mathlib.Nat.{mul-one, one-mul, add-mul, mul-le-mul_right, div-eq_of_lt, mod-eq_of_lt}
use native.Mathlib.Omega.{arith}
use lib.Arith.{digits_div, digits_mod, digits_lt}
use lib.ListN.{length, get_or, drop}
use Rattle.base.specs.Lists.{tabulate}
use Rattle.base.specs.Search.{first_that}
use Rattle.base.proofs.Lists.{tabulate_ext}
use Rattle.base.proofs.Searches.{first_append, first_at, first_none}
use Rattle.grid.specs.Clauses.{grid_place, grid_order}
use Rattle.limit_search.specs.Clauses.{Block, block, InGrid, block_place, block_places, holds, Sizes}

-- none of the first m places of a block holds x
abbrev pub NoneTo : List ℕ → ℕ → Block → ℕ → Type 0
NoneTo l x b m = (k : ℕ) → k < m → holds l x (block_place b k) ≡ false

-- what a search has to find
abbrev pub Finds : List ℕ → ℕ → Block → Option ℕ → Type 0
Finds l x b f = (other : ℕ) → unwrap_or f other ≡ first_that (holds l x) (block_places b) other

-- the numbers of a row of a block: those from its first place on
abbrev pub row_of : List ℕ → ℕ → ℕ → List ℕ
row_of l first columns = slice_range l first (first + columns)

module _ (l : List ℕ) (x : ℕ) (b : Block) (t : InGrid b) (n : length l ≡ 169) where
  -- the row i
  module _ (i : ℕ) (hi : i < b.rows) where
    abbrev first : ℕ
    first = (b.top + i) * 13 + b.left

    row_length : length (row_of l first b.columns) ≡ b.columns
    row_length = length-take-le (first + b.columns - first) (drop first l) (omega (arith, length-drop first l, t.rows, t.columns)) ∙ omega arith

    row_at : (j : ℕ) → j < b.columns → get_or (row_of l first b.columns) j 0 ≡ get_or l (first + j) 0
    row_at j h = get_or-take _ (drop first l) j 0 (omega arith) ∙ get_or-drop first l j 0

    place_is : (j : ℕ) → j < b.columns → block_place b (i * b.columns + j) ≡ first + j
    place_is j h = rw (digits_div i h, digits_mod i h) (omega arith)

    -- none of the first j places of the row
    none_more : NoneTo l x b (i * b.columns) → (m : ℕ) → m ≤ b.columns → ((j : ℕ) → j < m → eqb (get_or (row_of l first b.columns) j 0) x ≡ false)
        → NoneTo l x b (i * b.columns + m)
    none_more f m h r k q = go (dec_lt k (i * b.columns))
      where
        go : Dec (k < i * b.columns) → holds l x (block_place b k) ≡ false
        go (yes p) = f k p
        go (no p) =
            let j : ℕ = k - i * b.columns in
            let is : k ≡ i * b.columns + j = omega arith in
            let small : j < m = omega arith in
            rw is (ap (holds l x) (place_is j (omega arith)) ∙ ap (λ (v : ℕ). eqb v x) (sym (row_at j (omega arith))) ∙ r j small)

    -- what the search of the row says
    abbrev pub Says : Option ℕ → Type 0
    Says o =
        MatchOption o (AllWithin (λ y. eqb y x ≡ false) (row_of l first b.columns) 0 (length (row_of l first b.columns)))
        (λ j. (j < length (row_of l first b.columns))
        × HoldsAt (λ y. eqb y x ≡ true) (row_of l first b.columns) j
        × AllWithin (λ y. eqb y x ≡ false) (row_of l first b.columns) 0 j)

    module _ (f : NoneTo l x b (i * b.columns)) {o : Option ℕ} (says : Says o) where
      pub row_none : o ≡ None → NoneTo l x b ((i + 1) * b.columns)
      row_none z k q =
          let s : Says None = subst Says z says in
          none_more f b.columns (omega arith) (λ j h. s j 0 (omega arith) (omega (arith, row_length))) k (omega (arith, add-mul i 1 b.columns, one-mul b.columns))

      pub row_found : {j : ℕ} → o ≡ Some j → (other : ℕ) → first + j ≡ first_that (holds l x) (block_places b) other
      row_found {j} z other =
          let s : Says (Some j) = subst Says z says in
          let h : j < b.columns = omega (arith, s.0, row_length) in
          sym (place_is j h)
          ∙ sym (first_at (holds l x) (b.rows * b.columns) (block_place b) other (i * b.columns + j) (digits_lt hi h)
          (none_more f j (omega arith) (λ m q. s.2 m 0 (omega arith) q))
          (ap (holds l x) (place_is j h) ∙ ap (λ (v : ℕ). eqb v x) (sym (row_at j h)) ∙ s.1 0))

  pub found_nowhere : (i : ℕ) → b.rows ≤ i → NoneTo l x b (i * b.columns) → (other : ℕ) → other ≡ first_that (holds l x) (block_places b) other
  found_nowhere i h f other =
      sym (first_none (holds l x) (b.rows * b.columns) (block_place b) other (λ k q. f k (let p : b.rows * b.columns ≤ i * b.columns = mul-le-mul_right b.columns h in omega arith)))

-- three lists, and then the last place, which is the answer where nothing else is found
last : (b : Bool) → ◌≡◌ {A = ℕ} 168 (cond b 168 168)
last true = refl
last false = refl

chain : (test : ℕ → Bool) (p q r : List ℕ) → first_that test p (first_that test q (first_that test r 168)) ≡ first_that test (p ++ (q ++ (r ++ (168 ∷ [])))) 168
unfolding first_that
chain test p q r =
    ap (λ (k : ℕ). first_that test p (first_that test q (first_that test r k))) (last (test 168))
    ∙ sym
    (first_append test p (q ++ (r ++ (168 ∷ []))) 168
    ∙ ap (first_that test p) (first_append test q (r ++ (168 ∷ [])) 168 ∙ ap (first_that test q) (first_append test r (168 ∷ []) 168)))

-- the first of three places that is there
either : (f g h : Option ℕ) → unwrap_or (option_or (option_or f g) h) 168 ≡ unwrap_or f (unwrap_or g (unwrap_or h 168))
either (Some k) g h = refl
either None (Some k) h = refl
either None None h = refl

-- cells, row totals and column totals as blocks of the grid
abbrev pub cell_block : ℕ → ℕ → Block
cell_block r c = block 0 0 r c

abbrev pub row_block : ℕ → Block
row_block r = block 0 12 r 1

abbrev pub column_block : ℕ → Block
column_block c = block 12 0 1 c

module _ {r c : ℕ} (z : Sizes r c) where
  cell_places_lem : block_places (cell_block r c) ≡ tabulate (r * c) (λ k. grid_place (k / c) (k % c))
  cell_places_lem = tabulate_ext (r * c) _ _ (λ k h. omega arith)

  row_places_lem : block_places (row_block r) ≡ tabulate r (λ i. grid_place i 12)
  row_places_lem = ap (λ (n : ℕ). tabulate n (block_place (row_block r))) (mul-one r) ∙ tabulate_ext r _ _ (λ k h. omega arith)

  column_places_lem : block_places (column_block c) ≡ tabulate c (λ j. grid_place 12 j)
  column_places_lem =
      ap (λ (n : ℕ). tabulate n (block_place (column_block c))) (one-mul c)
      ∙ tabulate_ext c _ _ (λ k h. rw (div-eq_of_lt h, mod-eq_of_lt h) (omega arith))

  -- one block after another, and then the grand total
  pub first_is : (l : List ℕ) (x : ℕ) (f g h : Option ℕ) → Finds l x (cell_block r c) f → Finds l x (row_block r) g → Finds l x (column_block c) h
      → unwrap_or f (unwrap_or g (unwrap_or h 168)) ≡ first_that (holds l x) (grid_order r c) 168
  unfolding grid_order
  first_is l x f g h cell row column =
      let first : List ℕ → ℕ → ℕ = first_that (holds l x) in
      cell (unwrap_or g (unwrap_or h 168))
      ∙ ap₂ first cell_places_lem (row (unwrap_or h 168) ∙ ap₂ first row_places_lem (column 168 ∙ ap (λ (k : List ℕ). first k 168) column_places_lem))
      ∙ chain (holds l x) _ _ _

  -- the first of three searches that finds a place, else the last place
  pub place_is_first : (l : List ℕ) (x : ℕ) (f g h : Option ℕ) → Finds l x (cell_block r c) f → Finds l x (row_block r) g → Finds l x (column_block c) h
      → unwrap_or (option_or (option_or f g) h) 168 ≡ first_that (holds l x) (grid_order r c) 168
  place_is_first l x f g h cell row column = either f g h ∙ first_is l x f g h cell row column
