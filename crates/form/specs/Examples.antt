-- Stored plans typed out byte by byte from their layout (specification, "Stored plan, form 1"); no definition of this project builds them. Assumes nothing.
use Rattle.std.specs.Prelude.{List, [], ◌∷◌, ℕ}
use Rattle.weighted_arrays.specs.Plan.{Weighted, Plan}

-- the third table of the examples: two by two, D 2, all cells 1
abbrev pub square : List ℕ
square =
    -- form, r, c, K, zero
    1 ∷ 0 ∷ 2 ∷ 2 ∷ 2 ∷ 0 ∷ 0 ∷ 0
    -- D and the offset of the table
    ∷ 2 ∷ 0 ∷ 0 ∷ 0 ∷ 32 ∷ 0 ∷ 0 ∷ 0
    -- weight and offset of each array
    ∷ 1 ∷ 0 ∷ 0 ∷ 0 ∷ 48 ∷ 0 ∷ 0 ∷ 0
    ∷ 1 ∷ 0 ∷ 0 ∷ 0 ∷ 56 ∷ 0 ∷ 0 ∷ 0
    -- the table
    ∷ 1 ∷ 0 ∷ 0 ∷ 0 ∷ 1 ∷ 0 ∷ 0 ∷ 0 ∷ 1 ∷ 0 ∷ 0 ∷ 0 ∷ 1 ∷ 0 ∷ 0 ∷ 0
    -- the arrays
    ∷ 0 ∷ 0 ∷ 1 ∷ 0 ∷ 1 ∷ 0 ∷ 0 ∷ 0
    ∷ 1 ∷ 0 ∷ 0 ∷ 0 ∷ 0 ∷ 0 ∷ 1 ∷ 0 ∷ []

-- two rows, three columns and D 1000: cells, weights and counts above 255, cells above 65,535; planning the table gives just these bytes
abbrev pub wide : List ℕ
wide =
    -- form, r, c, K, zero
    1 ∷ 0 ∷ 2 ∷ 3 ∷ 7 ∷ 0 ∷ 0 ∷ 0
    -- D and the offset of the table
    ∷ 232 ∷ 3 ∷ 0 ∷ 0 ∷ 72 ∷ 0 ∷ 0 ∷ 0
    -- weight and offset of each array
    ∷ 100 ∷ 0 ∷ 0 ∷ 0 ∷ 96 ∷ 0 ∷ 0 ∷ 0
    ∷ 238 ∷ 1 ∷ 0 ∷ 0 ∷ 108 ∷ 0 ∷ 0 ∷ 0
    ∷ 1 ∷ 0 ∷ 0 ∷ 0 ∷ 120 ∷ 0 ∷ 0 ∷ 0
    ∷ 5 ∷ 0 ∷ 0 ∷ 0 ∷ 132 ∷ 0 ∷ 0 ∷ 0
    ∷ 176 ∷ 0 ∷ 0 ∷ 0 ∷ 144 ∷ 0 ∷ 0 ∷ 0
    ∷ 160 ∷ 0 ∷ 0 ∷ 0 ∷ 156 ∷ 0 ∷ 0 ∷ 0
    ∷ 64 ∷ 0 ∷ 0 ∷ 0 ∷ 168 ∷ 0 ∷ 0 ∷ 0
    -- the table
    ∷ 112 ∷ 149 ∷ 4 ∷ 0 ∷ 70 ∷ 0 ∷ 0 ∷ 0 ∷ 144 ∷ 1 ∷ 1 ∷ 0 ∷ 220 ∷ 5 ∷ 0 ∷ 0 ∷ 4 ∷ 1 ∷ 0 ∷ 0 ∷ 231 ∷ 3 ∷ 0 ∷ 0
    -- the arrays
    ∷ 44 ∷ 1 ∷ 0 ∷ 0 ∷ 66 ∷ 0 ∷ 1 ∷ 0 ∷ 1 ∷ 0 ∷ 1 ∷ 0
    ∷ 44 ∷ 1 ∷ 0 ∷ 0 ∷ 66 ∷ 0 ∷ 2 ∷ 0 ∷ 0 ∷ 0 ∷ 1 ∷ 0
    ∷ 44 ∷ 1 ∷ 1 ∷ 0 ∷ 66 ∷ 0 ∷ 2 ∷ 0 ∷ 0 ∷ 0 ∷ 0 ∷ 0
    ∷ 44 ∷ 1 ∷ 1 ∷ 0 ∷ 66 ∷ 0 ∷ 2 ∷ 0 ∷ 0 ∷ 0 ∷ 1 ∷ 0
    ∷ 45 ∷ 1 ∷ 0 ∷ 0 ∷ 66 ∷ 0 ∷ 1 ∷ 0 ∷ 0 ∷ 0 ∷ 1 ∷ 0
    ∷ 45 ∷ 1 ∷ 0 ∷ 0 ∷ 66 ∷ 0 ∷ 1 ∷ 0 ∷ 1 ∷ 0 ∷ 1 ∷ 0
    ∷ 45 ∷ 1 ∷ 1 ∷ 0 ∷ 65 ∷ 0 ∷ 1 ∷ 0 ∷ 0 ∷ 0 ∷ 1 ∷ 0 ∷ []

-- the same table: the second array stands seven times, and offsets go above 255
abbrev pub recurring : List ℕ
recurring =
    -- form, r, c, K, zero
    1 ∷ 0 ∷ 2 ∷ 3 ∷ 13 ∷ 0 ∷ 0 ∷ 0
    -- D and the offset of the table
    ∷ 232 ∷ 3 ∷ 0 ∷ 0 ∷ 120 ∷ 0 ∷ 0 ∷ 0
    -- weight and offset of each array
    ∷ 100 ∷ 0 ∷ 0 ∷ 0 ∷ 144 ∷ 0 ∷ 0 ∷ 0
    ∷ 44 ∷ 1 ∷ 0 ∷ 0 ∷ 156 ∷ 0 ∷ 0 ∷ 0
    ∷ 100 ∷ 0 ∷ 0 ∷ 0 ∷ 168 ∷ 0 ∷ 0 ∷ 0
    ∷ 50 ∷ 0 ∷ 0 ∷ 0 ∷ 180 ∷ 0 ∷ 0 ∷ 0
    ∷ 20 ∷ 0 ∷ 0 ∷ 0 ∷ 192 ∷ 0 ∷ 0 ∷ 0
    ∷ 10 ∷ 0 ∷ 0 ∷ 0 ∷ 204 ∷ 0 ∷ 0 ∷ 0
    ∷ 10 ∷ 0 ∷ 0 ∷ 0 ∷ 216 ∷ 0 ∷ 0 ∷ 0
    ∷ 4 ∷ 0 ∷ 0 ∷ 0 ∷ 228 ∷ 0 ∷ 0 ∷ 0
    ∷ 1 ∷ 0 ∷ 0 ∷ 0 ∷ 240 ∷ 0 ∷ 0 ∷ 0
    ∷ 5 ∷ 0 ∷ 0 ∷ 0 ∷ 252 ∷ 0 ∷ 0 ∷ 0
    ∷ 176 ∷ 0 ∷ 0 ∷ 0 ∷ 8 ∷ 1 ∷ 0 ∷ 0
    ∷ 160 ∷ 0 ∷ 0 ∷ 0 ∷ 20 ∷ 1 ∷ 0 ∷ 0
    ∷ 64 ∷ 0 ∷ 0 ∷ 0 ∷ 32 ∷ 1 ∷ 0 ∷ 0
    -- the table
    ∷ 112 ∷ 149 ∷ 4 ∷ 0 ∷ 70 ∷ 0 ∷ 0 ∷ 0 ∷ 144 ∷ 1 ∷ 1 ∷ 0 ∷ 220 ∷ 5 ∷ 0 ∷ 0 ∷ 4 ∷ 1 ∷ 0 ∷ 0 ∷ 231 ∷ 3 ∷ 0 ∷ 0
    -- the arrays
    ∷ 44 ∷ 1 ∷ 0 ∷ 0 ∷ 66 ∷ 0 ∷ 1 ∷ 0 ∷ 1 ∷ 0 ∷ 1 ∷ 0
    ∷ 44 ∷ 1 ∷ 0 ∷ 0 ∷ 66 ∷ 0 ∷ 2 ∷ 0 ∷ 0 ∷ 0 ∷ 1 ∷ 0
    ∷ 44 ∷ 1 ∷ 0 ∷ 0 ∷ 66 ∷ 0 ∷ 2 ∷ 0 ∷ 0 ∷ 0 ∷ 1 ∷ 0
    ∷ 44 ∷ 1 ∷ 0 ∷ 0 ∷ 66 ∷ 0 ∷ 2 ∷ 0 ∷ 0 ∷ 0 ∷ 1 ∷ 0
    ∷ 44 ∷ 1 ∷ 0 ∷ 0 ∷ 66 ∷ 0 ∷ 2 ∷ 0 ∷ 0 ∷ 0 ∷ 1 ∷ 0
    ∷ 44 ∷ 1 ∷ 0 ∷ 0 ∷ 66 ∷ 0 ∷ 2 ∷ 0 ∷ 0 ∷ 0 ∷ 1 ∷ 0
    ∷ 44 ∷ 1 ∷ 0 ∷ 0 ∷ 66 ∷ 0 ∷ 2 ∷ 0 ∷ 0 ∷ 0 ∷ 1 ∷ 0
    ∷ 44 ∷ 1 ∷ 0 ∷ 0 ∷ 66 ∷ 0 ∷ 2 ∷ 0 ∷ 0 ∷ 0 ∷ 1 ∷ 0
    ∷ 44 ∷ 1 ∷ 1 ∷ 0 ∷ 66 ∷ 0 ∷ 2 ∷ 0 ∷ 0 ∷ 0 ∷ 0 ∷ 0
    ∷ 44 ∷ 1 ∷ 1 ∷ 0 ∷ 66 ∷ 0 ∷ 2 ∷ 0 ∷ 0 ∷ 0 ∷ 1 ∷ 0
    ∷ 45 ∷ 1 ∷ 0 ∷ 0 ∷ 66 ∷ 0 ∷ 1 ∷ 0 ∷ 0 ∷ 0 ∷ 1 ∷ 0
    ∷ 45 ∷ 1 ∷ 0 ∷ 0 ∷ 66 ∷ 0 ∷ 1 ∷ 0 ∷ 1 ∷ 0 ∷ 1 ∷ 0
    ∷ 45 ∷ 1 ∷ 1 ∷ 0 ∷ 65 ∷ 0 ∷ 1 ∷ 0 ∷ 0 ∷ 0 ∷ 1 ∷ 0 ∷ []

-- one cell, the shortest plan: D, the weight, the cell and the count are the largest that there are, and the cell takes four bytes
abbrev pub largest : List ℕ
largest =
    -- form, r, c, K, zero
    1 ∷ 0 ∷ 1 ∷ 1 ∷ 1 ∷ 0 ∷ 0 ∷ 0
    -- D and the offset of the table
    ∷ 255 ∷ 255 ∷ 0 ∷ 0 ∷ 24 ∷ 0 ∷ 0 ∷ 0
    -- weight and offset of the array
    ∷ 255 ∷ 255 ∷ 0 ∷ 0 ∷ 28 ∷ 0 ∷ 0 ∷ 0
    -- the table and the array
    ∷ 24 ∷ 252 ∷ 231 ∷ 3
    ∷ 232 ∷ 3 ∷ []

abbrev pub with_weight : ℕ → List ℕ → Weighted
with_weight w n = record { weight = w; counts = n }

-- what the bytes hold
pub record Stored : Type 0 where
  pub bytes : List ℕ
  pub plan : Plan

abbrev pub stored : List Stored
stored =
    record {
      bytes = square;
      plan = record {
        rows = 2;
        columns = 2;
        denominator = 2;
        cells = 1 ∷ 1 ∷ 1 ∷ 1 ∷ [];
        arrays =
            with_weight 1 (0 ∷ 1 ∷ 1 ∷ 0 ∷ [])
            ∷ with_weight 1 (1 ∷ 0 ∷ 0 ∷ 1 ∷ [])
            ∷ [];
      };
    }
    ∷ record {
      bytes = wide;
      plan = record {
        rows = 2;
        columns = 3;
        denominator = 1000;
        cells = 300400 ∷ 70 ∷ 65936 ∷ 1500 ∷ 260 ∷ 999 ∷ [];
        arrays =
            with_weight 100 (300 ∷ 0 ∷ 66 ∷ 1 ∷ 1 ∷ 1 ∷ [])
            ∷ with_weight 494 (300 ∷ 0 ∷ 66 ∷ 2 ∷ 0 ∷ 1 ∷ [])
            ∷ with_weight 1 (300 ∷ 1 ∷ 66 ∷ 2 ∷ 0 ∷ 0 ∷ [])
            ∷ with_weight 5 (300 ∷ 1 ∷ 66 ∷ 2 ∷ 0 ∷ 1 ∷ [])
            ∷ with_weight 176 (301 ∷ 0 ∷ 66 ∷ 1 ∷ 0 ∷ 1 ∷ [])
            ∷ with_weight 160 (301 ∷ 0 ∷ 66 ∷ 1 ∷ 1 ∷ 1 ∷ [])
            ∷ with_weight 64 (301 ∷ 1 ∷ 65 ∷ 1 ∷ 0 ∷ 1 ∷ [])
            ∷ [];
      };
    }
    ∷ record {
      bytes = recurring;
      plan = record {
        rows = 2;
        columns = 3;
        denominator = 1000;
        cells = 300400 ∷ 70 ∷ 65936 ∷ 1500 ∷ 260 ∷ 999 ∷ [];
        arrays =
            with_weight 100 (300 ∷ 0 ∷ 66 ∷ 1 ∷ 1 ∷ 1 ∷ [])
            ∷ with_weight 300 (300 ∷ 0 ∷ 66 ∷ 2 ∷ 0 ∷ 1 ∷ [])
            ∷ with_weight 100 (300 ∷ 0 ∷ 66 ∷ 2 ∷ 0 ∷ 1 ∷ [])
            ∷ with_weight 50 (300 ∷ 0 ∷ 66 ∷ 2 ∷ 0 ∷ 1 ∷ [])
            ∷ with_weight 20 (300 ∷ 0 ∷ 66 ∷ 2 ∷ 0 ∷ 1 ∷ [])
            ∷ with_weight 10 (300 ∷ 0 ∷ 66 ∷ 2 ∷ 0 ∷ 1 ∷ [])
            ∷ with_weight 10 (300 ∷ 0 ∷ 66 ∷ 2 ∷ 0 ∷ 1 ∷ [])
            ∷ with_weight 4 (300 ∷ 0 ∷ 66 ∷ 2 ∷ 0 ∷ 1 ∷ [])
            ∷ with_weight 1 (300 ∷ 1 ∷ 66 ∷ 2 ∷ 0 ∷ 0 ∷ [])
            ∷ with_weight 5 (300 ∷ 1 ∷ 66 ∷ 2 ∷ 0 ∷ 1 ∷ [])
            ∷ with_weight 176 (301 ∷ 0 ∷ 66 ∷ 1 ∷ 0 ∷ 1 ∷ [])
            ∷ with_weight 160 (301 ∷ 0 ∷ 66 ∷ 1 ∷ 1 ∷ 1 ∷ [])
            ∷ with_weight 64 (301 ∷ 1 ∷ 65 ∷ 1 ∷ 0 ∷ 1 ∷ [])
            ∷ [];
      };
    }
    ∷ record {
      bytes = largest;
      plan = record { rows = 1; columns = 1; denominator = 65535; cells = 65535000 ∷ []; arrays = with_weight 65535 (1000 ∷ []) ∷ [] };
    }
    ∷ []
