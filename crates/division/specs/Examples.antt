-- Literal cases of the division (specification, "The rounding of corrections"). Assumes nothing.
use Rattle.std.specs.Prelude.{List, [], ◌∷◌, ℕ, ℤ, pos, negsuc}
use Rattle.division.specs.Division.{down, rest}

-- a quotient and what is left over
pub record Quotient : Type 0 where
  pub whole : ℤ
  pub rest : ℕ

-- a number, what it is divided by, and what that gives
pub record Case : Type 0 where
  pub number : ℤ
  pub weight : ℕ
  pub parts : Quotient

abbrev pub over : ℤ → ℕ → ℤ → ℕ → Case
over z w q f = record { number = z; weight = w; parts = record { whole = q; rest = f } }

abbrev pub divided : Case → Quotient
divided x = record { whole = down x.weight x.number; rest = rest x.weight x.number }

abbrev pub cases : List Case
cases =
    -- F-7's own: -1 over 2 lies between -1 and 0
    over (negsuc 0) 2 (negsuc 0) 1
    -- above zero, at zero, and -1, -4, -5, -6, -10 and -11 over 5
    ∷ over (pos 11) 5 (pos 2) 1
    ∷ over (pos 5) 5 (pos 1) 0
    ∷ over (pos 4) 5 (pos 0) 4
    ∷ over (pos 0) 5 (pos 0) 0
    ∷ over (negsuc 0) 5 (negsuc 0) 4
    ∷ over (negsuc 3) 5 (negsuc 0) 1
    ∷ over (negsuc 4) 5 (negsuc 0) 0
    ∷ over (negsuc 5) 5 (negsuc 1) 4
    ∷ over (negsuc 9) 5 (negsuc 1) 0
    ∷ over (negsuc 10) 5 (negsuc 2) 4
    -- over 1, where every number is whole
    ∷ over (negsuc 6) 1 (negsuc 6) 0
    ∷ over (pos 7) 1 (pos 7) 0
    -- 1000 · 65,535 on both sides of zero, and one beyond
    ∷ over (pos 65535000) 65535 (pos 1000) 0
    ∷ over (negsuc 65534999) 65535 (negsuc 999) 0
    ∷ over (negsuc 65535000) 65535 (negsuc 1000) 65534
    -- numbers and weights of which the low part alone would give another quotient
    ∷ over (pos 4294967301) 5 (pos 858993460) 1
    ∷ over (negsuc 4294967300) 5 (negsuc 858993460) 4
    ∷ over (pos 5) 4294967301 (pos 0) 5
    ∷ over (negsuc 4) 4294967301 (negsuc 0) 4294967296
    -- the largest and the least number of 64 bits over 10, and 1 and -1 over the largest weight
    ∷ over (pos 9223372036854775807) 10 (pos 922337203685477580) 7
    ∷ over (negsuc 9223372036854775807) 10 (negsuc 922337203685477580) 2
    ∷ over (pos 1) 18446744073709551615 (pos 0) 1
    ∷ over (negsuc 0) 18446744073709551615 (negsuc 0) 18446744073709551614
    ∷ []
