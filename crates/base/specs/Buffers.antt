-- What a call leaves in a buffer that it is lent. Assumes nothing.
use Rattle.std.specs.Prelude.{List, ◌++◌, ℕ, ◌+◌, length, take, drop}

-- some numbers at the start of a lent buffer, and what stood beyond them
abbrev pub written {ℓ} : {A : Type ℓ} → List A → List A → List A
written n buffer = n ++ drop (length n) buffer

-- a buffer with some numbers put at a place, and all else as before
unfoldable pub put_at : List ℕ → ℕ → List ℕ → List ℕ
put_at buffer at new = take at buffer ++ new ++ drop (at + length new) buffer
