-- A greatest common divisor of the second number and the remainder is one of both numbers.
use Rattle.std.proofs.lemmas.Nat.Gcd.{IsGcd-from_mod}
use Rattle.multiples.proofs.+gcd.Goals as goal

pub returns-else-b-eq0 : goal.returns-else-b-eq0
returns-else-b-eq0 t c = IsGcd-from_mod _ _ _ c.gcd.ensures
