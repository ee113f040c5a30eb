-- The divisor is from 1 on, and the quotient times the second number is the least common multiple.
use Rattle.multiples.proofs.Multiples.{divides, formula}
use Rattle.multiples.proofs.lcm.Goals as goal

pub nonzero_div-result : goal.nonzero_div-result
nonzero_div-result c = divides c.requires c.gcd-g.ensures

pub returns : goal.returns
returns c = formula c.requires c.gcd-g.ensures
