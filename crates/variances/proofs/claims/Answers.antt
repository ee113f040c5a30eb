use Rattle.variances.proofs.Covariances.{symmetric, variance_pairs, opened_variance, opened_cell, opened_row}
use Rattle.variances.proofs.Extremes.{smallest_is, largest_is}
use Rattle.covariances.proofs.Outcomes.{opened_bounded}
use Rattle.variances.proofs.Examples.{cases_told}
use Rattle.variances.proofs.claims.Goals as goal

pub returns-clause-symmetric : goal.returns-clause-symmetric
returns-clause-symmetric c = symmetric

pub returns-clause-pairs : goal.returns-clause-pairs
returns-clause-pairs c = variance_pairs

pub returns-clause-cells : goal.returns-clause-cells
returns-clause-cells c = opened_cell

pub returns-clause-entries : goal.returns-clause-entries
returns-clause-entries c = opened_variance

pub returns-clause-rows : goal.returns-clause-rows
returns-clause-rows c = opened_row

pub returns-clause-bounded : goal.returns-clause-bounded
returns-clause-bounded c = opened_bounded

pub returns-clause-smallest : goal.returns-clause-smallest
returns-clause-smallest c = smallest_is

pub returns-clause-largest : goal.returns-clause-largest
returns-clause-largest c = largest_is

pub returns-clause-told : goal.returns-clause-told
returns-clause-told c = cases_told
