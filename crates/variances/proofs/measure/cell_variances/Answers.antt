use mathlib.Core.Path.{◌≡◌}
use Rattle.std.specs.List.{sum_by}
use borrow.Author.Rules.{rules}
use Rattle.variances.specs.Variance.{rounding_variance}
use Rattle.variances.proofs.Measuring.{variances_added}
use Rattle.variances.proofs.measure.cell_variances.Goals as goal

pub returns : goal.returns
returns c =
    let added : c.sum.result ≡ sum_by (rounding_variance c.args.d) c.args.cells.now = search rules in
    variances_added c.requires.denominator c.requires.few added
