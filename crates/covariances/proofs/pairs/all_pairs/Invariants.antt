use mathlib.Core.Path.{◌≡◌}
use lib.ListN.{length}
use Rattle.form.specs.Form.{decode}
use Rattle.covariances.proofs.Products.{RowsTo}
use Rattle.covariances.proofs.pairs.all_pairs.Given as goal

abbrev pub invariant-loop-a : goal.invariant-loop-a
invariant-loop-a l = (l.a-end ≡ length l.cells) × RowsTo (decode l.plan.plan.bytes.now) l.a l.e
