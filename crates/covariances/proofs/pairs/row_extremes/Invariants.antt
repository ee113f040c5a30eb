use Rattle.std.proofs.Common.{length}
use Rattle.std.specs.Iterator.Adapters.{zip_first, zip_second}
use Rattle.std.specs.Slice.Iter.{iter_rest}
use Rattle.covariances.proofs.RowLoop.{RowTo}
use Rattle.covariances.proofs.pairs.row_extremes.Given as goal

abbrev pub invariant-loop-products : goal.invariant-loop-products
invariant-loop-products l =
    RowTo l.d l.cells l.a l.sums l.initial.e (iter_rest (zip_first l.products-iterator)) (iter_rest (zip_second l.products-iterator)) (length l.yielded) l.e
