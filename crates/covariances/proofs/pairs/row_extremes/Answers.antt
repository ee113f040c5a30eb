use Rattle.std.proofs.Common.{ap, ◌∙◌, length-append}
use Rattle.std.specs.Iterator.Adapters.{zip_first, zip_second}
use Rattle.std.specs.Slice.Iter.{iter_rest}
use Rattle.std.proofs.lemmas.Iterator.{empty_from_Zip}
use Rattle.covariances.proofs.RowLoop.{row_none, row_liftable, row_more, row_level, row_all}
use Rattle.covariances.proofs.pairs.row_extremes.Goals as goal

pub loop-products-init : goal.loop-products-init
loop-products-init c =
    let pair = c.into_iter-products-iterator.ensures.into_iter_gives in
    let both = c.zip-products-items.ensures in
    row_none (ap (λ p. iter_rest (zip_first p)) pair ∙ ap iter_rest both.first ∙ c.iter.ensures.rest) (ap (λ p. iter_rest (zip_second p)) pair ∙ both.second.0)

pub lifted-requires : goal.lifted-requires
lifted-requires c = row_liftable c.requires c.loop-products.invariant c.in-Some.ensures.steps.0 c.in-Some.ensures.steps.1

pub loop-products-preserved : goal.loop-products-preserved
loop-products-preserved c =
    let steps = c.in-Some.ensures.steps in
    row_more c.requires c.loop-products.invariant steps.0 steps.1 c.lifted.ensures (length-append c.loop-products.yielded _) c.with-e.ensures.low c.with-e.ensures.high

pub returns : goal.returns
returns c =
    let loop = c.loop-products.invariant in
    row_all c.requires loop (empty_from_Zip _ c.next.new.self _ c.in-None.is c.next.ensures.steps (row_level c.requires loop)).1
