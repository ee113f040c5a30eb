use Prim.Native.Nat.{◌/◌, ◌%◌}
use borrow.Author.Rules.{rules}
use Rattle.base.proofs.StdLists.{from_fn_listed}
use Rattle.grid.specs.Clauses.{grid_at, grid_of}
use Rattle.grid.proofs.entries.Goals as goal

pub returns : goal.returns
unfolding grid_of
returns c =
    from_fn_listed _ _ (λ k. grid_at c.args.t.rows c.args.t.columns c.args.cells.now (k / 13) (k % 13)) (λ i x q k. search rules)
    c.from_fn.result 169 0 c.from_fn.ensures.items
