use mathlib.Core.Path.{◌≡◌}
use Prim.Native.Nat.{min}
use lib.ListN.{get_or}
use Rattle.std.specs.List.{fold}
use Rattle.planning.proofs.LimitLoops.{smallest_is}
use borrow.Author.Rules.{rules}
use Rattle.planning.proofs.limits.smallest.Goals as goal

pub returns : goal.returns
returns c =
    let l = c.args.l.now in
    let e : c.fold.result ≡ fold min (get_or l 0 0) l = search rules in
    smallest_is l c.told-l e
