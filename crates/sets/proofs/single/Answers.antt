use native.Mathlib.Omega.{arith}
use mathlib.Core.Path.{◌≡◌}
use Prim.Native.Nat.{ℕ, ◌*◌, ◌%◌, ◌^◌, ◌<◌, ◌≤◌}
use lib.Pow.{pow_mono}
use Rattle.sets.proofs.Members.{single_is}
use Rattle.sets.proofs.single.Goals as goal

small : (i : ℕ) → i < 13 → 1 * 2 ^ i % 4294967296 ≡ 2 ^ i
small i h = let l : 2 ^ i ≤ 2 ^ 12 = pow_mono {j = 12} (omega arith) in omega arith

pub returns : goal.returns
returns c = let e : 1 * 2 ^ c.args.i % 4294967296 ≡ 2 ^ c.args.i = small c.args.i c.requires in rw e (single_is c.args.i c.requires)
