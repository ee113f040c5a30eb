use native.Mathlib.Omega.{arith}
use Rattle.writing.proofs.Puts.{put_head}
use Rattle.writing.proofs.head.Goals as goal

pub returns : goal.returns
returns c = put_head _ _ _ _ _ _ _ _ _ c.put2.ensures c.put1.ensures c.put1-2.ensures c.put2-2.ensures c.put2-3.ensures (omega arith)
