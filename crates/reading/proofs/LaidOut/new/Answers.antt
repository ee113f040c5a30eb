use Rattle.std.proofs.Common.{rules}
use Rattle.reading.proofs.Readings.{laid_long}
use Rattle.reading.proofs.LaidOut.new.Goals as goal

pub sizes-requires : goal.sizes-requires
sizes-requires c = search (rules, laid_long)
