use Rattle.paths.proofs.Paths.{AtCol}
use Rattle.paths.proofs.FreePlaces.flip_path.Given as goal

abbrev pub invariant-loop-level : goal.invariant-loop-level
invariant-loop-level l = AtCol l.initial.self.up l.initial.self.down l.reached.rows l.reached.cols l.start l.fn.found.column l.fn.found.level l.self.up l.self.down l.q l.level
