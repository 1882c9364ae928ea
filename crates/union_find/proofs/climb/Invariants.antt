use Rattle.union_find.specs.Tables.{Way}
use Rattle.union_find.proofs.climb.Given as goal

abbrev pub invariant-loop-next : goal.invariant-loop-next
invariant-loop-next g l = Way g.G.Group l.table l.i l.way.parent l.way.step

abbrev pub decreases-loop-next : goal.decreases-loop-next
decreases-loop-next g l = l.way.parent
