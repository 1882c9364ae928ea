use Rattle.union_find.proofs.Hanging.{Lifting}
use Rattle.union_find.proofs.lift.Given as goal

abbrev pub invariant-loop-link : goal.invariant-loop-link
invariant-loop-link g l = Lifting g.G.Group l.initial.entries l.entries l.a l.up.parent l.up.step l.link-index
