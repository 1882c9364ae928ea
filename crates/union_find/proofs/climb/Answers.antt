use Rattle.std.proofs.Common.{sym, subst, arith}
use Rattle.union_find.specs.Tables.{Way, top}
use Rattle.union_find.proofs.Ways.{way_one, way_more}
use Rattle.union_find.proofs.climb.Goals as goal

pub returns-in_default-clause-way : goal.returns-in_default-clause-way
returns-in_default-clause-way g c = subst (Way g.G.Group _ _ _) (sym c.identity.ensures) (top (omega arith))

pub loop-next-init : goal.loop-next-init
loop-next-init g c = way_one g.G.Group g.met.G.Group.group c.in-Some.ensures

pub loop-next-preserved : goal.loop-next-preserved
loop-next-preserved g c =
    let step = way_more g.G.Group g.met.G.Group.group c.loop-next.invariant c.in-Some-link_of.ensures in
    rw (c.then-way.ensures.parent, c.then-way.ensures.step) step
