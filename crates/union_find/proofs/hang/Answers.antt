use Rattle.union_find.proofs.Hanging.{hang_hung}
use Rattle.union_find.proofs.hang.Goals as goal

pub returns : goal.returns
returns g c =
    rw (c.from.ensures, c.from-2.ensures, c.link.ensures) (hang_hung _ _ _ _ _ (rw c.from.ensures at c.lift.ensures) c.ranges.a.fits c.requires.room)
