use Rattle.std.proofs.Common.{rules}
use borrow.Author.Tests.{tests}
use Rattle.packed.proofs.Laying.{wide, left_over, room_says}
use Rattle.packed.proofs.writing.fits.Goals as goal

pub returns : goal.returns
returns g c =
    let left = left_over _ _ _ _ _ c.try_fold.result _ _ c.try_fold.ensures.ran (λ p q e t. search (rules, tests)) (λ a h. h) (λ f a e h. search (rules, tests)) in
    room_says c.try_fold.result c.is_some_and.result (wide (g.S.SheetSource.entries c.args.source.now)) c.args.room (rw c.of.ensures at left) (search (rules, tests))
