use Rattle.std.proofs.Common.{◌≡◌, ap, ◌∙◌, arith}
use Rattle.groups.specs.Renamings.{names, image}
use Rattle.groups.proofs.Seen.{seen, when_seen, when_unseen}
use Rattle.groups.proofs.renaming.RenamingGroup.is_lawful.Goals as goal

pub returns-then-seen : goal.returns-then-seen
returns-then-seen c =
    let n = c.args.self.bits in
    let e : c.loop-i.i ≡ names = omega arith in
    when_seen n c.loop-i.seen (c.loop-i.invariant ∙ ap (seen (image n)) e) c.if-seen.true

pub returns-else-seen : goal.returns-else-seen
returns-else-seen c =
    let n = c.args.self.bits in
    let e : c.loop-i.i ≡ names = omega arith in
    when_unseen n c.loop-i.seen (c.loop-i.invariant ∙ ap (seen (image n)) e) c.if-seen.false
