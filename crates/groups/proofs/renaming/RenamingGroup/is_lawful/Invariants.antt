use Rattle.std.proofs.Common.{◌≡◌}
use Rattle.groups.specs.Renamings.{image}
use Rattle.groups.proofs.Seen.{seen}
use Rattle.groups.proofs.renaming.RenamingGroup.is_lawful.Given as goal

abbrev pub invariant-loop-i : goal.invariant-loop-i
invariant-loop-i l = l.seen ≡ seen (image l.self.bits) l.i
