use Rattle.std.proofs.Common.{◌≡◌}
use Rattle.groups.specs.Renamings.{image}
use Rattle.groups.specs.Gathers.{gather}
use Rattle.groups.proofs.renaming.RenamingGroup.compose.Given as goal

abbrev pub invariant-loop-i : goal.invariant-loop-i
invariant-loop-i l = l.bits ≡ gather 4 (λ i. image l.self.bits (image l.other.bits i)) (λ i. i) l.i
