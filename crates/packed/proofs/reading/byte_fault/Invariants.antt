use Rattle.std.proofs.Common.{◌≡◌, ◌-◌, ◌≤◌, length}
use Rattle.packed.specs.Forms.{byte_fault_at, byte_fault}
use Rattle.packed.proofs.reading.byte_fault.Given as goal

abbrev pub invariant-loop-after : goal.invariant-loop-after
invariant-loop-after l = (length l.rest ≤ length l.bytes) × (byte_fault_at (length l.bytes - length l.rest) l.rest ≡ byte_fault l.bytes)

abbrev pub decreases-loop-after : goal.decreases-loop-after
decreases-loop-after l = length l.rest
