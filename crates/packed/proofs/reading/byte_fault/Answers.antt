use Rattle.std.proofs.Common.{sym, ◌∙◌, arith}
use Rattle.packed.proofs.Packing.{front_longer, length_bytes}
use Rattle.packed.proofs.Forms.{fault_past, fault_stop}
use Rattle.packed.proofs.reading.byte_fault.Goals as goal

pub loop-after-smaller : goal.loop-after-smaller
loop-after-smaller c = omega (arith, front_longer _ _ _ c.in-Some.ensures, length_bytes c.in-Some.field-0-0)

pub loop-after-preserved : goal.loop-after-preserved
loop-after-preserved c = (omega (arith, front_longer _ _ _ c.in-Some.ensures), sym (fault_past _ _ _ _ c.in-Some.ensures c.loop-after.invariant.0) ∙ c.loop-after.invariant.1)

pub returns : goal.returns
returns c = rw (sym c.loop-after.invariant.1 ∙ fault_stop _ _ c.in_default.ensures) c.ending.ensures
