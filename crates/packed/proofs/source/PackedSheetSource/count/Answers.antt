use Rattle.std.proofs.Common.{inl, arith}
use Rattle.packed.proofs.Packing.{packed_few}
use Rattle.packed.proofs.source.PackedSheetSource.count.Goals as goal

pub count-requires-clause-fits : goal.count-requires-clause-fits
count-requires-clause-fits c = inl (omega (arith, packed_few c.args.self.now.bytes.now))
