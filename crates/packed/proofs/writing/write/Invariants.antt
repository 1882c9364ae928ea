use Rattle.packed.proofs.Laying.{Laid}
use Rattle.packed.proofs.writing.write.Given as goal

abbrev pub invariant-loop-entry : goal.invariant-loop-entry
invariant-loop-entry g l = Laid (g.S.SheetSource.entries l.source) l.entry-iterator l.initial.buffer l.buffer l.at
