use Rattle.sheet.specs.Tables.{sheet_in}
use Rattle.sheet.proofs.Checking.{Passed}
use Rattle.sheet.proofs.tables.Tables.load.Given as goal

abbrev pub invariant-loop-place : goal.invariant-loop-place
invariant-loop-place g l = Passed (g.S.SheetSource.entries l.source) l.place-iterator.count (sheet_in l.tables) l.place-iterator.iter
