use Rattle.std.proofs.Common.{◌≤◌}
use Rattle.sheet.specs.Limits.{most_arities}
use Rattle.sheet.specs.Tables.{sheet_in}
use Rattle.sheet.specs.Growth.{Sound, left_out}
use Rattle.sheet.proofs.tables.Tables.inhabited.Given as goal

abbrev pub invariant-loop-a : goal.invariant-loop-a
invariant-loop-a l = Sound (sheet_in l.self) l.marks × (l.from ≤ most_arities)

abbrev pub decreases-loop-a : goal.decreases-loop-a
decreases-loop-a l = left_out l.marks.at
