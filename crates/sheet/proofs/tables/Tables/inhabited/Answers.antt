use Rattle.std.proofs.Common.{arith}
use Rattle.sheet.specs.Tables.{sheet_in}
use Rattle.sheet.proofs.Growing.{added_fewer, added_sound}
use Rattle.sheet.proofs.tables.Tables.inhabited.Goals as goal

pub loop-a-smaller : goal.loop-a-smaller
loop-a-smaller c =
    let (below, out, grow) = c.in-Some.ensures in
    added_fewer (sheet_in c.args.self.now) c.loop-a.marks c.add.new.self c.in-Some.a below out grow c.add.ensures

pub loop-a-preserved : goal.loop-a-preserved
loop-a-preserved c =
    let (below, out, grow) = c.in-Some.ensures in
    (added_sound (sheet_in c.args.self.now) c.loop-a.marks c.add.new.self c.in-Some.a below out grow c.add.ensures c.loop-a.invariant.0, omega arith)
