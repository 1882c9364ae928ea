use Rattle.std.proofs.Common.{◌≡◌, Some, arith}
use Rattle.sheet.specs.Commands.{command}
use Rattle.packed.proofs.Packing.{front_split}
use Rattle.packed.proofs.source.first_command.Goals as goal

pub returns : goal.returns
returns c =
    let known : command c.in_ok-byte.byte.now ≡ Some c.in_ok-command.command = grind arith in
    rw (c.in_ok-byte.ensures.cases.0, c.entry_of.ensures) (front_split _ _ _ _ _ _ known c.operands.ensures c.in_ok-given.ensures.cases)
