-- command b    the command of a byte, where it is one
-- Names b r    r is that command, or says that the byte is unknown
-- operands c   how many operand bytes follow it in packed form
use Rattle.std.specs.Prelude.{◌≡◌, ℕ, cond, Some, None, Option, Ok, Err, Result, ◌==◌}
use Rattle.refusals.specs.declared.Reason.{Reason}
use Rattle.refusals.specs.declared.Reason.TheVariants.{Unknown}
use Rattle.sheet.specs.declared.command.Command.{Command}
use Rattle.sheet.specs.declared.command.Command.TheVariants.{NameArity, DataArity, TickArity, TupleArity, BindingArity, Constructor, Variable, VariableRow, ApplyRow, TupleRow, BindRow}

abbrev pub command : ℕ → Option Command
command b =
    cond (b == 0x01) (Some NameArity)
    (cond (b == 0x02) (Some DataArity)
    (cond (b == 0x03) (Some TickArity)
    (cond (b == 0x04) (Some TupleArity)
    (cond (b == 0x05) (Some BindingArity)
    (cond (b == 0x10) (Some Constructor)
    (cond (b == 0x20) (Some Variable)
    (cond (b == 0x30) (Some VariableRow)
    (cond (b == 0x31) (Some ApplyRow)
    (cond (b == 0x32) (Some TupleRow)
    (cond (b == 0x33) (Some BindRow) None))))))))))

-- what reading a byte as a command answers
abbrev pub Names : ℕ → Result Command Reason → Type 0
Names b (Ok c) = command b ≡ Some c
Names b (Err x) = (command b ≡ None) × (x ≡ Unknown)

abbrev pub operands : Command → ℕ
operands NameArity = 0
operands DataArity = 0
operands TickArity = 0
operands TupleArity = 5
operands BindingArity = 2
operands Constructor = 2
operands Variable = 1
operands VariableRow = 1
operands ApplyRow = 2
operands TupleRow = 5
operands BindRow = 3
