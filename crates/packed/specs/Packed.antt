-- The packed form.
--
-- bytes_of e             the bytes of an entry: its command and that command's operands
-- packed_form es         the packed form of a list of entries
-- packed bs              the entries that bytes mean: the whole commands before the first end byte, unknown byte or cut command
-- FrontWhole bs e rest   bytes bs begin with the whole command of e, and rest follows it
use Rattle.std.specs.Prelude.{◌≡◌, ℕ, zero, suc, cond, List, [], ◌∷◌, ◌++◌, length, take, Some, None, Option, nat_le}
use Rattle.std.specs.List.{flat_map}
use Rattle.sheet.specs.declared.entry.Entry.{Entry}
use Rattle.sheet.specs.declared.command.Command.{Command}
use Rattle.sheet.specs.Commands.{command, operands}
use Rattle.sheet.specs.Operands.{operand_list, entry_of}

abbrev pub end_byte : ℕ
end_byte = 0xFF

-- how many operand bytes follow a byte: none where it is no command
abbrev pub operand_count : Option Command → ℕ
operand_count None = 0
operand_count (Some c) = operands c

unfoldable pub bytes_of : Entry → List ℕ
bytes_of e = e.command ∷ take (operand_count (command e.command)) (operand_list e)

unfoldable pub packed_form : List Entry → List ℕ
packed_form es = flat_map bytes_of es ++ end_byte ∷ []

-- how many operands a command has, where they are all among so many bytes
abbrev pub whole : ℕ → Option Command → Option ℕ
whole n None = None
whole n (Some c) = cond (nat_le (operands c) n) (Some (operands c)) None

-- the command byte b with its operands, if they are all there, and then what is found past them
abbrev pub command_then : ℕ → List ℕ → (ℕ → List Entry) → Option ℕ → List Entry
command_then b bs past None = []
command_then b bs past (Some n) = entry_of b (take n bs) ∷ past n

-- the entries past the first k bytes
abbrev pub packed_past : ℕ → List ℕ → List Entry
packed_past k [] = []
packed_past (suc k) (b ∷ bs) = packed_past k bs
packed_past zero (b ∷ bs) = command_then b bs (λ n. packed_past n bs) (whole (length bs) (command b))

unfoldable pub packed : List ℕ → List Entry
packed bs = packed_past 0 bs

-- e is the command that rest follows
pub record FrontWhole (bs : List ℕ) (e : Entry) (rest : List ℕ) : Type 0 where
  pub split : bs ≡ bytes_of e ++ rest
  pub means : packed bs ≡ e ∷ packed rest
