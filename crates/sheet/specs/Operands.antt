-- operand_list e     the five operands of an entry
-- entry_of b xs      the entry of a command byte and operands
-- nonzero_past n e   past its first n operands there is one that is not 0
use Rattle.std.specs.Prelude.{ℕ, Bool, not, List, [], ◌∷◌, drop, nat_eq, slice_index}
use Rattle.std.specs.List.{list_all}
use Rattle.sheet.specs.declared.entry.Entry.{Entry}

abbrev pub operand_list : Entry → List ℕ
operand_list e = e.a ∷ e.b ∷ e.c ∷ e.d ∷ e.e ∷ []

abbrev pub nonzero_past : ℕ → Entry → Bool
nonzero_past n e = not (list_all (λ x. nat_eq x 0) (drop n (operand_list e)))

-- the entry of a command byte and operand bytes; operands that are not there are 0
abbrev pub entry_of : ℕ → List ℕ → Entry
entry_of b xs = record { command = b; a = slice_index xs 0; b = slice_index xs 1; c = slice_index xs 2; d = slice_index xs 3; e = slice_index xs 4 }
