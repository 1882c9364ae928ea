-- Reading and writing packed sheets.
--
-- byte_fault bs     what is wrong with the bytes of a packed sheet, and where
-- Read bs r         what reading answers
-- Written es b r c  what writing the sheet es into a buffer that holds b answers, and what the buffer holds then
use Rattle.std.specs.Prelude.{◌≡◌, ℕ, ◌+◌, ◌<◌, ◌≤◌, cond, ◌⊎◌, ◌↔◌, List, [], ◌∷◌, ◌++◌, length, drop, Some, None, Ok, Err, Option, Result, ◌==◌}
use Rattle.std.specs.List.{flat_map}
use Rattle.refusals.specs.declared.Refusal.{Refusal}
use Rattle.refusals.specs.declared.Reason.TheVariants.{Cut, Unknown, Tail, Short}
use Rattle.sheet.specs.declared.entry.Entry.{Entry}
use Rattle.sheet.specs.declared.command.Command.{Command}
use Rattle.sheet.specs.Commands.{command}
use Rattle.sheet.specs.Checks.{Lawful, Declined}
use Rattle.packed.specs.Packed.{bytes_of, packed_form, packed, end_byte}

-- how many bytes the whole commands at the front take
unfoldable pub extent : List ℕ → ℕ
extent bs = length (flat_map bytes_of (packed bs))

-- what is wrong with a byte that begins no whole command, at offset n
abbrev pub no_entry : ℕ → Option Command → Option Refusal
no_entry n None = Some (record { reason = Unknown; place = n })
no_entry n (Some c) = Some (record { reason = Cut; place = n })

-- what is wrong with bytes after the end byte at offset n
abbrev pub after_end : ℕ → List ℕ → Option Refusal
after_end n [] = None
after_end n (b ∷ bs) = Some (record { reason = Tail; place = n + 1 })

-- what is wrong with the bytes from offset n on, where the whole commands end
abbrev pub ending : ℕ → List ℕ → Option Refusal
ending n [] = Some (record { reason = Cut; place = n })
ending n (b ∷ bs) = cond (b == end_byte) (after_end n bs) (no_entry n (command b))

-- the same of bytes that stand at offset n of the whole
abbrev pub byte_fault_at : ℕ → List ℕ → Option Refusal
byte_fault_at n bs = ending (n + extent bs) (drop (extent bs) bs)

abbrev pub byte_fault : List ℕ → Option Refusal
byte_fault bs = byte_fault_at 0 bs

-- bytes that reading accepts
abbrev pub Accepted : List ℕ → Type 0
Accepted bs = (byte_fault bs ≡ None) × Lawful (packed bs)

abbrev pub Read : List ℕ → Result ℕ Refusal → Type 0
Read bs (Ok n) = Accepted bs × (n ≡ length (packed bs))
Read bs (Err f) = (byte_fault bs ≡ Some f) ⊎ ((byte_fault bs ≡ None) × Declined (packed bs) f)

-- the sheet is lawful and its packed form is longer than the buffer
pub record TooShort (es : List Entry) (before : List ℕ) (f : Refusal) : Type 0 where
  pub lawful : Lawful es
  pub short : length before < length (packed_form es)
  pub is : f ≡ record { reason = Short; place = 0 }

abbrev pub Written : List Entry → List ℕ → Result ℕ Refusal → List ℕ → Type 0
Written es before (Ok n) after = Lawful es × (n ≡ length (packed_form es)) × (n ≤ length before) × (after ≡ packed_form es ++ drop n before)
Written es before (Err f) after = (Declined es f ⊎ TooShort es before f) × (after ≡ before)

-- a lawful sheet has one packed form: of all bytes that reading accepts, those alone mean it
abbrev pub OneForm : Type 0
OneForm = (es : List Entry) → Lawful es → (bs : List ℕ) → (Accepted bs × (packed bs ≡ es)) ↔ (bs ≡ packed_form es)

-- bytes that reading accepts are the packed form of the sheet read from them
abbrev pub ReadIsForm : Type 0
ReadIsForm = (bs : List ℕ) → Accepted bs → bs ≡ packed_form (packed bs)

-- what is written of a lawful sheet reads back as the same entries
abbrev pub FormReadsBack : Type 0
FormReadsBack = (es : List Entry) → Lawful es → Accepted (packed_form es) × (packed (packed_form es) ≡ es)
