-- Listed bs r   what is found of bytes: the tables of the sheet that they mean and its number of entries,
--               or why reading refuses them
use Rattle.std.specs.Prelude.{◌≡◌, ℕ, List, length, Ok, Err, Result}
use Rattle.refusals.specs.declared.Refusal.{Refusal}
use Rattle.sheet.specs.Sheets.{sheet_of}
use Rattle.sheet.specs.Tables.{sheet_in}
use Rattle.packed.specs.Packed.{packed}
use Rattle.packed.specs.Forms.{Accepted, Read}
use Rattle.list_sheet.specs.declared.Listing.{Listing}

abbrev pub Listed : List ℕ → Result Listing Refusal → Type 0
Listed bs (Ok l) = Accepted bs × (l.entries ≡ length (packed bs)) × (sheet_in l.tables ≡ sheet_of (packed bs))
Listed bs (Err f) = Read bs (Err f)
