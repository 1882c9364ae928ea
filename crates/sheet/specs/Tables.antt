-- sheet_in t       the sheet that tables hold
-- Admits S e r T   what the sheet S answers to the entry e, and the sheet after it
-- Loaded es r      what loading the entries es answers: their sheet, where they are lawful
-- LowestBarrenIn   the lowest data arity of a sheet that has no tree, if any
use Rattle.std.specs.Prelude.{◌≡◌, ℕ, ◌<◌, List, Some, None, Ok, Err, Option, Result}
use Rattle.std.specs.List.{slice_get}
use Rattle.refusals.specs.declared.Reason.{Reason}
use Rattle.refusals.specs.declared.Refusal.{Refusal}
use Rattle.bounded.specs.Items.{items}
use Rattle.sheet.specs.declared.entry.Entry.{Entry}
use Rattle.sheet.specs.declared.item.Arity.TheVariants.{Data}
use Rattle.sheet.specs.declared.tables.Tables.{Tables}
use Rattle.sheet.specs.Sheets.{Sheet, extend, sheet_of}
use Rattle.sheet.specs.Faults.{fault}
use Rattle.sheet.specs.Arities.{Inhabited}
use Rattle.sheet.specs.Checks.{Barren, Lawful, Declined}

abbrev pub sheet_in : Tables → Sheet
sheet_in t = record { arities = items t.arities; constructors = items t.constructors; variables = items t.variables; rows = items t.rows }

abbrev pub Admits : Sheet → Entry → Result Unit Reason → Sheet → Type 0
Admits S e (Ok _) T = (fault S e ≡ None) × (T ≡ extend S e)
Admits S e (Err x) T = (fault S e ≡ Some x) × (T ≡ S)

abbrev pub LowestBarrenIn : Sheet → Option ℕ → Type 0
LowestBarrenIn S None = (a : ℕ) → slice_get S.arities a ≡ Some Data → Inhabited S a
LowestBarrenIn S (Some b) = Barren S b × ((a : ℕ) → a < b → slice_get S.arities a ≡ Some Data → Inhabited S a)

abbrev pub Loaded : List Entry → Result Tables Refusal → Type 0
Loaded es (Ok t) = Lawful es × (sheet_in t ≡ sheet_of es)
Loaded es (Err f) = Declined es f
