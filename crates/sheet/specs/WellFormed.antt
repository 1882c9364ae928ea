-- What every lawful sheet is, said of the sheet as a whole.
--
-- WellFormed S    it is within the limits, and whatever it declares fits it
-- ArityFits S a x, ConstructorFits S x, VariableFits S a, RowFits S r x
--                 what is named is there, of the right kind and arity; arities and rows name earlier ones only
use Rattle.std.specs.Prelude.{◌≡◌, ℕ, ◌<◌, ◌≤◌, List, [], ◌∷◌, length, Some}
use Rattle.std.specs.List.{slice_get, count_by, AllZip}
use Rattle.sheet.specs.declared.entry.Entry.{Entry}
use Rattle.sheet.specs.declared.item.Parts.{Parts}
use Rattle.sheet.specs.declared.item.Arity.{Arity}
use Rattle.sheet.specs.declared.item.Arity.TheVariants.{Name, Data, Tick, Tuple, Binding}
use Rattle.sheet.specs.declared.item.Constructor.{Constructor}
use Rattle.sheet.specs.declared.item.Row.{Row}
use Rattle.sheet.specs.declared.item.Row.TheVariants.{Variable as variable_row, Apply as apply_row, Tuple as tuple_row, Bind as bind_row}
use Rattle.sheet.specs.Limits.{most_arities, most_name_arities, most_constructors, most_variables, most_name_variables, most_rows, most_parts}
use Rattle.sheet.specs.Parts.{parts}
use Rattle.sheet.specs.Sheets.{Sheet, sheet_of}
use Rattle.sheet.specs.Faults.{is_name, names_names, row_arity}
use Rattle.sheet.specs.Checks.{Lawful}

-- P holds of every number of the list
abbrev pub Every : (ℕ → Type 0) → List ℕ → Type 0
Every P [] = Unit {0}
Every P (x ∷ xs) = P x × Every P xs

pub record WithinLimits (S : Sheet) : Type 0 where
  pub arities : length S.arities ≤ most_arities
  pub name_arities : count_by is_name S.arities ≤ most_name_arities
  pub constructors : length S.constructors ≤ most_constructors
  pub variables : length S.variables ≤ most_variables
  pub name_variables : count_by (names_names S) S.variables ≤ most_name_variables
  pub rows : length S.rows ≤ most_rows

abbrev pub ArityFits : Sheet → ℕ → Arity → Type 0
ArityFits S a Name = Unit {0}
ArityFits S a Data = Unit {0}
ArityFits S a Tick = Unit {0}
ArityFits S a (Tuple ps) = (ps.len ≤ most_parts) × Every (λ p. p < a) (parts ps)
ArityFits S a (Binding n b) = (slice_get S.arities n ≡ Some Name) × (n < a) × (b < a)

abbrev pub ConstructorFits : Sheet → Constructor → Type 0
ConstructorFits S x = (slice_get S.arities x.makes ≡ Some Data) × (x.takes < length S.arities)

abbrev pub VariableFits : Sheet → ℕ → Type 0
VariableFits S a = a < length S.arities

-- row q stands before row r and has arity a
abbrev pub RowHas : Sheet → ℕ → ℕ → ℕ → Type 0
RowHas S r a q = (q < r) × (row_arity S q ≡ Some a)

abbrev pub RowFits : Sheet → ℕ → Row → Type 0
RowFits S r (variable_row v) = v < length S.variables
RowFits S r (apply_row c q) = (x : Constructor) × (slice_get S.constructors c ≡ Some x) × RowHas S r x.takes q
RowFits S r (tuple_row a qs) = (ps : Parts) × (slice_get S.arities a ≡ Some (Tuple ps)) × AllZip (RowHas S r) (parts ps) (parts qs)
RowFits S r (bind_row a v q) =
    (n : ℕ) × (b : ℕ) × (slice_get S.arities a ≡ Some (Binding n b)) × (slice_get S.variables v ≡ Some n) × RowHas S r b q

pub record WellFormed (S : Sheet) : Type 0 where
  pub limits : WithinLimits S
  pub arities : (a : ℕ) (x : Arity) → slice_get S.arities a ≡ Some x → ArityFits S a x
  pub constructors : (c : ℕ) (x : Constructor) → slice_get S.constructors c ≡ Some x → ConstructorFits S x
  pub variables : (v a : ℕ) → slice_get S.variables v ≡ Some a → VariableFits S a
  pub rows : (r : ℕ) (x : Row) → slice_get S.rows r ≡ Some x → RowFits S r x

abbrev pub LawfulIsWellFormed : Type 0
LawfulIsWellFormed = (es : List Entry) → Lawful es → WellFormed (sheet_of es)
