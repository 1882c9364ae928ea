-- What is wrong with an entry, from the sheet before it.
--
-- behind S i        it is of an earlier group than some entry before it
-- crowded S i       it passes a limit, or is a tuple arity of more than four parts
-- present S i       its operands name earlier arities, constructors, variables and rows
-- well_sorted S i   they are of the right kind and arity
-- padded e i        an operand that it does not use is not 0
-- fault S e         the first of these, in the order of their numbers
use Rattle.std.specs.Prelude.{ℕ, ◌+◌, Bool, true, false, cond, not, ◌&&◌, ◌||◌, List, [], ◌∷◌, length, Some, None, Option, nat_eq, nat_le, nat_lt}
use Rattle.std.specs.List.{slice_get, count_by, list_all}
use Rattle.std.specs.Option.{option_map}
use Rattle.refusals.specs.declared.Reason.{Reason}
use Rattle.refusals.specs.declared.Reason.TheVariants.{Unknown, Order, Crowded, Absent, IllSorted, Padding}
use Rattle.sheet.specs.declared.entry.Entry.{Entry}
use Rattle.sheet.specs.declared.item.Arity.{Arity}
use Rattle.sheet.specs.declared.item.Arity.TheVariants.{Name, Data, Tick, Tuple, Binding}
use Rattle.sheet.specs.declared.item.Row.{Row}
use Rattle.sheet.specs.declared.item.Row.TheVariants.{Variable as variable_row, Apply as apply_row, Tuple as tuple_row, Bind as bind_row}
use Rattle.sheet.specs.declared.item.Item.{Item}
use Rattle.sheet.specs.declared.item.Item.TheVariants.{Arity as an_arity, Constructor as a_constructor, Variable as a_variable, Row as a_row}
use Rattle.sheet.specs.Limits.{most_arities, most_name_arities, most_constructors, most_variables, most_name_variables, most_rows, most_parts}
use Rattle.sheet.specs.Operands.{nonzero_past}
use Rattle.sheet.specs.Parts.{parts}
use Rattle.sheet.specs.Sheets.{Sheet, item}

abbrev pub some : {X : Type 0} → List X → Bool
some [] = false
some (x ∷ xs) = true

abbrev pub is_name : Arity → Bool
is_name Name = true
is_name Data = false
is_name Tick = false
is_name (Tuple ps) = false
is_name (Binding n a) = false

abbrev pub is_data : Arity → Bool
is_data Name = false
is_data Data = true
is_data Tick = false
is_data (Tuple ps) = false
is_data (Binding n a) = false

abbrev pub holds : {X : Type 0} → (X → Bool) → Option X → Bool
holds p None = false
holds p (Some x) = p x

-- a is the number of a name arity
abbrev pub names_names : Sheet → ℕ → Bool
names_names S a = holds is_name (slice_get S.arities a)

abbrev pub behind : Sheet → Item → Bool
behind S (an_arity x) = some S.constructors || (some S.variables || some S.rows)
behind S (a_constructor x) = some S.variables || some S.rows
behind S (a_variable x) = some S.rows
behind S (a_row x) = false

abbrev pub too_wide : Arity → Bool
too_wide Name = false
too_wide Data = false
too_wide Tick = false
too_wide (Tuple ps) = nat_lt most_parts ps.len
too_wide (Binding n a) = false

abbrev pub crowded : Sheet → Item → Bool
crowded S (an_arity x) =
    nat_le most_arities (length S.arities) || ((is_name x && nat_le most_name_arities (count_by is_name S.arities)) || too_wide x)
crowded S (a_constructor x) = nat_le most_constructors (length S.constructors)
crowded S (a_variable a) =
    nat_le most_variables (length S.variables) || (names_names S a && nat_le most_name_variables (count_by (names_names S) S.variables))
crowded S (a_row x) = nat_le most_rows (length S.rows)

-- k is the number of an element
abbrev pub has : {X : Type 0} → List X → ℕ → Bool
has xs k = nat_lt k (length xs)

abbrev pub present_arity : Sheet → Arity → Bool
present_arity S Name = true
present_arity S Data = true
present_arity S Tick = true
present_arity S (Tuple ps) = list_all (has S.arities) (parts ps)
present_arity S (Binding n a) = has S.arities n && has S.arities a

abbrev pub present_row : Sheet → Row → Bool
present_row S (variable_row v) = has S.variables v
present_row S (apply_row c r) = has S.constructors c && has S.rows r
present_row S (tuple_row a rs) = has S.arities a && list_all (has S.rows) (parts rs)
present_row S (bind_row a v r) = has S.arities a && (has S.variables v && has S.rows r)

abbrev pub present : Sheet → Item → Bool
present S (an_arity x) = present_arity S x
present S (a_constructor x) = has S.arities x.makes && has S.arities x.takes
present S (a_variable a) = has S.arities a
present S (a_row x) = present_row S x

-- the arity of a row, where what it names is there
abbrev pub arity_of : Sheet → Row → Option ℕ
arity_of S (variable_row v) = slice_get S.variables v
arity_of S (apply_row c r) = option_map (λ x. x.makes) (slice_get S.constructors c)
arity_of S (tuple_row a rs) = Some a
arity_of S (bind_row a v r) = Some a

abbrev pub arity_of_some : Sheet → Option Row → Option ℕ
arity_of_some S None = None
arity_of_some S (Some r) = arity_of S r

-- the arity of row r
abbrev pub row_arity : Sheet → ℕ → Option ℕ
row_arity S r = arity_of_some S (slice_get S.rows r)

-- row r has arity a
abbrev pub row_has : Sheet → ℕ → ℕ → Bool
row_has S a r = holds (nat_eq a) (row_arity S r)

-- each arity has a row of it, one by one
abbrev pub rows_have : Sheet → List ℕ → List ℕ → Bool
rows_have S [] rs = true
rows_have S (a ∷ as') [] = false
rows_have S (a ∷ as') (r ∷ rs) = row_has S a r && rows_have S as' rs

abbrev pub fits_tuple : Sheet → List ℕ → Arity → Bool
fits_tuple S rs Name = false
fits_tuple S rs Data = false
fits_tuple S rs Tick = false
fits_tuple S rs (Tuple ps) = rows_have S (parts ps) rs
fits_tuple S rs (Binding n a) = false

abbrev pub fits_binding : Sheet → ℕ → ℕ → Arity → Bool
fits_binding S v r Name = false
fits_binding S v r Data = false
fits_binding S v r Tick = false
fits_binding S v r (Tuple ps) = false
fits_binding S v r (Binding n a) = holds (nat_eq n) (slice_get S.variables v) && row_has S a r

abbrev pub well_sorted_arity : Sheet → Arity → Bool
well_sorted_arity S Name = true
well_sorted_arity S Data = true
well_sorted_arity S Tick = true
well_sorted_arity S (Tuple ps) = true
well_sorted_arity S (Binding n a) = names_names S n

abbrev pub well_sorted_row : Sheet → Row → Bool
well_sorted_row S (variable_row v) = true
well_sorted_row S (apply_row c r) = holds (λ x. row_has S x.takes r) (slice_get S.constructors c)
well_sorted_row S (tuple_row a rs) = holds (fits_tuple S (parts rs)) (slice_get S.arities a)
well_sorted_row S (bind_row a v r) = holds (fits_binding S v r) (slice_get S.arities a)

abbrev pub well_sorted : Sheet → Item → Bool
well_sorted S (an_arity x) = well_sorted_arity S x
well_sorted S (a_constructor x) = holds is_data (slice_get S.arities x.makes)
well_sorted S (a_variable a) = true
well_sorted S (a_row x) = well_sorted_row S x

-- how many operands an item uses
abbrev pub used_by_arity : Arity → ℕ
used_by_arity Name = 0
used_by_arity Data = 0
used_by_arity Tick = 0
used_by_arity (Tuple ps) = 1 + ps.len
used_by_arity (Binding n a) = 2

abbrev pub used_by_row : Row → ℕ
used_by_row (variable_row v) = 1
used_by_row (apply_row c r) = 2
used_by_row (tuple_row a rs) = 1 + rs.len
used_by_row (bind_row a v r) = 3

abbrev pub used : Item → ℕ
used (an_arity x) = used_by_arity x
used (a_constructor x) = 2
used (a_variable a) = 1
used (a_row x) = used_by_row x

abbrev pub padded : Entry → Item → Bool
padded e i = nonzero_past (used i) e

abbrev pub item_fault : Sheet → Entry → Item → Option Reason
item_fault S e i =
    cond (behind S i) (Some Order)
    (cond (crowded S i) (Some Crowded)
    (cond (not (present S i)) (Some Absent)
    (cond (not (well_sorted S i)) (Some IllSorted)
    (cond (padded e i) (Some Padding) None))))

abbrev pub fault_of : Sheet → Entry → Option Item → Option Reason
fault_of S e None = Some Unknown
fault_of S e (Some i) = item_fault S e i

unfoldable pub fault : Sheet → Entry → Option Reason
fault S e = fault_of S e (item S e)
