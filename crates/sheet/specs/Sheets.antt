-- Sheet          arities, constructors, variables and rows, each in the order of their numbers
-- item S e       what entry e declares after sheet S, where its byte is a command
-- declare S i    sheet S with one more declaration
-- extend S e     sheet S with one more entry
-- sheet_of es    the sheet of a list of entries
use Rattle.std.specs.Prelude.{ℕ, List, [], ◌∷◌, ◌++◌, Some, None, Option, refl}
use Rattle.std.specs.List.{slice_get}
use Rattle.sheet.specs.Commands.{command}
use Rattle.sheet.specs.declared.entry.Entry.{Entry}
use Rattle.sheet.specs.declared.command.Command.{Command}
use Rattle.sheet.specs.declared.command.Command.TheVariants.{NameArity, DataArity, TickArity, TupleArity, BindingArity, Constructor as ConstructorEntry, Variable as VariableEntry, VariableRow, ApplyRow, TupleRow, BindRow}
use Rattle.sheet.specs.declared.item.Parts.{Parts}
use Rattle.sheet.specs.declared.item.Arity.{Arity}
use Rattle.sheet.specs.declared.item.Arity.TheVariants.{Name, Data, Tick, Tuple, Binding}
use Rattle.sheet.specs.declared.item.Constructor.{Constructor}
use Rattle.sheet.specs.declared.item.Row.{Row}
use Rattle.sheet.specs.declared.item.Row.TheVariants.{Variable as variable_row, Apply as apply_row, Tuple as tuple_row, Bind as bind_row}
use Rattle.sheet.specs.declared.item.Item.{Item}
use Rattle.sheet.specs.declared.item.Item.TheVariants.{Arity as an_arity, Constructor as a_constructor, Variable as a_variable, Row as a_row}

pub record Sheet : Type 0 where
  pub arities : List Arity
  pub constructors : List Constructor
  pub variables : List ℕ
  pub rows : List Row

abbrev pub blank : Sheet
blank = record { arities = []; constructors = []; variables = []; rows = [] }

-- how many parts a tuple arity has; 0 for what is no tuple arity, whose rows are not read
abbrev pub width_of : Option Arity → ℕ
width_of None = 0
width_of (Some Name) = 0
width_of (Some Data) = 0
width_of (Some Tick) = 0
width_of (Some (Tuple ps)) = ps.len
width_of (Some (Binding n a)) = 0

-- the operands of an entry from the second on, as the parts of a tuple
abbrev pub operand_parts : ℕ → Entry → Parts
operand_parts n e = record { len = n; numbers = e.b ∷ e.c ∷ e.d ∷ e.e ∷ []; four = refl }

abbrev pub item_by : Sheet → Entry → Command → Item
item_by S e NameArity = an_arity Name
item_by S e DataArity = an_arity Data
item_by S e TickArity = an_arity Tick
item_by S e TupleArity = an_arity (Tuple (operand_parts e.a e))
item_by S e BindingArity = an_arity (Binding e.a e.b)
item_by S e ConstructorEntry = a_constructor (record { makes = e.a; takes = e.b })
item_by S e VariableEntry = a_variable e.a
item_by S e VariableRow = a_row (variable_row e.a)
item_by S e ApplyRow = a_row (apply_row e.a e.b)
item_by S e TupleRow = a_row (tuple_row e.a (operand_parts (width_of (slice_get S.arities e.a)) e))
item_by S e BindRow = a_row (bind_row e.a e.b e.c)

abbrev pub item_of : Sheet → Entry → Option Command → Option Item
item_of S e None = None
item_of S e (Some c) = Some (item_by S e c)

unfoldable pub item : Sheet → Entry → Option Item
item S e = item_of S e (command e.command)

abbrev pub declare : Sheet → Item → Sheet
declare S (an_arity x) = record { arities = S.arities ++ x ∷ []; constructors = S.constructors; variables = S.variables; rows = S.rows }
declare S (a_constructor x) = record { arities = S.arities; constructors = S.constructors ++ x ∷ []; variables = S.variables; rows = S.rows }
declare S (a_variable x) = record { arities = S.arities; constructors = S.constructors; variables = S.variables ++ x ∷ []; rows = S.rows }
declare S (a_row x) = record { arities = S.arities; constructors = S.constructors; variables = S.variables; rows = S.rows ++ x ∷ [] }

abbrev pub declare_some : Sheet → Option Item → Sheet
declare_some S None = S
declare_some S (Some i) = declare S i

abbrev pub extend : Sheet → Entry → Sheet
extend S e = declare_some S (item S e)

abbrev pub extend_all : Sheet → List Entry → Sheet
extend_all S [] = S
extend_all S (e ∷ es) = extend_all (extend S e) es

unfoldable pub sheet_of : List Entry → Sheet
sheet_of es = extend_all blank es
