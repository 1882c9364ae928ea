-- How much a lawful sheet may have: arities, name arities among them, constructors, variables,
-- name variables among them, rows; and parts of a tuple.
use Rattle.std.specs.Prelude.{ℕ}

abbrev pub most_arities : ℕ
most_arities = 64

abbrev pub most_name_arities : ℕ
most_name_arities = 4

abbrev pub most_constructors : ℕ
most_constructors = 32

abbrev pub most_variables : ℕ
most_variables = 64

abbrev pub most_name_variables : ℕ
most_name_variables = 10

abbrev pub most_rows : ℕ
most_rows = 256

abbrev pub most_parts : ℕ
most_parts = 4
