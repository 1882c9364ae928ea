-- digit v      the upper-case hexadecimal digit of v, a number below 16
-- digits bs    the digits of bytes, two for each
-- spelled bs   the text that stands for bytes
use Rattle.std.specs.Prelude.{ℕ, ◌+◌, ◌/◌, ◌%◌, cond, List, [], ◌∷◌, nat_lt}
use Rattle.std.specs.List.{flat_map}

-- "0" is 48, and "A" is 65
abbrev pub digit : ℕ → ℕ
digit v = cond (nat_lt v 10) (48 + v) (55 + v)

abbrev pub pair : ℕ → List ℕ
pair b = digit (b / 16) ∷ digit (b % 16) ∷ []

abbrev pub digits : List ℕ → List ℕ
digits bs = flat_map pair bs

-- a hyphen, 45, for no bytes
abbrev pub spelled : List ℕ → List ℕ
spelled [] = 45 ∷ []
spelled (b ∷ bs) = digits (b ∷ bs)
