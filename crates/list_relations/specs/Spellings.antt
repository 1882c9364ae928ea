-- Renamings as lines spell them: ten digits, the image of name 0 first.
--
--   IsDigit c       the character is a digit; "0" is 48
--   IsSpelling ds   as many characters as there are names, each a digit
--   spelled ds      the renaming that they spell
use Rattle.std.specs.Prelude.{◌≡◌, ℕ, ◌-◌, ◌<◌, ◌≤◌, List, length, slice_index, EachIndex}
use Rattle.groups.specs.declared.renaming.Renaming.{Renaming}
use Rattle.groups.specs.Renamings.{names, pack, renaming}

abbrev pub IsDigit : ℕ → Type 0
IsDigit c = (48 ≤ c) × (c < 58)

abbrev pub IsSpelling : List ℕ → Type 0
IsSpelling ds = (length ds ≡ names) × EachIndex ds (λ k. IsDigit (slice_index ds k))

abbrev pub spelled : List ℕ → Renaming
spelled ds = renaming (pack (λ k. slice_index ds k - 48))
