-- Which arities have a tree, step by step from those that are known to.
--
-- marked m a      arity a is in the set m
-- grows S m a     arity a has a tree where those of m have
-- Sound S m       every arity in m has a tree
-- Closed S m      what has a tree where those of m have is in m
-- Missing S m r   an arity that has a tree where those of m have, and is not in m, if any
use Rattle.std.specs.Prelude.{◌≡◌, ℕ, ◌+◌, ◌<◌, Bool, true, false, cond, ◌&&◌, List, [], ◌∷◌, Some, None, Option, ◌==◌, slice_index_or}
use Rattle.std.specs.List.{slice_get, list_all, list_any}
use Rattle.sheet.specs.declared.tables.marks.Marks.{Marks}
use Rattle.sheet.specs.declared.item.Arity.{Arity}
use Rattle.sheet.specs.declared.item.Arity.TheVariants.{Name, Data, Tick, Tuple, Binding}
use Rattle.sheet.specs.declared.item.Constructor.{Constructor}
use Rattle.sheet.specs.Limits.{most_arities}
use Rattle.sheet.specs.Parts.{parts}
use Rattle.sheet.specs.Sheets.{Sheet}
use Rattle.sheet.specs.Arities.{Inhabited}

abbrev pub marked : Marks → ℕ → Bool
marked m a = slice_index_or m.at a false

abbrev pub all_marked : Marks → List ℕ → Bool
all_marked m ps = list_all (marked m) ps

-- the constructor makes a tree of arity a of one of an arity in m
abbrev pub serves : Marks → ℕ → Constructor → Bool
serves m a x = x.makes == a && marked m x.takes

abbrev pub makes_one : Marks → ℕ → List Constructor → Bool
makes_one m a xs = list_any (serves m a) xs

abbrev pub grows_as : Sheet → Marks → ℕ → Option Arity → Bool
grows_as S m a None = false
grows_as S m a (Some Name) = true
grows_as S m a (Some Data) = makes_one m a S.constructors
grows_as S m a (Some Tick) = true
grows_as S m a (Some (Tuple ps)) = all_marked m (parts ps)
grows_as S m a (Some (Binding n b)) = marked m b

abbrev pub grows : Sheet → Marks → ℕ → Bool
grows S m a = grows_as S m a (slice_get S.arities a)

abbrev pub Sound : Sheet → Marks → Type 0
Sound S m = (a : ℕ) → marked m a ≡ true → Inhabited S a

abbrev pub Closed : Sheet → Marks → Type 0
Closed S m = (a : ℕ) → a < most_arities → grows S m a ≡ true → marked m a ≡ true

-- how many arities are not in the set
abbrev pub left_out : List Bool → ℕ
left_out [] = 0
left_out (b ∷ bs) = cond b 0 1 + left_out bs

abbrev pub Missing : Sheet → Marks → Option ℕ → Type 0
Missing S m None = Closed S m
Missing S m (Some a) = (a < most_arities) × (marked m a ≡ false) × (grows S m a ≡ true)
