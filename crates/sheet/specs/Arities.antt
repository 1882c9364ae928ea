-- HasArity S a t   t is a tree of arity a of sheet S
-- Inhabited S a    there is such a tree
use Rattle.std.specs.Prelude.{◌≡◌, ℕ, ◌^◌, ◌<◌, List, [], ◌∷◌, Some}
use Rattle.std.specs.List.{slice_get}
use Rattle.trees.specs.Trees.{Tree, name, tick, con, unit, pair, bind}
use Rattle.sheet.specs.declared.item.Arity.TheVariants.{Name as NameArity, Data, Tick, Tuple, Binding}
use Rattle.sheet.specs.declared.item.Parts.{Parts}
use Rattle.sheet.specs.declared.item.Constructor.{Constructor}
use Rattle.sheet.specs.Parts.{parts}
use Rattle.sheet.specs.Sheets.{Sheet}

-- A name has the name arity that it is of. A tuple has a tree for each part, paired, and ends in `unit`.
abbrev mutual
  pub HasArity : Sheet → ℕ → Tree → Type 0
  HasArity S a (name n) = (slice_get S.arities a ≡ Some NameArity) × (n.arity ≡ a)
  HasArity S a (tick k) = (slice_get S.arities a ≡ Some Tick) × (k < 2 ^ 32)
  HasArity S a (con c t) =
      (slice_get S.arities a ≡ Some Data) × ((x : Constructor) × (slice_get S.constructors c ≡ Some x) × (x.makes ≡ a) × HasArity S x.takes t)
  HasArity S a unit = (ps : Parts) × (slice_get S.arities a ≡ Some (Tuple ps)) × (parts ps ≡ [])
  HasArity S a (pair t u) =
      (ps : Parts) × (p : ℕ) × (qs : List ℕ) × (slice_get S.arities a ≡ Some (Tuple ps)) × (parts ps ≡ p ∷ qs) × HasArity S p t × HasArities S qs u
  HasArity S a (bind n t) = (b : ℕ) × (slice_get S.arities a ≡ Some (Binding n.arity b)) × HasArity S b t

  pub HasArities : Sheet → List ℕ → Tree → Type 0
  HasArities S ps (name n) = ⊥
  HasArities S ps (tick k) = ⊥
  HasArities S ps (con c t) = ⊥
  HasArities S ps unit = ps ≡ []
  HasArities S ps (pair t u) = (p : ℕ) × (qs : List ℕ) × (ps ≡ p ∷ qs) × HasArity S p t × HasArities S qs u
  HasArities S ps (bind n t) = ⊥

abbrev pub Inhabited : Sheet → ℕ → Type 0
Inhabited S a = (t : Tree) × HasArity S a t
