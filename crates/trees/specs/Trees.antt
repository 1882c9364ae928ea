-- Trees with binding.
--
-- Tree         a name, a tick, a constructor over a tree, a tuple, a name before a tree
-- n FreeIn t   n is a free name of t
-- rename π t   t with π applied to every name, the bound ones too
-- size t       how many parts t has
-- t ≈ u        t and u are equal up to bound names
use Rattle.std.specs.Prelude.{◌≡◌, ◌⊎◌, ◌≢◌, ℕ, ◌+◌}
use Rattle.trees.specs.Names.{Name, swap}

-- A tuple is made of pairs, and ends in `unit`.
pub data Tree : Type 0 where
  name : Name → Tree
  tick : ℕ → Tree
  con : ℕ → Tree → Tree
  unit : Tree
  pair : Tree → Tree → Tree
  bind : Name → Tree → Tree

-- n is free in the tree. `bind m t` binds m in t.
infix 4 ◌FreeIn◌
abbrev pub ◌FreeIn◌ : Name → Tree → Type 0
n FreeIn name m = n ≡ m
n FreeIn tick k = ⊥
n FreeIn con c t = n FreeIn t
n FreeIn unit = ⊥
n FreeIn pair t u = (n FreeIn t) ⊎ (n FreeIn u)
n FreeIn bind m t = (n ≢ m) × (n FreeIn t)

-- π is applied to every name, the bound ones too.
abbrev pub rename : (Name → Name) → Tree → Tree
rename π (name n) = name (π n)
rename π (tick k) = tick k
rename π (con c t) = con c (rename π t)
rename π unit = unit
rename π (pair t u) = pair (rename π t) (rename π u)
rename π (bind n t) = bind (π n) (rename π t)

abbrev pub size : Tree → ℕ
size (name n) = 1
size (tick k) = 1
size (con c t) = 1 + size t
size unit = 1
size (pair t u) = 1 + (size t + size u)
size (bind n t) = 1 + size t

-- Built alike, with one exception: `bind n g ≈ bind m h` with n ≢ m holds when n is not free in h and g ≈ h with n and m exchanged throughout.
infix 4 ◌≈◌
abbrev pub ◌≈◌ : Tree → Tree → Type 0
name n ≈ name m = n ≡ m
name n ≈ tick l = ⊥
name n ≈ con d u = ⊥
name n ≈ unit = ⊥
name n ≈ pair u v = ⊥
name n ≈ bind m u = ⊥
tick k ≈ name m = ⊥
tick k ≈ tick l = k ≡ l
tick k ≈ con d u = ⊥
tick k ≈ unit = ⊥
tick k ≈ pair u v = ⊥
tick k ≈ bind m u = ⊥
con c t ≈ name m = ⊥
con c t ≈ tick l = ⊥
con c t ≈ con d u = (c ≡ d) × (t ≈ u)
con c t ≈ unit = ⊥
con c t ≈ pair u v = ⊥
con c t ≈ bind m u = ⊥
unit ≈ name m = ⊥
unit ≈ tick l = ⊥
unit ≈ con d u = ⊥
unit ≈ unit = Unit {0}
unit ≈ pair u v = ⊥
unit ≈ bind m u = ⊥
pair s t ≈ name m = ⊥
pair s t ≈ tick l = ⊥
pair s t ≈ con d u = ⊥
pair s t ≈ unit = ⊥
pair s t ≈ pair u v = (s ≈ u) × (t ≈ v)
pair s t ≈ bind m u = ⊥
bind n g ≈ name m = ⊥
bind n g ≈ tick l = ⊥
bind n g ≈ con d u = ⊥
bind n g ≈ unit = ⊥
bind n g ≈ pair u v = ⊥
bind n g ≈ bind m h = ((n ≡ m) × (g ≈ h)) ⊎ ((n ≢ m) × (¬ (n FreeIn h)) × (g ≈ rename (swap n m) h))
