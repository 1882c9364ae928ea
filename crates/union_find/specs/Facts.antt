-- Facts "member i is member j moved by g", and what follows from them along chains.
--
--   members        how many members there are
--   Fact M         a fact that was learned
--   Among fs       the facts of a list
--   With F i j g   the facts F and one more
--   Chain G F      chains of facts, with the composite of their moves
--   Told C r       r is the one move of which C holds, or nothing where it holds of none
use Rattle.std.specs.Prelude.{◌≡◌, ℕ, ◌<◌, List, ◌∷◌, Some, None, Option}
use Rattle.groups.specs.declared.Group.{Ghosts}

abbrev pub members : ℕ
members = 256

-- member from is member to moved by move
pub record Fact (M : Type 0) : Type 0 where
  pub from : ℕ
  pub to : ℕ
  pub move : M

pub data Among {M : Type 0} : List (Fact M) → ℕ → ℕ → M → Type 0 where
  first : {f : Fact M} {fs : List (Fact M)} → Among (f ∷ fs) f.from f.to f.move
  later : {f : Fact M} {fs : List (Fact M)} {i j : ℕ} {g : M} → Among fs i j g → Among (f ∷ fs) i j g

pub data With {M : Type 0} (F : ℕ → ℕ → M → Type 0) (i j : ℕ) (g : M) : ℕ → ℕ → M → Type 0 where
  old : {a b : ℕ} {h : M} → F a b h → With F i j g a b h
  new : With F i j g i j g

-- A chain from i to k and the composite of its moves. A fact read backwards gives its inverse; no fact at all gives the identity.
pub data Chain {M : Type 0} (G : Ghosts M) (F : ℕ → ℕ → M → Type 0) : ℕ → ℕ → M → Type 0 where
  stay : {i : ℕ} → i < members → Chain G F i i G.identity
  forth : {i j k : ℕ} {g h : M} → F i j g → Chain G F j k h → Chain G F i k (G.compose g h)
  backwards : {i j k : ℕ} {g h : M} → F j i g → Chain G F j k h → Chain G F i k (G.compose (G.inverse g) h)

pub data Told {M : Type 0} (C : M → Type 0) : Option M → Type 0 where
  nothing : ((g : M) → C g → ⊥) → Told C None
  one : {g : M} → C g → ((h : M) → C h → h ≡ g) → Told C (Some g)
