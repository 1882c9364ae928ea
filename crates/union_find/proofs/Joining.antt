-- A new fact changes a table so that its chains are those with one fact more.
use Rattle.std.proofs.Common.{◌≡◌, ℕ, ◌<◌, ◌≢◌, ◌⊎◌, List, length, ap, ◌∙◌, subst, inl, inr, arith}
use Rattle.std.proofs.lemmas.Bool.{cases_lt}
use Rattle.groups.specs.declared.Group.{Ghosts}
use Rattle.union_find.specs.declared.link.Link.{Link}
use Rattle.union_find.specs.Facts.{members, With, Chain}
use Rattle.union_find.specs.Tables.{Linked, Root, Flat, Joined, Hung, across}
use Rattle.union_find.specs.Calls.{Changed}
use Rattle.union_find.proofs.Algebra.{LawsOf, across_lawful, undo, restore, inverse_inverse}
use Rattle.union_find.proofs.Chains.{Sound, chain_append, chain_turn, with_sound, with_old, with_new, with_instead}
use Rattle.union_find.proofs.Ways.{linked_sound, way_lawful, way_chain, way_to}
use Rattle.union_find.proofs.Hanging.{hung_joined, hung_flat}

module _ {M : Type 0} (G : Ghosts M) (L : LawsOf G) {t t' : List (Link M)} {i j : ℕ} {g : M} (p : i < members) (q : j < members) (l : G.lawful g)
    (C : Changed G t t' i j g) where
  open G use {lawful, compose, inverse}

  abbrev F : ℕ → ℕ → M → Type 0
  F = Linked G t

  abbrev S : Sound G F
  S = linked_sound G L

  x_lawful : lawful C.x
  x_lawful = way_lawful G L C.way_i

  y_lawful : lawful C.y
  y_lawful = way_lawful G L C.way_j

  gy_lawful : lawful (compose g C.y)
  gy_lawful = L.lawful_compose g C.y l y_lawful

  -- the move between the two roots
  abbrev m₀ : M
  m₀ = across G C.x g C.y

  m₀_lawful : lawful m₀
  m₀_lawful = across_lawful G L x_lawful l y_lawful

  abbrev I : Sound G (With F i j g)
  I = with_sound G L S p q l

  -- follows from the new fact
  bridge : Chain G (With F i j g) C.top_i C.top_j m₀
  bridge =
      chain_append G L I (chain_turn G L I (with_old G L S p q l (way_chain G L C.way_i)))
      (chain_append G L I (with_new G L S p q l) (with_old G L S p q l (way_chain G L C.way_j)))

  -- and the new fact from it
  follows : {F' : ℕ → ℕ → M → Type 0} → Sound G F' → Chain G F' i C.top_i C.x → Chain G F' j C.top_j C.y →
      Chain G F' C.top_i C.top_j m₀ → Chain G F' i j g
  follows {F'} S' cx cy c =
      let e : compose (compose C.x m₀) (inverse C.y) ≡ g =
      ap (λ w. compose w (inverse C.y)) (restore G L C.x (compose g C.y) x_lawful gy_lawful) ∙ undo G L g C.y l y_lawful in
      subst (Chain G F' i j) e (chain_append G L S' (chain_append G L S' cx c) (chain_turn G L S' cy))

  -- the root a is hung by b
  module _ {a b : ℕ} {m : M} (member : a < members) (lower : b < a) (fair : lawful m) (root_a : Root G t a) (H : Hung G t t' a b m) where
    to_b : b < members
    to_b = omega arith

    abbrev K : Sound G (With F a b m)
    K = with_sound G L S member to_b fair

    link : Chain G (With F a b m) a b m
    link = with_new G L S member to_b fair

    joined_by : Chain G (With F i j g) a b m → Chain G (With F a b m) C.top_i C.top_j m₀ → Joined G t t' i j g
    joined_by there back =
        let J = hung_joined G L member lower fair root_a H in
        let c = follows K (with_old G L S member to_b fair (way_chain G L C.way_i)) (with_old G L S member to_b fair (way_chain G L C.way_j)) back in
        record {
          adds = λ k n h d. with_instead G L I there (J.adds k n h d);
          keeps = λ k n h d. J.keeps k n h (with_instead G L K c d);
        }

  module _ (apart : C.top_i ≢ C.top_j) where
    -- the greater of the roots is the one that is hung
    which : (C.top_j < C.top_i) ⊎ (C.top_i < C.top_j)
    which = elim (cases_lt C.top_j C.top_i) [ inl p ↦ inl p | inr p ↦ inr (let ne = apart in omega arith) ]

    pub changed_joined : Joined G t t' i j g
    changed_joined =
        elim which [
          | inl p ↦
              let a = way_to G L C.way_i in
              joined_by a p m₀_lawful C.root_i (C.i_below p) bridge (link a p m₀_lawful C.root_i (C.i_below p))
          | inr p ↦
              let a = way_to G L C.way_j in
              let f = L.lawful_inverse _ m₀_lawful in
              joined_by a p f C.root_j (C.j_below p) (chain_turn G L I bridge)
              (subst (Chain G _ _ _) (inverse_inverse G L m₀ m₀_lawful) (chain_turn G L (K a p f C.root_j (C.j_below p)) (link a p f C.root_j (C.j_below p))))
        ]

    pub changed_flat : Flat G t → Flat G t'
    changed_flat =
        elim which [
          | inl p ↦ hung_flat G L (way_to G L C.way_i) p m₀_lawful C.root_i (C.i_below p) C.root_j
          | inr p ↦ hung_flat G L (way_to G L C.way_j) p (L.lawful_inverse _ m₀_lawful) C.root_j (C.j_below p) C.root_i
        ]

    pub changed_length : length t' ≡ length t
    changed_length = elim which [ inl p ↦ (C.i_below p).length_kept | inr p ↦ (C.j_below p).length_kept ]
