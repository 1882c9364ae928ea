-- Chains of facts: they compose, turn round and map. Everything that a proof about chains needs of a group is used here.
use Rattle.std.proofs.Common.{ℕ, ◌<◌, sym, ap, ◌∙◌, subst}
use Rattle.groups.specs.declared.Group.{Ghosts}
use Rattle.union_find.specs.Facts.{members, Chain, stay, forth, backwards, With, old, new}
use Rattle.union_find.proofs.Algebra.{LawsOf, inverse_identity, inverse_inverse, inverse_compose}

-- facts about members, by lawful moves
pub record Sound {M : Type 0} (G : Ghosts M) (F : ℕ → ℕ → M → Type 0) : Type 0 where
  pub fair : (i j : ℕ) (g : M) → F i j g → G.lawful g
  pub from : (i j : ℕ) (g : M) → F i j g → i < members
  pub to : (i j : ℕ) (g : M) → F i j g → j < members

module _ {M : Type 0} (G : Ghosts M) (L : LawsOf G) where
  open G use {lawful, identity, compose, inverse}

  module _ {F : ℕ → ℕ → M → Type 0} (S : Sound G F) where
    pub chain_lawful : {i j : ℕ} {g : M} → Chain G F i j g → lawful g
    chain_lawful (stay _) = L.lawful_identity
    chain_lawful (forth {i} {j} {g} {h} f c) = L.lawful_compose g h (S.fair i j g f) (chain_lawful c)
    chain_lawful (backwards {i} {j} {g} {h} f c) = L.lawful_compose (inverse g) h (L.lawful_inverse g (S.fair j i g f)) (chain_lawful c)

    pub chain_append : {i j k : ℕ} {g h : M} → Chain G F i j g → Chain G F j k h → Chain G F i k (compose g h)
    chain_append {h = y} (stay _) d = subst (Chain G F _ _) (sym (L.left_identity y (chain_lawful d))) d
    chain_append {h = y} (forth {i} {j} {g} {h} f c) d =
        subst (Chain G F _ _) (sym (L.associative g h y (S.fair i j g f) (chain_lawful c) (chain_lawful d))) (forth f (chain_append c d))
    chain_append {h = y} (backwards {i} {j} {g} {h} f c) d =
        let p = L.lawful_inverse g (S.fair j i g f) in
        subst (Chain G F _ _) (sym (L.associative (inverse g) h y p (chain_lawful c) (chain_lawful d))) (backwards f (chain_append c d))

    pub one : (i j : ℕ) (g : M) → F i j g → Chain G F i j g
    one i j g f = subst (Chain G F i j) (L.right_identity g (S.fair i j g f)) (forth f (stay (S.to i j g f)))

    one_backwards : (i j : ℕ) (g : M) → F i j g → Chain G F j i (inverse g)
    one_backwards i j g f =
        subst (Chain G F j i) (L.right_identity (inverse g) (L.lawful_inverse g (S.fair i j g f))) (backwards f (stay (S.from i j g f)))

    pub chain_turn : {i j : ℕ} {g : M} → Chain G F i j g → Chain G F j i (inverse g)
    chain_turn (stay p) = subst (Chain G F _ _) (sym (inverse_identity G L)) (stay p)
    chain_turn (forth {i} {j} {g} {h} f c) =
        subst (Chain G F _ _) (sym (inverse_compose G L g h (S.fair i j g f) (chain_lawful c))) (chain_append (chain_turn c) (one_backwards i j g f))
    chain_turn (backwards {i} {j} {g} {h} f c) =
        let p = S.fair j i g f in
        subst (Chain G F _ _)
        (sym (inverse_compose G L (inverse g) h (L.lawful_inverse g p) (chain_lawful c) ∙ ap (compose (inverse h)) (inverse_inverse G L g p)))
        (chain_append (chain_turn c) (one j i g f))

  -- where each fact of F is a chain of F', so is each chain
  pub chain_map : {F F' : ℕ → ℕ → M → Type 0} (S' : Sound G F') → ((i j : ℕ) (g : M) → F i j g → Chain G F' i j g) →
      {i j : ℕ} {g : M} → Chain G F i j g → Chain G F' i j g
  chain_map S' m (stay p) = stay p
  chain_map S' m (forth {i} {j} {g} f c) = chain_append S' (m i j g f) (chain_map S' m c)
  chain_map S' m (backwards {i} {j} {g} f c) = chain_append S' (chain_turn S' (m j i g f)) (chain_map S' m c)

  module _ {F : ℕ → ℕ → M → Type 0} (S : Sound G F) {i j : ℕ} {g : M} (p : i < members) (q : j < members) (l : lawful g) where
    with_fair : (a b : ℕ) (h : M) → With F i j g a b h → lawful h
    with_fair a b h (old f) = S.fair a b h f
    with_fair a b h new = l

    with_from : (a b : ℕ) (h : M) → With F i j g a b h → a < members
    with_from a b h (old f) = S.from a b h f
    with_from a b h new = p

    with_to : (a b : ℕ) (h : M) → With F i j g a b h → b < members
    with_to a b h (old f) = S.to a b h f
    with_to a b h new = q

    pub with_sound : Sound G (With F i j g)
    with_sound = record { fair = with_fair; from = with_from; to = with_to }

    pub with_old : {a b : ℕ} {h : M} → Chain G F a b h → Chain G (With F i j g) a b h
    with_old = chain_map with_sound (λ a b h f. one with_sound a b h (old f))

    pub with_new : Chain G (With F i j g) i j g
    with_new = one with_sound i j g new

  -- facts of F with one more are chains of F' where those of F are and the one more is
  pub with_map : {F F' : ℕ → ℕ → M → Type 0} {i j : ℕ} {g : M} → ((a b : ℕ) (h : M) → F a b h → Chain G F' a b h) → Chain G F' i j g →
      (a b : ℕ) (h : M) → With F i j g a b h → Chain G F' a b h
  with_map m c a b h (old f) = m a b h f
  with_map m c a b h new = c

  -- one fact more, or another in its place from which it follows and which follows from it
  module _ {F : ℕ → ℕ → M → Type 0} {i j a b : ℕ} {g m : M} (S : Sound G (With F i j g)) where
    pub with_instead : Chain G (With F i j g) a b m → {k l : ℕ} {h : M} → Chain G (With F a b m) k l h → Chain G (With F i j g) k l h
    with_instead c = chain_map S (with_map (λ k l h f. one S k l h (old f)) c)
