-- The ways up in a table, and that all chains give the move that they give.
use Rattle.std.proofs.Common.{◌≡◌, ℕ, ◌<◌, List, Some, None, sym, refl, ap, ◌∙◌, subst, arith}
use Rattle.groups.specs.declared.Group.{Ghosts}
use Rattle.union_find.specs.declared.link.Link.{Link}
use Rattle.union_find.specs.Facts.{members, Chain, stay, forth, backwards, Told, nothing, one}
use Rattle.union_find.specs.Tables.{Linked, Root, Way, top, up}
use Rattle.union_find.proofs.Algebra.{LawsOf, solve_right, solve_left}
use Rattle.union_find.proofs.Chains.{Sound, chain_lawful, chain_append, chain_turn}

module _ {M : Type 0} (G : Ghosts M) (L : LawsOf G) {t : List (Link M)} where
  open G use {lawful, identity, compose, inverse}

  pub linked_sound : Sound G (Linked G t)
  linked_sound = record { fair = λ i j g f. f.fair; from = λ i j g f. f.member; to = λ i j g f. let p = f.member in let q = f.lower in omega arith }

  -- a table says one thing of a member at most
  pub one_parent : {i j k : ℕ} {g h : M} → Linked G t i j g → Linked G t i k h → j ≡ k
  one_parent f e = ap (λ l. l.parent) (sym f.there ∙ e.there)

  pub one_step : {i j k : ℕ} {g h : M} → Linked G t i j g → Linked G t i k h → g ≡ h
  one_step f e = ap (λ l. l.step) (sym f.there ∙ e.there)

  pub way_lawful : {i r : ℕ} {g : M} → Way G t i r g → lawful g
  way_lawful (top _) = L.lawful_identity
  way_lawful (up {g} {h} f w) = L.lawful_compose g h f.fair (way_lawful w)

  pub way_to : {i r : ℕ} {g : M} → Way G t i r g → r < members
  way_to (top p) = p
  way_to (up f w) = way_to w

  -- the way up from a member that is this one
  pub way_from : {i k r : ℕ} {g : M} → Way G t k r g → k ≡ i → Way G t i r g
  way_from {r} {g} w e = subst (λ i. Way G t i r g) e w

  pub way_chain : {i r : ℕ} {g : M} → Way G t i r g → Chain G (Linked G t) i r g
  way_chain (top p) = stay p
  way_chain (up f w) = forth f (way_chain w)

  pub way_one : {i j : ℕ} {g : M} → Linked G t i j g → Way G t i j g
  way_one {g} f = subst (Way G t _ _) (L.right_identity g f.fair) (up f (top (linked_sound.to _ _ _ f)))

  -- one link more at the upper end
  pub way_more : {i j k : ℕ} {g h : M} → Way G t i j g → Linked G t j k h → Way G t i k (compose g h)
  way_more {h = y} (top _) e = subst (Way G t _ _) (sym (L.left_identity y e.fair)) (way_one e)
  way_more {h = y} (up {g} {h} f w) e =
      subst (Way G t _ _) (sym (L.associative g h y f.fair (way_lawful w) e.fair)) (up f (way_more w e))

  -- the way up to a root is one
  pub way_root : {i r s : ℕ} {g h : M} → Way G t i r g → Root G t r → Way G t i s h → Root G t s → r ≡ s
  way_root (top _) p (top _) q = refl
  way_root (top _) p (up e v) q = absurd (p _ _ e)
  way_root (up f w) p (top _) q = absurd (q _ _ f)
  way_root (up f w) p (up {k} {h} e v) q = way_root w p (subst (λ n. Way G t n k h) (one_parent e f) v) q

  pub way_move : {i r s : ℕ} {g h : M} → Way G t i r g → Root G t r → Way G t i s h → Root G t s → g ≡ h
  way_move (top _) p (top _) q = refl
  way_move (top _) p (up e v) q = absurd (p _ _ e)
  way_move (up f w) p (top _) q = absurd (q _ _ f)
  way_move (up {g = x} f w) p (up {k} {g} {h} e v) q =
      ap (compose x) (way_move w p (subst (λ n. Way G t n k h) (one_parent e f) v) q) ∙ ap (λ z. compose z h) (one_step f e)

  -- members on a chain have one root
  pub chain_root : {i j r s : ℕ} {h x y : M} → Chain G (Linked G t) i j h → Way G t i r x → Root G t r → Way G t j s y → Root G t s → r ≡ s
  chain_root (stay _) w p v q = way_root w p v q
  chain_root (forth f c) (top _) p v q = absurd (p _ _ f)
  chain_root (forth f c) (up {k} {h = z} e w) p v q = chain_root c (subst (λ n. Way G t n k z) (one_parent e f) w) p v q
  chain_root (backwards f c) w p v q = chain_root c (up f w) p v q

  -- and the chain's move takes the one's way up to the other's
  pub chain_move : {i j r s : ℕ} {h x y : M} → Chain G (Linked G t) i j h → Way G t i r x → Root G t r → Way G t j s y → Root G t s → x ≡ compose h y
  chain_move {y} (stay _) w p v q = way_move w p v q ∙ sym (L.left_identity y (way_lawful v))
  chain_move (forth f c) (top _) p v q = absurd (p _ _ f)
  chain_move {y} (forth {g} {h} f c) (up {k} {g = a} {h = z} e w) p v q =
      ap (compose a) (chain_move c (subst (λ n. Way G t n k z) (one_parent e f) w) p v q) ∙ ap (λ b. compose b (compose h y)) (one_step e f)
      ∙ sym (L.associative g h y f.fair (chain_lawful G L linked_sound c) (way_lawful v))
  chain_move {x} {y} (backwards {g} {h} f c) w p v q =
      solve_right G L g x (compose h y) f.fair (way_lawful w) (chain_move c (up f w) p v q)
      ∙ sym (L.associative (inverse g) h y (L.lawful_inverse g f.fair) (chain_lawful G L linked_sound c) (way_lawful v))

  -- two ways up, of i and of j
  module _ {i j i' j' r s : ℕ} {x y : M} (at_i : i' ≡ i) (at_j : j' ≡ j) (up_i : Way G t i' r x) (p : Root G t r) (up_j : Way G t j' s y) (q : Root G t s) where
    w : Way G t i r x
    w = way_from up_i at_i

    v : Way G t j s y
    v = way_from up_j at_j

    -- what they tell where they meet
    pub told_some : r ≡ s → (z : M) → z ≡ compose x (inverse y) → Told (Chain G (Linked G t) i j) (Some z)
    told_some e z is =
        let v' : Way G t j r y = subst (λ n. Way G t j n y) (sym e) v in
        let chain = chain_append G L linked_sound (way_chain w) (chain_turn G L linked_sound (way_chain v')) in
        one (subst (Chain G (Linked G t) i j) (sym is) chain)
        (λ h c. solve_left G L h y x (chain_lawful G L linked_sound c) (way_lawful v) (sym (chain_move c w p v q)) ∙ sym is)

    -- and where they do not
    pub told_none : (r ≡ s → ⊥) → Told (Chain G (Linked G t) i j) None
    told_none e = nothing (λ h c. e (chain_root c w p v q))
