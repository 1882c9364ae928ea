-- What follows from the laws of a group, for lawful elements.
use Rattle.std.proofs.Common.{◌≡◌, sym, ap, ◌∙◌}
use Rattle.groups.specs.Laws.{Laws}
use Rattle.groups.specs.declared.Group.{Ghosts}
use Rattle.union_find.specs.Tables.{across}

abbrev pub LawsOf : {M : Type 0} → Ghosts M → Type 0
LawsOf G = Laws G.lawful G.identity G.compose G.inverse

module _ {M : Type 0} (G : Ghosts M) (L : LawsOf G) where
  open G use {lawful, identity, compose, inverse}

  -- x⁻¹ (x y) = y
  pub cancel : (x y : M) → lawful x → lawful y → compose (inverse x) (compose x y) ≡ y
  cancel x y p q =
      sym (L.associative (inverse x) x y (L.lawful_inverse x p) p q) ∙ ap (λ z. compose z y) (L.left_inverse x p) ∙ L.left_identity y q

  -- x (x⁻¹ y) = y
  pub restore : (x y : M) → lawful x → lawful y → compose x (compose (inverse x) y) ≡ y
  restore x y p q =
      sym (L.associative x (inverse x) y p (L.lawful_inverse x p) q) ∙ ap (λ z. compose z y) (L.right_inverse x p) ∙ L.left_identity y q

  -- (x y) y⁻¹ = x
  pub undo : (x y : M) → lawful x → lawful y → compose (compose x y) (inverse y) ≡ x
  undo x y p q =
      L.associative x y (inverse y) p q (L.lawful_inverse y q) ∙ ap (compose x) (L.right_inverse y q) ∙ L.right_identity x p

  -- what x y = z says of y
  pub solve_right : (x y z : M) → lawful x → lawful y → compose x y ≡ z → y ≡ compose (inverse x) z
  solve_right x y z p q e = sym (cancel x y p q) ∙ ap (compose (inverse x)) e

  -- and of x
  pub solve_left : (x y z : M) → lawful x → lawful y → compose x y ≡ z → x ≡ compose z (inverse y)
  solve_left x y z p q e = sym (undo x y p q) ∙ ap (λ w. compose w (inverse y)) e

  pub inverse_is : (x y : M) → lawful x → lawful y → compose x y ≡ identity → y ≡ inverse x
  inverse_is x y p q e = solve_right x y identity p q e ∙ L.right_identity (inverse x) (L.lawful_inverse x p)

  pub inverse_identity : inverse identity ≡ identity
  inverse_identity = let p = L.lawful_identity in sym (inverse_is identity identity p p (L.left_identity identity p))

  pub inverse_inverse : (x : M) → lawful x → inverse (inverse x) ≡ x
  inverse_inverse x p = sym (inverse_is (inverse x) x (L.lawful_inverse x p) p (L.left_inverse x p))

  pub inverse_compose : (x y : M) → lawful x → lawful y → inverse (compose x y) ≡ compose (inverse y) (inverse x)
  inverse_compose x y p q =
      let p' = L.lawful_inverse x p in
      let q' = L.lawful_inverse y q in
      let r = L.lawful_compose (inverse y) (inverse x) q' p' in
      sym (inverse_is (compose x y) (compose (inverse y) (inverse x)) (L.lawful_compose x y p q) r
      (L.associative x y (compose (inverse y) (inverse x)) p q r ∙ ap (compose x) (restore y (inverse x) q p') ∙ L.right_inverse x p))

  pub across_lawful : {x g y : M} → lawful x → lawful g → lawful y → lawful (across G x g y)
  across_lawful {x} {g} {y} p l q = L.lawful_compose (inverse x) (compose g y) (L.lawful_inverse x p) (L.lawful_compose g y l q)
