-- The laws of a group on its lawful elements.
--
--   Laws lawful identity compose inverse   the lawful elements are a group
use Rattle.std.specs.Prelude.{◌≡◌}

pub record Laws {G : Type 0} (lawful : G → Type 0) (identity : G) (compose : G → G → G) (inverse : G → G) : Type 0 where
  pub lawful_identity : lawful identity
  pub lawful_compose : (x y : G) → lawful x → lawful y → lawful (compose x y)
  pub lawful_inverse : (x : G) → lawful x → lawful (inverse x)
  pub associative : (x y z : G) → lawful x → lawful y → lawful z → compose (compose x y) z ≡ compose x (compose y z)
  pub left_identity : (x : G) → lawful x → compose identity x ≡ x
  pub right_identity : (x : G) → lawful x → compose x identity ≡ x
  pub left_inverse : (x : G) → lawful x → compose (inverse x) x ≡ identity
  pub right_inverse : (x : G) → lawful x → compose x (inverse x) ≡ identity
