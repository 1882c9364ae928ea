-- Renamings of names, each packed into one number: bits 4 i to 4 i + 3 are the image of name i.
--
--   names          how many names there are: 0 to names - 1
--   image n i      the image of name i: the quotient by the i-th power of sixteen, modulo sixteen
--   Lawful n       each name is the image of one name, and the higher bits are 0
--   pack f         the number in which every name i has the image f i
--   place n v      the first name whose image is v
--   swap a b i     i with a and b exchanged
--   renaming n     the renaming whose bits are n
--   LawfulRenaming, identity_renaming, compose_renamings, inverse_renaming
--                  renamings as a group: compose_renamings x y sends i to x (y i)
--   exchange a b   the renaming that exchanges a and b, and alters nothing where one of them is no name
use Rattle.std.specs.Prelude.{◌≡◌, ℕ, zero, suc, ◌+◌, ◌*◌, ◌/◌, ◌%◌, ◌^◌, ◌<◌, cond, ◌&&◌, ◌==◌, nat_lt}
use Rattle.groups.specs.declared.renaming.Renaming.{Renaming}

abbrev pub names : ℕ
names = 10

abbrev pub image : ℕ → ℕ → ℕ
image n i = n / 16 ^ i % 16

-- the images of the names are the names: each occurs, and it occurs once
pub record Lawful (n : ℕ) : Type 0 where
  pub higher : n < 16 ^ names
  pub range : (i : ℕ) → i < names → image n i < names
  pub once : (i j : ℕ) → i < names → j < names → image n i ≡ image n j → i ≡ j
  pub occurs : (v : ℕ) → v < names → (i : ℕ) × (i < names) × (image n i ≡ v)

-- the number of the k images f i, f (i + 1), .., the lowest first
abbrev pub pack_from : (ℕ → ℕ) → ℕ → ℕ → ℕ
pack_from f i zero = 0
pack_from f i (suc k) = pack_from f (i + 1) k * 16 + f i

unfoldable pub pack : (ℕ → ℕ) → ℕ
pack f = pack_from f 0 names

-- the first of the k names from i on whose image is v; i + k where there is none
abbrev pub place_from : ℕ → ℕ → ℕ → ℕ → ℕ
place_from n v i zero = i
place_from n v i (suc k) = cond (image n i == v) i (place_from n v (i + 1) k)

unfoldable pub place : ℕ → ℕ → ℕ
place n v = place_from n v 0 names

abbrev pub swap : ℕ → ℕ → ℕ → ℕ
swap a b i = cond (i == a) b (cond (i == b) a i)

abbrev pub renaming : ℕ → Renaming
renaming n = record { bits = n }

abbrev pub LawfulRenaming : Renaming → Type 0
LawfulRenaming x = Lawful x.bits

abbrev pub identity_renaming : Renaming
identity_renaming = renaming (pack (λ i. i))

abbrev pub compose_renamings : Renaming → Renaming → Renaming
compose_renamings x y = renaming (pack (λ i. image x.bits (image y.bits i)))

abbrev pub inverse_renaming : Renaming → Renaming
inverse_renaming x = renaming (pack (place x.bits))

abbrev pub exchange : ℕ → ℕ → Renaming
exchange a b = cond (nat_lt a names && nat_lt b names) (renaming (pack (swap a b))) identity_renaming
