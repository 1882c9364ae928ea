-- The exchange of two names, as `^` makes it.
use Rattle.std.proofs.Common.{◌≡◌, ℕ, ◌*◌, ◌%◌, ◌^◌, ◌<◌, sym, ap, ◌∙◌, subst, ap₂, inl, inr, arith}
use lib.Bits.{bit_xor, xor_assoc, xor_self, xor_comm, xor_zero_l, xor_zero_r, xor_lt}
use Rattle.std.proofs.lemmas.Bool.{cases_eq}
use Rattle.std.proofs.lemmas.Bool.Decides.{nat_tests}
use Rattle.groups.specs.Renamings.{names, image, Lawful, pack, swap, renaming, identity_renaming, exchange}
use Rattle.groups.specs.Digits.{alone_here, alone_elsewhere, alone_lt, digit-bit_xor, xor_digits_lt, shifted_alone}
use Rattle.groups.specs.Packs.{pack_of_images}
use Rattle.groups.specs.RenamingsLemmas.{Inverses, lawful_pack, identity_image, renaming_laws}

swap_inverses : (a b : ℕ) → a < names → b < names → Inverses (swap a b) (swap a b)
swap_inverses a b p q =
    let there : (i : ℕ) → i < names → swap a b i < names = λ i r. grind (arith, nat_tests) in
    let undone : (i : ℕ) → swap a b (swap a b i) ≡ i = λ i. grind (arith, nat_tests) in
    record { there = there; back_there = there; undone = λ i r. undone i; undoes = λ i r. undone i }

pub swap_lawful : (a b : ℕ) → a < names → b < names → Lawful (pack (swap a b))
swap_lawful a b p q = lawful_pack (swap a b) (swap a b) (swap_inverses a b p q)

xor_back : (a b : ℕ) → bit_xor a (bit_xor a b) ≡ b
xor_back a b = sym (xor_assoc a a b) ∙ ap (λ m. bit_xor m b) (xor_self a) ∙ xor_zero_l b

module _ (a b : ℕ) (p : a < names) (q : b < names) where
  abbrev turn : ℕ
  turn = bit_xor a b

  turn_lt : turn < 16
  turn_lt = xor_lt 4 a b (omega arith) (omega arith)

  here : (c i : ℕ) → c ≡ i → image (turn * 16 ^ c) i ≡ turn
  here c i e = subst (λ i. image (turn * 16 ^ c) i ≡ turn) e (alone_here 16 (omega arith) turn c turn_lt)

  elsewhere : (c i : ℕ) → (c ≡ i → ⊥) → image (turn * 16 ^ c) i ≡ 0
  elsewhere c i ne = alone_elsewhere 16 (omega arith) turn c i turn_lt ne

  turned_image : (i : ℕ) → bit_xor (bit_xor i (image (turn * 16 ^ a) i)) (image (turn * 16 ^ b) i) ≡ swap a b i
  turned_image i =
      elim (cases_eq a i) [
        | inl ea ↦ elim (cases_eq b i) [
          | inl eb ↦ rw (here a i ea, here b i eb) (xor_assoc i turn turn ∙ ap (bit_xor i) (xor_self turn) ∙ xor_zero_r i ∙ grind (arith, nat_tests))
          | inr nb ↦ rw (here a i ea, elsewhere b i nb, xor_zero_r, ← ea) (xor_back a b ∙ grind (arith, nat_tests))
        ]
        | inr na ↦ elim (cases_eq b i) [
          | inl eb ↦ rw (elsewhere a i na, here b i eb, xor_zero_r, ← eb) (ap (bit_xor b) (xor_comm a b) ∙ xor_back b a ∙ grind (arith, nat_tests))
          | inr nb ↦ rw (elsewhere a i na, elsewhere b i nb, xor_zero_r i, xor_zero_r i) (grind (arith, nat_tests))
        ]
      ]

  pub exchanged : bit_xor (bit_xor identity_renaming.bits (turn * 16 ^ a)) (turn * 16 ^ b) ≡ pack (swap a b)
  exchanged =
      let room : (c : ℕ) → c < names → turn * 16 ^ c < 16 ^ names = λ c r. alone_lt 16 (omega arith) turn c names turn_lt r in
      let one = bit_xor identity_renaming.bits (turn * 16 ^ a) in
      pack_of_images (swap a b) _
      (xor_digits_lt 4 names one (turn * 16 ^ b) (xor_digits_lt 4 names identity_renaming.bits (turn * 16 ^ a) renaming_laws.lawful_identity.higher (room a p)) (room b q))
      (λ i r. digit-bit_xor 4 one (turn * 16 ^ b) i
      ∙ ap (λ m. bit_xor m (image (turn * 16 ^ b) i)) (digit-bit_xor 4 identity_renaming.bits (turn * 16 ^ a) i ∙ ap (λ m. bit_xor m (image (turn * 16 ^ a) i)) (identity_image i r))
      ∙ turned_image i)

  -- the same with the shifts of the program
  pub shifted_exchange : (s t : ℕ) → s ≡ identity_renaming.bits → t ≡ turn → bit_xor (bit_xor s (t * 2 ^ (4 * a) % 2 ^ 64)) (t * 2 ^ (4 * b) % 2 ^ 64) ≡ pack (swap a b)
  shifted_exchange s t es et =
      let alone : (c : ℕ) → c < names → t * 2 ^ (4 * c) % 2 ^ 64 ≡ turn * 16 ^ c =
      λ c r. ap (λ t. t * 2 ^ (4 * c) % 2 ^ 64) et ∙ shifted_alone 4 16 turn c turn_lt (omega arith) in
      ap₂ bit_xor (ap₂ bit_xor es (alone a p)) (alone b q) ∙ exchanged

pub exchange_of_names : (a b : ℕ) → a < names → b < names → exchange a b ≡ renaming (pack (swap a b))
exchange_of_names a b p q = grind (arith, nat_tests)
