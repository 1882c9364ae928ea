-- Packed numbers and their images, and the places of images.
use Rattle.std.specs.Prelude.{◌≡◌, ℕ, zero, suc, ◌+◌, ◌^◌, ◌<◌, ◌≤◌}
use Rattle.std.proofs.Common.{sym, ◌∙◌, subst, inl, inr, arith, zero-add, add-zero, pow-suc}
use Rattle.std.proofs.Math.Path.{ap}
use Rattle.std.proofs.lemmas.Nat.{div-mul-add, mod-mul-add}
use Rattle.std.proofs.lemmas.Bool.{cases_eq, cond-true, cond-false, eq-eqb, ne_eqb}
use Rattle.groups.specs.Renamings.{names, image, pack_from, pack, place_from}
use Rattle.groups.specs.Digits.{digit_lt, digit-zero, digit-suc, same_digits}

pub image-lt : (n i : ℕ) → image n i < 16
image-lt n i = digit_lt 16 (omega arith) n i

module _ (f : ℕ → ℕ) where
  -- the first of the images f i, .., and the others
  first : (k i : ℕ) → ((j : ℕ) → j < suc k → f (i + j) < 16) → f i < 16
  first k i h = subst (λ m. f m < 16) (add-zero i) (h 0 (omega arith))

  others : (k i : ℕ) → ((j : ℕ) → j < suc k → f (i + j) < 16) → (j : ℕ) → j < k → f (i + 1 + j) < 16
  others k i h j q = let e : i + suc j ≡ i + 1 + j = omega arith in subst (λ m. f m < 16) e (h (suc j) (omega arith))

  pack_from-lt : (k i : ℕ) → ((j : ℕ) → j < k → f (i + j) < 16) → pack_from f i k < 16 ^ k
  pack_from-lt zero i h = omega arith
  pack_from-lt (suc k) i h = let here = first k i h in let more = pack_from-lt k (i + 1) (others k i h) in rw pow-suc (omega arith)

  image-pack_from : (k i : ℕ) → ((j : ℕ) → j < k → f (i + j) < 16) → (j : ℕ) → j < k → image (pack_from f i k) j ≡ f (i + j)
  image-pack_from zero i h j p = absurd (omega arith)
  image-pack_from (suc k) i h zero p = digit-zero 16 (omega arith) (pack_from f i (suc k)) ∙ mod-mul-add (pack_from f (i + 1) k) 16 (f i) (first k i h) ∙ ap f (sym (add-zero i))
  image-pack_from (suc k) i h (suc j) p =
      let e : i + 1 + j ≡ i + suc j = omega arith in
      digit-suc 16 (omega arith) (pack_from f i (suc k)) j
      ∙ ap (λ m. image m j) (div-mul-add (pack_from f (i + 1) k) 16 (f i) (first k i h))
      ∙ image-pack_from k (i + 1) (others k i h) j (omega arith) ∙ ap f e

  module _ (small : (i : ℕ) → i < names → f i < 16) where
    from_zero : (i : ℕ) → i < names → f (0 + i) < 16
    from_zero i p = subst (λ m. f m < 16) (sym (zero-add i)) (small i p)

    pub pack-lt : pack f < 16 ^ names
    unfolding pack
    pack-lt = pack_from-lt names 0 from_zero

    pub image-pack : (i : ℕ) → i < names → image (pack f) i ≡ f i
    unfolding pack
    image-pack i p = image-pack_from names 0 from_zero i p ∙ ap f (zero-add i)

  -- a number is the pack of its images
  pub pack_of_images : (n : ℕ) → n < 16 ^ names → ((i : ℕ) → i < names → image n i ≡ f i) → n ≡ pack f
  pack_of_images n p e =
      let small : (i : ℕ) → i < names → f i < 16 = λ i h. subst (λ m. m < 16) (e i h) (image-lt n i) in
      same_digits 16 (omega arith) names n (pack f) p (pack-lt small) (λ i h. e i h ∙ sym (image-pack small i h))

-- packs of equal images are equal
pub pack_equal : (f g : ℕ → ℕ) → ((i : ℕ) → i < names → f i < 16) → ((i : ℕ) → i < names → f i ≡ g i) → pack f ≡ pack g
pack_equal f g small e = pack_of_images g (pack f) (pack-lt f small) (λ i h. image-pack f small i h ∙ e i h)

-- an image v that occurs is found
pub place_found : (n v k i j : ℕ) → i ≤ j → j < i + k → image n j ≡ v → (place_from n v i k < i + k) × (image n (place_from n v i k) ≡ v)
place_found n v zero i j p q e = absurd (omega arith)
place_found n v (suc k) i j p q e =
    elim (cases_eq (image n i) v) [
      | inl here ↦
          let w : place_from n v i (suc k) ≡ i = cond-true _ _ _ (eq-eqb (image n i) v here) in
          (omega arith, ap (image n) w ∙ here)
      | inr not_here ↦
          let w : place_from n v i (suc k) ≡ place_from n v (i + 1) k = cond-false _ _ _ (ne_eqb (image n i) v not_here) in
          let later : i ≡ j → ⊥ = λ z. not_here (ap (image n) z ∙ e) in
          let (lt, is) = place_found n v k (i + 1) j (omega arith) (omega arith) e in
          (omega arith, ap (image n) w ∙ is)
    ]
