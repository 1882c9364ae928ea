-- The bits of the images that were seen: they are all the names where each name is the image of just one.
--
--   bit n v     bit v of n
--   seen p k    the number with the bits p j, for each j below k
use Rattle.std.proofs.Common.{◌≡◌, ℕ, zero, suc, ◌+◌, ◌-◌, ◌*◌, ◌/◌, ◌%◌, ◌^◌, ◌<◌, ◌≤◌, eqb, MatchBool, sym, refl, ap, ◌∙◌, subst, ap₂, inl, inr, add-zero, pow-suc, arith}
use native.Mathlib.Nat.{pow-le-pow_right}
use lib.Bits.{bit_or, or_add_and, or_shr, or_mod, or_zero_r}
use lib.Count.{ones, ones_step, ones_cat, ones-ones}
use Rattle.std.proofs.lemmas.Nat.{pow_pos}
use Rattle.std.proofs.lemmas.Bool.{cases_eq, cases_lt, cases_order, eq-eqb, ne_eqb}
use Rattle.groups.specs.Renamings.{names, image, Lawful}
use Rattle.groups.specs.Digits.{digit, digit_lt, digit-zero, digit-suc, digit_past, same_digits, alone_here, alone_elsewhere, alone_lt, digit-bit_or, or_digits_lt}
use Rattle.groups.specs.Packs.{image-lt}
use Rattle.groups.specs.Gathers.{gather, gather-lt, gather_here, gather_elsewhere, gather_from}

abbrev pub bit : ℕ → ℕ → ℕ
bit n v = digit 2 n v

abbrev pub seen : (ℕ → ℕ) → ℕ → ℕ
seen p k = gather 1 (λ _. 1) p k

pub mask_bit : (k v : ℕ) → v < k → bit (2 ^ k - 1) v ≡ 1
mask_bit zero v h = absurd (omega arith)
mask_bit (suc k) zero h = digit-zero 2 (omega arith) (2 ^ suc k - 1) ∙ (let s = pow-suc 2 k in let q = pow_pos k in omega arith)
mask_bit (suc k) (suc v) h =
    let half : (2 ^ suc k - 1) / 2 ≡ 2 ^ k - 1 = (let s = pow-suc 2 k in let q = pow_pos k in omega arith) in
    digit-suc 2 (omega arith) (2 ^ suc k - 1) v ∙ ap (λ m. bit m v) half ∙ mask_bit k v (omega arith)

ones_or : (k a b : ℕ) → a < 2 ^ k → b < 2 ^ k → ones (bit_or a b) ≤ ones a + ones b
ones_or zero a b p q =
    let ea : a ≡ 0 = omega arith in
    let eb : b ≡ 0 = omega arith in
    rw (ea, eb) (omega (arith, ones-ones 0))
ones_or (suc k) a b p q =
    let s = pow-suc 2 k in
    let high = ones_or k (a / 2) (b / 2) (omega arith) (omega arith) in
    let half = ap ones (or_shr a b 1) in
    omega (arith, ones_step a, ones_step b, ones_step (bit_or a b), or_mod a b 1, or_add_and (a % 2) (b % 2))

ones_alone : (v : ℕ) → ones (1 * 2 ^ v) ≡ 1
ones_alone v = ap ones (sym (add-zero (1 * 2 ^ v))) ∙ ones_cat v 1 0 (pow_pos v) ∙ omega (arith, ones-ones 1, ones-ones 0)

or_one : (x : ℕ) → x < 2 → bit_or x 1 ≡ 1
or_one zero p = refl
or_one (suc zero) p = refl
or_one (suc (suc x)) p = absurd (omega arith)

-- a bit that is there already
or_again : (m a v : ℕ) → a < 2 ^ m → v < m → bit a v ≡ 1 → bit_or a (1 * 2 ^ v) ≡ a
or_again m a v p q e =
    let two : 0 < 2 = omega arith in
    let one : 1 < 2 = omega arith in
    same_digits 2 two m (bit_or a (1 * 2 ^ v)) a (or_digits_lt 1 m a (1 * 2 ^ v) p (alone_lt 2 two 1 v m one q)) p (λ u r.
    digit-bit_or 1 a (1 * 2 ^ v) u ∙ elim (cases_eq v u) [
      | inl here ↦ subst (λ u. bit_or (bit a u) (bit (1 * 2 ^ v) u) ≡ bit a u) here
          (ap₂ bit_or e (alone_here 2 two 1 v one) ∙ sym e)
      | inr elsewhere ↦ ap (bit_or (bit a u)) (alone_elsewhere 2 two 1 v u one elsewhere) ∙ or_zero_r (bit a u)
    ])

module _ (p : ℕ → ℕ) where
  pub seen_lt : (m k : ℕ) → ((j : ℕ) → j < k → p j < m) → seen p k < 2 ^ m
  seen_lt m k h = gather-lt 1 (λ _. 1) p m k (λ j q. omega arith) h

  pub seen_has : (k j : ℕ) → j < k → bit (seen p k) (p j) ≡ 1
  seen_has zero j q = absurd (omega arith)
  seen_has (suc k) j q =
      elim (cases_eq (p k) (p j)) [
        | inl e ↦ subst (λ v. bit (seen p (suc k)) v ≡ 1) e (gather_here 1 (λ _. 1) p k (omega arith) ∙ or_one (bit (seen p k) (p k)) (digit_lt 2 (omega arith) (seen p k) (p k)))
        | inr ne ↦
            let other : k ≡ j → ⊥ = λ e. ne (ap p e) in
            gather_elsewhere 1 (λ _. 1) p k (p j) (omega arith) ne ∙ seen_has k j (omega arith)
      ]

  pub seen_from : (k v : ℕ) → bit (seen p k) v ≡ 1 → (j : ℕ) × (j < k) × (p j ≡ v)
  seen_from k v e = gather_from 1 (λ _. 1) p k v (λ j q. omega arith) (λ z. omega arith)

  module _ (m : ℕ) (range : (j : ℕ) → p j < m) where
    seen_more : (k : ℕ) → ones (seen p (suc k)) ≤ ones (seen p k) + 1
    seen_more k =
        let o = ones_or m (seen p k) (1 * 2 ^ p k) (seen_lt m k (λ j q. range j)) (alone_lt 2 (omega arith) 1 (p k) m (omega arith) (range k)) in
        omega (arith, ones_alone (p k))

    seen_few : (k : ℕ) → ones (seen p k) ≤ k
    seen_few zero = omega (arith, ones-ones 0)
    seen_few (suc k) = omega (arith, seen_few k, seen_more k)

    -- where two places are one, fewer bits are seen
    pub seen_twice : (k i j : ℕ) → i < j → j < k → p i ≡ p j → ones (seen p k) < k
    seen_twice zero i j q r e = absurd (omega arith)
    seen_twice (suc k) i j q r e =
        elim (cases_eq j k) [
          | inl last ↦
              let has : bit (seen p k) (p k) ≡ 1 = subst (λ v. bit (seen p k) v ≡ 1) (e ∙ ap p last) (seen_has k i (omega arith)) in
              let same = ap ones (or_again m (seen p k) (p k) (seen_lt m k (λ j q. range j)) (range k) has) in
              omega (arith, seen_few k)
          | inr before ↦ omega (arith, seen_twice k i j q (omega arith) e, seen_more k)
        ]

-- the images of a lawful number are all the names
pub lawful_seen : (n : ℕ) → Lawful n → seen (image n) names ≡ 2 ^ names - 1
lawful_seen n l =
    same_digits 2 (omega arith) names (seen (image n) names) (2 ^ names - 1) (seen_lt (image n) names names l.range) (omega arith) (λ v p.
    let (i, q, e) = l.occurs v p in
    subst (λ v. bit (seen (image n) names) v ≡ 1) e (seen_has (image n) names i q) ∙ sym (mask_bit names v p))

-- and a number whose images are all the names is lawful: were one the image of two, fewer would be seen
pub seen_lawful : (n : ℕ) → n < 16 ^ names → seen (image n) names ≡ 2 ^ names - 1 → Lawful n
seen_lawful n h e =
    let not_twice : (i j : ℕ) → i < j → j < names → image n i ≡ image n j → ⊥ = λ i j p q same.
    (let t = seen_twice (image n) 16 (image-lt n) names i j p q same in let o = ap ones e in omega (arith, ones-ones names)) in
    record {
      higher = h;
      range = λ i p.
          elim (cases_lt (image n i) names) [
            | inl q ↦ q
            | inr q ↦
                let one = subst (λ s. bit s (image n i) ≡ 1) e (seen_has (image n) names i p) in
                let wide : 2 ^ names ≤ 2 ^ image n i = pow-le-pow_right (omega arith) q in
                let none = digit_past 2 (omega arith) (2 ^ names - 1) (image n i) (omega arith) in
                absurd (omega arith)
          ];
      once = λ i j p q same.
          elim (cases_order i j) [
            | inl is ↦ is
            | inr (inl lt) ↦ absurd (not_twice i j lt q same)
            | inr (inr lt) ↦ absurd (not_twice j i lt p (sym same))
          ];
      occurs = λ v p. seen_from (image n) names v (ap (λ s. bit s v) e ∙ mask_bit names v p);
    }

-- what the test answers where all names were seen
pub when_seen : (n s : ℕ) → s ≡ seen (image n) names → s ≡ 2 ^ names - 1 → MatchBool (eqb (n / 16 ^ names) 0) (Lawful n) (Lawful n → ⊥)
when_seen n s is all =
    elim (cases_eq (n / 16 ^ names) 0) [
      | inl e ↦ subst (λ t. MatchBool t (Lawful n) (Lawful n → ⊥)) (sym (eq-eqb (n / 16 ^ names) 0 e)) (seen_lawful n (omega arith) (sym is ∙ all))
      | inr ne ↦ subst (λ t. MatchBool t (Lawful n) (Lawful n → ⊥)) (sym (ne_eqb (n / 16 ^ names) 0 ne)) (λ l. let h = l.higher in omega arith)
    ]

-- and where not
pub when_unseen : (n s : ℕ) → s ≡ seen (image n) names → (s ≡ 2 ^ names - 1 → ⊥) → MatchBool (eqb s (2 ^ names - 1)) (Lawful n) (Lawful n → ⊥)
when_unseen n s is not_all =
    subst (λ t. MatchBool t (Lawful n) (Lawful n → ⊥)) (sym (ne_eqb s (2 ^ names - 1) not_all)) (λ l. not_all (is ∙ lawful_seen n l))
