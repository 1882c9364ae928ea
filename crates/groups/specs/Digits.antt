-- Digits in a base b, and what shifts, `|` and `^` do to digits of w bits.
--
--   digit b n i    digit i of n; image n i is digit 16 n i, and digit 2 n i is bit i of n
use Rattle.std.specs.Prelude.{◌≡◌, ℕ, zero, suc, ◌+◌, ◌*◌, ◌/◌, ◌%◌, ◌^◌, ◌<◌, ◌≤◌, ◌≢◌, bit_or, bit_xor, refl}
use Rattle.std.proofs.Common.{sym, ap, ap₂, ◌∙◌, subst, arith, div-one, mul-div_cancel, mod-eq_of_lt, mul-lt-mul_of_pos_right, mul-zero, mul-suc, mul_assoc, pow-suc}
use Rattle.std.proofs.Math.Nat.{div-eq_of_lt, div-div-eq-div-mul, mul-mod_left, pow-zero, pow-succ', one-le-pow, pow-le-pow_right}
use Rattle.std.proofs.lemmas.Nat.{pow-add, pow_pos, div_below, mod_below, div-add-mod', or_shr, or_mod, or_lt, xor_shr, xor_mod, xor_lt}

abbrev pub digit : ℕ → ℕ → ℕ → ℕ
digit b n i = n / b ^ i % b

module _ (b : ℕ) (pos : 0 < b) where
  pub digit_lt : (n i : ℕ) → digit b n i < b
  digit_lt n i = mod_below (n / b ^ i) b pos

  pub digit-zero : (n : ℕ) → digit b n 0 ≡ n % b
  digit-zero n = rw pow-zero (ap (λ m. m % b) (div-one n))

  pub digit-suc : (n i : ℕ) → digit b n (suc i) ≡ digit b (n / b) i
  digit-suc n i = ap (λ m. n / m % b) (pow-succ' b i) ∙ ap (λ m. m % b) (sym (div-div-eq-div-mul n b (b ^ i)))

  -- past the last digit
  pub digit_past : (n i : ℕ) → n < b ^ i → digit b n i ≡ 0
  digit_past n i p = ap (λ m. m % b) (div-eq_of_lt p) ∙ mod-eq_of_lt pos

  pub same_digits : (k a c : ℕ) → a < b ^ k → c < b ^ k → ((i : ℕ) → i < k → digit b a i ≡ digit b c i) → a ≡ c
  same_digits zero a c p q e = let one = pow-zero b in omega arith
  same_digits (suc k) a c p q e =
      let low : a % b ≡ c % b = sym (digit-zero a) ∙ e 0 (omega arith) ∙ digit-zero c in
      let shorter : (n : ℕ) → n < b ^ suc k → n / b < b ^ k = λ n h. div_below n b (b ^ k) pos (subst (λ m. n < m) (pow-suc b k) h) in
      let high : a / b ≡ c / b = same_digits k (a / b) (c / b) (shorter a p) (shorter c q) (λ i h. sym (digit-suc a i) ∙ e (suc i) (omega arith) ∙ digit-suc c i) in
      sym (div-add-mod' a b) ∙ ap₂ (λ x y. x * b + y) high low ∙ div-add-mod' c b

  -- a digit d that stands alone, at i
  pub alone_here : (d i : ℕ) → d < b → digit b (d * b ^ i) i ≡ d
  alone_here d i p = ap (λ m. m % b) (mul-div_cancel d (one-le-pow i b pos)) ∙ mod-eq_of_lt p

  pub alone_lt : (d i k : ℕ) → d < b → i < k → d * b ^ i < b ^ k
  alone_lt d i k p q =
      let s : d * b ^ i < b * b ^ i = mul-lt-mul_of_pos_right p (one-le-pow i b pos) in
      let m : b ^ suc i ≤ b ^ k = pow-le-pow_right pos q in
      let e = pow-succ' b i in
      omega arith

  pub alone_elsewhere : (d i j : ℕ) → d < b → (i ≢ j) → digit b (d * b ^ i) j ≡ 0
  alone_elsewhere d zero zero p ne = absurd (ne refl)
  alone_elsewhere d zero (suc j) p ne = digit_past (d * b ^ 0) (suc j) (alone_lt d 0 (suc j) p (omega arith))
  alone_elsewhere d (suc i) zero p ne = digit-zero (d * b ^ suc i) ∙ rw (pow-suc, ← mul_assoc) (mul-mod_left (d * b ^ i) b)
  alone_elsewhere d (suc i) (suc j) p ne =
      digit-suc (d * b ^ suc i) j ∙ ap (λ m. digit b m j) (rw (pow-suc, ← mul_assoc) (mul-div_cancel (d * b ^ i) pos)) ∙ alone_elsewhere d i j p (λ e. ne (ap suc e))

pub pow-pow : (w i : ℕ) → (2 ^ w) ^ i ≡ 2 ^ (w * i)
pow-pow w zero = pow-zero (2 ^ w) ∙ ap (λ m. 2 ^ m) (sym (mul-zero w))
pow-pow w (suc i) = pow-suc (2 ^ w) i ∙ ap (λ m. m * 2 ^ w) (pow-pow w i) ∙ sym (pow-add 2 (w * i) w) ∙ ap (λ m. 2 ^ m) (sym (mul-suc w i))

module _ (w : ℕ) where
  pub digit-bit_or : (a c i : ℕ) → digit (2 ^ w) (bit_or a c) i ≡ bit_or (digit (2 ^ w) a i) (digit (2 ^ w) c i)
  digit-bit_or a c i = rw (pow-pow w i) (ap (λ m. m % 2 ^ w) (or_shr a c (w * i)) ∙ or_mod (a / 2 ^ (w * i)) (c / 2 ^ (w * i)) w)

  pub digit-bit_xor : (a c i : ℕ) → digit (2 ^ w) (bit_xor a c) i ≡ bit_xor (digit (2 ^ w) a i) (digit (2 ^ w) c i)
  digit-bit_xor a c i = rw (pow-pow w i) (ap (λ m. m % 2 ^ w) (xor_shr a c (w * i)) ∙ xor_mod (a / 2 ^ (w * i)) (c / 2 ^ (w * i)) w)

  pub or_digits_lt : (k a c : ℕ) → a < (2 ^ w) ^ k → c < (2 ^ w) ^ k → bit_or a c < (2 ^ w) ^ k
  or_digits_lt k a c = rw (pow-pow w k) (or_lt (w * k) a c)

  pub xor_digits_lt : (k a c : ℕ) → a < (2 ^ w) ^ k → c < (2 ^ w) ^ k → bit_xor a c < (2 ^ w) ^ k
  xor_digits_lt k a c = rw (pow-pow w k) (xor_lt (w * k) a c)

  -- `d << (w * i)` in a number of m digits
  pub shifted_alone : (m d i : ℕ) → d < 2 ^ w → i < m → d * 2 ^ (w * i) % 2 ^ (w * m) ≡ d * (2 ^ w) ^ i
  shifted_alone m d i p q = rw (← pow-pow w i, ← pow-pow w m) (mod-eq_of_lt (alone_lt (2 ^ w) (pow_pos w) d i m p q))
