-- Numbers that a loop gathers by `|`, digit by digit.
--
--   gather w d p k   the digits d j of w bits, for each j below k, each at its place p j
use Rattle.std.specs.Prelude.{◌≡◌, ℕ, zero, suc, ◌+◌, ◌*◌, ◌%◌, ◌^◌, ◌<◌, ◌≢◌, bit_or}
use Rattle.std.proofs.Common.{sym, ap, ap₂, ◌∙◌, subst, inl, inr, arith, add-one}
use Rattle.std.proofs.Math.Nat.{one-le-pow}
use Rattle.std.specs.Int.Bits.{or_zero_l, or_zero_r}
use Rattle.std.proofs.lemmas.Nat.{pow_pos}
use Rattle.std.proofs.lemmas.Bool.{cases_eq}
use Rattle.groups.specs.Digits.{digit, digit_past, alone_here, alone_elsewhere, alone_lt, digit-bit_or, or_digits_lt, shifted_alone}

abbrev pub gather : ℕ → (ℕ → ℕ) → (ℕ → ℕ) → ℕ → ℕ
gather w d p zero = 0
gather w d p (suc k) = bit_or (gather w d p k) (d k * (2 ^ w) ^ p k)

-- what holds below suc k holds below k
below : {P : ℕ → Type 0} (k : ℕ) → ((j : ℕ) → j < suc k → P j) → (j : ℕ) → j < k → P j
below k h j q = h j (omega arith)

module _ (w : ℕ) (d p : ℕ → ℕ) where
  -- a turn of the loop, at a number of m digits
  pub gather_more : (m k out x y : ℕ) → out ≡ gather w d p k → x ≡ d k → y ≡ p k → d k < 2 ^ w → p k < m → bit_or out (x * 2 ^ (w * y) % 2 ^ (w * m)) ≡ gather w d p (k + 1)
  gather_more m k out x y e ex ey s q =
      ap₂ bit_or e (ap₂ (λ x y. x * 2 ^ (w * y) % 2 ^ (w * m)) ex ey ∙ shifted_alone w m (d k) (p k) s q) ∙ ap (gather w d p) (sym (add-one k))

  pub gather-lt : (m k : ℕ) → ((j : ℕ) → j < k → d j < 2 ^ w) → ((j : ℕ) → j < k → p j < m) → gather w d p k < (2 ^ w) ^ m
  gather-lt m zero small h = one-le-pow m (2 ^ w) (pow_pos w)
  gather-lt m (suc k) small h =
      or_digits_lt w m (gather w d p k) (d k * (2 ^ w) ^ p k) (gather-lt m k (below k small) (below k h))
      (alone_lt (2 ^ w) (pow_pos w) (d k) (p k) m (small k (omega arith)) (h k (omega arith)))

  pub gather_here : (k : ℕ) → d k < 2 ^ w → digit (2 ^ w) (gather w d p (suc k)) (p k) ≡ bit_or (digit (2 ^ w) (gather w d p k) (p k)) (d k)
  gather_here k s =
      digit-bit_or w (gather w d p k) (d k * (2 ^ w) ^ p k) (p k)
      ∙ ap (bit_or (digit (2 ^ w) (gather w d p k) (p k))) (alone_here (2 ^ w) (pow_pos w) (d k) (p k) s)

  pub gather_elsewhere : (k v : ℕ) → d k < 2 ^ w → (p k ≢ v) → digit (2 ^ w) (gather w d p (suc k)) v ≡ digit (2 ^ w) (gather w d p k) v
  gather_elsewhere k v s ne =
      digit-bit_or w (gather w d p k) (d k * (2 ^ w) ^ p k) v
      ∙ ap (bit_or (digit (2 ^ w) (gather w d p k) v)) (alone_elsewhere (2 ^ w) (pow_pos w) (d k) (p k) v s ne)
      ∙ or_zero_r (digit (2 ^ w) (gather w d p k) v)

  pub gather_free : (k v : ℕ) → ((j : ℕ) → j < k → d j < 2 ^ w) → ((j : ℕ) → j < k → p j ≢ v) → digit (2 ^ w) (gather w d p k) v ≡ 0
  gather_free zero v small h = digit_past (2 ^ w) (pow_pos w) 0 v (one-le-pow v (2 ^ w) (pow_pos w))
  gather_free (suc k) v small h = gather_elsewhere k v (small k (omega arith)) (h k (omega arith)) ∙ gather_free k v (below k small) (below k h)

  -- where no two places are one, each digit stands at its place
  pub digit-gather : (k : ℕ) → ((j : ℕ) → j < k → d j < 2 ^ w) → ((i j : ℕ) → i < k → j < k → p i ≡ p j → i ≡ j) →
      (j : ℕ) → j < k → digit (2 ^ w) (gather w d p k) (p j) ≡ d j
  digit-gather zero small once j q = absurd (omega arith)
  digit-gather (suc k) small once j q =
      elim (cases_eq k j) [
        | inl e ↦
            let free = gather_free k (p k) (below k small) (λ i r f. let same = once i k (omega arith) (omega arith) f in omega arith) in
            subst (λ m. digit (2 ^ w) (gather w d p (suc k)) (p m) ≡ d m) e (gather_here k (small k (omega arith)) ∙ ap (λ m. bit_or m (d k)) free ∙ or_zero_l (d k))
        | inr ne ↦
            gather_elsewhere k (p j) (small k (omega arith)) (λ f. ne (once k j (omega arith) q f))
            ∙ digit-gather k (below k small) (λ i j r s. once i j (omega arith) (omega arith)) j (omega arith)
      ]

  -- a digit that is not 0 stands at the place of some j
  pub gather_from : (k v : ℕ) → ((j : ℕ) → j < k → d j < 2 ^ w) → (digit (2 ^ w) (gather w d p k) v ≢ 0) → (j : ℕ) × (j < k) × (p j ≡ v)
  gather_from zero v small h = absurd (h (gather_free 0 v small (λ j q e. omega arith)))
  gather_from (suc k) v small h =
      elim (cases_eq (p k) v) [
        | inl e ↦ (k, omega arith, e)
        | inr ne ↦ let (j, q, e) = gather_from k v (below k small) (λ z. h (gather_elsewhere k v (small k (omega arith)) ne ∙ z)) in (j, omega arith, e)
      ]
