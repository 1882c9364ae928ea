-- What iterators over lists answer, in the words of specs/.
use Rattle.std.proofs.Common.{◌≡◌, ℕ, zero, suc, ◌+◌, ◌<◌, ◌≤◌, Bool, true, false, not, eqb, ◌&&◌, ◌||◌, List, [], ◌∷◌, length, drop, refl, ap, ◌∙◌, add-one, arith}
use Rattle.std.specs.Iterator.{YieldsFirst}
use Rattle.std.specs.List.{slice_get, list_all, list_any, zip}
use Rattle.std.proofs.lemmas.Bool.{and_right}
use Rattle.sheet.specs.Sheets.{Sheet}
use Rattle.sheet.specs.Faults.{row_has, rows_have}

module _ {X : Type 0} where
  first_suc : (xs : List X) (k : ℕ) → k < length xs → YieldsFirst (λ left. left) (drop k xs) (slice_get xs k) (drop (suc k) xs)
  first_suc [] k below = absurd (omega arith)
  first_suc (x ∷ xs) zero below = refl
  first_suc (x ∷ xs) (suc k) below = first_suc xs k (omega arith)

  -- what is left at k begins with what is told there
  pub first_told : (xs : List X) (k : ℕ) → k < length xs → YieldsFirst (λ left. left) (drop k xs) (slice_get xs k) (drop (k + 1) xs)
  first_told xs k below = rw add-one (first_suc xs k below)

any_not_all : (b : Bool) (xs : List ℕ) → (not b || not (list_all (λ x. eqb x 0) xs)) ≡ not (b && list_all (λ x. eqb x 0) xs)
any_not_all true xs = refl
any_not_all false xs = refl

-- one is not 0 where not all are
pub any_nonzero : (xs : List ℕ) → list_any (λ x. not (eqb x 0)) xs ≡ not (list_all (λ x. eqb x 0) xs)
any_nonzero [] = refl
any_nonzero (x ∷ xs) = ap (λ b. not (eqb x 0) || b) (any_nonzero xs) ∙ any_not_all (eqb x 0) xs

module _ (S : Sheet) where
  -- the rows of equally many arities, one by one
  pub rows_zipped : (as' rs : List ℕ) → length as' ≤ length rs → list_all (λ p. row_has S p.0 p.1) (zip as' rs) ≡ rows_have S as' rs
  rows_zipped [] rs enough = refl
  rows_zipped (a ∷ as') [] enough = absurd (omega arith)
  rows_zipped (a ∷ as') (r ∷ rs) enough = ap (λ b. row_has S a r && b) (rows_zipped as' rs (omega arith))

  pub rows_short : (as' rs : List ℕ) → length rs < length as' → rows_have S as' rs ≡ false
  rows_short [] rs few = absurd (omega arith)
  rows_short (a ∷ as') [] few = refl
  rows_short (a ∷ as') (r ∷ rs) few = and_right (row_has S a r) (rows_have S as' rs) (rows_short as' rs (omega arith))
