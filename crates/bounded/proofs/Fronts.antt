-- `slice_get` of the front of a list.
use Rattle.std.proofs.Common.{◌≡◌, ℕ, zero, suc, ◌<◌, ◌≤◌, List, [], ◌∷◌, length, get_or, take, Some, None, refl, ◌∙◌, arith}
use Rattle.std.specs.List.{slice_get}
use Rattle.std.proofs.lemmas.Option.{slice_get-get_or}

pub slice_get-take : {X : Type 0} (xs : List X) (n k : ℕ) → k < n → slice_get (take n xs) k ≡ slice_get xs k
slice_get-take xs zero k below = absurd (omega arith)
slice_get-take [] (suc n) k below = refl
slice_get-take (x ∷ xs) (suc n) zero below = refl
slice_get-take (x ∷ xs) (suc n) (suc k) below = slice_get-take xs n k (omega arith)

pub slice_get-take_past : {X : Type 0} (xs : List X) (n k : ℕ) → n ≤ k → slice_get (take n xs) k ≡ None
slice_get-take_past xs zero k past = refl
slice_get-take_past [] (suc n) k past = refl
slice_get-take_past (x ∷ xs) (suc n) zero past = absurd (omega arith)
slice_get-take_past (x ∷ xs) (suc n) (suc k) past = slice_get-take_past xs n k (omega arith)

pub slice_get-take_some : {X : Type 0} (xs : List X) (n k : ℕ) (d : X) → n ≤ length xs → k < n → slice_get (take n xs) k ≡ Some (get_or xs k d)
slice_get-take_some xs n k d fits below = slice_get-take xs n k below ∙ slice_get-get_or xs k d (omega arith)

pub ruleset fronts = (slice_get-take, slice_get-take_past, slice_get-take_some)
