-- Which arities have a tree, from those that are known to.
use Rattle.std.proofs.Common.{◌≡◌, ℕ, zero, suc, ◌+◌, ◌<◌, ◌≤◌, ◌-◌, Bool, true, false, not, ◌&&◌, eqb, List, [], ◌∷◌, ◌++◌, length, get_or, set, Some, None, Option, sym, refl, ap, ◌∙◌, subst, inl, inr, arith, lit<}
use Rattle.std.specs.List.{slice_get, list_all, range_with_len, AllWithin, HoldsAt}
use Rattle.std.proofs.lemmas.List.{get_or-set_other, get_or_append_left, get_or-append_right, length-append}
use Rattle.std.proofs.lemmas.List.FromFn.{length-range_with_len, get_or-range_with_len}
use Rattle.std.proofs.lemmas.Bool.{both_ways, not-true, not-false, and_parts, and_from, eqb-true, eq-eqb, false≢true, cases_eq, cases_lt}
use Rattle.trees.specs.Trees.{Tree, name, tick, con, unit, pair, bind}
use Rattle.sheet.specs.declared.tables.marks.Marks.{Marks}
use Rattle.sheet.specs.declared.item.Arity.{Arity}
use Rattle.sheet.specs.declared.item.Arity.TheVariants.{Name, Data, Tick, Tuple, Binding}
use Rattle.sheet.specs.declared.item.Constructor.{Constructor}
use Rattle.sheet.specs.declared.item.Parts.{Parts}
use Rattle.sheet.specs.Parts.{parts}
use Rattle.sheet.specs.Sheets.{Sheet}
use Rattle.sheet.specs.Faults.{holds, is_data}
use Rattle.std.specs.Option.{MatchOption}
use Rattle.sheet.specs.Tables.{LowestBarrenIn}
use Rattle.sheet.specs.Arities.{HasArity, HasArities, Inhabited}
use Rattle.sheet.specs.Growth.{marked, serves, makes_one, grows, grows_as, Sound, Closed, Missing, left_out}
use Rattle.std.proofs.lemmas.Option.{slice_get_within, slice_get-get_or, get_or_from_slice_get}
use Rattle.std.proofs.lemmas.List.Folds.{Any-from_list_any, list_any_at}

-- a constructor that serves, and its number
maker : (m : Marks) (a : ℕ) (xs : List Constructor) → makes_one m a xs ≡ true
    → (c : ℕ) × (x : Constructor) × (slice_get xs c ≡ Some x) × (x.makes ≡ a) × (marked m x.takes ≡ true)
maker m a xs one =
    let (c, x, below, at, serves_a) = Any-from_list_any (serves m a) xs one in
    let p = and_parts (eqb x.makes a) (marked m x.takes) serves_a in
    (c, x, slice_get-get_or xs c x below ∙ ap (λ y. Some y) at, eqb-true x.makes a p.0, p.1)

made_by : (m : Marks) (a : ℕ) (xs : List Constructor) (c : ℕ) (x : Constructor) → slice_get xs c ≡ Some x → x.makes ≡ a → marked m x.takes ≡ true → makes_one m a xs ≡ true
made_by m a xs c x is p q =
    let here = get_or_from_slice_get xs c x x is in
    list_any_at (serves m a) xs c x (slice_get_within xs c x is) (ap (serves m a) here ∙ and_from (eqb x.makes a) (marked m x.takes) (eq-eqb x.makes a p) q)

-- a tuple of trees of marked arities
tuple_tree : (S : Sheet) (m : Marks) → Sound S m → (ps : List ℕ) → list_all (marked m) ps ≡ true → (t : Tree) × HasArities S ps t
tuple_tree S m sound [] h = (unit, refl)
tuple_tree S m sound (p ∷ ps) h =
    let parts_of = and_parts (marked m p) (list_all (marked m) ps) h in
    let (t, has) = sound p parts_of.0 in
    let (u, have) = tuple_tree S m sound ps parts_of.1 in
    (pair t u, (p, ps, refl, has, have))

-- a tuple of trees is a tree of the tuple arity
as_tuple : (S : Sheet) (a : ℕ) (ps : Parts) → slice_get S.arities a ≡ Some (Tuple ps) → (t : Tree) → HasArities S (parts ps) t → HasArity S a t
as_tuple S a ps is (name n) h = absurd h
as_tuple S a ps is (tick k) h = absurd h
as_tuple S a ps is (con c t) h = absurd h
as_tuple S a ps is unit h = (ps, is, h)
as_tuple S a ps is (pair t u) h = (ps, h.0, h.1, is, h.2, h.3, h.4)
as_tuple S a ps is (bind n t) h = absurd h

module _ (S : Sheet) (m : Marks) where
  -- what grows from arities with trees has a tree
  grown : Sound S m → (a : ℕ) (o : Option Arity) → slice_get S.arities a ≡ o → grows_as S m a o ≡ true → Inhabited S a
  grown sound a None is h = absurd (false≢true h)
  grown sound a (Some Name) is h = (name (record { arity = a; number = 0 }), (is, refl))
  grown sound a (Some Data) is h =
      let (c, x, here, makes_a, takes) = maker m a S.constructors h in
      let (t, has) = sound x.takes takes in
      (con c t, (is, (x, here, makes_a, has)))
  grown sound a (Some Tick) is h = (tick 0, (is, lit< tt))
  grown sound a (Some (Tuple ps)) is h =
      let (t, have) = tuple_tree S m sound (parts ps) h in
      (t, as_tuple S a ps is t have)
  grown sound a (Some (Binding n b)) is h =
      let (t, has) = sound b h in
      (bind (record { arity = n; number = 0 }) t, (b, is, has))

  pub grows_sound : Sound S m → (a : ℕ) → grows S m a ≡ true → Inhabited S a
  grows_sound sound a h = grown sound a (slice_get S.arities a) refl h

  grows_at : (a : ℕ) (x : Arity) → slice_get S.arities a ≡ Some x → grows_as S m a (Some x) ≡ true → grows S m a ≡ true
  grows_at a x is h = ap (grows_as S m a) is ∙ h

module _ (S : Sheet) (m : Marks) (closed : Closed S m) (few : length S.arities ≤ 64) where
  closed_at : (a : ℕ) (x : Arity) → slice_get S.arities a ≡ Some x → grows_as S m a (Some x) ≡ true → marked m a ≡ true
  closed_at a x is h = let below = slice_get_within S.arities a x is in closed a (omega arith) (grows_at S m a x is h)

  -- a closed set has every arity that has a tree: by induction on the tree
  mutual
    pub every_tree : (t : Tree) (a : ℕ) → HasArity S a t → marked m a ≡ true
    every_tree (name n) a h = closed_at a Name h.0 refl
    every_tree (tick k) a h = closed_at a Tick h.0 refl
    every_tree (con c t) a h =
        let (x, here, makes_a, has) = h.1 in
        closed_at a Data h.0 (made_by m a S.constructors c x here makes_a (every_tree t x.takes has))
    every_tree unit a h = closed_at a (Tuple h.0) h.1 (ap (list_all (marked m)) h.2)
    every_tree (pair t u) a h =
        let (ps, p, qs, is, split, has, have) = h in
        closed_at a (Tuple ps) is
        (ap (list_all (marked m)) split ∙ and_from (marked m p) (list_all (marked m) qs) (every_tree t p has) (every_tuple u qs have))
    every_tree (bind n t) a h = closed_at a (Binding n.arity h.0) h.1 (every_tree t h.0 h.2)

    every_tuple : (t : Tree) (ps : List ℕ) → HasArities S ps t → list_all (marked m) ps ≡ true
    every_tuple (name n) ps h = absurd h
    every_tuple (tick k) ps h = absurd h
    every_tuple (con c t) ps h = absurd h
    every_tuple unit ps h = ap (list_all (marked m)) h
    every_tuple (pair t u) ps h =
        let (p, qs, split, has, have) = h in
        ap (list_all (marked m)) split ∙ and_from (marked m p) (list_all (marked m) qs) (every_tree t p has) (every_tuple u qs have)
    every_tuple (bind n t) ps h = absurd h

-- one arity more in the set
left_out-set : (bs : List Bool) (i : ℕ) → i < length bs → get_or bs i false ≡ false → left_out (set bs i true) + 1 ≡ left_out bs
left_out-set [] i below out = absurd (omega arith)
left_out-set (false ∷ bs) zero below out = omega arith
left_out-set (true ∷ bs) zero below out = absurd (false≢true (sym out))
left_out-set (b ∷ bs) (suc i) below out = let h = left_out-set bs i (omega arith) out in omega arith

-- an arity joins the set that has a tree by those in it
module _ (S : Sheet) (m n : Marks) (a : ℕ) (below : a < 64) (out : marked m a ≡ false) (grow : grows S m a ≡ true) (added : n.at ≡ set m.at a true) where
  pub added_fewer : left_out n.at < left_out m.at
  added_fewer = let one = left_out-set m.at a (omega (arith, m.wide)) out in let same = ap left_out added in omega arith

  pub added_sound : Sound S m → Sound S n
  added_sound s b h =
      elim (cases_eq b a) [
        | inl e ↦ subst (Inhabited S) (sym e) (grows_sound S m s a grow)
        | inr apart ↦ s b (sym (ap (λ bs. get_or bs b false) added ∙ get_or-set_other m.at a b true false apart) ∙ h)
      ]

none_missing : (b g : Bool) → (not b && g) ≡ false → g ≡ true → b ≡ true
none_missing true g none grow = refl
none_missing false g none grow = absurd (false≢true (sym none ∙ grow))

-- the numbers that a search from `from` on and then from 0 on goes over: all below 64
module _ (from : ℕ) (fits : from ≤ 64) where
  abbrev pub round : List ℕ
  round = range_with_len from (64 - from) ++ range_with_len 0 from

  length_round : length round ≡ 64
  length_round =
      let e = length-append (range_with_len from (64 - from)) (range_with_len 0 from) in
      let f = length-range_with_len from (64 - from) in
      let g = length-range_with_len 0 from in
      omega arith

  in_first : (i d : ℕ) → i < 64 - from → get_or round i d ≡ from + i
  in_first i d here =
      get_or_append_left (range_with_len from (64 - from)) (range_with_len 0 from) d i (let l = length-range_with_len from (64 - from) in omega arith)
      ∙ get_or-range_with_len from (64 - from) i d here

  in_second : (i d : ℕ) → 64 - from ≤ i → i < 64 → get_or round i d ≡ i - (64 - from)
  in_second i d past below =
      let e = get_or-append_right (range_with_len from (64 - from)) (range_with_len 0 from) (64 - from) i d (length-range_with_len from (64 - from)) past in
      let f = get_or-range_with_len 0 from (i - (64 - from)) d (omega arith) in
      omega arith

  below_round : (i d : ℕ) → i < 64 → get_or round i d < 64
  below_round i d below =
      elim (cases_lt i (64 - from)) [
        | inl here ↦ let e = in_first i d here in omega arith
        | inr past ↦ let e = in_second i d past below in omega arith
      ]

  -- where in the round a number stands
  in_round : (P : ℕ → Type 0) → AllWithin P round 0 64 → (a : ℕ) → a < 64 → P a
  in_round P all a below =
      elim (cases_lt a from) [
        | inl low ↦ subst P (let e = in_second ((64 - from) + a) 0 (omega arith) (omega arith) in omega arith) (all ((64 - from) + a) 0 (omega arith) (omega arith))
        | inr high ↦ subst P (let e = in_first (a - from) 0 (omega arith) in omega arith) (all (a - from) 0 (omega arith) (omega arith))
      ]

-- what such a search finds
pub missing_of : (S : Sheet) (m : Marks) (from : ℕ) (fits : from ≤ 64) (r : Option ℕ)
    → MatchOption r (AllWithin (λ a. (not (marked m a) && grows S m a) ≡ false) (round from fits) 0 (length (round from fits)))
    (λ b. ((not (marked m b) && grows S m b) ≡ true) × (i : ℕ) × (i < length (round from fits)) × HoldsAt (λ a. a ≡ b) (round from fits) i × AllWithin (λ a. (not (marked m a) && grows S m a) ≡ false) (round from fits) 0 i)
    → Missing S m r
missing_of S m from fits None found =
    let all = subst (AllWithin (λ a. (not (marked m a) && grows S m a) ≡ false) (round from fits) 0) (length_round from fits) found in
    λ a below. none_missing (marked m a) (grows S m a) (in_round from fits (λ a. (not (marked m a) && grows S m a) ≡ false) all a below)
missing_of S m from fits (Some b) (tested, i, within, at, _) =
    let h = and_parts (not (marked m b)) (grows S m b) tested in
    let n = length_round from fits in
    (let e = at 0 in let lt = below_round from fits i 0 (omega arith) in omega arith, not-true (marked m b) h.0, h.1)

pub data_only : (o : Option Arity) → holds is_data o ≡ true → o ≡ Some Data
data_only None h = absurd (false≢true h)
data_only (Some Name) h = absurd (false≢true h)
data_only (Some Data) h = refl
data_only (Some Tick) h = absurd (false≢true h)
data_only (Some (Tuple ps)) h = absurd (false≢true h)
data_only (Some (Binding n a)) h = absurd (false≢true h)

-- the first data arity outside a set that is sound and closed
module _ (S : Sheet) (m : Marks) (sound : Sound S m) (closed : Closed S m) (few : length S.arities ≤ 64) where
  fruitful : (a : ℕ) → (holds is_data (slice_get S.arities a) && not (marked m a)) ≡ false → slice_get S.arities a ≡ Some Data → Inhabited S a
  fruitful a tested is = sound a (not-false (marked m a) (sym (ap (λ o. holds is_data o && not (marked m a)) is) ∙ tested))

  pub lowest_of : (r : Option ℕ)
      → MatchOption r ((a : ℕ) → 0 ≤ a → a < 64 → (holds is_data (slice_get S.arities a) && not (marked m a)) ≡ false)
      (λ b. (0 ≤ b) × (b < 64) × ((holds is_data (slice_get S.arities b) && not (marked m b)) ≡ true) × ((a : ℕ) → 0 ≤ a → a < b → (holds is_data (slice_get S.arities a) && not (marked m a)) ≡ false))
      → LowestBarrenIn S r
  lowest_of None found =
      λ a is.
      let below = slice_get_within S.arities a Data is in
      fruitful a (found a (omega arith) (omega arith)) is
  lowest_of (Some b) found =
      let h = and_parts (holds is_data (slice_get S.arities b)) (not (marked m b)) found.2 in (
        (
          data_only (slice_get S.arities b) h.0,
          λ tree. both_ways (marked m b) (not-true (marked m b) h.1) (every_tree S m closed few tree.0 b tree.1),
        ),
        λ a below is. fruitful a (found.3 a (omega arith) below) is,
      )
