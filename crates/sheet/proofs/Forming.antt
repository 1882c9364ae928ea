-- A lawful sheet is well formed: entry by entry.
use Rattle.std.proofs.Common.{◌≡◌, ℕ, zero, suc, ◌+◌, ◌<◌, ◌≤◌, Bool, true, false, cond, not, ◌&&◌, ◌||◌, eqb, ltb, leb, ◌⊎◌, List, [], ◌∷◌, ◌++◌, length, take, Some, None, Option, sym, refl, ap, ◌∙◌, subst, inl, inr, add-one, arith}
use Rattle.std.specs.List.{slice_get, count_by, list_all, AllZip}
use Rattle.std.specs.Option.{option_map}
use Rattle.std.proofs.lemmas.List.{length_push, length-take, take_all}
use Rattle.std.proofs.lemmas.List.Sums.{sum_by_push}
use Rattle.std.proofs.lemmas.Bool.{and_parts, or_parts, ltb-true, ltb-false, leb-false, eqb-true, false≢true, not-false}
use Rattle.sheet.specs.declared.entry.Entry.{Entry}
use Rattle.sheet.specs.declared.command.Command.{Command}
use Rattle.sheet.specs.declared.command.Command.TheVariants.{NameArity, DataArity, TickArity, TupleArity, BindingArity, Constructor as ConstructorEntry, Variable as VariableEntry, VariableRow, ApplyRow, TupleRow, BindRow}
use Rattle.sheet.specs.declared.item.Parts.{Parts}
use Rattle.sheet.specs.declared.item.Arity.{Arity}
use Rattle.sheet.specs.declared.item.Arity.TheVariants.{Name, Data, Tick, Tuple, Binding}
use Rattle.sheet.specs.declared.item.Constructor.{Constructor}
use Rattle.sheet.specs.declared.item.Row.{Row}
use Rattle.sheet.specs.declared.item.Row.TheVariants.{Variable as variable_row, Apply as apply_row, Tuple as tuple_row, Bind as bind_row}
use Rattle.sheet.specs.declared.item.Item.{Item}
use Rattle.sheet.specs.declared.item.Item.TheVariants.{Arity as an_arity, Constructor as a_constructor, Variable as a_variable, Row as a_row}
use Rattle.refusals.specs.declared.Reason.TheVariants.{Order, Crowded, Absent, IllSorted, Padding}
use Rattle.sheet.specs.Limits.{most_arities, most_name_arities, most_constructors, most_variables, most_name_variables, most_rows, most_parts}
use Rattle.sheet.specs.Commands.{command}
use Rattle.sheet.specs.Parts.{parts}
use Rattle.sheet.specs.Sheets.{Sheet, blank, item, item_of, item_by, width_of, declare, declare_some, extend, sheet_of}
use Rattle.sheet.specs.Faults.{some, is_name, holds, names_names, has, behind, crowded, present, well_sorted, padded, item_fault, fault_of, fault, arity_of, arity_of_some, row_arity, row_has, rows_have, fits_tuple, fits_binding}
use Rattle.sheet.specs.Checks.{Faultless}
use Rattle.sheet.specs.WellFormed.{Every, WithinLimits, ArityFits, ConstructorFits, VariableFits, RowHas, RowFits, WellFormed, LawfulIsWellFormed}
use Rattle.std.proofs.lemmas.Option.{slice_get_within, slice_get_cases, none-some}
use Rattle.sheet.proofs.Growing.{data_only}
use Rattle.sheet.proofs.Checking.{sheet_more}

-- one more at the end: what was there stays, and what is there now was there or is the new one
module _ {X : Type 0} where
  nth_kept : (xs ys : List X) (k : ℕ) (x : X) → slice_get xs k ≡ Some x → slice_get (xs ++ ys) k ≡ Some x
  nth_kept [] ys k x is = let z : ◌≡◌ {A = ℕ} 0 1 = cc in absurd (omega arith)
  nth_kept (y ∷ xs) ys zero x is = is
  nth_kept (y ∷ xs) ys (suc k) x is = nth_kept xs ys k x is

  nth_push : (xs : List X) (y : X) (k : ℕ) (x : X) → slice_get (xs ++ y ∷ []) k ≡ Some x → (slice_get xs k ≡ Some x) ⊎ ((k ≡ length xs) × (y ≡ x))
  nth_push [] y zero x is = inr (refl, cc)
  nth_push [] y (suc k) x is = let z : ◌≡◌ {A = ℕ} 0 1 = cc in absurd (omega arith)
  nth_push (z ∷ xs) y zero x is = inl is
  nth_push (z ∷ xs) y (suc k) x is =
      elim (nth_push xs y k x is) [ inl h ↦ inl h | inr h ↦ inr (ap suc h.0, h.1) ]

  -- k names an element
  there : (xs : List X) (k : ℕ) → k < length xs → (x : X) × (slice_get xs k ≡ Some x)
  there xs k below = elim (slice_get_cases xs k).1 [ inl h ↦ (h.0, h.2) | inr h ↦ absurd (omega arith) ]

-- what the tests tell
name_only : (o : Option Arity) → holds is_name o ≡ true → o ≡ Some Name
name_only None h = absurd (false≢true h)
name_only (Some Name) h = refl
name_only (Some Data) h = absurd (false≢true h)
name_only (Some Tick) h = absurd (false≢true h)
name_only (Some (Tuple ps)) h = absurd (false≢true h)
name_only (Some (Binding n a)) h = absurd (false≢true h)

same_only : (o : Option ℕ) (a : ℕ) → holds (eqb a) o ≡ true → o ≡ Some a
same_only None a h = absurd (false≢true h)
same_only (Some b) a h = ap (λ x. Some x) (sym (eqb-true a b h))

every_below : {X : Type 0} (xs : List X) (ps : List ℕ) → list_all (has xs) ps ≡ true → Every (λ p. p < length xs) ps
every_below xs [] h = tt
every_below xs (p ∷ ps) h =
    let h' = and_parts (has xs p) (list_all (has xs) ps) h in
    (ltb-true p (length xs) h'.0, every_below xs ps h'.1)

-- T has all that S has, under the same numbers
record Extends (S T : Sheet) : Type 0 where
  arities : (k : ℕ) (x : Arity) → slice_get S.arities k ≡ Some x → slice_get T.arities k ≡ Some x
  constructors : (k : ℕ) (x : Constructor) → slice_get S.constructors k ≡ Some x → slice_get T.constructors k ≡ Some x
  variables : (k x : ℕ) → slice_get S.variables k ≡ Some x → slice_get T.variables k ≡ Some x
  rows : (k : ℕ) (x : Row) → slice_get S.rows k ≡ Some x → slice_get T.rows k ≡ Some x

declare_extends : (S : Sheet) (i : Item) → Extends S (declare S i)
declare_extends S (an_arity x) =
    record { arities = nth_kept S.arities (x ∷ []); constructors = λ k y is. is; variables = λ k y is. is; rows = λ k y is. is }
declare_extends S (a_constructor x) =
    record { arities = λ k y is. is; constructors = nth_kept S.constructors (x ∷ []); variables = λ k y is. is; rows = λ k y is. is }
declare_extends S (a_variable x) =
    record { arities = λ k y is. is; constructors = λ k y is. is; variables = nth_kept S.variables (x ∷ []); rows = λ k y is. is }
declare_extends S (a_row x) =
    record { arities = λ k y is. is; constructors = λ k y is. is; variables = λ k y is. is; rows = nth_kept S.rows (x ∷ []) }

-- what fits a sheet fits one that has more
module _ (S T : Sheet) (more : Extends S T) where
  longer_arities : (k : ℕ) → k < length S.arities → k < length T.arities
  longer_arities k below = let (x, is) = there S.arities k below in slice_get_within T.arities k x (more.arities k x is)

  longer_variables : (k : ℕ) → k < length S.variables → k < length T.variables
  longer_variables k below = let (x, is) = there S.variables k below in slice_get_within T.variables k x (more.variables k x is)

  arity_kept : (a : ℕ) (x : Arity) → ArityFits S a x → ArityFits T a x
  arity_kept a Name h = h
  arity_kept a Data h = h
  arity_kept a Tick h = h
  arity_kept a (Tuple ps) h = h
  arity_kept a (Binding n b) h = (more.arities n Name h.0, h.1, h.2)

  constructor_kept : (x : Constructor) → ConstructorFits S x → ConstructorFits T x
  constructor_kept x h = (more.arities x.makes Data h.0, longer_arities x.takes h.1)

  made_kept : (o : Option Constructor) (c a : ℕ) → slice_get S.constructors c ≡ o → option_map (λ x. x.makes) o ≡ Some a
      → option_map (λ x. x.makes) (slice_get T.constructors c) ≡ Some a
  made_kept None c a at is = let z : ◌≡◌ {A = ℕ} 0 1 = cc in absurd (omega arith)
  made_kept (Some x) c a at is = ap (option_map (λ y. y.makes)) (more.constructors c x at) ∙ is

  arity_of_kept : (x : Row) (a : ℕ) → arity_of S x ≡ Some a → arity_of T x ≡ Some a
  arity_of_kept (variable_row v) a is = more.variables v a is
  arity_of_kept (apply_row c r) a is = made_kept (slice_get S.constructors c) c a refl is
  arity_of_kept (tuple_row b rs) a is = is
  arity_of_kept (bind_row b v r) a is = is

  row_arity_at : (o : Option Row) (q a : ℕ) → slice_get S.rows q ≡ o → arity_of_some S o ≡ Some a → row_arity T q ≡ Some a
  row_arity_at None q a at is = let z : ◌≡◌ {A = ℕ} 0 1 = cc in absurd (omega arith)
  row_arity_at (Some x) q a at is = ap (arity_of_some T) (more.rows q x at) ∙ arity_of_kept x a is

  has_kept : (r a q : ℕ) → RowHas S r a q → RowHas T r a q
  has_kept r a q h = (h.0, row_arity_at (slice_get S.rows q) q a refl h.1)

  each_kept : (r : ℕ) (as' qs : List ℕ) → AllZip (RowHas S r) as' qs → AllZip (RowHas T r) as' qs
  each_kept r [] [] h = tt
  each_kept r [] (q ∷ qs) h = absurd h
  each_kept r (a ∷ as') [] h = absurd h
  each_kept r (a ∷ as') (q ∷ qs) h = (has_kept r a q h.0, each_kept r as' qs h.1)

  row_kept : (r : ℕ) (x : Row) → RowFits S r x → RowFits T r x
  row_kept r (variable_row v) h = longer_variables v h
  row_kept r (apply_row c q) h = (h.0, more.constructors c h.0 h.1, has_kept r h.0.takes q h.2)
  row_kept r (tuple_row a qs) h = (h.0, more.arities a (Tuple h.0) h.1, each_kept r (parts h.0) (parts qs) h.2)
  row_kept r (bind_row a v q) h =
      (h.0, h.1, more.arities a (Binding h.0 h.1) h.2, more.variables v h.0 h.3, has_kept r h.1 q h.4)

-- what an entry that has no fault passes
pub record Clean (S : Sheet) (e : Entry) (i : Item) : Type 0 where
  pub in_order : behind S i ≡ false
  pub has_room : crowded S i ≡ false
  pub names_there : present S i ≡ true
  pub sorts : well_sorted S i ≡ true
  pub unpadded : padded e i ≡ false

past_test : {X : Type 0} (t : Bool) (x : X) (o : Option X) → cond t (Some x) o ≡ None → (t ≡ false) × (o ≡ None)
past_test true x o is = let z : ◌≡◌ {A = ℕ} 0 1 = cc in absurd (omega arith)
past_test false x o is = (refl, is)

pub clean : (S : Sheet) (e : Entry) (i : Item) → item_fault S e i ≡ None → Clean S e i
clean S e i none =
    let a = past_test (behind S i) Order _ none in
    let b = past_test (crowded S i) Crowded _ a.1 in
    let c = past_test (not (present S i)) Absent _ b.1 in
    let d = past_test (not (well_sorted S i)) IllSorted _ c.1 in
    let f = past_test (padded e i) Padding None d.1 in
    record { in_order = a.0; has_room = b.0; names_there = not-false (present S i) c.0; sorts = not-false (well_sorted S i) d.0; unpadded = f.0 }

-- an item at the end of its group fits the sheet
abbrev ItemFits : Sheet → Item → Type 0
ItemFits S (an_arity x) = ArityFits S (length S.arities) x
ItemFits S (a_constructor x) = ConstructorFits S x
ItemFits S (a_variable a) = VariableFits S a
ItemFits S (a_row x) = RowFits S (length S.rows) x

-- a tuple row has as many rows as its arity has parts
abbrev Matched : Sheet → Item → Type 0
Matched S (an_arity x) = Unit {0}
Matched S (a_constructor x) = Unit {0}
Matched S (a_variable a) = Unit {0}
Matched S (a_row (variable_row v)) = Unit {0}
Matched S (a_row (apply_row c r)) = Unit {0}
Matched S (a_row (tuple_row a rs)) = rs.len ≡ width_of (slice_get S.arities a)
Matched S (a_row (bind_row a v r)) = Unit {0}

matched : (S : Sheet) (e : Entry) (c : Command) → Matched S (item_by S e c)
matched S e NameArity = tt
matched S e DataArity = tt
matched S e TickArity = tt
matched S e TupleArity = tt
matched S e BindingArity = tt
matched S e ConstructorEntry = tt
matched S e VariableEntry = tt
matched S e VariableRow = tt
matched S e ApplyRow = tt
matched S e TupleRow = refl
matched S e BindRow = tt

module _ (S : Sheet) where
  row_now : (a q : ℕ) → has S.rows q ≡ true → row_has S a q ≡ true → RowHas S (length S.rows) a q
  row_now a q p h = (ltb-true q (length S.rows) p, same_only (row_arity S q) a h)

  each_now : (as' qs : List ℕ) → length as' ≡ length qs → list_all (has S.rows) qs ≡ true → rows_have S as' qs ≡ true
      → AllZip (RowHas S (length S.rows)) as' qs
  each_now [] [] e p h = tt
  each_now [] (q ∷ qs) e p h = absurd (omega arith)
  each_now (a ∷ as') [] e p h = absurd (omega arith)
  each_now (a ∷ as') (q ∷ qs) e p h =
      let p' = and_parts (has S.rows q) (list_all (has S.rows) qs) p in
      let h' = and_parts (row_has S a q) (rows_have S as' qs) h in
      (row_now a q p'.0 h'.0, each_now as' qs (omega arith) p'.1 h'.1)

  same_length : (ps qs : Parts) → ps.len ≡ qs.len → length (parts ps) ≡ length (parts qs)
  same_length ps qs e =
      omega (arith, ps.four, qs.four, length-take ps.len ps.numbers, length-take qs.len qs.numbers)

  arity_now : (x : Arity) → crowded S (an_arity x) ≡ false → present S (an_arity x) ≡ true → well_sorted S (an_arity x) ≡ true → ArityFits S (length S.arities) x
  arity_now Name room p h = tt
  arity_now Data room p h = tt
  arity_now Tick room p h = tt
  arity_now (Tuple ps) room p h =
      let wide = (or_parts (leb most_arities (length S.arities)) (ltb most_parts ps.len) room).1 in
      (ltb-false most_parts ps.len wide, every_below S.arities (parts ps) p)
  arity_now (Binding n b) room p h =
      let p' = and_parts (has S.arities n) (has S.arities b) p in
      (name_only (slice_get S.arities n) h, ltb-true n (length S.arities) p'.0, ltb-true b (length S.arities) p'.1)

  apply_now : (o : Option Constructor) (c q : ℕ) → slice_get S.constructors c ≡ o → has S.rows q ≡ true → holds (λ x. row_has S x.takes q) o ≡ true
      → RowFits S (length S.rows) (apply_row c q)
  apply_now None c q at p h = absurd (false≢true h)
  apply_now (Some x) c q at p h = (x, at, row_now x.takes q p h)

  tuple_now : (o : Option Arity) (a : ℕ) (qs : Parts) → slice_get S.arities a ≡ o → list_all (has S.rows) (parts qs) ≡ true → holds (fits_tuple S (parts qs)) o ≡ true
      → qs.len ≡ width_of o → RowFits S (length S.rows) (tuple_row a qs)
  tuple_now None a qs at p h e = absurd (false≢true h)
  tuple_now (Some Name) a qs at p h e = absurd (false≢true h)
  tuple_now (Some Data) a qs at p h e = absurd (false≢true h)
  tuple_now (Some Tick) a qs at p h e = absurd (false≢true h)
  tuple_now (Some (Tuple ps)) a qs at p h e = (ps, at, each_now (parts ps) (parts qs) (same_length ps qs (sym e)) p h)
  tuple_now (Some (Binding n b)) a qs at p h e = absurd (false≢true h)

  bind_now : (o : Option Arity) (a v q : ℕ) → slice_get S.arities a ≡ o → has S.rows q ≡ true → holds (fits_binding S v q) o ≡ true
      → RowFits S (length S.rows) (bind_row a v q)
  bind_now None a v q at p h = absurd (false≢true h)
  bind_now (Some Name) a v q at p h = absurd (false≢true h)
  bind_now (Some Data) a v q at p h = absurd (false≢true h)
  bind_now (Some Tick) a v q at p h = absurd (false≢true h)
  bind_now (Some (Tuple ps)) a v q at p h = absurd (false≢true h)
  bind_now (Some (Binding n b)) a v q at p h =
      let h' = and_parts (holds (eqb n) (slice_get S.variables v)) (row_has S b q) h in
      (n, b, at, same_only (slice_get S.variables v) n h'.0, row_now b q p h'.1)

  row_fits_now : (x : Row) → present S (a_row x) ≡ true → well_sorted S (a_row x) ≡ true → Matched S (a_row x) → RowFits S (length S.rows) x
  row_fits_now (variable_row v) p h m = ltb-true v (length S.variables) p
  row_fits_now (apply_row c q) p h m = apply_now (slice_get S.constructors c) c q refl (and_parts (has S.constructors c) (has S.rows q) p).1 h
  row_fits_now (tuple_row a qs) p h m =
      tuple_now (slice_get S.arities a) a qs refl (and_parts (has S.arities a) (list_all (has S.rows) (parts qs)) p).1 h m
  row_fits_now (bind_row a v q) p h m =
      let p' = and_parts (has S.arities a) (has S.variables v && has S.rows q) p in
      bind_now (slice_get S.arities a) a v q refl (and_parts (has S.variables v) (has S.rows q) p'.1).1 h

  fits_now : (e : Entry) (i : Item) → Clean S e i → Matched S i → ItemFits S i
  fits_now e (an_arity x) c m = arity_now x c.has_room c.names_there c.sorts
  fits_now e (a_constructor x) c m =
      let p = and_parts (has S.arities x.makes) (has S.arities x.takes) c.names_there in
      (data_only (slice_get S.arities x.makes) c.sorts, ltb-true x.takes (length S.arities) p.1)
  fits_now e (a_variable a) c m = ltb-true a (length S.arities) c.names_there
  fits_now e (a_row x) c m = row_fits_now x c.names_there c.sorts m

-- one more of a limited number
limited : (b : Bool) (n most : ℕ) → (b && leb most n) ≡ false → n ≤ most → n + cond b 1 0 ≤ most
limited true n most room so_far = let less = leb-false most n room in omega arith
limited false n most room so_far = omega arith

none_yet : {X : Type 0} (xs : List X) → some xs ≡ false → xs ≡ []
none_yet [] h = refl
none_yet (x ∷ xs) h = absurd (false≢true (sym h))

module _ (S : Sheet) (so_far : WellFormed S) where
  -- where the arities and variables stay
  others_within : (cs : List Constructor) (rs : List Row) → length cs ≤ most_constructors → length rs ≤ most_rows
      → WithinLimits (record { arities = S.arities; constructors = cs; variables = S.variables; rows = rs })
  others_within cs rs few_cs few_rs =
      let l = so_far.limits in
      record {
        arities = l.arities;
        name_arities = l.name_arities;
        constructors = few_cs;
        variables = l.variables;
        name_variables = l.name_variables;
        rows = few_rs;
      }

  limits : (e : Entry) (i : Item) → Clean S e i → WithinLimits (declare S i)
  limits e (an_arity x) c =
      let room = or_parts (leb most_arities (length S.arities)) _ c.has_room in
      let names = (or_parts (is_name x && leb most_name_arities (count_by is_name S.arities)) _ room.1).0 in
      let less = leb-false most_arities (length S.arities) room.0 in
      let later = (or_parts (some S.constructors) (some S.variables || some S.rows) c.in_order).1 in
      let none = none_yet S.variables (or_parts (some S.variables) (some S.rows) later).0 in
      let T = declare S (an_arity x) in
      record {
        arities = omega (arith, length_push S.arities x);
        name_arities = subst (λ n. n ≤ most_name_arities) (sym (sum_by_push (λ y. cond (is_name y) 1 0) S.arities x)) (limited (is_name x) _ most_name_arities names so_far.limits.name_arities);
        constructors = so_far.limits.constructors;
        variables = so_far.limits.variables;
        name_variables = subst (λ vs. count_by (names_names T) vs ≤ most_name_variables) (sym none) (omega arith);
        rows = so_far.limits.rows;
      }
  limits e (a_constructor x) c =
      let less = leb-false most_constructors (length S.constructors) c.has_room in
      others_within (S.constructors ++ x ∷ []) S.rows (omega (arith, length_push S.constructors x)) so_far.limits.rows
  limits e (a_variable a) c =
      let room = or_parts (leb most_variables (length S.variables)) _ c.has_room in
      let less = leb-false most_variables (length S.variables) room.0 in
      record {
        arities = so_far.limits.arities;
        name_arities = so_far.limits.name_arities;
        constructors = so_far.limits.constructors;
        variables = omega (arith, length_push S.variables a);
        name_variables =
            subst (λ n. n ≤ most_name_variables) (sym (sum_by_push (λ y. cond (names_names S y) 1 0) S.variables a))
            (limited (names_names S a) _ most_name_variables room.1 so_far.limits.name_variables);
        rows = so_far.limits.rows;
      }
  limits e (a_row x) c =
      let less = leb-false most_rows (length S.rows) c.has_room in
      others_within S.constructors (S.rows ++ x ∷ []) so_far.limits.constructors (omega (arith, length_push S.rows x))

  arities_fit : (i : Item) → ItemFits S i → (a : ℕ) (y : Arity) → slice_get (declare S i).arities a ≡ Some y → ArityFits (declare S i) a y
  arities_fit (an_arity x) fits a y is =
      let kept = arity_kept S (declare S (an_arity x)) (declare_extends S (an_arity x)) a y in
      elim (nth_push S.arities x a y is) [
        | inl old ↦ kept (so_far.arities a y old)
        | inr new ↦ kept (subst (ArityFits S a) new.1 (subst (λ k. ArityFits S k x) (sym new.0) fits))
      ]
  arities_fit (a_constructor x) fits a y is = arity_kept S _ (declare_extends S (a_constructor x)) a y (so_far.arities a y is)
  arities_fit (a_variable x) fits a y is = arity_kept S _ (declare_extends S (a_variable x)) a y (so_far.arities a y is)
  arities_fit (a_row x) fits a y is = arity_kept S _ (declare_extends S (a_row x)) a y (so_far.arities a y is)

  constructors_fit : (i : Item) → ItemFits S i → (c : ℕ) (y : Constructor) → slice_get (declare S i).constructors c ≡ Some y → ConstructorFits (declare S i) y
  constructors_fit (an_arity x) fits c y is = constructor_kept S _ (declare_extends S (an_arity x)) y (so_far.constructors c y is)
  constructors_fit (a_constructor x) fits c y is =
      let kept = constructor_kept S (declare S (a_constructor x)) (declare_extends S (a_constructor x)) y in
      elim (nth_push S.constructors x c y is) [ inl old ↦ kept (so_far.constructors c y old) | inr new ↦ kept (subst (ConstructorFits S) new.1 fits) ]
  constructors_fit (a_variable x) fits c y is = constructor_kept S _ (declare_extends S (a_variable x)) y (so_far.constructors c y is)
  constructors_fit (a_row x) fits c y is = constructor_kept S _ (declare_extends S (a_row x)) y (so_far.constructors c y is)

  variables_fit : (i : Item) → ItemFits S i → (v y : ℕ) → slice_get (declare S i).variables v ≡ Some y → VariableFits (declare S i) y
  variables_fit (an_arity x) fits v y is = longer_arities S _ (declare_extends S (an_arity x)) y (so_far.variables v y is)
  variables_fit (a_constructor x) fits v y is = so_far.variables v y is
  variables_fit (a_variable x) fits v y is =
      elim (nth_push S.variables x v y is) [ inl old ↦ so_far.variables v y old | inr new ↦ subst (VariableFits S) new.1 fits ]
  variables_fit (a_row x) fits v y is = so_far.variables v y is

  rows_fit : (i : Item) → ItemFits S i → (r : ℕ) (y : Row) → slice_get (declare S i).rows r ≡ Some y → RowFits (declare S i) r y
  rows_fit (an_arity x) fits r y is = row_kept S _ (declare_extends S (an_arity x)) r y (so_far.rows r y is)
  rows_fit (a_constructor x) fits r y is = row_kept S _ (declare_extends S (a_constructor x)) r y (so_far.rows r y is)
  rows_fit (a_variable x) fits r y is = row_kept S _ (declare_extends S (a_variable x)) r y (so_far.rows r y is)
  rows_fit (a_row x) fits r y is =
      let kept = row_kept S (declare S (a_row x)) (declare_extends S (a_row x)) r y in
      elim (nth_push S.rows x r y is) [
        | inl old ↦ kept (so_far.rows r y old)
        | inr new ↦ kept (subst (RowFits S r) new.1 (subst (λ k. RowFits S k x) (sym new.0) fits))
      ]

  declared_well : (e : Entry) (i : Item) → Clean S e i → Matched S i → WellFormed (declare S i)
  declared_well e i c m =
      let fits = fits_now S e i c m in
      record { limits = limits e i c; arities = arities_fit i fits; constructors = constructors_fit i fits; variables = variables_fit i fits; rows = rows_fit i fits }

-- one entry more
extended_by : (S : Sheet) (e : Entry) (o : Option Command) → WellFormed S → fault_of S e (item_of S e o) ≡ None → WellFormed (declare_some S (item_of S e o))
extended_by S e None so_far none = let z : ◌≡◌ {A = ℕ} 0 1 = cc in absurd (omega arith)
extended_by S e (Some c) so_far none = declared_well S so_far e (item_by S e c) (clean S e (item_by S e c) none) (matched S e c)

extended_well : (S : Sheet) (e : Entry) → WellFormed S → fault S e ≡ None → WellFormed (extend S e)
unfolding fault item
extended_well S e so_far none = extended_by S e (command e.command) so_far none

blank_well : WellFormed blank
blank_well =
    record {
      limits = record { arities = omega arith; name_arities = omega arith; constructors = omega arith; variables = omega arith; name_variables = omega arith; rows = omega arith };
      arities = λ a x is. absurd (none-some x is);
      constructors = λ c x is. absurd (none-some x is);
      variables = λ v a is. absurd (none-some a is);
      rows = λ r x is. absurd (none-some x is);
    }

front_well : (es : List Entry) → Faultless es → (k : ℕ) → k ≤ length es → WellFormed (sheet_of (take k es))
unfolding sheet_of
front_well es clean_all zero fits = blank_well
front_well es clean_all (suc k) fits =
    let (e, is) = there es k (omega arith) in
    let before = front_well es clean_all k (omega arith) in
    let after = extended_well (sheet_of (take k es)) e before (clean_all k e is) in
    rw (← add-one k) (subst WellFormed (sym (sheet_more es k e is)) after)

pub lawful_well : LawfulIsWellFormed
lawful_well es lawful =
    subst (λ xs. WellFormed (sheet_of xs)) (take_all (length es) es (omega arith)) (front_well es lawful.faultless (length es) (omega arith))
