-- The check, entry by entry.
use Rattle.std.proofs.Common.{◌≡◌, ℕ, ◌+◌, ◌<◌, ◌≤◌, true, List, [], ◌∷◌, ◌++◌, length, get_or, take, drop, Some, None, Ok, Err, Result, sym, refl, ap, ◌∙◌, subst, inl, inr, arith, below_more}
use Rattle.std.specs.List.{slice_get}
use Rattle.std.proofs.lemmas.List.{drop_more, length-drop, take_all, take_more}
use Rattle.std.proofs.lemmas.Option.{same_Some, slice_get-get_or, slice_get_within, get_or_from_slice_get, none-some}
use Rattle.std.proofs.lemmas.Bool.{cases_order, false≢true}
use Rattle.refusals.specs.declared.Reason.{Reason}
use Rattle.refusals.specs.declared.Reason.TheVariants.{Barren as BarrenReason}
use Rattle.refusals.specs.declared.Refusal.{Refusal}
use Rattle.sheet.specs.declared.entry.Entry.{Entry}
use Rattle.refusals.specs.declared.Reason.TheVariants.{Unknown}
use Rattle.sheet.specs.declared.item.Item.{Item}
use Rattle.sheet.specs.Sheets.{Sheet, blank, item, declare, declare_some, extend, extend_all, sheet_of}
use Rattle.sheet.specs.Faults.{fault, fault_of, item_fault}
use Rattle.sheet.specs.Checks.{Faultless, FaultlessBelow, FirstFault, Lawful, LowestBarren, Declined, OneAnswer}
use Rattle.sheet.specs.Tables.{LowestBarrenIn, Admits}
use Rattle.std.specs.Result.{is_ok, MatchResult, IsErrAnd}

extend_all_push : (S : Sheet) (es : List Entry) (e : Entry) → extend_all S (es ++ e ∷ []) ≡ extend (extend_all S es) e
extend_all_push S [] e = refl
extend_all_push S (x ∷ es) e = extend_all_push (extend S x) es e

-- the sheet of one entry more
pub sheet_more : (es : List Entry) (k : ℕ) (e : Entry) → slice_get es k ≡ Some e → sheet_of (take (k + 1) es) ≡ extend (sheet_of (take k es)) e
unfolding sheet_of
sheet_more es k e is =
    let taken = take_more es k e (slice_get_within es k e is) in
    let told = ap (λ x. take k es ++ x ∷ []) (get_or_from_slice_get es k e e is) in
    ap (extend_all blank) (taken ∙ told) ∙ extend_all_push blank (take k es) e

-- how far a check has come: the entries before k are faultless, S is their sheet, and the others are left
pub record Passed (es : List Entry) (k : ℕ) (S : Sheet) (left : List Entry) : Type 0 where
  pub faultless : FaultlessBelow k es
  pub sheet : S ≡ sheet_of (take k es)
  pub rest : drop k es ≡ left

pub passed_none : (es : List Entry) (k : ℕ) (S : Sheet) (left : List Entry) → k ≡ 0 → S ≡ blank → left ≡ es → Passed es k S left
unfolding sheet_of
passed_none es k S left none empty all_left =
    record {
      faultless = λ j e below is. absurd (omega arith);
      sheet = empty ∙ ap (λ n. sheet_of (take n es)) (sym none);
      rest = ap (λ n. drop n es) none ∙ sym all_left;
    }

module _ (es : List Entry) (k : ℕ) (S : Sheet) (now : List Entry) (so_far : Passed es k S now) (e : Entry) (left : List Entry) (is : now ≡ e ∷ left) where
  -- the first that is left stands next
  stands : (slice_get es k ≡ Some e) × (drop (k + 1) es ≡ left)
  stands =
      let here = so_far.rest ∙ is in
      let below : k < length es = omega (arith, length-drop k es, ap length here) in
      let split : get_or es k e ∷ drop (k + 1) es ≡ e ∷ left = sym (drop_more es k e below) ∙ here in
      let first : get_or es k e ≡ e = cc in
      (slice_get-get_or es k e below ∙ ap (λ x. Some x) first, cc)

  -- what holds of e holds of any entry that is told at k
  at_here : (P : Entry → Type 0) → P e → (d : Entry) → slice_get es k ≡ Some d → P d
  at_here P p d at = subst P (same_Some e d (sym stands.0 ∙ at)) p

  pub passed_more : (n : ℕ) (T : Sheet) → n ≡ k + 1 → fault S e ≡ None → T ≡ extend S e → Passed es n T left
  passed_more n T more clean after =
      subst (λ m. Passed es m T left) (sym more)
      (record {
        faultless =
            λ j d below at.
            below_more (λ i. (x : Entry) → slice_get es i ≡ Some x → fault (sheet_of (take i es)) x ≡ None) k (λ i h x. so_far.faultless i x h)
            (at_here (λ x. fault (sheet_of (take k es)) x ≡ None) (sym (ap (λ Z. fault Z e) so_far.sheet) ∙ clean)) j below d at;
        sheet = after ∙ ap (λ Z. extend Z e) so_far.sheet ∙ sym (sheet_more es k e stands.0);
        rest = stands.1;
      })

  pub first_fault : (n : ℕ) (r : Reason) → n ≡ k → fault S e ≡ Some r → FirstFault es (record { reason = r; place = n })
  first_fault n r here faulty =
      subst (λ m. FirstFault es (record { reason = r; place = m })) (sym here)
      (record { entry = e; here = stands.0; faulty = sym (ap (λ Z. fault Z e) so_far.sheet) ∙ faulty; before = so_far.faultless })

-- and when it has come to the end
pub record PassedAll (es : List Entry) (S : Sheet) : Type 0 where
  pub faultless : Faultless es
  pub sheet : S ≡ sheet_of es

pub passed_all : (es : List Entry) (k : ℕ) (S : Sheet) (left : List Entry) → Passed es k S left → left ≡ [] → PassedAll es S
passed_all es k S left so_far none =
    let past : length es ≤ k = omega (arith, length-drop k es, ap length (so_far.rest ∙ none)) in
    record {
      faultless = λ j e is. let below = slice_get_within es j e is in so_far.faultless j e (omega arith) is;
      sheet = so_far.sheet ∙ ap sheet_of (take_all k es past);
    }

module _ (es : List Entry) (S : Sheet) (all_passed : PassedAll es S) where
  pub lowest_barren : (b : ℕ) → LowestBarrenIn S (Some b) → LowestBarren es (record { reason = BarrenReason; place = b })
  lowest_barren b lowest =
      let h = subst (λ Z. LowestBarrenIn Z (Some b)) all_passed.sheet lowest in
      record { faultless = all_passed.faultless; reason = refl; here = h.0; before = h.1 }

  pub lawful : LowestBarrenIn S None → Lawful es
  lawful fruitful = record { faultless = all_passed.faultless; fruitful = subst (λ Z. LowestBarrenIn Z None) all_passed.sheet fruitful }

-- a first fault is a fault
faulty_entry : (es : List Entry) (f : Refusal) → FirstFault es f → Faultless es → ⊥
faulty_entry es f a clean = none-some f.reason (sym (clean f.place a.entry a.here) ∙ a.faulty)

-- two first faults stand at one place, and are one
not_before : (es : List Entry) (f g : Refusal) → FirstFault es f → FirstFault es g → f.place < g.place → ⊥
not_before es f g a b lt = none-some f.reason (sym (b.before f.place a.entry lt a.here) ∙ a.faulty)

same_fault : (es : List Entry) (f g : Refusal) → FirstFault es f → FirstFault es g → f.place ≡ g.place → f ≡ g
same_fault es f g a b e =
    let there : slice_get es g.place ≡ Some a.entry = subst (λ k. slice_get es k ≡ Some a.entry) e a.here in
    let entries : a.entry ≡ b.entry = cc (there, b.here) in
    let first : fault (sheet_of (take g.place es)) b.entry ≡ Some f.reason =
    subst (λ k. fault (sheet_of (take k es)) b.entry ≡ Some f.reason) e (subst (λ x. fault (sheet_of (take f.place es)) x ≡ Some f.reason) entries a.faulty) in
    let reasons : f.reason ≡ g.reason = cc (first, b.faulty) in
    λ i. record { reason = reasons i; place = e i }

same_barren : (es : List Entry) (f g : Refusal) → LowestBarren es f → LowestBarren es g → f.place ≡ g.place → f ≡ g
same_barren es f g a b e = let reasons : f.reason ≡ g.reason = a.reason ∙ sym b.reason in λ i. record { reason = reasons i; place = e i }

not_lower : (es : List Entry) (f g : Refusal) → LowestBarren es f → LowestBarren es g → f.place < g.place → ⊥
not_lower es f g a b lt = a.here.1 (b.before f.place lt a.here.0)

by_place : (f g : Refusal) → (f.place < g.place → ⊥) → (g.place < f.place → ⊥) → (f.place ≡ g.place → f ≡ g) → f ≡ g
by_place f g below above same =
    elim (cases_order f.place g.place) [
      | inl e ↦ same e
      | inr h ↦ elim h [ inl lt ↦ absurd (below lt) | inr gt ↦ absurd (above gt) ]
    ]

one_refusal : (es : List Entry) (f g : Refusal) → Declined es f → Declined es g → f ≡ g
one_refusal es f g (inl a) (inl b) = by_place f g (not_before es f g a b) (not_before es g f b a) (same_fault es f g a b)
one_refusal es f g (inl a) (inr b) = absurd (faulty_entry es f a b.faultless)
one_refusal es f g (inr a) (inl b) = absurd (faulty_entry es g b a.faultless)
one_refusal es f g (inr a) (inr b) = by_place f g (not_lower es f g a b) (not_lower es g f b a) (same_barren es f g a b)

pub not_both : (es : List Entry) (f : Refusal) → Lawful es → Declined es f → ⊥
not_both es f l (inl a) = faulty_entry es f a l.faultless
not_both es f l (inr a) = a.here.1 (l.fruitful f.place a.here.0)

pub one_answer : OneAnswer
one_answer es (Ok x) (Ok y) p q = refl
one_answer es (Ok x) (Err f) p q = absurd (not_both es f p q)
one_answer es (Err f) (Ok y) p q = absurd (not_both es f q p)
one_answer es (Err f) (Err g) p q = ap (λ h. Err h) (one_refusal es f g p q)

pub admitted : (S T : Sheet) (e : Entry) (r : Result Unit Reason) → is_ok r ≡ true → Admits S e r T → (fault S e ≡ None) × (T ≡ extend S e)
admitted S T e (Ok x) is h = h
admitted S T e (Err x) is h = absurd (false≢true is)

-- what a refusal was made of
pub err_of : {X E F : Type 0} (R : E → F → Type 0) (x : Result X E) (r : Result X F) (y : F) → MatchResult x (λ u. r ≡ Ok u) (λ e. IsErrAnd r (R e)) → r ≡ Err y
    → (e : E) × (x ≡ Err e) × R e y
err_of R (Ok u) r y made is = let z : ◌≡◌ {A = ℕ} 0 1 = cc in absurd (omega arith)
err_of R (Err e) r y made is = (e, refl, subst (λ v. IsErrAnd v (R e)) is made)

pub refused : (S T : Sheet) (e : Entry) (r : Result Unit Reason) (x : Reason) → r ≡ Err x → Admits S e r T → fault S e ≡ Some x
refused S T e r x is h = (subst (λ v. Admits S e v T) is h).0

module _ (S : Sheet) (e : Entry) where
  -- an entry whose byte is no command
  pub unknown_fault : item S e ≡ None → fault S e ≡ Some Unknown
  unfolding fault
  unknown_fault is = ap (fault_of S e) is

  -- and one that declares i
  pub known_fault : (i : Item) → item S e ≡ Some i → (fault S e ≡ item_fault S e i) × (extend S e ≡ declare S i)
  unfolding fault
  known_fault i is = (ap (fault_of S e) is, ap (declare_some S) is)

  pub declined : (r : Result Unit Reason) (x : Reason) → r ≡ Err x → fault S e ≡ Some x → Admits S e r S
  declined r x is faulty = subst (λ v. Admits S e v S) (sym is) (faulty, refl)
