-- Refusals and acceptance, and that at most one answer fits.
use Rattle.std.proofs.Common.{◌≡◌, ℕ, Some, Ok, Err, Option, sym, refl, ap, inl, inr, arith}
use Rattle.refusals.specs.declared.Refusal.{Refusal}
use Rattle.groups.specs.declared.Group.{Ghosts}
use Rattle.union_find.specs.declared.link.Related.{Related}
use Rattle.union_find.specs.declared.link.Related.TheVariants.{New, Known, Clash}
use Rattle.union_find.specs.Facts.{Told, nothing, one}
use Rattle.union_find.specs.Calls.{Refuses, short, stranger, unlawful, Accepts, Settled, OneTelling, OneAnswer}

-- a refusal that comes before the move is looked at
pub refuses_early : {n i j : ℕ} {e : Refusal} (L : Type 0) → Refuses n i j (Unit {0}) e → Refuses n i j L e
refuses_early L (short p) = short p
refuses_early L (stranger p q) = stranger p q
refuses_early L (unlawful p q r no_move) = absurd (no_move tt)

-- and the move that is looked at then
pub accepts_move : {n i j : ℕ} {L : Type 0} → Accepts n i j (Unit {0}) → L → Accepts n i j L
accepts_move a l = record { room = a.room; from = a.from; to = a.to; fair = l }

-- where it is refused it is not accepted
refuses_not : {n i j : ℕ} {L : Type 0} {e : Refusal} → Refuses n i j L e → Accepts n i j L → ⊥
refuses_not (short p) a = let q = a.room in omega arith
refuses_not (stranger p (inl q)) a = let r = a.from in omega arith
refuses_not (stranger p (inr q)) a = let r = a.to in omega arith
refuses_not (unlawful p q r not_lawful) a = not_lawful a.fair

-- and it is refused for one reason
refuses_one : {n i j : ℕ} {L : Type 0} {e f : Refusal} → Refuses n i j L e → Refuses n i j L f → e ≡ f
refuses_one (short p) (short q) = refl
refuses_one (short p) (stranger q _) = absurd (omega arith)
refuses_one (short p) (unlawful q _ _ _) = absurd (omega arith)
refuses_one (stranger p _) (short q) = absurd (omega arith)
refuses_one (stranger p _) (stranger q _) = refl
refuses_one (stranger _ (inl p)) (unlawful _ q _ _) = absurd (omega arith)
refuses_one (stranger _ (inr p)) (unlawful _ _ q _) = absurd (omega arith)
refuses_one (unlawful p _ _ _) (short q) = absurd (omega arith)
refuses_one (unlawful _ p _ _) (stranger _ (inl q)) = absurd (omega arith)
refuses_one (unlawful _ _ p _) (stranger _ (inr q)) = absurd (omega arith)
refuses_one (unlawful _ _ _ _) (unlawful _ _ _ _) = refl

module _ {M : Type 0} (C : M → Type 0) where
  told_one : {r s : Option M} → Told C r → Told C s → r ≡ s
  told_one (nothing _) (nothing _) = refl
  told_one (nothing h) (one c _) = absurd (h _ c)
  told_one (one c _) (nothing h) = absurd (h _ c)
  told_one (one {g} c _) (one _ u) = ap Some (u g c)

  settled_one : (g : M) (r s : Related M) → Settled C g r → Settled C g s → r ≡ s
  settled_one g New New _ _ = refl
  settled_one g New Known (nothing h) (one c _) = absurd (h _ c)
  settled_one g New (Clash k) (nothing h) (one c _, _) = absurd (h _ c)
  settled_one g Known New (one c _) (nothing h) = absurd (h _ c)
  settled_one g Known Known _ _ = refl
  settled_one g Known (Clash k) (one c _) (one _ u, ne) = absurd (ne (sym (u g c)))
  settled_one g (Clash k) New (one c _, _) (nothing h) = absurd (h _ c)
  settled_one g (Clash k) Known (one _ u, ne) (one c _) = absurd (ne (sym (u g c)))
  settled_one g (Clash k) (Clash l) (one c _, _) (one _ u, _) = ap Clash (u k c)

  pub one_telling : (n i j : ℕ) → OneTelling C n i j
  one_telling n i j (Err e) (Err f) p q = ap Err (refuses_one p q)
  one_telling n i j (Err e) (Ok r) p q = absurd (refuses_not p q.0)
  one_telling n i j (Ok r) (Err e) p q = absurd (refuses_not q p.0)
  one_telling n i j (Ok r) (Ok s) p q = ap Ok (told_one p.1 q.1)

  pub one_answer : (G : Ghosts M) (n i j : ℕ) (g : M) → OneAnswer G C n i j g
  one_answer G n i j g (Err e) (Err f) p q = ap Err (refuses_one p q)
  one_answer G n i j g (Err e) (Ok r) p q = absurd (refuses_not p q.0)
  one_answer G n i j g (Ok r) (Err e) p q = absurd (refuses_not q p.0)
  one_answer G n i j g (Ok r) (Ok s) p q = ap Ok (settled_one g r s p.1 q.1)
