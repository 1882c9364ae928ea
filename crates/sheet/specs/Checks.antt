-- Faultless es    no entry is faulty
-- FirstFault es f f is the fault of the first faulty entry, and its position
-- Barren S a      a is a data arity of which there is no tree
-- Lawful es       no entry is faulty, and every data arity has a tree
-- Declined es f   why es is not lawful: the first faulty entry, or else the lowest barren arity
-- Checked es r    what a check of es answers
use Rattle.std.specs.Prelude.{◌≡◌, ℕ, ◌<◌, ◌⊎◌, List, take, Some, None, Ok, Err, Result}
use Rattle.std.specs.List.{slice_get}
use Rattle.refusals.specs.declared.Refusal.{Refusal}
use Rattle.refusals.specs.declared.Reason.TheVariants.{Barren as BarrenReason}
use Rattle.sheet.specs.declared.entry.Entry.{Entry}
use Rattle.sheet.specs.declared.item.Arity.TheVariants.{Data}
use Rattle.sheet.specs.Sheets.{Sheet, sheet_of}
use Rattle.sheet.specs.Faults.{fault}
use Rattle.sheet.specs.Arities.{Inhabited}

-- no entry before position k is faulty
abbrev pub FaultlessBelow : ℕ → List Entry → Type 0
FaultlessBelow k es = (j : ℕ) (e : Entry) → j < k → slice_get es j ≡ Some e → fault (sheet_of (take j es)) e ≡ None

abbrev pub Faultless : List Entry → Type 0
Faultless es = (j : ℕ) (e : Entry) → slice_get es j ≡ Some e → fault (sheet_of (take j es)) e ≡ None

pub record FirstFault (es : List Entry) (f : Refusal) : Type 0 where
  pub entry : Entry
  pub here : slice_get es f.place ≡ Some entry
  pub faulty : fault (sheet_of (take f.place es)) entry ≡ Some f.reason
  pub before : FaultlessBelow f.place es

abbrev pub Barren : Sheet → ℕ → Type 0
Barren S a = (slice_get S.arities a ≡ Some Data) × (Inhabited S a → ⊥)

pub record Lawful (es : List Entry) : Type 0 where
  pub faultless : Faultless es
  pub fruitful : (a : ℕ) → slice_get (sheet_of es).arities a ≡ Some Data → Inhabited (sheet_of es) a

pub record LowestBarren (es : List Entry) (f : Refusal) : Type 0 where
  pub faultless : Faultless es
  pub reason : f.reason ≡ BarrenReason
  pub here : Barren (sheet_of es) f.place
  pub before : (a : ℕ) → a < f.place → slice_get (sheet_of es).arities a ≡ Some Data → Inhabited (sheet_of es) a

abbrev pub Declined : List Entry → Refusal → Type 0
Declined es f = FirstFault es f ⊎ LowestBarren es f

abbrev pub Checked : List Entry → Result Unit Refusal → Type 0
Checked es (Ok _) = Lawful es
Checked es (Err f) = Declined es f

-- every list of entries has one answer at most
abbrev pub OneAnswer : Type 0
OneAnswer = (es : List Entry) (r s : Result Unit Refusal) → Checked es r → Checked es s → r ≡ s
