-- What the calls answer and leave. t is the table before the call, t' the table after it.
--
--   Opened G t t' r                opening
--   Tells C n i j r                telling i and j in a table of n entries, where C holds of the moves that chains from i to j give
--   Answers G C n i j g r          learning that i is j moved by g, there
--   After G t t' i j g r           the table after that answer
--   facts_after fs i j g r         the facts learned, after that answer
--   OneTelling, OneAnswer          at most one answer fits
use Rattle.std.specs.Prelude.{◌≡◌, ℕ, ◌<◌, ◌≤◌, ◌≢◌, ◌⊎◌, List, ◌∷◌, length, Some, None, Ok, Err, Option, Result, slice_index_or}
use Rattle.refusals.specs.declared.Refusal.{Refusal}
use Rattle.refusals.specs.declared.Reason.{Reason}
use Rattle.refusals.specs.declared.Reason.TheVariants.{Short, Stranger, Unlawful}
use Rattle.groups.specs.declared.Group.{Ghosts}
use Rattle.union_find.specs.declared.link.Link.{Link}
use Rattle.union_find.specs.declared.link.Related.{Related}
use Rattle.union_find.specs.declared.link.Related.TheVariants.{New, Known, Clash}
use Rattle.union_find.specs.Facts.{members, Fact, Told}
use Rattle.union_find.specs.Tables.{Root, Way, Joined, Hung, across, root_link}

-- these refusals have no place
abbrev pub refused : Reason → Refusal
refused reason = record { reason = reason; place = 0 }

-- why a call on members i and j of a table of n entries is refused: the first that applies; L says that its move is lawful
pub data Refuses (n i j : ℕ) (L : Type 0) : Refusal → Type 0 where
  short : n < members → Refuses n i j L (refused Short)
  stranger : members ≤ n → (members ≤ i) ⊎ (members ≤ j) → Refuses n i j L (refused Stranger)
  unlawful : members ≤ n → i < members → j < members → (L → ⊥) → Refuses n i j L (refused Unlawful)

-- and when it is not
pub record Accepts (n i j : ℕ) (L : Type 0) : Type 0 where
  pub room : members ≤ n
  pub from : i < members
  pub to : j < members
  pub fair : L

abbrev pub Opened : {M : Type 0} → Ghosts M → List (Link M) → List (Link M) → Result Unit Refusal → Type 0
Opened G t t' (Err e) = (length t < members) × (e ≡ refused Short) × (t' ≡ t)
Opened {M} G t t' (Ok _) =
    (members ≤ length t)
    × ((k : ℕ) (d : Link M) → k < members → slice_index_or t' k d ≡ root_link G)
    × ((k : ℕ) (d : Link M) → members ≤ k → slice_index_or t' k d ≡ slice_index_or t k d)
    × (length t' ≡ length t)

abbrev pub Tells : {M : Type 0} → (M → Type 0) → ℕ → ℕ → ℕ → Result (Option M) Refusal → Type 0
Tells C n i j (Err e) = Refuses n i j (Unit {0}) e
Tells C n i j (Ok r) = Accepts n i j (Unit {0}) × Told C r

-- what is answered to g where C holds of the moves that chains give
abbrev pub Settled : {M : Type 0} → (M → Type 0) → M → Related M → Type 0
Settled C g New = Told C None
Settled C g Known = Told C (Some g)
Settled C g (Clash h) = Told C (Some h) × (h ≢ g)

abbrev pub Answers : {M : Type 0} → Ghosts M → (M → Type 0) → ℕ → ℕ → ℕ → M → Result (Related M) Refusal → Type 0
Answers G C n i j g (Err e) = Refuses n i j (G.lawful g) e
Answers G C n i j g (Ok r) = Accepts n i j (G.lawful g) × Settled C g r

-- the entries that a new fact changes: the greater of the two roots, with all that hang by it, is hung by the smaller one
pub record Changed {M : Type 0} (G : Ghosts M) (t t' : List (Link M)) (i j : ℕ) (g : M) : Type 0 where
  pub top_i : ℕ
  pub top_j : ℕ
  pub x : M
  pub y : M
  pub way_i : Way G t i top_i x
  pub way_j : Way G t j top_j y
  pub root_i : Root G t top_i
  pub root_j : Root G t top_j
  pub i_below : top_j < top_i → Hung G t t' top_i top_j (across G x g y)
  pub j_below : top_i < top_j → Hung G t t' top_j top_i (G.inverse (across G x g y))

abbrev pub After : {M : Type 0} → Ghosts M → List (Link M) → List (Link M) → ℕ → ℕ → M → Result (Related M) Refusal → Type 0
After G t t' i j g (Ok New) = Joined G t t' i j g × Changed G t t' i j g
After G t t' i j g (Ok Known) = t' ≡ t
After G t t' i j g (Ok (Clash h)) = t' ≡ t
After G t t' i j g (Err e) = t' ≡ t

abbrev pub facts_after : {M : Type 0} → List (Fact M) → ℕ → ℕ → M → Result (Related M) Refusal → List (Fact M)
facts_after fs i j g (Err e) = fs
facts_after fs i j g (Ok New) = record { from = i; to = j; move = g } ∷ fs
facts_after fs i j g (Ok Known) = fs
facts_after fs i j g (Ok (Clash h)) = fs

abbrev pub OneTelling : {M : Type 0} → (M → Type 0) → ℕ → ℕ → ℕ → Type 0
OneTelling {M} C n i j = (r s : Result (Option M) Refusal) → Tells C n i j r → Tells C n i j s → r ≡ s

abbrev pub OneAnswer : {M : Type 0} → Ghosts M → (M → Type 0) → ℕ → ℕ → ℕ → M → Type 0
OneAnswer {M} G C n i j g = (r s : Result (Related M) Refusal) → Answers G C n i j g r → Answers G C n i j g s → r ≡ s
