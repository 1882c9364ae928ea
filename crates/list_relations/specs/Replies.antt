-- What is answered to a line, where the facts fs were learned before. n is the number of the table's entries.
--
--   Replies G fs n i j m r K     the answer to a remark m on i and j; K holds of the facts learned after it
--   Handles G t t' i j m r       the same of every table t, with the table t' after it: an answer to a question leaves t as it was
use Rattle.std.specs.Prelude.{◌≡◌, ℕ, List, length}
use Rattle.groups.specs.declared.Group.{Ghosts}
use Rattle.union_find.specs.Facts.{Fact, Chain, Among}
use Rattle.union_find.specs.declared.link.Link.{Link}
use Rattle.union_find.specs.Tables.{Linked}
use Rattle.union_find.specs.Calls.{Tells, Answers, After, facts_after}
use Rattle.list_relations.specs.declared.answer.Answer.{Answer}
use Rattle.list_relations.specs.declared.answer.Answer.TheVariants.{Learned, Told}
use Rattle.list_relations.specs.declared.line.Remark.{Remark}
use Rattle.list_relations.specs.declared.line.Remark.TheVariants.{Says, Asks}

abbrev pub Replies : {M : Type 0} → Ghosts M → List (Fact M) → ℕ → ℕ → ℕ → Remark M → Answer M → (List (Fact M) → Type 0) → Type 0
Replies G fs n i j (Says g) (Learned said r) K = (said ≡ g) × Answers G (Chain G (Among fs) i j) n i j g r × K (facts_after fs i j g r)
Replies G fs n i j Asks (Told r) K = Tells (Chain G (Among fs) i j) n i j r × K fs
Replies G fs n i j (Says g) (Told r) K = ⊥
Replies G fs n i j Asks (Learned said r) K = ⊥

abbrev pub Handles : {M : Type 0} → Ghosts M → List (Link M) → List (Link M) → ℕ → ℕ → Remark M → Answer M → Type 0
Handles G t t' i j (Says g) (Learned said r) = (said ≡ g) × Answers G (Chain G (Linked G t) i j) (length t) i j g r × After G t t' i j g r
Handles G t t' i j Asks (Told r) = Tells (Chain G (Linked G t) i j) (length t) i j r × (t' ≡ t)
Handles G t t' i j (Says g) (Told r) = ⊥
Handles G t t' i j Asks (Learned said r) = ⊥
