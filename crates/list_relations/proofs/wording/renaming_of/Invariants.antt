-- The first k digits are gathered.
use Rattle.std.proofs.Common.{◌≡◌, ℕ, ◌<◌, get_or}
use Rattle.groups.specs.Gathers.{gather}
use Rattle.list_relations.specs.Spellings.{IsDigit}
use Rattle.list_relations.proofs.Reading.{value_at}
use Rattle.list_relations.proofs.wording.renaming_of.Given as goal

abbrev pub invariant-loop-k : goal.invariant-loop-k
invariant-loop-k l = record {
  gathered : l.bits ≡ gather 4 (value_at l.digits) (λ i. i) l.k;
  digits : (j : ℕ) → j < l.k → IsDigit (get_or l.digits j 0);
}
