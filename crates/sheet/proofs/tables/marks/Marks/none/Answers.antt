use Rattle.std.proofs.Common.{false, replicate, inl, inr}
use Rattle.std.proofs.lemmas.List.{get_or-replicate, get_or_past}
use Rattle.std.proofs.lemmas.Bool.{cases_lt}
use Rattle.sheet.proofs.tables.marks.Marks.none.Goals as goal

pub returns : goal.returns
returns c a = elim (cases_lt a 64) [ inl h ↦ get_or-replicate 64 a false false h | inr h ↦ get_or_past (replicate 64 false) a false h ]
