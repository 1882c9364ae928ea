use Rattle.std.proofs.Common.{rules}
use Rattle.sheet.proofs.Walks.{first_told}
use Rattle.sheet.proofs.source.EntriesIterator.next.Goals as goal

pub returns-clause-steps : goal.returns-clause-steps
returns-clause-steps g c = search (rules, first_told)
