use Rattle.std.proofs.Common.{rules}
use Rattle.list_relations.proofs.answer.answer_to.Goals as goal

pub returns-in-Says-clause-facts : goal.returns-in-Says-clause-facts
returns-in-Says-clause-facts g c = λ fs k. let a = c.relate.ensures.facts fs k in search rules

pub returns-in-Asks-clause-facts : goal.returns-in-Asks-clause-facts
returns-in-Asks-clause-facts g c = λ fs k. let a = c.relation.ensures.facts fs k in search rules
