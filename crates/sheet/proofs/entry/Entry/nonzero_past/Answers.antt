use Rattle.std.proofs.Common.{not, eqb, drop, rules, ◌∙◌}
use Rattle.std.proofs.lemmas.Iterator.{YieldsList-from_slice}
use Rattle.std.proofs.lemmas.Iterator.Adapters.{YieldsList-from_skip}
use Rattle.std.proofs.lemmas.Iterator.Search.{any_from_yields_List}
use borrow.Author.Tests.{tests}
use Rattle.sheet.specs.Operands.{operand_list}
use Rattle.sheet.proofs.Walks.{any_nonzero}
use Rattle.sheet.proofs.entry.Entry.nonzero_past.Goals as goal

pub returns : goal.returns
returns c =
    let all = operand_list c.args.self in
    any_from_yields_List (λ x. not (eqb x 0)) _ _ c.any.result c.any.ensures.ran
    (YieldsList-from_skip c.args.n (YieldsList-from_slice all (search rules)) (search rules)) (λ x b q k. search (rules, tests))
    ∙ any_nonzero (drop c.args.n all)
