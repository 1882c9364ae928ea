use Rattle.std.proofs.Common.{rules, ◌∙◌}
use Rattle.std.proofs.lemmas.Iterator.{YieldsList-from_slice, YieldsList-from_zip}
use Rattle.std.proofs.lemmas.Iterator.Search.{all_from_yields_List}
use borrow.Author.Tests.{tests}
use Rattle.sheet.specs.Parts.{parts}
use Rattle.sheet.specs.Faults.{row_has}
use Rattle.sheet.specs.Tables.{sheet_in}
use Rattle.sheet.proofs.Walks.{rows_zipped, rows_short}
use Rattle.sheet.proofs.tables.Tables.rows_have.Goals as goal

pub returns-then-arities-rows : goal.returns-then-arities-rows
returns-then-arities-rows c =
    let S = sheet_in c.args.self.now in
    let as' = parts c.args.arities in
    let rs = parts c.args.rows in
    all_from_yields_List (λ p. row_has S p.0 p.1) c.all.new.self _ c.all.result c.all.ensures.ran
    (YieldsList-from_zip (YieldsList-from_slice as' (search rules)) (YieldsList-from_slice rs (search rules))) (λ x b q k. search (rules, tests))
    ∙ rows_zipped S as' rs (search rules)

pub returns-else-arities-rows : goal.returns-else-arities-rows
returns-else-arities-rows c = search (rules, rows_short)
