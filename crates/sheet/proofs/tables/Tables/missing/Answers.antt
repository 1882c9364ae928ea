use Rattle.std.proofs.Common.{◌≡◌, true, false, not, ◌&&◌, ◌-◌, refl, arith, rules}
use borrow.Author.Tests.{tests}
use Rattle.std.proofs.lemmas.Iterator.{first_from_find, YieldsList-from_range}
use Rattle.std.proofs.lemmas.Iterator.Consumers.{YieldsList-from_chain}
use Rattle.sheet.specs.Growth.{marked, grows}
use Rattle.sheet.specs.Tables.{sheet_in}
use Rattle.sheet.proofs.Growing.{missing_of}
use Rattle.sheet.proofs.tables.Tables.missing.Goals as goal

pub returns : goal.returns
returns c =
    let S = sheet_in c.args.self.now in
    let m = c.args.marks.now in
    let from = c.args.from in
    let chain = c.chain.ensures in
    missing_of S m from c.requires c.find.result
    (first_from_find _ _ c.find.result (λ a. (not (marked m a) && grows S m a) ≡ true) (λ a. (not (marked m a) && grows S m a) ≡ false) c.find.ensures.ran
    (YieldsList-from_chain (YieldsList-from_range from 64 (64 - from) chain.first refl) (YieldsList-from_range 0 from from chain.second (omega arith)) chain.first_done chain.second_done)
    (λ x q k. search (rules, tests)) (λ x q k. search (rules, tests)))
