use Rattle.std.proofs.Common.{◌≡◌, true, false, not, ◌&&◌, rules}
use borrow.Author.Tests.{tests}
use Rattle.std.specs.List.{slice_get}
use Rattle.bounded.proofs.Room.{items_few}
use Rattle.std.proofs.lemmas.Iterator.{first_from_Range}
use Rattle.sheet.specs.Faults.{holds, is_data}
use Rattle.sheet.specs.Growth.{marked}
use Rattle.sheet.specs.Tables.{sheet_in}
use Rattle.sheet.proofs.Growing.{lowest_of}
use Rattle.sheet.proofs.tables.Tables.lowest_barren.Goals as goal

pub returns : goal.returns
returns c =
    let S = sheet_in c.args.self.now in
    let m = c.inhabited-marks.result in
    lowest_of S m c.inhabited-marks.ensures.sound c.inhabited-marks.ensures.closed (items_few c.args.self.now.arities) c.find.result
    (first_from_Range _ _ _ c.find.result
    (λ a. (holds is_data (slice_get S.arities a) && not (marked m a)) ≡ true)
    (λ a. (holds is_data (slice_get S.arities a) && not (marked m a)) ≡ false)
    c.find.ensures.ran (λ x q k. search (rules, tests)) (λ x q k. search (rules, tests)))
