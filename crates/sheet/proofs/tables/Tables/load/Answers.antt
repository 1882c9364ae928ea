use Rattle.std.proofs.Common.{◌≡◌, rules, sym, subst, inl, inr, Err}
use Rattle.std.proofs.lemmas.Result.{err_from_is_err_and}
use Rattle.sheet.specs.Tables.{sheet_in, Loaded}
use Rattle.sheet.proofs.Checking.{passed_none, passed_more, passed_all, first_fault, admitted, err_of, refused, lowest_barren, lawful}
use borrow.Author.Tests.{tests}
use Rattle.sheet.proofs.tables.Tables.load.Goals as goal

pub loop-place-init : goal.loop-place-init
loop-place-init g c =
    passed_none (g.S.SheetSource.entries c.args.source.now) c.into_iter-place-iterator.result.count (sheet_in c.new-tables.result) c.into_iter-place-iterator.result.iter
    (search rules) c.new-tables.ensures (search rules)

pub loop-place-preserved : goal.loop-place-preserved
loop-place-preserved g c =
    let s = c.in-Some.ensures.steps in
    let S = sheet_in c.loop-place.tables in
    let T = sheet_in c.admit.new.self in
    let a = admitted S T c.in-Some.entry c.admit.result (search rules) c.admit.ensures in
    passed_more (g.S.SheetSource.entries c.args.source.now) c.loop-place.place-iterator.count S c.loop-place.place-iterator.iter c.loop-place.invariant
    c.in-Some.entry c.next.new.self.iter s.0 c.next.new.self.count T s.2 a.0 a.1

pub returns-in_err-map_err : goal.returns-in_err-map_err
returns-in_err-map_err g c =
    let s = c.in-Some.ensures.steps in
    let S = sheet_in c.loop-place.tables in
    let es = g.S.SheetSource.entries c.args.source.now in
    let h = err_of _ c.admit.result c.map_err.result c.in_err-map_err.field-0.0 c.map_err.ensures.cases c.in_err-map_err.was in
    let made : c.in_err-map_err.field-0.0 ≡ record { reason = h.0; place = c.in-Some.place } = search (rules, tests) in
    let returned : c.from_residual.result ≡ Err (record { reason = h.0; place = c.in-Some.place }) = search (rules, err_from_is_err_and) in
    subst (Loaded es) (sym returned)
    (inl (first_fault es c.loop-place.place-iterator.count S c.loop-place.place-iterator.iter c.loop-place.invariant
    c.in-Some.entry c.next.new.self.iter s.0 c.in-Some.place h.0 s.1
    (refused S (sheet_in c.admit.new.self) c.in-Some.entry c.admit.result h.0 h.1 c.admit.ensures)))

pub returns-in-Some-lowest_barren : goal.returns-in-Some-lowest_barren
returns-in-Some-lowest_barren g c =
    let es = g.S.SheetSource.entries c.args.source.now in
    let S = sheet_in c.loop-place.tables in
    let passed = passed_all es c.loop-place.place-iterator.count S c.loop-place.place-iterator.iter c.loop-place.invariant c.in-None.ensures.steps.0.0 in
    inr (lowest_barren es S passed c.in-Some-lowest_barren.place c.in-Some-lowest_barren.ensures)

pub returns-in-None-lowest_barren : goal.returns-in-None-lowest_barren
returns-in-None-lowest_barren g c =
    let es = g.S.SheetSource.entries c.args.source.now in
    let S = sheet_in c.loop-place.tables in
    let passed = passed_all es c.loop-place.place-iterator.count S c.loop-place.place-iterator.iter c.loop-place.invariant c.in-None.ensures.steps.0.0 in
    (lawful es S passed c.in-None-lowest_barren.ensures, passed.sheet)
