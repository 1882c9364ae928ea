use Rattle.std.proofs.Common.{◌<◌, refl, inr, length, arith}
use Rattle.std.proofs.lemmas.Bool.Decides.{nat_tests}
use Rattle.packed.specs.Packed.{packed_form}
use Rattle.packed.proofs.Forms.{form_reads_back}
use Rattle.packed.proofs.Laying.{laid_more, lay_all, length_form, fits_on}
use Rattle.packed.proofs.writing.write.Goals as goal

pub returns-in_err-check-clause-back : goal.returns-in_err-check-clause-back
returns-in_err-check-clause-back g c = form_reads_back

pub returns-then-not-fits : goal.returns-then-not-fits
returns-then-not-fits g c =
    let es = g.S.SheetSource.entries c.args.source.now in
    let short : length c.args.buffer.now < length (packed_form es) = grind (arith, nat_tests, length_form) in
    record { answer = (inr (record { lawful = c.in_ok-check.ensures.answer; short = short; is = c.into.ensures }), refl); back = form_reads_back }

pub loop-entry-preserved : goal.loop-entry-preserved
loop-entry-preserved g c = laid_more _ _ _ _ _ _ _ _ c.in-Some.entry c.loop-entry.invariant c.in-Some.ensures.steps c.put-at.ensures.end c.put-at.ensures.after

pub returns : goal.returns
returns g c =
    let before = c.args.buffer.now in
    let room = fits_on _ _ before c.loop-entry.buffer c.loop-entry.at (length before) c.loop-entry.invariant c.if-not-fits.ensures in
    let all = lay_all _ _ before c.loop-entry.buffer c.loop-entry.at c.loop-entry.invariant c.in-None.ensures.steps.0 (omega arith) in
    record { answer = (c.in_ok-check.ensures.answer, all.0, omega arith, all.1); back = form_reads_back }
