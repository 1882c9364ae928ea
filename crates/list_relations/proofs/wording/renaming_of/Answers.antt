use Rattle.std.proofs.Common.{◌<◌, refl, ◌∙◌, arith, below_more}
use Rattle.groups.specs.Gathers.{gather_more}
use Rattle.list_relations.proofs.Reading.{value_at, read_spelling}
use Rattle.list_relations.proofs.wording.renaming_of.Goals as goal

pub loop-k-preserved : goal.loop-k-preserved
loop-k-preserved c =
    let ds = c.args.digits.now in
    let k = c.loop-k.k in
    let digit = c.in_ok-value.ensures.0 in
    let fits : value_at ds k < 16 = omega arith in
    record {
      gathered = gather_more 4 (value_at ds) (λ i. i) 16 k c.loop-k.bits c.from-in-loop-k.result k c.loop-k.invariant.gathered (c.from-in-loop-k.ensures ∙ c.in_ok-value.ensures.1) refl fits (omega arith);
      digits = below_more _ _ c.loop-k.invariant.digits digit;
    }

pub returns : goal.returns
returns c = read_spelling c.args.digits.now c.loop-k.bits c.loop-k.k (omega arith) (omega arith) c.loop-k.invariant.gathered c.loop-k.invariant.digits
