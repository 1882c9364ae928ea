use Rattle.std.proofs.Common.{◌≡◌, ap, ◌∙◌, arith}
use Rattle.groups.specs.Renamings.{names, image, renaming}
use Rattle.groups.specs.Packs.{image-lt}
use Rattle.groups.specs.Gathers.{gather, gather_more}
use Rattle.groups.specs.RenamingsLemmas.{gathered_inverse}
use Rattle.groups.proofs.renaming.RenamingGroup.inverse.Goals as goal

pub loop-i-preserved : goal.loop-i-preserved
loop-i-preserved c =
    let n = c.args.self.bits in
    gather_more 4 (λ i. i) (image n) 16 c.loop-i.i c.loop-i.bits c.from.result c.image.result c.loop-i.invariant c.from.ensures c.image.ensures
    (omega arith) (image-lt n c.loop-i.i)

pub returns : goal.returns
returns c = λ l.
    let n = c.args.self.bits in
    let e : c.loop-i.i ≡ names = omega arith in
    ap renaming (c.loop-i.invariant ∙ ap (gather 4 (λ i. i) (image n)) e ∙ gathered_inverse n l)
