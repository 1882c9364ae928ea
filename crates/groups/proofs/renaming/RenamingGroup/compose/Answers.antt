use Rattle.std.proofs.Common.{◌≡◌, refl, ap, ◌∙◌, arith}
use Rattle.groups.specs.Renamings.{names, image, renaming}
use Rattle.groups.specs.Packs.{image-lt}
use Rattle.groups.specs.Gathers.{gather, gather_more}
use Rattle.groups.specs.RenamingsLemmas.{both, gathered_compose}
use Rattle.groups.proofs.renaming.RenamingGroup.compose.Goals as goal

pub loop-i-preserved : goal.loop-i-preserved
loop-i-preserved c =
    let m = c.args.self.bits in
    let n = c.args.other.bits in
    gather_more 4 (both m n) (λ i. i) 16 c.loop-i.i c.loop-i.bits c.from.result c.loop-i.i c.loop-i.invariant
    (c.from.ensures ∙ c.image-in-loop-i.ensures ∙ ap (image m) c.image.ensures) refl (image-lt m (image n c.loop-i.i)) (omega arith)

pub returns : goal.returns
returns c = λ _ _.
    let m = c.args.self.bits in
    let n = c.args.other.bits in
    let e : c.loop-i.i ≡ names = omega arith in
    ap renaming (c.loop-i.invariant ∙ ap (gather 4 (both m n) (λ i. i)) e ∙ gathered_compose m n)
