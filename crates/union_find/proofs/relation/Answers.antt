use Rattle.union_find.proofs.Ways.{told_some, told_none}
use Rattle.union_find.proofs.Keeping.{kept_told}
use Rattle.union_find.proofs.Answering.{one_telling}
use Rattle.union_find.proofs.relation.Goals as goal

pub returns-in_err-i-clause-one : goal.returns-in_err-i-clause-one
returns-in_err-i-clause-one g c = one_telling _ _ _ _

pub returns-then-a-b : goal.returns-then-a-b
returns-then-a-b g c =
    let G = g.G.Group in
    let L = g.met.G.Group.group in
    let (ok, ei, ej) = c.in_ok-i.ensures in
    let a = c.climb-a.ensures in
    let b = c.climb-b.ensures in
    let told = told_some G L ei ej a.way a.root b.way b.root c.if-a-b.true _ c.between.ensures in
    record { facts = λ fs k. (ok, kept_told k told); table = (ok, told); one = one_telling _ _ _ _ }

pub returns-else-a-b : goal.returns-else-a-b
returns-else-a-b g c =
    let G = g.G.Group in
    let L = g.met.G.Group.group in
    let (ok, ei, ej) = c.in_ok-i.ensures in
    let a = c.climb-a.ensures in
    let b = c.climb-b.ensures in
    let told = told_none G L ei ej a.way a.root b.way b.root c.if-a-b.false in
    record { facts = λ fs k. (ok, kept_told k told); table = (ok, told); one = one_telling _ _ _ _ }
