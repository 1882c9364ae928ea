use Rattle.std.proofs.Common.{◌≡◌, sym, refl, ◌∙◌}
use Rattle.std.proofs.lemmas.Result.{err_from_is_err_and}
use Rattle.refusals.specs.declared.Reason.TheVariants.{Unlawful}
use Rattle.union_find.specs.Calls.{unlawful, Changed}
use Rattle.union_find.proofs.Ways.{told_some, told_none, way_from}
use Rattle.union_find.proofs.Joining.{changed_joined, changed_flat, changed_length}
use Rattle.union_find.proofs.Keeping.{kept_told, kept_more}
use Rattle.union_find.proofs.Answering.{refuses_early, accepts_move, one_answer}
use Rattle.union_find.proofs.relate.Goals as goal

pub returns-in_err-i : goal.returns-in_err-i
returns-in_err-i g c =
    let no = refuses_early _ c.in_err-i.ensures in
    let p = err_from_is_err_and c.from_residual.result c.from_residual.ensures.1 in
    rw (p.1, p.2) (record { facts = λ fs k. (no, k); table = (no, refl); one = one_answer _ g.G.Group _ _ _ _ })

pub returns-in_err-said : goal.returns-in_err-said
returns-in_err-said g c =
    let a = c.in_ok-i.ensures.0 in
    let p = err_from_is_err_and c.from_residual-in_err-said.result c.from_residual-in_err-said.ensures.1 in
    let none = c.in_err-said.ensures.ok_part in
    let value = rw none at c.in_err-said.ensures.value in
    let why : c.in_err-said.field-0.0 ≡ Unlawful = cc in
    let no = unlawful a.room a.from a.to (rw none at c.of.ensures) in
    rw (p.1, p.2, why) (record { facts = λ fs k. (no, k); table = (no, refl); one = one_answer _ g.G.Group _ _ _ _ })

pub returns-then-equals : goal.returns-then-equals
returns-then-equals g c =
    let (ok, ei, ej) = c.in_ok-i.ensures in
    let a = c.climb-a.ensures in
    let b = c.climb-b.ensures in
    let yes = accepts_move ok (rw c.in_ok-said.ensures.ok_part at c.of.ensures).1 in
    let G = g.G.Group in
    let L = g.met.G.Group.group in
    let told = told_some G L ei ej a.way a.root b.way b.root c.if-a-b.true _
    (sym c.if-equals.ensures ∙ c.between-told.ensures) in
    record { facts = λ fs k. ((yes, kept_told k told), k); table = ((yes, told), refl); one = one_answer _ g.G.Group _ _ _ _ }

pub returns-then-a-b : goal.returns-then-a-b
returns-then-a-b g c =
    let (ok, ei, ej) = c.in_ok-i.ensures in
    let a = c.climb-a.ensures in
    let b = c.climb-b.ensures in
    let yes = accepts_move ok (rw c.in_ok-said.ensures.ok_part at c.of.ensures).1 in
    let G = g.G.Group in
    let L = g.met.G.Group.group in
    let told = told_some G L ei ej a.way a.root b.way b.root c.if-a-b.true _ c.between-told.ensures in
    let other = c.if-equals.ensures in
    record { facts = λ fs k. ((yes, (kept_told k told, other)), k); table = ((yes, (told, other)), refl); one = one_answer _ g.G.Group _ _ _ _ }

pub returns : goal.returns
returns g c =
    let G = g.G.Group in
    let L = g.met.G.Group.group in
    let (ok, ei, ej) = c.in_ok-i.ensures in
    let a = c.climb-a.ensures in
    let b = c.climb-b.ensures in
    let l = (rw c.in_ok-said.ensures.ok_part at c.of.ensures).1 in
    let yes = accepts_move ok l in
    let told = told_none G L ei ej a.way a.root b.way b.root c.if-a-b.false in
    let new : Changed G c.args.table.now c.join.new.table c.args.i c.args.j c.args.g = record {
      top_i = c.climb-a.result.parent;
      top_j = c.climb-b.result.parent;
      x = c.climb-a.result.step;
      y = c.climb-b.result.step;
      way_i = way_from G L a.way ei;
      way_j = way_from G L b.way ej;
      root_i = a.root;
      root_j = b.root;
      i_below = rw (rw c.in_ok-said.ensures.ok_part at c.of.ensures).0 at c.join.ensures.left;
      j_below = rw (rw c.in_ok-said.ensures.ok_part at c.of.ensures).0 at c.join.ensures.right;
    } in
    let joined = changed_joined G L ok.from ok.to l new c.if-a-b.false in
    record {
      facts = λ fs k. (
        (yes, kept_told k told),
        kept_more G L k ok.from ok.to l joined (changed_flat G L ok.from ok.to l new c.if-a-b.false k.flat) (changed_length G L ok.from ok.to l new c.if-a-b.false),
      );
      table = ((yes, told), (joined, new));
      one = one_answer _ g.G.Group _ _ _ _;
    }
