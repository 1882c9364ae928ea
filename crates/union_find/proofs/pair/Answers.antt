use Rattle.std.proofs.Common.{inl, inr}
use Rattle.std.proofs.lemmas.Result.{err_from_is_err_and}
use Rattle.union_find.specs.Calls.{short, stranger}
use Rattle.union_find.proofs.pair.Goals as goal

pub returns-then-n-lt-MEMBERS : goal.returns-then-n-lt-MEMBERS
returns-then-n-lt-MEMBERS c = short c.if-n-lt-MEMBERS.true

pub returns-in_err-member : goal.returns-in_err-member
returns-in_err-member c =
    let p = err_from_is_err_and c.from_residual.result c.from_residual.ensures.1 in
    let no = c.in_err-member.ensures in
    rw (p.1, p.2, no.1) (stranger c.if-n-lt-MEMBERS.false (inl no.0))

pub returns-in_err-member-2 : goal.returns-in_err-member-2
returns-in_err-member-2 c =
    let p = err_from_is_err_and c.from_residual-in_err-member-2.result c.from_residual-in_err-member-2.ensures.1 in
    let no = c.in_err-member-2.ensures in
    rw (p.1, p.2, no.1) (stranger c.if-n-lt-MEMBERS.false (inr no.0))
