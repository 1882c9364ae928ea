use Rattle.union_find.specs.Tables.{root_link}
use Rattle.union_find.proofs.Keeping.{kept_none, filled}
use Rattle.union_find.proofs.open.Goals as goal

pub returns : goal.returns
returns g c =
    let room = c.if-table-lt-MEMBERS.false in
    let (each, rest, same) = filled 256 c.args.table.now c.clear.new.entries (root_link g.G.Group) c.clear.ensures room in
    record { facts = kept_none (rw same room) (λ k p. each k _ p); table = (room, each, rest, same) }
