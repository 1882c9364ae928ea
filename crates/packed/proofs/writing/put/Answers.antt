use Rattle.std.proofs.Common.{rules}
use Rattle.std.proofs.lemmas.Slice.{overwrites}
use Rattle.packed.proofs.Laying.{first_bytes}
use Rattle.packed.proofs.writing.put.Goals as goal

pub returns-clause-after : goal.returns-clause-after
returns-clause-after c =
    let bytes = first_bytes c.args.e c.width.result c.width.ensures in
    rw bytes (search (rules, overwrites))
