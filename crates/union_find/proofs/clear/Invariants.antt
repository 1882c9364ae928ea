use Rattle.std.proofs.Common.{◌≡◌, take, replicate}
use Rattle.union_find.specs.Tables.{root_link}
use Rattle.union_find.proofs.clear.Given as goal

abbrev pub invariant-loop-link : goal.invariant-loop-link
invariant-loop-link g l = take l.link-index l.entries ≡ replicate l.link-index (root_link g.G.Group)
