-- A bounded list has no more elements than slots.
use Rattle.std.proofs.Common.{ℕ, ◌≤◌, length, arith}
use Rattle.std.proofs.lemmas.List.{length-take}
use Rattle.bounded.specs.declared.list.Bounded.{Bounded}
use Rattle.bounded.specs.Items.{items}

pub items_few : {T : Type 0} {n : ℕ} (b : Bounded T n) → length (items b) ≤ n
items_few b = let h = b.room in omega (arith, length-take b.len b.slots)
