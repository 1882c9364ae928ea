-- items b   the list that b stands for
use Rattle.std.specs.Prelude.{ℕ, List, take}
use Rattle.bounded.specs.declared.list.Bounded.{Bounded}

abbrev pub items : {T : Type 0} {n : ℕ} → Bounded T n → List T
items b = take b.len b.slots
