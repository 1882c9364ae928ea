-- parts p   the numbers of a tuple's parts
use Rattle.std.specs.Prelude.{ℕ, List, take}
use Rattle.sheet.specs.declared.item.Parts.{Parts}

abbrev pub parts : Parts → List ℕ
parts p = take p.len p.numbers
