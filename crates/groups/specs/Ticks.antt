-- Ticks: numbers of 32 bits, composed by addition modulo 2 ^ 32.
--
--   LawfulTick t                            t is a number of 32 bits; every tick of a program is
--   no_ticks, add_ticks x y, minus_ticks x  ticks as a group
--   tick_laws                               they are one, by arithmetic
use Rattle.std.specs.Prelude.{ℕ, ◌+◌, ◌-◌, ◌%◌, ◌^◌, ◌<◌}
use Rattle.std.proofs.Common.{rules}
use Rattle.groups.specs.Laws.{Laws}
use Rattle.groups.specs.declared.tick.Tick.{Tick}

abbrev ticks : ℕ → Tick
ticks n = record { count = n }

abbrev pub LawfulTick : Tick → Type 0
LawfulTick t = t.count < 2 ^ 32

abbrev pub no_ticks : Tick
no_ticks = ticks 0

abbrev pub add_ticks : Tick → Tick → Tick
add_ticks x y = ticks ((x.count + y.count) % 2 ^ 32)

abbrev pub minus_ticks : Tick → Tick
minus_ticks x = ticks ((2 ^ 32 - x.count) % 2 ^ 32)

pub tick_laws : Laws LawfulTick no_ticks add_ticks minus_ticks
tick_laws = search rules
