-- number r   the number of a reason, from 1 on
use Rattle.std.specs.Prelude.{ℕ}
use Rattle.refusals.specs.declared.Reason.{Reason}
use Rattle.refusals.specs.declared.Reason.TheVariants.{Cut, Unknown, Tail, Order, Crowded, Absent, IllSorted, Padding, Barren, Full, NoRow, Unfit, Deep, Crossed, Short, Stranger, Unlawful}

abbrev pub number : Reason → ℕ
number Cut = 1
number Unknown = 2
number Tail = 3
number Order = 4
number Crowded = 5
number Absent = 6
number IllSorted = 7
number Padding = 8
number Barren = 9
number Full = 10
number NoRow = 11
number Unfit = 12
number Deep = 13
number Crossed = 14
number Short = 15
number Stranger = 16
number Unlawful = 17
