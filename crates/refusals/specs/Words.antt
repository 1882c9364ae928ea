-- word r   the word of a reason, as the bytes of its text
use Rattle.std.specs.Prelude.{List, ℕ, codes}
use Rattle.refusals.specs.declared.Reason.{Reason}
use Rattle.refusals.specs.declared.Reason.TheVariants.{Cut, Unknown, Tail, Order, Crowded, Absent, IllSorted, Padding, Barren, Full, NoRow, Unfit, Deep, Crossed, Short, Stranger, Unlawful}

abbrev pub word : Reason → List ℕ
word Cut = codes "cut"
word Unknown = codes "unknown"
word Tail = codes "tail"
word Order = codes "order"
word Crowded = codes "crowded"
word Absent = codes "absent"
word IllSorted = codes "ill-sorted"
word Padding = codes "padding"
word Barren = codes "barren"
word Full = codes "full"
word NoRow = codes "no row"
word Unfit = codes "unfit"
word Deep = codes "deep"
word Crossed = codes "crossed"
word Short = codes "short"
word Stranger = codes "stranger"
word Unlawful = codes "unlawful"
