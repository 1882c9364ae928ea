use Rattle.std.proofs.Common.{◌≡◌, true, ℕ, take, replicate, arith, rules}
use Rattle.std.proofs.lemmas.Slice.Eq.{slice_eq-Decides}
use Rattle.std.proofs.lemmas.Bool.Decides.{Decides-eqb}
use Rattle.std.proofs.lemmas.List.{length-replicate}
use Rattle.list_sheet.proofs.Back.{back_again, not_refused}
use Rattle.list_sheet.proofs.is_written_back.Goals as goal

pub returns-in-Ok-clause-refused : goal.returns-in-Ok-clause-refused
returns-in-Ok-clause-refused c =
    let bs = c.args.bytes.now in
    let after = c.write.new.buffer in
    let back = back_again bs (replicate 4096 0) after c.in-Ok.n c.in-Ok.ensures.answer in
    let same = slice_eq-Decides Decides-eqb (take c.in-Ok.n after) bs c.eq.result c.eq.ensures in
    λ said. back.0 (same.0 (search rules))

pub returns-in_default-clause-accepted : goal.returns-in_default-clause-accepted
returns-in_default-clause-accepted c accepted room =
    let bs = c.args.bytes.now in
    let after = c.write.new.buffer in
    let back = back_again bs (replicate 4096 0) after c.in-Ok.n c.in-Ok.ensures.answer in
    let same = slice_eq-Decides Decides-eqb (take c.in-Ok.n after) bs c.eq.result c.eq.ensures in
    let yes : c.eq.result ≡ true = same.1 (back.1 accepted) in search rules

pub returns-in_default-2-clause-accepted : goal.returns-in_default-2-clause-accepted
returns-in_default-2-clause-accepted c accepted room =
    let long = length-replicate {A = ℕ} 4096 0 in
    absurd (not_refused c.args.bytes.now (replicate 4096 0) c.write.new.buffer _ c.in_default.ensures.answer (omega arith) accepted)
