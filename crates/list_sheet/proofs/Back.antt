-- The bytes of a sheet, written back.
use Rattle.std.proofs.Common.{◌≡◌, ℕ, ◌≤◌, ◌↔◌, List, length, take, drop, Ok, Err, sym, ap, ◌∙◌, inl, inr, arith}
use Rattle.std.proofs.lemmas.List.{take_at}
use Rattle.refusals.specs.declared.Refusal.{Refusal}
use Rattle.sheet.proofs.Checking.{not_both}
use Rattle.packed.specs.Packed.{packed, packed_form}
use Rattle.packed.specs.Forms.{Accepted, Written}
use Rattle.packed.proofs.Forms.{read_is_form, one_form}

-- what is written are the bytes again exactly where reading accepts them
pub back_again : (bs before after : List ℕ) (n : ℕ) → Written (packed bs) before (Ok n) after → (take n after ≡ bs) ↔ Accepted bs
back_again bs before after n answer =
    let form = packed_form (packed bs) in
    let front : take n after ≡ form = ap (take n) answer.3 ∙ take_at form (drop n before) n (sym answer.1) in
    (λ same. ((one_form (packed bs) answer.0 bs).1 (sym same ∙ front)).0, λ accepted. front ∙ sym (read_is_form bs accepted))

-- and writing accepted bytes is not refused where there is room
pub not_refused : (bs before after : List ℕ) (f : Refusal) → Written (packed bs) before (Err f) after → length bs ≤ length before → Accepted bs → ⊥
not_refused bs before after f (inl declined, same) room accepted = not_both (packed bs) f accepted.1 declined
not_refused bs before after f (inr short, same) room accepted =
    let long = ap length (read_is_form bs accepted) in
    let less = short.short in
    omega arith
