-- Entries' bytes, laid one after another into a buffer.
use Rattle.std.proofs.Common.{◌≡◌, ℕ, suc, ◌+◌, ◌<◌, Bool, true, false, ltb, List, [], ◌∷◌, ◌++◌, length, get_or, take, drop, set, Some, None, Option, sym, ap, subst, append-nil, ◌∙◌, arith, length-append}
use Rattle.std.proofs.lemmas.List.{take_at, drop_at, drop-drop, set_at, drop_more, flat_map_more, append_assoc, length_push}
use Rattle.std.proofs.lemmas.Bool.{ltb-true}
use Rattle.std.proofs.lemmas.Bool.Decides.{nat_tests}
use Rattle.std.proofs.lemmas.Grind.{flat_map-append}
use Rattle.std.specs.Iterator.{YieldsFirst, Yields, YieldsThen}
use Rattle.std.specs.List.{flat_map, FoldsTo}
use Rattle.std.specs.Option.{MatchOption}
use Rattle.sheet.specs.declared.entry.Entry.{Entry}
use Rattle.sheet.specs.Commands.{command}
use Rattle.sheet.specs.Operands.{operand_list}
use Rattle.packed.specs.Packed.{operand_count, bytes_of, packed_form, end_byte}
use Rattle.packed.proofs.Packing.{length_bytes}

-- how many bytes the entries take
abbrev pub wide : List Entry → ℕ
wide es = length (flat_map bytes_of es)

-- a turn of a fold takes the entry's bytes off a number
abbrev pub TakesBytes : {F : Type 0} → (F × ℕ → Entry → F × ℕ → Type 0) → Type 0
TakesBytes {F} Turn = (p q : F × ℕ) (e : Entry) → Turn p e q → p.1 ≡ length (bytes_of e) + q.1

module _ {F : Type 0} (Turn : F × ℕ → Entry → F × ℕ → Type 0) where
  taken_off : TakesBytes Turn → (xs es left : List Entry) (p q : F × ℕ) → Yields (YieldsFirst (λ es. es)) es xs left → FoldsTo Turn p xs q → p.1 + wide left ≡ wide es + q.1
  taken_off takes [] es left p q y folds =
      let same = ap wide y in
      let kept = ap (λ (x : F × ℕ). x.1) folds in
      omega arith
  taken_off takes (e ∷ xs) es left p q y folds =
      let all = ap wide y.1 ∙ length-append (bytes_of e) (flat_map bytes_of y.0) in
      let here = takes p folds.0 e folds.1 in
      let on = taken_off takes xs y.0 left folds.0 q y.2 folds.2 in
      omega arith

  -- what such a fold leaves: nothing where the entries have more bytes
  pub left_over : (es u : List Entry) (f : F) (room : ℕ) (r : Option ℕ) (Ends : ℕ → Type 0) (Breaks : F → ℕ → Entry → Type 0) →
      (xs : List Entry) × (o : Option Entry) × (f' : F) × (a : ℕ) × YieldsThen (YieldsFirst (λ es. es)) es xs o u × FoldsTo Turn (f, room) xs (f', a) × MatchOption o (Ends a) (Breaks f' a) →
      TakesBytes Turn → ((a : ℕ) → Ends a → r ≡ Some a) → ((f' : F) (a : ℕ) (e : Entry) → Breaks f' a e → (r ≡ None) × (a < length (bytes_of e))) →
      MatchOption r (room < wide es) (λ left. left + wide es ≡ room)
  left_over es u f room r Ends Breaks (xs, None, f', a, (t, y, step), folds, end) takes ends breaks =
      let off = taken_off takes xs es t (f, room) (f', a) y folds in
      subst (λ r. MatchOption r (room < wide es) (λ left. left + wide es ≡ room)) (sym (ends a end)) (omega (arith, ap wide step.0))
  left_over es u f room r Ends Breaks (xs, Some e, f', a, (t, y, step), folds, broke) takes ends breaks =
      let off = taken_off takes xs es t (f, room) (f', a) y folds in
      let broken = breaks f' a e broke in
      subst (λ r. MatchOption r (room < wide es) (λ left. left + wide es ≡ room)) (sym broken.0) (omega (arith, ap wide step, length-append (bytes_of e) (flat_map bytes_of u), broken.1))

-- whether it leaves anything
pub room_says : (r : Option ℕ) (b : Bool) (w room : ℕ) → MatchOption r (room < w) (λ left. left + w ≡ room) → MatchOption r (b ≡ false) (λ left. b ≡ ltb 0 left) → b ≡ ltb w room
room_says None b w room less none = grind (arith, nat_tests)
room_says (Some left) b w room over some = grind (arith, nat_tests)

-- the bytes of an entry are the first of these six
pub first_bytes : (e : Entry) (n : ℕ) → n ≡ length (bytes_of e) → take n (e.command ∷ operand_list e) ≡ bytes_of e
unfolding bytes_of
first_bytes e n is =
    let long : n ≡ suc (operand_count (command e.command)) = omega (arith, length_bytes e) in
    ap (λ m. take m (e.command ∷ operand_list e)) long

-- the entries before those that are left are laid, and end at `at`; past it the buffer is as it was
pub record Laid (es left : List Entry) (before buffer : List ℕ) (at : ℕ) : Type 0 where
  pub done : List Entry
  pub split : es ≡ done ++ left
  pub end : at ≡ wide done
  pub bytes : buffer ≡ flat_map bytes_of done ++ drop at before

-- one more after those that are laid
lay_on : (before done bytes buffer : List ℕ) (at w : ℕ) → at ≡ length done → buffer ≡ done ++ drop at before →
    take at buffer ++ bytes ++ drop (at + w) buffer ≡ (done ++ bytes) ++ drop (at + w) before
lay_on before done bytes buffer at w is laid =
    let front = take_at done (drop at before) at (sym is) in
    let back = drop_at done (drop at before) at (sym is) in
    let one = drop-drop w at buffer in
    let two = drop-drop w at before in
    cc

pub laid_more : (es now left : List Entry) (before buffer after : List ℕ) (at end : ℕ) (e : Entry) → Laid es now before buffer at → now ≡ e ∷ left →
    end ≡ at + length (bytes_of e) → after ≡ take at buffer ++ bytes_of e ++ drop (at + length (bytes_of e)) buffer → Laid es left before after end
laid_more es now left before buffer after at end e l is ends put =
    let more : flat_map bytes_of (l.done ++ e ∷ []) ≡ flat_map bytes_of l.done ++ bytes_of e = sym (flat_map_more bytes_of [] l.done e) in
    let long = ap length more ∙ length-append (flat_map bytes_of l.done) (bytes_of e) in
    let on = lay_on before (flat_map bytes_of l.done) (bytes_of e) buffer at (length (bytes_of e)) l.end l.bytes in
    record {
      done = l.done ++ e ∷ [];
      split = l.split ∙ ap (λ xs. l.done ++ xs) is ∙ sym (append_assoc l.done (e ∷ []) left);
      end = omega (arith, l.end);
      bytes = cc;
    }

-- the end byte after them
lay_end : (before done : List ℕ) (at : ℕ) → at ≡ length done → at < length before →
    set (done ++ drop at before) at end_byte ≡ (done ++ end_byte ∷ []) ++ drop (at + 1) before
lay_end before done at is below =
    ap (λ xs. set (done ++ xs) at end_byte) (drop_more before at 0 below)
    ∙ set_at done (get_or before at 0) (drop (at + 1) before) end_byte at (sym is)
    ∙ sym (append_assoc done (end_byte ∷ []) (drop (at + 1) before))

pub length_form : (es : List Entry) → length (packed_form es) ≡ wide es + 1
unfolding packed_form
length_form es = length_push (flat_map bytes_of es) end_byte

-- where the entries and the end byte fit, so do those that are laid, with what follows them
pub fits_on : (es left : List Entry) (before buffer : List ℕ) (at n : ℕ) → Laid es left before buffer at → true ≡ ltb (wide es) n → at + wide left < n
fits_on es left before buffer at n l fits =
    let room = ltb-true (wide es) n (sym fits) in
    let long = ap wide l.split ∙ ap length (flat_map-append bytes_of l.done left) ∙ length-append (flat_map bytes_of l.done) (flat_map bytes_of left) in
    omega (arith, l.end)

pub lay_all : (es left : List Entry) (before buffer : List ℕ) (at : ℕ) → Laid es left before buffer at → left ≡ [] → at < length before →
    (at + 1 ≡ length (packed_form es)) × (set buffer at end_byte ≡ packed_form es ++ drop (at + 1) before)
unfolding packed_form
lay_all es left before buffer at l none below =
    let all = l.split ∙ ap (λ xs. l.done ++ xs) none ∙ append-nil l.done in
    let long = length_form es in
    let same = ap wide all in (
      omega (arith, l.end),
      ap (λ xs. set xs at end_byte) l.bytes ∙ lay_end before (flat_map bytes_of l.done) at l.end below
          ∙ ap (λ xs. (flat_map bytes_of xs ++ end_byte ∷ []) ++ drop (at + 1) before) (sym all),
    )
