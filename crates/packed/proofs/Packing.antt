-- Packed bytes, one command at a time.
use Rattle.std.proofs.Common.{◌≡◌, ℕ, zero, suc, ◌+◌, ◌≤◌, List, [], ◌∷◌, ◌++◌, ◌⊎◌, inl, inr, length, take, drop, Some, None, Option, sym, refl, ap, ◌∙◌, arith, lit≤, length-append, take-append-drop, length-take}
use Rattle.std.proofs.lemmas.List.{append_assoc, length-take-le}
use Rattle.std.proofs.lemmas.Bool.{le-leb, cond-true}
use Rattle.std.proofs.lemmas.Bool.Decides.{nat_tests}
use Rattle.std.specs.List.{flat_map, IsSplitAt}
use Rattle.sheet.specs.declared.entry.Entry.{Entry}
use Rattle.sheet.specs.declared.command.Command.{Command}
use Rattle.sheet.specs.declared.command.Command.TheVariants.{NameArity, DataArity, TickArity, TupleArity, BindingArity, Constructor, Variable, VariableRow, ApplyRow, TupleRow, BindRow}
use Rattle.sheet.specs.Commands.{command, operands}
use Rattle.sheet.specs.Operands.{operand_list, entry_of}
use Rattle.packed.specs.Packed.{operand_count, bytes_of, whole, command_then, packed_past, packed, FrontWhole}

-- a command has three operands at most, or five
pub widths : (c : Command) → (operands c ≤ 3) ⊎ (operands c ≡ 5)
widths NameArity = inl (lit≤ tt)
widths DataArity = inl (lit≤ tt)
widths TickArity = inl (lit≤ tt)
widths TupleArity = inr refl
widths BindingArity = inl (lit≤ tt)
widths Constructor = inl (lit≤ tt)
widths Variable = inl (lit≤ tt)
widths VariableRow = inl (lit≤ tt)
widths ApplyRow = inl (lit≤ tt)
widths TupleRow = inr refl
widths BindRow = inl (lit≤ tt)

pub width_most : (o : Option Command) → operand_count o ≤ 5
width_most None = omega arith
width_most (Some c) = omega (arith, widths c)

-- what `whole` answers
whole_says : (n m : ℕ) (o : Option Command) → whole n o ≡ Some m → (operand_count o ≡ m) × (m ≤ n)
whole_says n m None is = cc
whole_says n m (Some c) is = grind (arith, nat_tests)

pub whole_known : (b n : ℕ) (c : Command) (bs : List ℕ) → command b ≡ Some c → operands c ≡ n → n ≤ length bs →
    whole (length bs) (command b) ≡ Some n
whole_known b n c bs known is fits =
    let all : operands c ≤ length bs = omega arith in
    ap (whole (length bs)) known ∙ cond-true _ _ _ (le-leb _ _ all) ∙ ap (λ m. Some m) is

-- the operands of an entry are those that it was made of
listed : (b : ℕ) (xs : List ℕ) → length xs ≤ 5 → take (length xs) (operand_list (entry_of b xs)) ≡ xs
listed b [] most = refl
listed b (v ∷ []) most = refl
listed b (v ∷ w ∷ []) most = refl
listed b (v ∷ w ∷ x ∷ []) most = refl
listed b (v ∷ w ∷ x ∷ y ∷ []) most = refl
listed b (v ∷ w ∷ x ∷ y ∷ z ∷ []) most = refl
listed b (v ∷ w ∷ x ∷ y ∷ z ∷ a ∷ xs) most = absurd (omega arith)

pub bytes_whole : (b : ℕ) (xs : List ℕ) → operand_count (command b) ≡ length xs → bytes_of (entry_of b xs) ≡ b ∷ xs
unfolding bytes_of
bytes_whole b xs is =
    let most : length xs ≤ 5 = omega (arith, width_most (command b)) in
    ap (λ n. b ∷ take n (operand_list (entry_of b xs))) is ∙ ap (λ ys. b ∷ ys) (listed b xs most)

-- the entries past k bytes are those of the bytes from there on
packed-drop : (k : ℕ) (bs : List ℕ) → packed_past k bs ≡ packed (drop k bs)
unfolding packed
packed-drop zero bs = refl
packed-drop (suc k) [] = refl
packed-drop (suc k) (b ∷ bs) = packed-drop k bs

pub packed_whole : (b n : ℕ) (bs : List ℕ) → whole (length bs) (command b) ≡ Some n →
    packed (b ∷ bs) ≡ entry_of b (take n bs) ∷ packed (drop n bs)
unfolding packed
packed_whole b n bs is = ap (command_then b bs (λ n. packed_past n bs)) is ∙ ap (λ es. entry_of b (take n bs) ∷ es) (packed-drop n bs)

pub front_whole : (b n : ℕ) (bs : List ℕ) → whole (length bs) (command b) ≡ Some n → FrontWhole (b ∷ bs) (entry_of b (take n bs)) (drop n bs)
front_whole b n bs is =
    let says = whole_says (length bs) n (command b) is in
    let long = length-take-le n bs says.1 in
    record {
      split = ap (λ xs. b ∷ xs) (sym (take-append-drop n bs)) ∙ ap (λ xs. xs ++ drop n bs) (sym (bytes_whole b (take n bs) (says.0 ∙ sym long)));
      means = packed_whole b n bs is;
    }

-- the same of a slice that was cut after the operands
pub front_split : (b n : ℕ) (c : Command) (bs given rest : List ℕ) → command b ≡ Some c → n ≡ operands c → IsSplitAt bs n given rest → FrontWhole (b ∷ bs) (entry_of b given) rest
front_split b n c bs given rest known is split = rw (split.1, split.2) (front_whole b n bs (whole_known b n c bs known (sym is) split.0))

pub length_bytes : (e : Entry) → length (bytes_of e) ≡ 1 + operand_count (command e.command)
unfolding bytes_of
length_bytes e = omega (arith, width_most (command e.command), length-take (operand_count (command e.command)) (operand_list e))

pub front_longer : (bs : List ℕ) (e : Entry) (rest : List ℕ) → FrontWhole bs e rest → length bs ≡ length (bytes_of e) + length rest
front_longer bs e rest f = ap length f.split ∙ length-append (bytes_of e) rest

-- the bytes of the entries are the front of the bytes
pub record Opens (es : List Entry) (bs : List ℕ) : Type 0 where
  pub rest : List ℕ
  pub split : bs ≡ flat_map bytes_of es ++ rest

opens_then : (b : ℕ) (bs : List ℕ) (o : Option ℕ) → whole (length bs) (command b) ≡ o → ((n : ℕ) → Opens (packed_past n bs) (drop n bs)) →
    Opens (command_then b bs (λ n. packed_past n bs) o) (b ∷ bs)
opens_then b bs None is past = record { rest = b ∷ bs; split = refl }
opens_then b bs (Some n) is past =
    let bytes = bytes_of (entry_of b (take n bs)) in
    record {
      rest = (past n).rest;
      split = (front_whole b n bs is).split ∙ ap (λ xs. bytes ++ xs) (past n).split ∙ sym (append_assoc bytes (flat_map bytes_of (packed_past n bs)) (past n).rest);
    }

opens_past : (k : ℕ) (bs : List ℕ) → Opens (packed_past k bs) (drop k bs)
opens_past zero [] = record { rest = []; split = refl }
opens_past (suc k) [] = record { rest = []; split = refl }
opens_past zero (b ∷ bs) = opens_then b bs (whole (length bs) (command b)) refl (λ n. opens_past n bs)
opens_past (suc k) (b ∷ bs) = opens_past k bs

pub opens : (bs : List ℕ) → Opens (packed bs) bs
unfolding packed
opens bs = opens_past 0 bs

-- each entry takes a byte at least
few : (es : List Entry) → length es ≤ length (flat_map bytes_of es)
few [] = omega arith
few (e ∷ es) = omega (arith, few es, length_bytes e, length-append (bytes_of e) (flat_map bytes_of es))

pub packed_few : (bs : List ℕ) → length (packed bs) ≤ length bs
packed_few bs = let o = opens bs in omega (arith, few (packed bs), ap length o.split, length-append (flat_map bytes_of (packed bs)) o.rest)
