-- What is wrong with packed bytes, and the packed form of a lawful sheet.
use Rattle.std.proofs.Common.{◌≡◌, ℕ, zero, suc, ◌+◌, ◌-◌, ◌≤◌, Bool, true, false, cond, eqb, List, [], ◌∷◌, ◌++◌, length, get_or, take, drop, Some, None, Option, sym, refl, ap, ◌∙◌, subst, arith, length-append}
use Rattle.std.proofs.lemmas.List.{append_assoc, drop-drop, drop_at, take_at, length-take-le}
use Rattle.std.proofs.lemmas.List.Prefix.{front_rest}
use Rattle.std.proofs.lemmas.Bool.{eqb-true, and_parts, not-false}
use Rattle.std.specs.List.{slice_get, flat_map, list_all}
use Rattle.sheet.specs.declared.entry.Entry.{Entry}
use Rattle.sheet.specs.declared.command.Command.{Command}
use Rattle.sheet.specs.declared.command.Command.TheVariants.{NameArity, DataArity, TickArity, TupleArity, BindingArity, Constructor, Variable, VariableRow, ApplyRow, TupleRow, BindRow}
use Rattle.sheet.specs.Commands.{command, operands}
use Rattle.sheet.specs.Operands.{operand_list, nonzero_past, entry_of}
use Rattle.sheet.specs.Sheets.{Sheet, item, item_of, item_by, sheet_of}
use Rattle.sheet.specs.Faults.{padded, fault_of, fault}
use Rattle.sheet.specs.Checks.{Lawful}
use Rattle.sheet.proofs.Forming.{clean}
use Rattle.packed.specs.Packed.{operand_count, bytes_of, packed_form, packed, end_byte, FrontWhole}
use Rattle.packed.specs.Forms.{extent, no_entry, after_end, ending, byte_fault_at, byte_fault, OneForm, ReadIsForm, FormReadsBack}
use Rattle.packed.proofs.Packing.{front_longer, opens, width_most, whole_known, packed_whole}

fault_whole : (n : ℕ) (bs : List ℕ) (e : Entry) (rest : List ℕ) → FrontWhole bs e rest → byte_fault_at n bs ≡ byte_fault_at (n + length (bytes_of e)) rest
unfolding extent
fault_whole n bs e rest f =
    let wide : extent bs ≡ length (bytes_of e) + extent rest =
    ap (λ es. length (flat_map bytes_of es)) f.means ∙ length-append (bytes_of e) (flat_map bytes_of (packed rest)) in
    let same : drop (length (bytes_of e) + extent rest) bs ≡ drop (extent rest) rest =
    sym (drop-drop (extent rest) (length (bytes_of e)) bs) ∙ ap (drop (extent rest)) (front_rest bs (bytes_of e) rest f.split) in
    let sum : n + extent bs ≡ n + length (bytes_of e) + extent rest = omega arith in
    cc

-- the end of all, with its first command and past it
pub fault_past : (all bs : List ℕ) (e : Entry) (rest : List ℕ) → FrontWhole bs e rest → length bs ≤ length all →
    byte_fault_at (length all - length bs) bs ≡ byte_fault_at (length all - length rest) rest
fault_past all bs e rest f within =
    let less = front_longer bs e rest f in
    let past : length all - length bs + length (bytes_of e) ≡ length all - length rest = omega arith in
    fault_whole (length all - length bs) bs e rest f ∙ ap (λ n. byte_fault_at n rest) past

-- where no command stands in front
pub fault_stop : (n : ℕ) (bs : List ℕ) → packed bs ≡ [] → byte_fault_at n bs ≡ ending n bs
unfolding extent
fault_stop n bs none =
    let nil : extent bs ≡ 0 = ap (λ es. length (flat_map bytes_of es)) none in
    let sum : n + extent bs ≡ n = omega arith in
    ap (λ m. ending m (drop (extent bs) bs)) sum ∙ ap (λ m. ending n (drop m bs)) nil

-- the end byte is no command
no_end : (b : ℕ) (c : Command) → command b ≡ Some c → b ≡ end_byte → ⊥
no_end b c known is = let none : command b ≡ None = ap command is in cc

after_none : (n : ℕ) (bs : List ℕ) → after_end n bs ≡ None → bs ≡ []
after_none n [] is = refl
after_none n (b ∷ bs) is = cc

entry_none : (n : ℕ) (o : Option Command) → no_entry n o ≡ None → ⊥
entry_none n None is = cc
entry_none n (Some c) is = cc

ends_at : (t : Bool) (n b : ℕ) (bs : List ℕ) → eqb b end_byte ≡ t → cond t (after_end n bs) (no_entry n (command b)) ≡ None → b ∷ bs ≡ end_byte ∷ []
ends_at true n b bs here is = let first = eqb-true b end_byte here in let rest = after_none n bs is in cc
ends_at false n b bs here is = absurd (entry_none n (command b) is)

-- nothing is wrong with the end byte alone
ending_none : (n : ℕ) (bs : List ℕ) → ending n bs ≡ None → bs ≡ end_byte ∷ []
ending_none n [] is = cc
ending_none n (b ∷ bs) is = ends_at (eqb b end_byte) n b bs refl is

pub read_is_form : ReadIsForm
unfolding extent packed_form
read_is_form bs accepted =
    let o = opens bs in
    let rest : drop (extent bs) bs ≡ o.rest = front_rest bs (flat_map bytes_of (packed bs)) o.rest o.split in
    let end = ending_none (0 + extent bs) o.rest (ap (ending (0 + extent bs)) (sym rest) ∙ accepted.0) in
    o.split ∙ ap (λ xs. flat_map bytes_of (packed bs) ++ xs) end

-- an entry of which its bytes tell all
pub record Spelt (e : Entry) : Type 0 where
  pub is : Command
  pub known : command e.command ≡ Some is
  pub spelt : entry_of e.command (take (operands is) (operand_list e)) ≡ e

-- zeros past the first n need no bytes
zeros : (n : ℕ) (xs : List ℕ) (i : ℕ) → list_all (λ x. eqb x 0) (drop n xs) ≡ true → get_or (take n xs) i 0 ≡ get_or xs i 0
zeros zero [] i nil = refl
zeros zero (x ∷ xs) zero nil = sym (eqb-true x 0 (and_parts _ _ nil).0)
zeros zero (x ∷ xs) (suc i) nil = zeros zero xs i (and_parts _ _ nil).1
zeros (suc n) [] i nil = refl
zeros (suc n) (x ∷ xs) zero nil = refl
zeros (suc n) (x ∷ xs) (suc i) nil = zeros n xs i nil

filled : (n : ℕ) (e : Entry) → nonzero_past n e ≡ false → entry_of e.command (take n (operand_list e)) ≡ e
filled n e none =
    let nil = not-false _ none in
    let at : (i : ℕ) → get_or (take n (operand_list e)) i 0 ≡ get_or (operand_list e) i 0 = λ i. zeros n (operand_list e) i nil in
    let same : entry_of e.command (take n (operand_list e)) ≡ entry_of e.command (operand_list e) = cc (at 0, at 1, at 2, at 3, at 4) in same

-- an item uses all operands that its command has, unless it is a tuple's, which has them all
fills : (S : Sheet) (e : Entry) (c : Command) → padded e (item_by S e c) ≡ false → entry_of e.command (take (operands c) (operand_list e)) ≡ e
fills S e NameArity = filled 0 e
fills S e DataArity = filled 0 e
fills S e TickArity = filled 0 e
fills S e TupleArity = λ _. refl
fills S e BindingArity = filled 2 e
fills S e Constructor = filled 2 e
fills S e Variable = filled 1 e
fills S e VariableRow = filled 1 e
fills S e ApplyRow = filled 2 e
fills S e TupleRow = λ _. refl
fills S e BindRow = filled 3 e

spelt_of : (S : Sheet) (e : Entry) (o : Option Command) → command e.command ≡ o → fault_of S e (item_of S e o) ≡ None → Spelt e
spelt_of S e None known none = cc
spelt_of S e (Some c) known none = record { is = c; known = known; spelt = fills S e c (clean S e (item_by S e c) none).unpadded }

faultless_spelt : (S : Sheet) (e : Entry) → fault S e ≡ None → Spelt e
unfolding fault item
faultless_spelt S e none = spelt_of S e (command e.command) refl none

packed_spelt : (e : Entry) (rest : List ℕ) → Spelt e → packed (bytes_of e ++ rest) ≡ e ∷ packed rest
unfolding bytes_of
packed_spelt e rest s =
    let n = operands s.is in
    let xs = take n (operand_list e) in
    let long : length xs ≡ n = length-take-le n (operand_list e) (width_most (Some s.is)) in
    let bytes : bytes_of e ≡ e.command ∷ xs = ap (λ o. e.command ∷ take (operand_count o) (operand_list e)) s.known in
    let some = whole_known e.command n s.is (xs ++ rest) s.known refl (omega (arith, length-append xs rest)) in
    ap (λ bs. packed (bs ++ rest)) bytes ∙ packed_whole e.command n (xs ++ rest) some
    ∙ ap (λ ys. entry_of e.command ys ∷ packed (drop n (xs ++ rest))) (take_at xs rest n long)
    ∙ ap (λ ys. entry_of e.command xs ∷ packed ys) (drop_at xs rest n long)
    ∙ ap (λ x. x ∷ packed rest) s.spelt

packed_back : (es : List Entry) → ((j : ℕ) (e : Entry) → slice_get es j ≡ Some e → Spelt e) → packed (packed_form es) ≡ es
unfolding packed_form packed
packed_back [] each = refl
packed_back (e ∷ es) each =
    ap packed (append_assoc (bytes_of e) (flat_map bytes_of es) (end_byte ∷ []))
    ∙ packed_spelt e (packed_form es) (each 0 e refl)
    ∙ ap (λ xs. e ∷ xs) (packed_back es (λ j. each (suc j)))

form_faultless : (es : List Entry) → packed (packed_form es) ≡ es → byte_fault (packed_form es) ≡ None
unfolding extent packed_form
form_faultless es back =
    let wide : extent (packed_form es) ≡ length (flat_map bytes_of es) = ap (λ xs. length (flat_map bytes_of xs)) back in
    let rest : drop (extent (packed_form es)) (packed_form es) ≡ end_byte ∷ [] =
    ap (λ n. drop n (packed_form es)) wide ∙ drop_at (flat_map bytes_of es) (end_byte ∷ []) _ refl in
    ap (ending (0 + extent (packed_form es))) rest

pub form_reads_back : FormReadsBack
form_reads_back es lawful =
    let back = packed_back es (λ j e is. faultless_spelt (sheet_of (take j es)) e (lawful.faultless j e is)) in
    ((form_faultless es back, subst Lawful (sym back) lawful), back)

-- what the packed form of a lawful sheet is, fact by fact
module _ (es : List Entry) (lawful : Lawful es) (bs : List ℕ) (is : bs ≡ packed_form es) where
  pub form_whole : byte_fault bs ≡ None
  form_whole = ap byte_fault is ∙ (form_reads_back es lawful).0.0

  pub form_lawful : Lawful (packed bs)
  form_lawful = subst (λ xs. Lawful (packed xs)) (sym is) (form_reads_back es lawful).0.1

  pub form_meant : packed bs ≡ es
  form_meant = ap packed is ∙ (form_reads_back es lawful).1

pub one_form : OneForm
one_form es lawful bs = (
  λ read. read_is_form bs read.0 ∙ ap packed_form read.1,
  λ is. ((form_whole es lawful bs is, form_lawful es lawful bs is), form_meant es lawful bs is),
)
