-- Digits of a text, gathered into the images of a renaming.
--
--   value_at ds i   what the i-th digit stands for; "0" is 48
use Rattle.std.proofs.Common.{◌≡◌, ℕ, ◌-◌, ◌^◌, ◌<◌, List, length, get_or, ◌∙◌, ap, arith}
use Rattle.groups.specs.Renamings.{names, image, renaming}
use Rattle.groups.specs.Gathers.{gather, gather-lt, digit-gather}
use Rattle.groups.specs.Packs.{pack_of_images}
use Rattle.list_relations.specs.Spellings.{IsDigit, IsSpelling, spelled}

abbrev pub value_at : List ℕ → ℕ → ℕ
value_at ds i = get_or ds i 0 - 48

pub read_spelling : (ds : List ℕ) (n k : ℕ) → length ds ≡ names → k ≡ names → n ≡ gather 4 (value_at ds) (λ i. i) k → ((j : ℕ) → j < k → IsDigit (get_or ds j 0)) → IsSpelling ds × (renaming n ≡ spelled ds)
read_spelling ds n k long all is digits =
    let small : (j : ℕ) → j < k → value_at ds j < 16 = λ j q. let r = digits j q in omega arith in
    let m = gather 4 (value_at ds) (λ i. i) names in
    let gathered : n ≡ m = is ∙ ap (gather 4 (value_at ds) (λ i. i)) all in
    let image_at : (j : ℕ) → j < names → image m j ≡ value_at ds j = digit-gather 4 (value_at ds) (λ i. i) names (λ j q. small j (omega arith)) (λ i j q r e. e) in
    let fits : m < 16 ^ names = gather-lt 4 (value_at ds) (λ i. i) names names (λ j q. small j (omega arith)) (λ j q. q) in
    ((long, λ j q. digits j (omega arith)), ap renaming (gathered ∙ pack_of_images (value_at ds) m fits image_at))
