-- The group laws of renamings.
--
--   Inverses f g   f and g send names to names, and each undoes the other
use Rattle.std.specs.Prelude.{◌≡◌, ℕ, ◌<◌, refl}
use Rattle.std.proofs.Common.{sym, ap, ◌∙◌, subst, arith}
use Rattle.groups.specs.Laws.{Laws}
use Rattle.groups.specs.Renamings.{names, image, Lawful, pack, place, renaming, LawfulRenaming, identity_renaming, compose_renamings, inverse_renaming}
use Rattle.groups.specs.Gathers.{gather, gather-lt, digit-gather}
use Rattle.groups.specs.Packs.{image-lt, pack-lt, image-pack, pack_of_images, pack_equal, place_found}

pub record Inverses (f g : ℕ → ℕ) : Type 0 where
  pub there : (i : ℕ) → i < names → f i < names
  pub back_there : (v : ℕ) → v < names → g v < names
  pub undone : (i : ℕ) → i < names → g (f i) ≡ i
  pub undoes : (v : ℕ) → v < names → f (g v) ≡ v

-- the pack of what has an inverse is lawful
pub lawful_pack : (f g : ℕ → ℕ) → Inverses f g → Lawful (pack f)
lawful_pack f g b =
    let small : (i : ℕ) → i < names → f i < 16 = λ i p. let q = b.there i p in omega arith in
    let is : (i : ℕ) → i < names → image (pack f) i ≡ f i = image-pack f small in
    record {
      higher = pack-lt f small;
      range = λ i p. subst (λ m. m < names) (sym (is i p)) (b.there i p);
      once = λ i j p q e. sym (b.undone i p) ∙ ap g (sym (is i p) ∙ e ∙ is j q) ∙ b.undone j q;
      occurs = λ v p. (g v, b.back_there v p, is (g v) (b.back_there v p) ∙ b.undoes v p);
    }

-- and of a lawful number, images and places undo each other
pub lawful_inverses : (n : ℕ) → Lawful n → Inverses (image n) (place n)
unfolding place
lawful_inverses n l =
    let found : (v : ℕ) → v < names → (place n v < names) × (image n (place n v) ≡ v) =
    λ v p. (let (i, q, e) = l.occurs v p in place_found n v names 0 i (omega arith) (omega arith) e) in
    record {
      there = l.range;
      back_there = λ v p. (found v p).0;
      undone = λ i p. let q = l.range i p in l.once (place n (image n i)) i (found (image n i) q).0 p (found (image n i) q).1;
      undoes = λ v p. (found v p).1;
    }

same : Inverses (λ i. i) (λ i. i)
same = record { there = λ i p. p; back_there = λ v p. p; undone = λ i p. refl; undoes = λ v p. refl }

turned : (f g : ℕ → ℕ) → Inverses f g → Inverses g f
turned f g b = record { there = b.back_there; back_there = b.there; undone = b.undoes; undoes = b.undone }

composed : (f g f' g' : ℕ → ℕ) → Inverses f g → Inverses f' g' → Inverses (λ i. f (f' i)) (λ v. g' (g v))
composed f g f' g' b c = record {
  there = λ i p. b.there (f' i) (c.there i p);
  back_there = λ v p. c.back_there (g v) (b.back_there v p);
  undone = λ i p. ap g' (b.undone (f' i) (c.there i p)) ∙ c.undone i p;
  undoes = λ v p. ap f (c.undoes (g v) (b.back_there v p)) ∙ b.undoes v p;
}

pub identity_image : (i : ℕ) → i < names → image identity_renaming.bits i ≡ i
identity_image i p = image-pack (λ i. i) (λ j q. omega arith) i p

pub inverse_image : (n : ℕ) → Lawful n → (v : ℕ) → v < names → image (pack (place n)) v ≡ place n v
inverse_image n l v p = image-pack (place n) (λ j q. let r = (lawful_inverses n l).back_there j q in omega arith) v p

module _ (m n : ℕ) where
  abbrev pub both : ℕ → ℕ
  both i = image m (image n i)

  both_lt : (i : ℕ) → i < names → both i < 16
  both_lt i p = image-lt m (image n i)

  both_image : (i : ℕ) → i < names → image (pack both) i ≡ both i
  both_image = image-pack both both_lt

pub renaming_laws : Laws LawfulRenaming identity_renaming compose_renamings inverse_renaming
renaming_laws = record {
  lawful_identity = lawful_pack (λ i. i) (λ i. i) same;
  lawful_compose = λ x y l m. lawful_pack _ _ (composed _ _ _ _ (lawful_inverses x.bits l) (lawful_inverses y.bits m));
  lawful_inverse = λ x l. lawful_pack _ _ (turned _ _ (lawful_inverses x.bits l));
  associative = λ x y z l m n. ap renaming (pack_equal _ _ (both_lt (pack (both x.bits y.bits)) z.bits) (λ i p.
      both_image x.bits y.bits (image z.bits i) (n.range i p) ∙ ap (image x.bits) (sym (both_image y.bits z.bits i p))));
  left_identity = λ x l. ap renaming (sym (pack_of_images _ x.bits l.higher (λ i p. sym (identity_image (image x.bits i) (l.range i p)))));
  right_identity = λ x l. ap renaming (sym (pack_of_images _ x.bits l.higher (λ i p. ap (image x.bits) (sym (identity_image i p)))));
  left_inverse = λ x l. ap renaming (pack_equal _ _ (both_lt (pack (place x.bits)) x.bits) (λ i p.
      inverse_image x.bits l (image x.bits i) (l.range i p) ∙ (lawful_inverses x.bits l).undone i p));
  right_inverse = λ x l. ap renaming (pack_equal _ _ (both_lt x.bits (pack (place x.bits))) (λ i p.
      ap (image x.bits) (inverse_image x.bits l i p) ∙ (lawful_inverses x.bits l).undoes i p));
}

-- what the loops of compose and inverse gather
pub gathered_compose : (m n : ℕ) → gather 4 (both m n) (λ i. i) names ≡ pack (both m n)
gathered_compose m n =
    pack_of_images (both m n) _ (gather-lt 4 (both m n) (λ i. i) names names (both_lt m n) (λ i p. p))
    (digit-gather 4 (both m n) (λ i. i) names (both_lt m n) (λ i j p q e. e))

pub gathered_inverse : (n : ℕ) → Lawful n → gather 4 (λ i. i) (image n) names ≡ pack (place n)
gathered_inverse n l =
    let b = lawful_inverses n l in
    let small : (i : ℕ) → i < names → i < 16 = λ i p. omega arith in
    pack_of_images (place n) _ (gather-lt 4 (λ i. i) (image n) names names small l.range) (λ v p.
    subst (λ u. image (gather 4 (λ i. i) (image n) names) u ≡ place n v) (b.undoes v p)
    (digit-gather 4 (λ i. i) (image n) names small l.once (place n v) (b.back_there v p)))
