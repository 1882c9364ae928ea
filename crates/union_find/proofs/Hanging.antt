-- A root and all that hang by it are hung by a smaller member: the chains are those with one fact more.
use Rattle.std.proofs.Common.{◌≡◌, ℕ, ◌+◌, ◌<◌, ◌≤◌, ◌≢◌, ◌⊎◌, List, length, get_or, set, sym, ap, ◌∙◌, subst, inl, inr, arith, get_or-set_other, rules, ◌-◌, take, drop}
use Rattle.std.proofs.lemmas.Bool.{cases_eq, cases_lt}
use Rattle.std.proofs.lemmas.List.{get_or_default, places}
use borrow.Rule.Slice.PartMut.{put_mid}
use Rattle.groups.specs.declared.Group.{Ghosts}
use Rattle.union_find.specs.declared.link.Link.{Link}
use Rattle.union_find.specs.Facts.{members, Chain, With, old}
use Rattle.union_find.specs.Tables.{Linked, Root, Flat, Joined, Lifts, EachLifted, Lifted, Left, Hung, entry_of}
use Rattle.union_find.proofs.Algebra.{LawsOf, undo}
use Rattle.union_find.proofs.Chains.{Sound, chain_append, chain_turn, chain_map, one, with_sound, with_new, with_map}
use Rattle.union_find.proofs.Ways.{linked_sound, one_parent, one_step}

-- what hangs by a in the entries s goes up one link more, up to entry n
pub record Lifting {M : Type 0} (G : Ghosts M) (s s' : List (Link M)) (a b : ℕ) (m : M) (n : ℕ) : Type 0 where
  pub done : (k : ℕ) → k < n → Lifts G a b m (entry_of G s k) (entry_of G s' k)
  pub rest : (k : ℕ) → n ≤ k → entry_of G s' k ≡ entry_of G s k

module _ {M : Type 0} {G : Ghosts M} where
  same_link : {t t' : List (Link M)} {k j : ℕ} {g : M} → entry_of G t' k ≡ entry_of G t k → Linked G t k j g → Linked G t' k j g
  same_link e f = record { member = f.member; lower = f.lower; fair = f.fair; there = e ∙ f.there }

  -- entries a + 1 to members - 1 of t are s' now, and entry a says b and m
  module _ (t s' : List (Link M)) (a b : ℕ) (m : M) (E : EachLifted G (take (members - (a + 1)) (drop (a + 1) t)) s' a b m) (p : a < members) (q : members ≤ length t) where
    part_length : length s' ≡ members - (a + 1)
    part_length = E.length_kept ∙ search (rules, places)

    outside : (k : ℕ) (d : Link M) → (k < a + 1) ⊎ (members ≤ k) → get_or (put_mid (a + 1) (members - (a + 1)) t s') k d ≡ get_or t k d
    outside k d r = let e = part_length in grind (arith, places)

    inside : (n : ℕ) (d : Link M) → a + 1 + n < members → get_or (put_mid (a + 1) (members - (a + 1)) t s') (a + 1 + n) d ≡ get_or s' n d
    inside n d r = let e = part_length in search (rules, places)

    before : (n : ℕ) (d : Link M) → a + 1 + n < members → get_or (take (members - (a + 1)) (drop (a + 1) t)) n d ≡ get_or t (a + 1 + n) d
    before n d r = search (rules, places)

    abbrev t' : List (Link M)
    t' = put_mid (a + 1) (members - (a + 1)) t s'

    -- an entry that is as it was
    left : (k : ℕ) → (k < a + 1) ⊎ (members ≤ k) → Left G t t' a k
    left k r = (
      λ h f. let low = f.lower in let high = f.member in absurd (grind arith),
      λ d. outside k d r,
    )

    -- and one after that of a
    after : (n : ℕ) → a + 1 + n < members → Lifted G t t' a b m (a + 1 + n) ⊎ Left G t t' a (a + 1 + n)
    after n r =
        let l : Link M = entry_of G t (a + 1 + n) in
        let now : (l' : Link M) → entry_of G s' n ≡ l' → (d : Link M) → get_or t' (a + 1 + n) d ≡ l' =
        λ l' e d. inside n d r ∙ get_or_default s' n d _ (let e = part_length in omega arith) ∙ e in
        elim (subst (λ l. Lifts G a b m l (entry_of G s' n)) (before n _ r) (E.each n (search (rules, places)))) [
          | inl ((parent, fair), e) ↦
              inl (l.step, record { member = r; lower = omega arith; fair = fair; there = ap (λ p. record { parent = p; step = l.step }) parent }, now _ e)
          | inr (not_so, e) ↦
              inr (
                λ h f. not_so (ap (λ l. l.parent) f.there, subst G.lawful (sym (ap (λ l. l.step) f.there)) f.fair),
                λ d. now _ e d ∙ get_or_default t (a + 1 + n) _ d (omega arith),
              )
        ]

    abbrev u : Link M
    u = record { parent = b; step = m }

    elsewhere : (k : ℕ) → k ≢ a → Lifted G t t' a b m k ⊎ Left G t t' a k → Lifted G t (set t' a u) a b m k ⊎ Left G t (set t' a u) a k
    elsewhere k ne (inl (h, f, e)) = inl (h, f, λ d. get_or-set_other t' a k u d ne ∙ e d)
    elsewhere k ne (inr (no_link, e)) = inr (no_link, λ d. get_or-set_other t' a k u d ne ∙ e d)

    pub hang_hung : Hung G t (set t' a u) a b m
    hang_hung = record {
      here = λ d. search (rules, places);
      others = λ k ne. elsewhere k ne (elim (cases_lt k (a + 1)) [
        | inl r ↦ inr (left k (inl r))
        | inr r ↦ elim (cases_lt k members) [
          | inl r' ↦
              let e : a + 1 + (k - (a + 1)) ≡ k = omega arith in
              subst (λ k. Lifted G t t' a b m k ⊎ Left G t t' a k) e (after (k - (a + 1)) (omega arith))
          | inr r' ↦ inr (left k (inr r'))
        ]
      ]);
      length_kept = search (rules, places);
    }

-- the table t' is t with its root a hung by b
module _ {M : Type 0} (G : Ghosts M) (L : LawsOf G) {t t' : List (Link M)} {a b : ℕ} {m : M} (member : a < members) (lower : b < a) (fair : G.lawful m)
    (root : Root G t a) (H : Hung G t t' a b m) where
  open G use {lawful, identity, compose, inverse}

  abbrev S' : Sound G (Linked G t')
  S' = linked_sound G L

  to_b : b < members
  to_b = omega arith

  hung_link : Linked G t' a b m
  hung_link = record { member = member; lower = lower; fair = fair; there = H.here _ }

  lifted_link : {k : ℕ} (h : M) → Linked G t k a h → ((d : Link M) → get_or t' k d ≡ record { parent = b; step = compose h m }) → Linked G t' k b (compose h m)
  lifted_link h f e = record {
    member = f.member;
    lower = let p = f.lower in omega arith;
    fair = L.lawful_compose h m f.fair fair;
    there = e _;
  }

  not_a : {k j : ℕ} {h : M} → Linked G t k j h → k ≢ a
  not_a {k} {j} {h} f e = root j h (subst (λ k. Linked G t k j h) e f)

  -- what t says is said in t'
  old_said : (k j : ℕ) (h : M) → Linked G t k j h → Chain G (Linked G t') k j h
  old_said k j h f =
      elim (H.others k (not_a f)) [
        | inl (h', f', e) ↦
            let up = one G L S' k b (compose h' m) (lifted_link h' f' e) in
            let c : Chain G (Linked G t') k a h' = subst (Chain G (Linked G t') k a) (undo G L h' m f'.fair fair) (chain_append G L S' up (chain_turn G L S' (one G L S' a b m hung_link))) in
            subst (λ j. Chain G (Linked G t') k j h) (one_parent G L f' f) (subst (Chain G (Linked G t') k a) (one_step G L f' f) c)
        | inr (none, e) ↦ one G L S' k j h (same_link (e _) f)
      ]

  abbrev W : Sound G (With (Linked G t) a b m)
  W = with_sound G L (linked_sound G L) member to_b fair

  -- what t' says follows from what t says and the new link
  new_said : (k j : ℕ) (h : M) → Linked G t' k j h → Chain G (With (Linked G t) a b m) k j h
  new_said k j h f =
      elim (cases_eq k a) [
        | inl e ↦
            let f' : Linked G t' a j h = subst (λ k. Linked G t' k j h) e f in
            let c = subst (λ j. Chain G (With (Linked G t) a b m) a j m) (one_parent G L hung_link f') (with_new G L (linked_sound G L) member to_b fair) in
            subst (λ k. Chain G (With (Linked G t) a b m) k j h) (sym e) (subst (Chain G (With (Linked G t) a b m) a j) (one_step G L hung_link f') c)
        | inr ne ↦ elim (H.others k ne) [
          | inl (h', f', e) ↦
              let l = lifted_link h' f' e in
              let c = chain_append G L W (one G L W k a h' (old f')) (with_new G L (linked_sound G L) member to_b fair) in
              subst (λ j. Chain G (With (Linked G t) a b m) k j h) (one_parent G L l f) (subst (Chain G (With (Linked G t) a b m) k b) (one_step G L l f) c)
          | inr (none, e) ↦ one G L W k j h (old (same_link (sym (e _)) f))
        ]
      ]

  pub hung_joined : Joined G t t' a b m
  hung_joined = record {
    adds = λ k j h c. chain_map G L W new_said c;
    keeps = λ k j h c. chain_map G L S' (with_map G L old_said (one G L S' a b m hung_link)) c;
  }

  stays_root : {k : ℕ} → k ≢ a → Root G t k → Root G t' k
  stays_root {k} ne r j h f =
      elim (H.others k ne) [
        | inl (h', f', e) ↦ r a h' f'
        | inr (none, e) ↦ r j h (same_link (sym (e _)) f)
      ]

  pub hung_flat : Root G t b → Flat G t → Flat G t'
  hung_flat root_b flat k j h f =
      let b_root : Root G t' b = let ne : b ≢ a = omega arith in stays_root ne root_b in
      elim (cases_eq k a) [
        | inl e ↦ subst (Root G t') (one_parent G L hung_link (subst (λ k. Linked G t' k j h) e f)) b_root
        | inr ne ↦ elim (H.others k ne) [
          | inl (h', f', e) ↦ subst (Root G t') (one_parent G L (lifted_link h' f' e) f) b_root
          | inr (none, e) ↦
              let f' : Linked G t k j h = same_link (sym (e _)) f in
              stays_root (λ z. none h (subst (λ j. Linked G t k j h) z f')) (flat k j h f')
        ]
      ]
