-- A table stands for the facts learned: what is told of the one is told of the other.
use Rattle.std.proofs.Common.{◌≡◌, ℕ, ◌<◌, ◌≤◌, List, [], ◌∷◌, ◌++◌, length, take, drop, replicate, get_or, Option, sym, ap, ◌∙◌, subst, arith, rules}
use Rattle.std.proofs.lemmas.List.{places, length-take-le, length-replicate}
use Rattle.groups.specs.declared.Group.{Ghosts}
use Rattle.union_find.specs.declared.link.Link.{Link}
use Rattle.union_find.specs.Facts.{members, Fact, Among, first, later, With, old, new, Chain, stay, forth, backwards, Told, nothing, one}
use Rattle.union_find.specs.Tables.{Linked, Flat, Joined, Keeps, entry_of, root_link}
use Rattle.union_find.proofs.Algebra.{LawsOf}
use Rattle.union_find.proofs.Chains.{Sound, chain_map, one as chain_one, with_sound, with_old, with_new, with_map}
use Rattle.union_find.proofs.Ways.{linked_sound}

none_among : {M : Type 0} (a b : ℕ) (h : M) → Among [] a b h → ⊥
none_among a b h f = elim f [ ]

among_with : {M : Type 0} {fs : List (Fact M)} {f : Fact M} (a b : ℕ) (h : M) → Among (f ∷ fs) a b h → With (Among fs) f.from f.to f.move a b h
among_with a b h first = new
among_with a b h (later f) = old f

-- the first n entries of t are l now
pub filled : {A : Type 0} (n : ℕ) (t s : List A) (l : A) → s ≡ replicate (length (take n t)) l → n ≤ length t →
    ((k : ℕ) (d : A) → k < n → get_or (s ++ drop n t) k d ≡ l) × ((k : ℕ) (d : A) → n ≤ k → get_or (s ++ drop n t) k d ≡ get_or t k d) × (length (s ++ drop n t) ≡ length t)
filled n t s l e room =
    let e' : s ≡ replicate n l = e ∙ ap (λ m. replicate m l) (length-take-le n t room) in
    let size : length s ≡ n = ap length e' ∙ length-replicate n l in
    search (rules, places)

module _ {M : Type 0} {G : Ghosts M} where
  pub kept_told : {fs : List (Fact M)} {t : List (Link M)} → Keeps G fs t → {i j : ℕ} {r : Option M} →
      Told (Chain G (Linked G t) i j) r → Told (Chain G (Among fs) i j) r
  kept_told k {i} {j} (nothing h) = nothing (λ g c. h g (k.complete i j g c))
  kept_told k {i} {j} (one {g} c h) = one (k.sound i j g c) (λ x c. h x (k.complete i j x c))

  -- a chain where there are no facts
  no_facts : {F F' : ℕ → ℕ → M → Type 0} → ((a b : ℕ) (h : M) → F a b h → ⊥) → {a b : ℕ} {h : M} → Chain G F a b h → Chain G F' a b h
  no_facts none (stay p) = stay p
  no_facts none (forth f c) = absurd (none _ _ _ f)
  no_facts none (backwards f c) = absurd (none _ _ _ f)

  -- a table all of whose members are roots stands for no facts
  pub kept_none : {t : List (Link M)} → members ≤ length t → ((i : ℕ) → i < members → entry_of G t i ≡ root_link G) → Keeps G [] t
  kept_none {t} room e =
      let unlinked : (a b : ℕ) (h : M) → Linked G t a b h → ⊥ = λ a b h f.
      let p = f.member in
      let q = f.lower in
      let z : 255 ≡ b = ap (λ l. l.parent) (sym (e a p) ∙ f.there) in
      omega arith in
      record {
        room = room;
        fair = λ a b h f. absurd (none_among a b h f);
        from = λ a b h f. absurd (none_among a b h f);
        to = λ a b h f. absurd (none_among a b h f);
        sound = λ a b h c. no_facts unlinked c;
        complete = λ a b h c. no_facts none_among c;
        flat = λ a b h f. absurd (unlinked a b h f);
      }

module _ {M : Type 0} (G : Ghosts M) (L : LawsOf G) where
  open G use {lawful, compose, inverse}

  kept_sound : {fs : List (Fact M)} {t : List (Link M)} → Keeps G fs t → Sound G (Among fs)
  kept_sound k = record { fair = k.fair; from = k.from; to = k.to }

  module _ {fs : List (Fact M)} {t : List (Link M)} (k : Keeps G fs t) {i j : ℕ} {g : M} (p : i < members) (q : j < members) (l : lawful g) where
    abbrev more : List (Fact M)
    more = record { from = i; to = j; move = g } ∷ fs

    W : Sound G (With (Among fs) i j g)
    W = with_sound G L (kept_sound k) p q l

    A : Sound G (Among more)
    A = record {
      fair = λ a b h f. W.fair a b h (among_with a b h f);
      from = λ a b h f. W.from a b h (among_with a b h f);
      to = λ a b h f. W.to a b h (among_with a b h f);
    }

    V : Sound G (With (Linked G t) i j g)
    V = with_sound G L (linked_sound G L) p q l

    out : (a b : ℕ) (h : M) → Linked G t a b h → Chain G (Among more) a b h
    out a b h f = chain_map G L A (λ a b h f. chain_one G L A a b h (later f)) (k.sound a b h (chain_one G L (linked_sound G L) a b h f))

    into : (a b : ℕ) (h : M) → Among fs a b h → Chain G (With (Linked G t) i j g) a b h
    into a b h f = with_old G L (linked_sound G L) p q l (k.complete a b h (chain_one G L (kept_sound k) a b h f))

    -- a fact learned is a fact more
    pub kept_more : {t' : List (Link M)} → Joined G t t' i j g → Flat G t' → length t' ≡ length t → Keeps G more t'
    kept_more {t'} J flat e = record {
      room = subst (λ n. members ≤ n) (sym e) k.room;
      fair = A.fair;
      from = A.from;
      to = A.to;
      sound = λ a b h c. chain_map G L A (with_map G L out (chain_one G L A i j g first)) (J.adds a b h c);
      complete = λ a b h c. J.keeps a b h (chain_map G L V (λ a b h f. with_map G L into (with_new G L (linked_sound G L) p q l) a b h (among_with a b h f)) c);
      flat = flat;
    }
