-- One step of the search keeps what it knows of its visits.
use Rattle.std.proofs.Common.{◌≡◌, ℕ, ◌+◌, ◌<◌, ◌≤◌, ◌≢◌, ◌⊎◌, List, length, get_or, set, Some, sym, ap, ◌∙◌, subst, inl, inr, arith}
use Rattle.std.proofs.lemmas.List.{get_or-set_same, get_or-set_other}
use Rattle.std.proofs.lemmas.Bool.{cases_lt, cases_order, cases_eq}
use Rattle.search.proofs.Pigeonhole.{pigeonhole, pigeonhole_more}
use Rattle.search.specs.Graphs.{Graph, Sound}
use Rattle.search.specs.Visits.{root, visit, Earlier, Led, Searched}
use Rattle.search.specs.declared.visit.Visit.{Visit}

earlier_next : (a b c d : ℕ) → Earlier a b c d → Earlier a b c (d + 1)
earlier_next a b c d p = (p.0, λ e. let k = p.1 e in omega arith)

-- one more pair: it was done before, or it is the last
earlier_last : (j i h l : ℕ) → Earlier j i h (l + 1) → Earlier j i h l ⊎ ((j ≡ h) × (i ≡ l))
earlier_last j i h l p = go (cases_eq j h) (cases_order i l)
  where
    go : (j ≡ h) ⊎ (j ≡ h → ⊥) → (i ≡ l) ⊎ ((i < l) ⊎ (l < i)) → Earlier j i h l ⊎ ((j ≡ h) × (i ≡ l))
    go (inl e) (inl c) = inr (e, c)
    go (inl e) (inr (inl c)) = inl (p.0, λ _. c)
    go (inl e) (inr (inr c)) = absurd (omega (arith, p.1 e))
    go (inr e) _ = inl (p.0, λ c. absurd (e c))

module _ {P : Type 0} {g : Graph P} {Inside : P → Type 0} {xs : List (Visit P)} {marks : List ℕ} {n h l : ℕ} (inv : Searched g Inside xs marks n h l) where
  -- the letter leads to a visit that is there
  pub known_step : (m : ℕ) → m < n → g.step (visit g xs h).position l ≡ Some (visit g xs m).position → Searched g Inside xs marks n h (l + 1)
  known_step m b e = record {
    some = inv.some;
    first = inv.first;
    entered = inv.entered;
    back = inv.back;
    lettered = inv.lettered;
    linked = inv.linked;
    ordered = inv.ordered;
    found = λ k c d. earlier_next _ _ _ _ (inv.found k c d);
    expanded = λ j i c p. go j i c (earlier_last j i h l p);
  }
    where
      go : (j i : ℕ) → i < g.letters → Earlier j i h l ⊎ ((j ≡ h) × (i ≡ l)) → Led g xs n j i
      go j i c (inl p) = inv.expanded j i c p
      go j i c (inr p) = (m, b, ap (λ (x : ℕ). g.step (visit g xs x).position i) p.0 ∙ ap (λ (x : ℕ). g.step (visit g xs h).position x) p.1 ∙ e, λ d. let f = inv.found m d b in let e = p.0 in let o = p.1 in let q = f.0 in (omega arith, λ z. let w = f.1 (z ∙ p.0) in omega arith))

  -- all letters of the visit h are done
  pub next_visit : l ≡ g.letters → Searched g Inside xs marks n (h + 1) 0
  next_visit e = record {
    some = inv.some;
    first = inv.first;
    entered = inv.entered;
    back = inv.back;
    lettered = inv.lettered;
    linked = inv.linked;
    ordered = inv.ordered;
    found = λ k c d. let f = (inv.found k c d).0 in (omega arith, λ z. absurd (omega arith));
    expanded = λ j i c p. inv.expanded j i c (let q = p.0 in before j i p, λ _. omega arith);
  }
    where
      before : (j i : ℕ) → Earlier j i (h + 1) 0 → j ≤ h
      before j i p = go (cases_eq j (h + 1))
        where
          go : (j ≡ h + 1) ⊎ (j ≡ h + 1 → ⊥) → j ≤ h
          go (inl e) = absurd (omega (arith, p.1 e))
          go (inr e) = let q = p.0 in omega arith

  -- the letter leads to a new position
  module _ (sound : Sound g Inside) (q : P) (b : h < n) (c : l < g.letters) (e : g.step (visit g xs h).position l ≡ Some q) (fresh : (k : ℕ) → k < n → (visit g xs k).position ≡ q → ⊥) (room : n < length xs) (slot : g.number q < length marks) where
    new : Visit P
    new = record { position = q; from = h; letter = l }

    ys : List (Visit P)
    ys = set xs n (record { position = q; from = h; letter = l })

    q_is : Inside q
    q_is = sound.step_inside (visit g xs h).position l q (inv.entered.inside h b) c e

    old : (k : ℕ) → k < n → visit g ys k ≡ visit g xs k
    unfolding ys
    old k d = get_or-set_other xs n k _ (root g) (omega arith)

    at_new : visit g ys n ≡ record { position = q; from = h; letter = l }
    unfolding ys
    at_new = get_or-set_same xs n _ (root g) room

    -- what holds of each old visit, and of the new one
    every : (F : ℕ → Visit P → Type 0) → ((k : ℕ) → 0 < k → k < n → F k (visit g xs k)) → F n (record { position = q; from = h; letter = l }) → (k : ℕ) → 0 < k → k < n + 1 → F k (visit g ys k)
    every F f z k d o = go (cases_lt k n)
      where
        go : (k < n) ⊎ (n ≤ k) → F k (visit g ys k)
        go (inl r) = subst (F k) (sym (old k r)) (f k d r)
        go (inr r) = let same : n ≡ k = omega arith in subst (λ (x : ℕ). F x (visit g ys x)) same (subst (F n) (sym at_new) z)

    pub new_step : Searched g Inside (set xs n (record { position = q; from = h; letter = l })) (set marks (g.number q) n) (n + 1) h (l + 1)
    unfolding ys
    new_step = record {
      some = omega arith;
      first = ap (λ (v : Visit P). v.position) (old 0 inv.some) ∙ inv.first;
      entered = record { inside = λ k d. isn k d (cases_lt 0 k); marked = λ k r. mark k r (cases_lt k n) };
      back = every (λ k v. v.from < k) (λ k d r. inv.back k d r) b;
      lettered = every (λ k v. v.letter < g.letters) (λ k d r. inv.lettered k d r) c;
      linked = every (λ k v. g.step (visit g ys v.from).position v.letter ≡ Some v.position) (λ k d r. let u = inv.back k d r in ap (λ (v : Visit P). g.step v.position (visit g xs k).letter) (old (visit g xs k).from (omega arith)) ∙ inv.linked k d r) (ap (λ (v : Visit P). g.step v.position l) (old h b) ∙ e);
      ordered = λ i j d r o. order i j d r o;
      found = every (λ k v. Earlier v.from v.letter h (l + 1)) (λ k d r. earlier_next _ _ _ _ (inv.found k d r)) (omega arith, λ _. omega arith);
      expanded = λ j i r p. expand j i r (earlier_last j i h l p);
    }
      where
        mark : (k : ℕ) → k < n + 1 → (k < n) ⊎ (n ≤ k) → get_or (set marks (g.number q) n) (g.number (visit g ys k).position) 0 ≡ k
        mark k r (inl d) =
            let ne : g.number (visit g xs k).position ≢ g.number q = λ s. fresh k d (sound.number_same _ _ (inv.entered.inside k d) q_is s) in
            ap (λ (v : Visit P). get_or (set marks (g.number q) n) (g.number v.position) 0) (old k d) ∙ get_or-set_other marks (g.number q) (g.number (visit g xs k).position) n 0 ne ∙ inv.entered.marked k d
        mark k r (inr d) =
            let same : n ≡ k = omega arith in
            subst (λ (x : ℕ). get_or (set marks (g.number q) n) (g.number (visit g ys x).position) 0 ≡ x) same (ap (λ (v : Visit P). get_or (set marks (g.number q) n) (g.number v.position) 0) at_new ∙ get_or-set_same marks (g.number q) n 0 slot)

        isn : (k : ℕ) → k < n + 1 → (0 < k) ⊎ (k ≤ 0) → Inside (visit g ys k).position
        isn k r (inl d) = every (λ k v. Inside v.position) (λ k d r. inv.entered.inside k r) q_is k d r
        isn k r (inr d) = let z : 0 ≡ k = omega arith in subst (λ (x : ℕ). Inside (visit g ys x).position) z (subst (λ (v : Visit P). Inside v.position) (sym (old 0 inv.some)) (inv.entered.inside 0 inv.some))

        order : (i j : ℕ) → 0 < i → i < j → j < n + 1 → Earlier (visit g ys i).from (visit g ys i).letter (visit g ys j).from (visit g ys j).letter
        order i j d r o = every (λ j v. i < j → Earlier (visit g ys i).from (visit g ys i).letter v.from v.letter) (λ j _ s t. subst (λ (v : Visit P). Earlier v.from v.letter (visit g xs j).from (visit g xs j).letter) (sym (old i (omega arith))) (inv.ordered i j d t s)) (λ t. subst (λ (v : Visit P). Earlier v.from v.letter h l) (sym (old i t)) (inv.found i d t)) j (omega arith) o r

        expand : (j i : ℕ) → i < g.letters → Earlier j i h l ⊎ ((j ≡ h) × (i ≡ l)) → Led g ys (n + 1) j i
        expand j i r (inl p) =
            let x = inv.expanded j i r p in
            let s = p.0 in
            let w = x.1 in
            let eq : g.step (visit g ys j).position i ≡ Some (visit g ys x.0).position = ap (λ (v : Visit P). g.step v.position i) (old j (omega arith)) ∙ x.2 ∙ ap (λ (v : Visit P). Some v.position) (sym (old x.0 x.1)) in
            (x.0, omega arith, eq, λ d. subst (λ (v : Visit P). Earlier v.from v.letter j (i + 1)) (sym (old x.0 x.1)) (x.3 d))
        expand j i r (inr p) =
            let s = p.0 in
            let t = p.1 in
            let eq : g.step (visit g ys j).position i ≡ Some (visit g ys n).position = ap (λ (x : ℕ). g.step (visit g ys x).position i) s ∙ ap (λ (x : ℕ). g.step (visit g ys h).position x) t ∙ ap (λ (v : Visit P). g.step v.position l) (old h b) ∙ e ∙ ap (λ (v : Visit P). Some v.position) (sym at_new) in
            (n, omega arith, eq, λ d. subst (λ (v : Visit P). Earlier v.from v.letter j (i + 1)) (sym at_new) (omega arith, λ _. omega arith))

module _ {P : Type 0} {g : Graph P} {Inside : P → Type 0} {xs : List (Visit P)} {marks : List ℕ} {n h l : ℕ} (inv : Searched g Inside xs marks n h l) (sound : Sound g Inside) where
  number_of : ℕ → ℕ
  number_of k = g.number (visit g xs k).position

  below : (k : ℕ) → k < n → number_of k < g.count
  unfolding number_of
  below k b = sound.number_below _ (inv.entered.inside k b)

  apart : (i j : ℕ) → i < n → j < n → number_of i ≡ number_of j → i ≡ j
  unfolding number_of
  apart i j a b e = sym (inv.entered.marked i a) ∙ ap (λ (x : ℕ). get_or marks x 0) e ∙ inv.entered.marked j b

  -- there are no more visits than numbers
  pub few_visits : n ≤ g.count
  few_visits = pigeonhole g.count n number_of below apart

  -- there is room for a new position
  pub room_for : (q : P) → Inside q → ((k : ℕ) → k < n → (visit g xs k).position ≡ q → ⊥) → n < g.count
  unfolding number_of
  room_for q q_is fresh = pigeonhole_more g.count n number_of (g.number q) below apart (sound.number_below _ q_is) (λ k b e. fresh k b (sound.number_same _ _ (inv.entered.inside k b) q_is (sym e)))
