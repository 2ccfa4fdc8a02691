-- From what the search keeps of its visits: the sequence of each is the least that leads there, and the first that meets the goal is the least that does.
use Rattle.std.proofs.Common.{◌≡◌, ℕ, zero, suc, ◌+◌, ◌<◌, ◌≤◌, ◌⊎◌, List, [], ◌∷◌, ◌++◌, length, get_or, Some, None, sym, refl, ap, ◌∙◌, subst, inl, inr, arith}
use Rattle.std.proofs.lemmas.List.{length_push}
use Rattle.std.proofs.lemmas.Bool.{cases_lt, cases_order}
use Rattle.machine.specs.Sequences.{Before, AtMost}
use Rattle.machine.proofs.Orders.{before_push, before_last, at_most_trans, at_most_push, at_most_longer}
use Rattle.search.specs.Graphs.{Graph}
use Rattle.search.specs.Visits.{root, visit, path, Chained, Earlier, Searched}
use Rattle.search.specs.declared.visit.Visit.{Visit}
use Rattle.search.proofs.Paths.{from_at_is, path_is}
use Rattle.search.proofs.Reaches.{Reach, begin, onward, Meets, met}

-- a pair is tried before another or not
pub earlier_or_not : (a b c d : ℕ) → Earlier a b c d ⊎ Earlier c d a (b + 1)
earlier_or_not a b c d = go (cases_order a c) (cases_lt b d)
  where
    go : (a ≡ c) ⊎ ((a < c) ⊎ (c < a)) → (b < d) ⊎ (d ≤ b) → Earlier a b c d ⊎ Earlier c d a (b + 1)
    go (inl e) (inl h) = inl (omega arith, λ _. h)
    go (inl e) (inr h) = inr (omega arith, λ _. omega arith)
    go (inr (inl k)) _ = inl (omega arith, λ e. omega arith)
    go (inr (inr k)) _ = inr (omega arith, λ e. omega arith)

module _ {P : Type 0} {g : Graph P} {Inside : P → Type 0} {xs : List (Visit P)} {marks : List ℕ} {n h l : ℕ} (inv : Searched g Inside xs marks n h l) (fits : n ≤ length xs) where
  pub chained : Chained xs n
  chained k c b = let a = inv.back k c b in omega (arith, from_at_is xs k (root g) (omega arith))

  path_next : (k : ℕ) → 0 < k → k < n → path xs k ≡ path xs (visit g xs k).from ++ (visit g xs k).letter ∷ []
  path_next k c b = path_is xs n chained k (root g) (omega arith) c b

  -- the sequences rise with the place
  path_rises : (f i j : ℕ) → j < f → i < j → j < n → Before (path xs i) (path xs j)
  path_rises zero i j a r b = absurd (omega arith)
  path_rises (suc f) i j a r b = go (cases_lt 0 i) (path_rises f)
    where
      c : 0 < j
      c = omega arith

      links : (0 < i) → ((visit g xs i).from < (visit g xs j).from) ⊎ (((visit g xs i).from ≡ (visit g xs j).from) × ((visit g xs i).letter < (visit g xs j).letter)) → ((x y : ℕ) → y < f → x < y → y < n → Before (path xs x) (path xs y)) → Before (path xs i) (path xs j)
      links d (inl k) ih =
          let u = inv.back j c b in
          let step = before_push (path xs (visit g xs i).from) (path xs (visit g xs j).from) (visit g xs i).letter (visit g xs j).letter (ih (visit g xs i).from (visit g xs j).from (omega arith) k (omega arith)) in
          subst (λ (s : List ℕ). Before s (path xs j)) (sym (path_next i d (omega arith)))
          (subst (λ (s : List ℕ). Before (path xs (visit g xs i).from ++ (visit g xs i).letter ∷ []) s) (sym (path_next j c b)) step)
      links d (inr k) ih =
          let step = before_last (path xs (visit g xs j).from) (visit g xs i).letter (visit g xs j).letter k.1 in
          let same = path_next i d (omega arith) ∙ ap (λ (x : ℕ). path xs x ++ (visit g xs i).letter ∷ []) k.0 in
          subst (λ (s : List ℕ). Before s (path xs j)) (sym same)
          (subst (λ (s : List ℕ). Before (path xs (visit g xs j).from ++ (visit g xs i).letter ∷ []) s) (sym (path_next j c b)) step)

      split : (x y u v : ℕ) → Earlier x y u v → (x < u) ⊎ ((x ≡ u) × (y < v))
      split x y u v p = at (cases_order x u)
        where
          at : (x ≡ u) ⊎ ((x < u) ⊎ (u < x)) → (x < u) ⊎ ((x ≡ u) × (y < v))
          at (inl e) = inr (e, p.1 e)
          at (inr (inl k)) = inl k
          at (inr (inr k)) = absurd (omega (arith, p.0))

      go : (0 < i) ⊎ (i ≤ 0) → ((x y : ℕ) → y < f → x < y → y < n → Before (path xs x) (path xs y)) → Before (path xs i) (path xs j)
      go (inl d) ih = links d (split _ _ _ _ (inv.ordered i j d r b)) ih
      go (inr d) ih =
          let e : i ≡ 0 = omega arith in
          let long = ap length (path_next j c b) ∙ length_push (path xs (visit g xs j).from) (visit g xs j).letter in
          let none = ap (λ (x : ℕ). length (path xs x)) e in
          inl (omega arith)

  pub path_less : (i j : ℕ) → i < j → j < n → Before (path xs i) (path xs j)
  path_less i j r b = path_rises (suc j) i j (omega arith) r b

  -- the sequence of a visit leads to its position
  reaches : (f k : ℕ) → k < f → k < n → Reach g (path xs k) (visit g xs k).position
  reaches zero k a b = absurd (omega arith)
  reaches (suc f) k a b = go (cases_lt 0 k) (reaches f)
    where
      go : (0 < k) ⊎ (k ≤ 0) → ((x : ℕ) → x < f → x < n → Reach g (path xs x) (visit g xs x).position) → Reach g (path xs k) (visit g xs k).position
      go (inl c) ih =
          let u = inv.back k c b in
          subst (λ (s : List ℕ). Reach g s (visit g xs k).position) (sym (path_next k c b)) (onward (ih (visit g xs k).from (omega arith) (omega arith)) (inv.lettered k c b) (inv.linked k c b))
      go (inr c) ih =
          let e : k ≡ 0 = omega arith in
          subst (λ (x : ℕ). Reach g (path xs x) (visit g xs x).position) (sym e) (subst (λ (p : P). Reach g [] p) (sym inv.first) begin)

  pub path_reach : (k : ℕ) → k < n → Reach g (path xs k) (visit g xs k).position
  path_reach k b = reaches (suc k) k (omega arith) b

  -- an earlier pair has the lesser sequence
  pub pair_at_most : (i a j b : ℕ) → j < n → Earlier i a j (b + 1) → AtMost (path xs i ++ a ∷ []) (path xs j ++ b ∷ [])
  pair_at_most i a j b m p = go (cases_order i j) (cases_order a b)
    where
      go : (i ≡ j) ⊎ ((i < j) ⊎ (j < i)) → (a ≡ b) ⊎ ((a < b) ⊎ (b < a)) → AtMost (path xs i ++ a ∷ []) (path xs j ++ b ∷ [])
      go (inl e) (inl c) = inl (ap (λ (x : ℕ). path xs x ++ a ∷ []) e ∙ ap (λ (x : ℕ). path xs j ++ x ∷ []) c)
      go (inl e) (inr (inl c)) = inr (subst (λ (x : ℕ). Before (path xs x ++ a ∷ []) (path xs j ++ b ∷ [])) (sym e) (before_last (path xs j) a b c))
      go (inl e) (inr (inr c)) = absurd (omega (arith, p.1 e))
      go (inr (inl k)) _ = inr (before_push (path xs i) (path xs j) a b (path_less i j k m))
      go (inr (inr k)) _ = absurd (omega (arith, p.0))

  -- a visit found by (j, i) or before it
  found_at_most : (m j i : ℕ) → m < n → j < n → (0 < m → Earlier (visit g xs m).from (visit g xs m).letter j (i + 1)) → AtMost (path xs m) (path xs j ++ i ∷ [])
  found_at_most m j i b c p = go (cases_lt 0 m)
    where
      go : (0 < m) ⊎ (m ≤ 0) → AtMost (path xs m) (path xs j ++ i ∷ [])
      go (inl d) = subst (λ (s : List ℕ). AtMost s (path xs j ++ i ∷ [])) (sym (path_next m d b)) (pair_at_most (visit g xs m).from (visit g xs m).letter j i c (p d))
      go (inr d) =
          let e : m ≡ 0 = omega arith in
          let none = ap (λ (x : ℕ). length (path xs x)) e in
          inr (inl (omega (arith, length_push (path xs j) i)))

  Covered : List ℕ → P → Type 0
  Covered u p = ((k : ℕ) × (k < n) × ((visit g xs k).position ≡ p) × AtMost (path xs k) u) ⊎ ((k : ℕ) × (i : ℕ) × (k < n) × Earlier h l k (i + 1) × AtMost (path xs k ++ i ∷ []) u)

  -- each sequence that leads somewhere leads to a visit with a sequence no greater, or passes a pair that is yet to come
  covered : {u : List ℕ} {p : P} → Reach g u p → Covered u p
  unfolding Covered
  covered begin = inl (0, inv.some, inv.first, inl refl)
  covered (onward {s = s} {p = p} {l = i} {q = q} r c e) = more (covered r)
    where
      pair : (k : ℕ) → k < n → (visit g xs k).position ≡ p → AtMost (path xs k) s → Earlier k i h l ⊎ Earlier h l k (i + 1) → Covered (s ++ i ∷ []) q
      pair k b w z (inl y) =
          let x = inv.expanded k i c y in
          let same : Some (visit g xs x.0).position ≡ Some q = sym x.2 ∙ ap (λ (v : P). g.step v i) w ∙ e in
          inl (x.0, x.1, cc, at_most_trans (path xs x.0) (path xs k ++ i ∷ []) (s ++ i ∷ []) (found_at_most x.0 k i x.1 b x.3) (at_most_push (path xs k) s i z))
      pair k b w z (inr y) = inr (k, i, b, y, at_most_push (path xs k) s i z)

      more : Covered s p → Covered (s ++ i ∷ []) q
      more (inl y) = pair y.0 y.1 y.2 y.3 (earlier_or_not y.0 i h l)
      more (inr y) = inr (y.0, y.1, y.2, y.3, at_most_longer (path xs y.0 ++ y.1 ∷ []) s i y.4)

  none_some : (p : P) → None ≡ Some p → ⊥
  none_some p y = cc

  -- where the pair at hand meets the goal, no sequence that meets it stands before its own
  pub goal_least : h < n → {t : List ℕ} → Meets g t → AtMost (path xs h ++ l ∷ []) t
  unfolding Covered
  goal_least b (met {s = s} {p = p} {l = i} r a o) = go (covered r)
    where
      pair : (k : ℕ) → k < n → (visit g xs k).position ≡ p → AtMost (path xs k) s → Earlier k i h l ⊎ Earlier h l k (i + 1) → AtMost (path xs h ++ l ∷ []) (s ++ i ∷ [])
      pair k w y z (inl x) =
          let v = inv.expanded k i a x in
          let same = sym o ∙ ap (λ (u : P). g.step u i) (sym y) ∙ v.2 in
          absurd (none_some _ same)
      pair k w y z (inr x) = at_most_trans (path xs h ++ l ∷ []) (path xs k ++ i ∷ []) (s ++ i ∷ []) (pair_at_most h l k i w x) (at_most_push (path xs k) s i z)

      go : Covered s p → AtMost (path xs h ++ l ∷ []) (s ++ i ∷ [])
      go (inl y) = pair y.0 y.1 y.2 y.3 (earlier_or_not y.0 i h l)
      go (inr y) = at_most_longer (path xs h ++ l ∷ []) s i (at_most_trans (path xs h ++ l ∷ []) (path xs y.0 ++ y.1 ∷ []) s (pair_at_most h l y.0 y.1 y.2 y.3) y.4)

  pub apart : (i j : ℕ) → i < n → j < n → (visit g xs i).position ≡ (visit g xs j).position → i ≡ j
  apart i j a b e = sym (inv.entered.marked i a) ∙ ap (λ (p : P). get_or marks (g.number p) 0) e ∙ inv.entered.marked j b

  -- no pair is left: every sequence that leads somewhere leads to a visit with a sequence no greater
  pub all_covered : n ≤ h → {t : List ℕ} {p : P} → Reach g t p → (k : ℕ) × (k < n) × ((visit g xs k).position ≡ p) × AtMost (path xs k) t
  unfolding Covered
  all_covered o {t} {p} r = go (covered r)
    where
      go : Covered t p → (k : ℕ) × (k < n) × ((visit g xs k).position ≡ p) × AtMost (path xs k) t
      go (inl y) = y
      go (inr y) = let a = y.2 in let b = y.3.0 in absurd (omega arith)

  pub none_meets : n ≤ h → {t : List ℕ} → Meets g t → ⊥
  none_meets o (met {s = s} {p = p} {l = i} r a e) =
      let x = all_covered o r in
      let b = x.1 in
      let v = inv.expanded x.0 i a (omega arith, λ y. absurd (omega arith)) in
      let same : None ≡ Some (visit g xs v.0).position = sym e ∙ ap (λ (u : P). g.step u i) (sym x.2) ∙ v.2 in
      none_some _ same

  pub path_least : n ≤ h → (k : ℕ) → k < n → {t : List ℕ} → Reach g t (visit g xs k).position → AtMost (path xs k) t
  path_least o k b {t} r = let x = all_covered o r in subst (λ (j : ℕ). AtMost (path xs j) t) (apart x.0 k x.1 b x.2) x.3
