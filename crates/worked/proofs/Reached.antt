-- The reachable pairs by a closed list and the least sequence to each.
use Rattle.std.proofs.Common.{◌≡◌, ℕ, zero, suc, ◌<◌, Bool, true, false, ◌&&◌, ◌||◌, eqb, ltb, ◌⊎◌, List, [], ◌∷◌, length, get_or, None, sym, subst, inl, inr, arith}
use Rattle.std.proofs.lemmas.Bool.{and_parts, or_cases, ltb-true, eqb-true, cases_order}
use Rattle.machine.specs.Lists.{all}
use Rattle.machine.specs.Machines.{Machine}
use Rattle.machine.specs.Products.{pair, state_from, reset_pair, pair_after, pair_at, LeastTo, ReachablePairs}
use Rattle.machine.specs.Sequences.{Letters, Lexical, Before}
use Rattle.machine.specs.declared.pair.Pair.{Pair}
use Rattle.machine.proofs.All.{all_at}
use Rattle.machine.proofs.Orders.{before_irreflexive, at_most_antisymmetric}
use Rattle.compare.specs.Checks.{listed, next_pair, flaw_at_places}
use Rattle.compare.proofs.Flaws.{places_good}
use Rattle.compare.proofs.Tables.{same_pair, same_pair_is}
use Rattle.worked.proofs.Ways.{all_least, all_least_at, all_least_length}

-- whether s stands before t
abbrev pub lexical_test : List ℕ → List ℕ → Bool
lexical_test [] t = false
lexical_test (x ∷ s) [] = false
lexical_test (x ∷ s) (y ∷ t) = ltb x y || (eqb x y && lexical_test s t)

abbrev pub before_test : List ℕ → List ℕ → Bool
before_test s t = ltb (length s) (length t) || (eqb (length s) (length t) && lexical_test s t)

lexical_sound : (s t : List ℕ) → lexical_test s t ≡ true → Lexical s t
lexical_sound [] t e = absurd cc
lexical_sound (x ∷ s) [] e = absurd cc
lexical_sound (x ∷ s) (y ∷ t) e = go (or_cases (ltb x y) (eqb x y && lexical_test s t) e) (lexical_sound s t)
  where
    go : (ltb x y ≡ true) ⊎ ((eqb x y && lexical_test s t) ≡ true) → (lexical_test s t ≡ true → Lexical s t) → Lexical (x ∷ s) (y ∷ t)
    go (inl h) ih = inl (ltb-true x y h)
    go (inr h) ih = let p = and_parts (eqb x y) (lexical_test s t) h in inr (eqb-true x y p.0, ih p.1)

before_sound : (s t : List ℕ) → before_test s t ≡ true → Before s t
before_sound s t e = go (or_cases (ltb (length s) (length t)) (eqb (length s) (length t) && lexical_test s t) e)
  where
    go : (ltb (length s) (length t) ≡ true) ⊎ ((eqb (length s) (length t) && lexical_test s t) ≡ true) → Before s t
    go (inl h) = inl (ltb-true (length s) (length t) h)
    go (inr h) = let p = and_parts (eqb (length s) (length t)) (lexical_test s t) h in inr (eqb-true (length s) (length t) p.0, lexical_sound s t p.1)

-- each stands before all that follow
abbrev pub sorted : List (List ℕ) → Bool
sorted [] = true
sorted (w ∷ ws) = all (before_test w) ws && sorted ws

sorted_at : (ws : List (List ℕ)) → sorted ws ≡ true → (i j : ℕ) → i < j → j < length ws → Before (get_or ws i []) (get_or ws j [])
sorted_at [] e i j r h = absurd (omega arith)
sorted_at (w ∷ ws) e i zero r h = absurd (omega arith)
sorted_at (w ∷ ws) e zero (suc j) r h = before_sound w (get_or ws j []) (all_at (before_test w) ws j [] (omega arith) (and_parts (all (before_test w) ws) (sorted ws) e).0)
sorted_at (w ∷ ws) e (suc i) (suc j) r h = sorted_at ws (and_parts (all (before_test w) ws) (sorted ws) e).1 i j (omega arith) (omega arith)

listed_index : (ps : List Pair) (p d : Pair) → listed ps p ≡ true → (k : ℕ) × (k < length ps) × (get_or ps k d ≡ p)
listed_index [] p d e = absurd cc
listed_index (q ∷ ps) p d e = go (or_cases (same_pair q p) (listed ps p) e) (listed_index ps p d)
  where
    go : (same_pair q p ≡ true) ⊎ (listed ps p ≡ true) → (listed ps p ≡ true → (k : ℕ) × (k < length ps) × (get_or ps k d ≡ p)) → (k : ℕ) × (k < length (q ∷ ps)) × (get_or (q ∷ ps) k d ≡ p)
    go (inl h) ih = (0, omega arith, same_pair_is q p h)
    go (inr h) ih = let x = ih h in let low = x.1 in (suc x.0, omega arith, x.2)

module _ (m : Machine) (a b : ℕ) (ps : List Pair) (ws : List (List ℕ))
    (has_reset : listed ps (reset_pair m a b) ≡ true)
    (closed : flaw_at_places m a b (listed ps) 0 ps ≡ None)
    (ways : all_least m a b ps ws ≡ true)
    (ordered : sorted ws ≡ true) where
  size : length ws ≡ length ps
  size = all_least_length m a b ps ws ways

  least : (k : ℕ) → k < length ps → LeastTo m a b (pair_at m a b ps k) (get_or ws k [])
  least = all_least_at m a b ps ws ways

  stays : (s : List ℕ) (p : Pair) → listed ps p ≡ true → Letters m.letters s → listed ps (pair (state_from m a p.first s) (state_from m b p.second s)) ≡ true
  stays [] p h c = h
  stays (l ∷ s) p h c = stays s (next_pair m a b p l) (places_good m a b (listed ps) ps 0 closed p h l c.0).1 c.1

  least_same : (p : Pair) (s t : List ℕ) → LeastTo m a b p s → LeastTo m a b p t → s ≡ t
  least_same p s t x y = at_most_antisymmetric s t (x.least t y.letters y.leads) (y.least s x.letters x.leads)

  in_order : (i j : ℕ) (s t : List ℕ) → i < j → j < length ps → LeastTo m a b (pair_at m a b ps i) s → LeastTo m a b (pair_at m a b ps j) t → Before s t
  in_order i j s t r h x y =
      let u = least_same _ (get_or ws i []) s (least i (omega arith)) x in
      let v = least_same _ (get_or ws j []) t (least j h) y in
      subst (λ (k : List ℕ). Before k t) u (subst (λ (k : List ℕ). Before (get_or ws i []) k) v (sorted_at ws ordered i j r (omega (arith, size))))

  apart : (i j : ℕ) → i < j → j < length ps → pair_at m a b ps i ≡ pair_at m a b ps j → ⊥
  apart i j r h e =
      let x = least i (omega arith) in
      before_irreflexive (get_or ws i []) (in_order i j (get_or ws i []) (get_or ws i []) r h x (subst (λ (p : Pair). LeastTo m a b p (get_or ws i [])) e x))

  pub reachable_by_test : ReachablePairs m a b ps
  reachable_by_test = record {
    every = λ s c. listed_index ps (pair_after m a b s) (reset_pair m a b) (stays s (reset_pair m a b) has_reset c);
    reached = λ k h. (get_or ws k [], least k h);
    once = λ i j h c e. one i j h c e (cases_order i j);
    in_order = in_order;
  }
    where
      one : (i j : ℕ) → i < length ps → j < length ps → pair_at m a b ps i ≡ pair_at m a b ps j → (i ≡ j) ⊎ ((i < j) ⊎ (j < i)) → i ≡ j
      one i j h c e (inl same) = same
      one i j h c e (inr (inl r)) = absurd (apart i j r c e)
      one i j h c e (inr (inr r)) = absurd (apart j i r h (sym e))
