-- The pair walk meets its goal along a sequence exactly where the outputs differ, and else leads to the pair that the product machine reaches.
use Rattle.std.proofs.Common.{◌≡◌, ℕ, zero, suc, ◌<◌, ◌≤◌, Bool, true, false, cond, List, [], ◌∷◌, length, get_or, take, Some, None, Option, sym, refl, ap, ◌∙◌, subst, arith}
use Rattle.std.proofs.lemmas.List.{length-map, length-take-le, get_or-map, get_or-take}
use Rattle.std.proofs.lemmas.Bool.{both_ways}
use Rattle.machine.specs.Machines.{Machine, step_of}
use Rattle.machine.specs.Sequences.{Letters}
use Rattle.machine.specs.Outputs.{differ, outputs_from, differ_at, Distinguishes, Equivalent, LeastDistinguishing}
use Rattle.machine.specs.Products.{pair, state_from, reset_pair, pair_after, pair_at, LeastTo, ReachablePairs}
use Rattle.machine.specs.declared.pair.Pair.{Pair}
use Rattle.search.specs.Graphs.{and_then, run, LeastGoal, LeastPath}
use Rattle.search.specs.Visits.{visit, root, Exhaustive}
use Rattle.search.specs.declared.visit.Visit.{Visit}
use Rattle.compare.specs.Walks.{pair_graph}
use Rattle.compare.specs.Comparisons.{positions}

pub length_positions : {P : Type 0} (n : ℕ) (xs : List (Visit P)) → n ≤ length xs → length (positions (take n xs)) ≡ n
length_positions n xs fits = length-map (take n xs) _ ∙ length-take-le n xs fits

module _ (m : Machine) (a b : ℕ) where
  -- whether the outputs from the pair p on differ at place k
  abbrev pub differ_from : Pair → List ℕ → ℕ → Bool
  differ_from p s k = differ (get_or (outputs_from m a p.first s) k 0) (get_or (outputs_from m b p.second s) k 0)

  -- the first letter's outputs decide, or the rest does
  met_differs : (s : List ℕ) (p : Pair) → run (pair_graph m a b) p s ≡ None → (k : ℕ) × (k < length s) × (differ_from p s k ≡ true)
  met_differs [] p e = absurd cc
  met_differs (l ∷ s) p e = go (differ (step_of m a p.first l).1 (step_of m b p.second l).1) refl e (met_differs s)
    where
      go : (t : Bool) → differ (step_of m a p.first l).1 (step_of m b p.second l).1 ≡ t → and_then (cond t None (Some (pair (step_of m a p.first l).0 (step_of m b p.second l).0))) (λ q. run (pair_graph m a b) q s) ≡ None → ((q : Pair) → run (pair_graph m a b) q s ≡ None → (k : ℕ) × (k < length s) × (differ_from q s k ≡ true)) → (k : ℕ) × (k < length (l ∷ s)) × (differ_from p (l ∷ s) k ≡ true)
      go true d o ih = (0, omega arith, d)
      go false d o ih = let x = ih _ o in let low = x.1 in (suc x.0, omega arith, x.2)

  differs_met : (s : List ℕ) (p : Pair) (k : ℕ) → k < length s → differ_from p s k ≡ true → run (pair_graph m a b) p s ≡ None
  differs_met [] p k low d = absurd (omega arith)
  differs_met (l ∷ s) p k low d = go (differ (step_of m a p.first l).1 (step_of m b p.second l).1) refl k low d (differs_met s)
    where
      go : (t : Bool) → differ (step_of m a p.first l).1 (step_of m b p.second l).1 ≡ t → (k : ℕ) → k < length (l ∷ s) → differ_from p (l ∷ s) k ≡ true → ((q : Pair) (k : ℕ) → k < length s → differ_from q s k ≡ true → run (pair_graph m a b) q s ≡ None) → and_then (cond t None (Some (pair (step_of m a p.first l).0 (step_of m b p.second l).0))) (λ q. run (pair_graph m a b) q s) ≡ None
      go true e k c d ih = refl
      go false e zero c d ih = absurd (both_ways _ e d)
      go false e (suc k) c d ih = ih _ k (omega arith) d

  run_leads : (s : List ℕ) (p q : Pair) → run (pair_graph m a b) p s ≡ Some q → pair (state_from m a p.first s) (state_from m b p.second s) ≡ q
  run_leads [] p q e = cc
  run_leads (l ∷ s) p q e = go (differ (step_of m a p.first l).1 (step_of m b p.second l).1) e (run_leads s)
    where
      go : (t : Bool) → and_then (cond t None (Some (pair (step_of m a p.first l).0 (step_of m b p.second l).0))) (λ q. run (pair_graph m a b) q s) ≡ Some q → ((p q : Pair) → run (pair_graph m a b) p s ≡ Some q → pair (state_from m a p.first s) (state_from m b p.second s) ≡ q) → pair (state_from m a p.first (l ∷ s)) (state_from m b p.second (l ∷ s)) ≡ q
      go true o ih = absurd cc
      go false o ih = ih _ q o

  pub goal_distinguishes : (s : List ℕ) → Letters m.letters s → run (pair_graph m a b) (reset_pair m a b) s ≡ None → Distinguishes m a b s
  goal_distinguishes s h e = let x = met_differs s (reset_pair m a b) e in record { letters = h; place = x.0; inside = x.1; differs = x.2 }

  pub distinguishes_goal : (s : List ℕ) → Distinguishes m a b s → run (pair_graph m a b) (reset_pair m a b) s ≡ None
  distinguishes_goal s d = differs_met s (reset_pair m a b) d.place d.inside d.differs

  pub least_distinguishing : (s : List ℕ) → LeastGoal (pair_graph m a b) s → LeastDistinguishing m a b s
  least_distinguishing s g = record {
    distinguishes = goal_distinguishes s g.letters g.meets;
    least = λ t d. g.least t d.letters (distinguishes_goal t d);
  }

  -- the first n visits of a search that ran dry
  module _ (xs : List (Visit Pair)) (n : ℕ) (all : Exhaustive (pair_graph m a b) xs n) where
    pub equivalent : Equivalent m a b
    equivalent s h k low = go (differ_at m a b s k) refl
      where
        go : (t : Bool) → differ_at m a b s k ≡ t → t ≡ false
        go true e = absurd (all.never s h (differs_met s (reset_pair m a b) k low e))
        go false e = refl

    leads_run : (s : List ℕ) (p : Pair) → Letters m.letters s → pair_after m a b s ≡ p → run (pair_graph m a b) (reset_pair m a b) s ≡ Some p
    leads_run s p h e = go (run (pair_graph m a b) (reset_pair m a b) s) refl
      where
        go : (o : Option Pair) → run (pair_graph m a b) (reset_pair m a b) s ≡ o → o ≡ Some p
        go None r = absurd (all.never s h r)
        go (Some q) r = ap Some (sym (run_leads s (reset_pair m a b) q r) ∙ e)

    least_to : (s : List ℕ) (p : Pair) → LeastPath (pair_graph m a b) p s → LeastTo m a b p s
    least_to s p l = record {
      letters = l.letters;
      leads = run_leads s (reset_pair m a b) p l.leads;
      least = λ t h e. l.least t h (leads_run t p h e);
    }

    least_path : (s : List ℕ) (p : Pair) → LeastTo m a b p s → LeastPath (pair_graph m a b) p s
    least_path s p l = record {
      letters = l.letters;
      leads = leads_run s p l.letters l.leads;
      least = λ t h e. l.least t h (run_leads t (reset_pair m a b) p e);
    }

    qs : List Pair
    qs = positions (take n xs)

    length_qs : length qs ≡ n
    unfolding qs
    length_qs = length_positions n xs all.fits

    qs_at : (k : ℕ) → k < n → pair_at m a b qs k ≡ (visit (pair_graph m a b) xs k).position
    unfolding qs
    qs_at k low =
        let short = length-take-le n xs all.fits in
        get_or-map (λ v. v.position) (take n xs) k (root (pair_graph m a b)) (reset_pair m a b) (omega arith)
        ∙ ap (λ (v : Visit Pair). v.position) (get_or-take n xs k (root (pair_graph m a b)) low)

    pub reachable_pairs : ReachablePairs m a b (positions (take n xs))
    unfolding qs
    reachable_pairs = record {
      every = λ s h.
          let x = all.every s (pair_after m a b s) h (leads_run s (pair_after m a b s) h refl) in
          let low = x.1 in
          (x.0, omega (arith, length_qs), qs_at x.0 low ∙ x.2);
      reached = λ k low.
          let small : k < n = omega (arith, length_qs) in
          let x = all.reached k small in
          (x.0, subst (λ (p : Pair). LeastTo m a b p x.0) (sym (qs_at k small)) (least_to x.0 _ x.1));
      once = λ i j c d e.
          let u : i < n = omega (arith, length_qs) in
          let v : j < n = omega (arith, length_qs) in
          all.once i j u v (sym (qs_at i u) ∙ e ∙ qs_at j v);
      in_order = λ i j s t r d x y.
          let v : j < n = omega (arith, length_qs) in
          let u : i < n = omega arith in
          all.in_order i j s t r v
          (subst (λ (p : Pair). LeastPath (pair_graph m a b) p s) (qs_at i u) (least_path s _ x))
          (subst (λ (p : Pair). LeastPath (pair_graph m a b) p t) (qs_at j v) (least_path t _ y));
    }
