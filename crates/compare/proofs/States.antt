-- The state walk meets its goal along a sequence exactly where a front of the sequence leads to the wanted state.
use Rattle.std.proofs.Common.{◌≡◌, ℕ, Bool, true, false, cond, eqb, List, [], ◌∷◌, ◌++◌, length, Some, None, refl, ap, ◌∙◌, subst, inl, inr, append-nil, arith, length-append}
use Rattle.std.proofs.lemmas.List.{nil_from_length}
use Rattle.std.proofs.lemmas.Bool.{eqb-true, eqb-false}
use Rattle.machine.specs.Machines.{Machine, reset_of, step_of}
use Rattle.machine.specs.Sequences.{Letters, AtMost}
use Rattle.machine.specs.Products.{state_from, LeastWay, NeverReached}
use Rattle.search.specs.Graphs.{and_then, run, LeastGoal}
use Rattle.search.specs.Visits.{Exhaustive}
use Rattle.search.specs.declared.visit.Visit.{Visit}
use Rattle.compare.specs.Walks.{state_graph}

front_letters : (n : ℕ) (s t : List ℕ) → Letters n (s ++ t) → Letters n s
front_letters n [] t h = tt
front_letters n (l ∷ s) t h = (h.0, front_letters n s t h.1)

-- a front that is no later than the whole is the whole
front_whole : (s t : List ℕ) → AtMost (s ++ t) s → s ++ t ≡ s
front_whole s t (inl e) = e
front_whole s t (inr (inl h)) = absurd (omega (arith, length-append s t))
front_whole s t (inr (inr h)) =
    let same = h.0 in
    let none : length t ≡ 0 = omega (arith, length-append s t) in
    ap (λ (u : List ℕ). s ++ u) (nil_from_length t none) ∙ append-nil s

module _ (m : Machine) (a q : ℕ) where
  -- a front that leads to q, and meets the goal by itself
  Arrives : ℕ → List ℕ → Type 0
  Arrives p s = (u : List ℕ) × (v : List ℕ) × (s ≡ u ++ v) × (state_from m a p u ≡ q) × (run (state_graph m a q) p u ≡ None)

  met_arrives : (s : List ℕ) (p : ℕ) → run (state_graph m a q) p s ≡ None → Arrives p s
  unfolding Arrives
  met_arrives [] p e = absurd cc
  met_arrives (l ∷ s) p e = go (eqb (step_of m a p l).0 q) refl e (met_arrives s)
    where
      next : ℕ
      next = (step_of m a p l).0

      go : (t : Bool) → eqb (step_of m a p l).0 q ≡ t → and_then (cond t None (Some (step_of m a p l).0)) (λ x. run (state_graph m a q) x s) ≡ None → ((x : ℕ) → run (state_graph m a q) x s ≡ None → Arrives x s) → Arrives p (l ∷ s)
      go true t o ih = (l ∷ [], s, refl, eqb-true _ _ t, ap (λ x. and_then (cond x None (Some (step_of m a p l).0)) (λ y. run (state_graph m a q) y [])) t)
      go false t o ih =
          let x = ih (step_of m a p l).0 o in
          (l ∷ x.0, x.1, ap (λ (u : List ℕ). l ∷ u) x.2, x.3, ap (λ z. and_then (cond z None (Some (step_of m a p l).0)) (λ y. run (state_graph m a q) y x.0)) t ∙ x.4)

  leads_met : (s : List ℕ) (p : ℕ) → (p ≡ q → ⊥) → state_from m a p s ≡ q → run (state_graph m a q) p s ≡ None
  leads_met [] p off e = absurd (off e)
  leads_met (l ∷ s) p off e = go (eqb (step_of m a p l).0 q) refl (leads_met s)
    where
      go : (t : Bool) → eqb (step_of m a p l).0 q ≡ t → ((x : ℕ) → (x ≡ q → ⊥) → state_from m a x s ≡ q → run (state_graph m a q) x s ≡ None) → and_then (cond t None (Some (step_of m a p l).0)) (λ x. run (state_graph m a q) x s) ≡ None
      go true t ih = refl
      go false t ih = ih (step_of m a p l).0 (eqb-false _ _ t) e

  module _ (off : reset_of m a ≡ q → ⊥) where
    pub least_way : (s : List ℕ) → LeastGoal (state_graph m a q) s → LeastWay m a q s
    unfolding Arrives
    least_way s g =
        let x = met_arrives s (reset_of m a) g.meets in
        let letters = front_letters m.letters x.0 x.1 (subst (Letters m.letters) x.2 g.letters) in
        let whole = front_whole x.0 x.1 (subst (λ (u : List ℕ). AtMost u x.0) x.2 (g.least x.0 letters x.4)) in
        record {
          letters = g.letters;
          leads = ap (state_from m a (reset_of m a)) (x.2 ∙ whole) ∙ x.3;
          least = λ t h e. g.least t h (leads_met t (reset_of m a) off e);
        }

    pub never_reached : (xs : List (Visit ℕ)) (n : ℕ) → Exhaustive (state_graph m a q) xs n → NeverReached m a q
    never_reached xs n all s h e = all.never s h (leads_met s (reset_of m a) off e)

-- the reset state is reached by no letters
pub empty_way : (m : Machine) (a q : ℕ) → reset_of m a ≡ q → LeastWay m a q []
empty_way m a q e = record { letters = tt; leads = e; least = λ t h o. shortest t }
  where
    shortest : (t : List ℕ) → AtMost [] t
    shortest [] = inl refl
    shortest (l ∷ t) = inr (inl (omega arith))
