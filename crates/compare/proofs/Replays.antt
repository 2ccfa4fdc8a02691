-- A replay, letter by letter.
use Rattle.std.proofs.Common.{◌≡◌, ℕ, ◌+◌, Bool, true, false, cond, List, ◌∷◌, Some, None, Option, refl, ap}
use Rattle.machine.specs.Machines.{Machine, step_of}
use Rattle.machine.specs.Outputs.{differ, outputs_from, difference_from}
use Rattle.machine.specs.Products.{pair}
use Rattle.machine.specs.declared.pair.Pair.{Pair}
use Rattle.compare.specs.Walks.{pair_step}

-- the first difference along s, counted from k on, from the pair p on
abbrev pub left : Machine → ℕ → ℕ → ℕ → Pair → List ℕ → Option ℕ
left m a b k p s = difference_from k (outputs_from m a p.first s) (outputs_from m b p.second s)

module _ (m : Machine) (a b k : ℕ) (p : Pair) (l : ℕ) (s : List ℕ) where
  pub left_differs : pair_step m a b p l ≡ None → left m a b k p (l ∷ s) ≡ Some k
  left_differs e = go (differ (step_of m a p.first l).1 (step_of m b p.second l).1) e
    where
      go : (t : Bool) → cond t None (Some (pair (step_of m a p.first l).0 (step_of m b p.second l).0)) ≡ None → cond t (Some k) (left m a b (k + 1) (pair (step_of m a p.first l).0 (step_of m b p.second l).0) s) ≡ Some k
      go true o = refl
      go false o = absurd cc

  pub left_same : (q : Pair) → pair_step m a b p l ≡ Some q → left m a b k p (l ∷ s) ≡ left m a b (k + 1) q s
  left_same q e = go (differ (step_of m a p.first l).1 (step_of m b p.second l).1) e
    where
      go : (t : Bool) → cond t None (Some (pair (step_of m a p.first l).0 (step_of m b p.second l).0)) ≡ Some q → cond t (Some k) (left m a b (k + 1) (pair (step_of m a p.first l).0 (step_of m b p.second l).0) s) ≡ left m a b (k + 1) q s
      go true o = absurd cc
      go false o = let e : pair (step_of m a p.first l).0 (step_of m b p.second l).0 ≡ q = cc in ap (λ (r : Pair). left m a b (k + 1) r s) e
