-- The law of each walk, which the trait asks for: start and steps stay inside, and positions are numbered apart.
use Rattle.std.specs.Prelude.{◌≡◌, ℕ, ◌*◌, ◌/◌, ◌%◌, ◌<◌, ◌≤◌, Bool, true, false, if◌then◌else◌, Some, None, ◌==◌}
use Rattle.std.proofs.Common.{sym, ap, subst, ◌∙◌, arith, mul-le-mul}
use Rattle.std.proofs.Math.Arith.{digits_lt, digits_div, digits_mod}
use Rattle.machine.specs.Machines.{Machine, Sound, step_of}
use Rattle.machine.proofs.Ranges.{reset_below, next_below}
use Rattle.machine.specs.Outputs.{differ}
use Rattle.machine.specs.Products.{pair}
use Rattle.machine.specs.declared.pair.Pair.{Pair}
use Rattle.search.specs.Graphs.{Sound as WalkSound}
use Rattle.compare.specs.Walks.{pair_number, pair_step, pair_graph, PairInside, state_step, state_graph}

-- pairs of states below n are numbered apart, below n * n
pub pair_number_same : (n : ℕ) (p q : Pair) → p.second < n → q.second < n → pair_number n p ≡ pair_number n q → p ≡ q
pair_number_same n p q h k e =
    let x : p.first ≡ q.first = sym (digits_div p.first h) ∙ ap (λ (i : ℕ). i / n) e ∙ digits_div q.first k in
    let y : p.second ≡ q.second = sym (digits_mod p.first h) ∙ ap (λ (i : ℕ). i % n) e ∙ digits_mod q.first k in
    ap (λ (i : ℕ). pair i p.second) x ∙ ap (pair q.first) y

pub pair_number_below : (n : ℕ) (p : Pair) → p.first < n → p.second < n → pair_number n p < n * n
pair_number_below n p h k = digits_lt h k

-- a device has at most 65,536 pairs
pub few_pairs : (m : Machine) → Sound m → m.states * m.states ≤ 65536
few_pairs m sound = mul-le-mul sound.few_states sound.few_states

module _ (m : Machine) (sound : Sound m) (a b : ℕ) where
  stepped : (p : Pair) (l : ℕ) (q : Pair) → pair_step m a b p l ≡ Some q → PairInside m q
  stepped p l q e = go (differ (step_of m a p.first l).1 (step_of m b p.second l).1) e
    where
      go : (t : Bool) → (if t then None else Some (pair (step_of m a p.first l).0 (step_of m b p.second l).0)) ≡ Some q → PairInside m q
      go true o = absurd cc
      go false o =
          let x : (step_of m a p.first l).0 ≡ q.first = cc in
          let y : (step_of m b p.second l).0 ≡ q.second = cc in
          (subst (λ (n : ℕ). n < m.states) x (next_below m sound a p.first l), subst (λ (n : ℕ). n < m.states) y (next_below m sound b p.second l))

  pub pair_sound : WalkSound (pair_graph m a b) (PairInside m)
  pair_sound = record {
    start_inside = (reset_below m sound a, reset_below m sound b);
    step_inside = λ p l q i c e. stepped p l q e;
    number_same = λ p q h k e. pair_number_same m.states p q h.1 k.1 e;
    number_below = λ p h. pair_number_below m.states p h.0 h.1;
    count_fits = omega (arith, few_pairs m sound);
  }

module _ (m : Machine) (sound : Sound m) (a wanted : ℕ) where
  arrived : (p l q : ℕ) → state_step m a wanted p l ≡ Some q → q < m.states
  arrived p l q e = go ((step_of m a p l).0 == wanted) e
    where
      go : (t : Bool) → (if t then None else Some (step_of m a p l).0) ≡ Some q → q < m.states
      go true o = absurd cc
      go false o = let x : (step_of m a p l).0 ≡ q = cc in subst (λ (n : ℕ). n < m.states) x (next_below m sound a p l)

  pub state_sound : WalkSound (state_graph m a wanted) (λ q. q < m.states)
  state_sound = record {
    start_inside = reset_below m sound a;
    step_inside = λ p l q i c e. arrived p l q e;
    number_same = λ p q h k e. e;
    number_below = λ p h. h;
    count_fits = let few = sound.few_states in omega arith;
  }
