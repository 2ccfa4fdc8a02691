-- The walks over a device: what each means, and that it is sound.
use Rattle.std.specs.Prelude.{ℕ, ◌+◌, ◌*◌, ◌<◌, Some, None, Option, ◌==◌, if◌then◌else◌}
use Rattle.machine.specs.Machines.{Machine, reset_of, step_of}
use Rattle.machine.specs.Outputs.{differ}
use Rattle.machine.specs.Products.{pair, reset_pair}
use Rattle.machine.specs.declared.pair.Pair.{Pair}
use Rattle.search.specs.Graphs.{Graph}

-- where a letter leads from a pair of states of a and b: to the goal where the outputs differ
abbrev pub pair_step : Machine → ℕ → ℕ → Pair → ℕ → Option Pair
pair_step m a b p l = if differ (step_of m a p.first l).1 (step_of m b p.second l).1 then None else Some (pair (step_of m a p.first l).0 (step_of m b p.second l).0)

-- the number of a pair of states, of which there are n
abbrev pub pair_number : ℕ → Pair → ℕ
pair_number n p = p.first * n + p.second

-- the walk over the product machine of a and b, from the reset pair
abbrev pub pair_graph : Machine → ℕ → ℕ → Graph Pair
pair_graph m a b = record {
  start = reset_pair m a b;
  letters = m.letters;
  step = pair_step m a b;
  number = pair_number m.states;
  count = m.states * m.states;
}

-- where a letter leads member a from the state p: to the goal where it arrives at q
abbrev pub state_step : Machine → ℕ → ℕ → ℕ → ℕ → Option ℕ
state_step m a q p l = if (step_of m a p l).0 == q then None else Some (step_of m a p l).0

-- the walk over the states of member a, from reset, in search of q
abbrev pub state_graph : Machine → ℕ → ℕ → Graph ℕ
state_graph m a q = record {
  start = reset_of m a;
  letters = m.letters;
  step = state_step m a q;
  number = λ p. p;
  count = m.states;
}

-- both states of the pair are states of the device
abbrev pub PairInside : Machine → Pair → Type 0
PairInside m p = (p.first < m.states) × (p.second < m.states)
