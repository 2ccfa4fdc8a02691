-- The product machine of two members: a pair of states, stepped side by side.
use Rattle.std.specs.Prelude.{◌≡◌, ℕ, ◌<◌, List, [], ◌∷◌, length, ◌≢◌, slice_index_or}
use Rattle.machine.specs.Machines.{Machine, reset_of, step_of}
use Rattle.machine.specs.Sequences.{Letters, Before, AtMost}
use Rattle.machine.specs.declared.pair.Pair.{Pair}

-- a pair of states
abbrev pub pair : ℕ → ℕ → Pair
pair p q = record { first = p; second = q }

-- the state of member a after a sequence, from the state q on
abbrev pub state_from : Machine → ℕ → ℕ → List ℕ → ℕ
state_from m a q [] = q
state_from m a q (l ∷ s) = state_from m a (step_of m a q l).0 s

-- s is the least of all sequences that lead member a from reset to the state q
pub record LeastWay (m : Machine) (a q : ℕ) (s : List ℕ) : Type 0 where
  pub letters : Letters m.letters s
  pub leads : state_from m a (reset_of m a) s ≡ q
  pub least : (t : List ℕ) → Letters m.letters t → state_from m a (reset_of m a) t ≡ q → AtMost s t

-- no sequence leads member a from reset to the state q
abbrev pub NeverReached : Machine → ℕ → ℕ → Type 0
NeverReached m a q = (s : List ℕ) → Letters m.letters s → state_from m a (reset_of m a) s ≢ q

-- the pair of reset states
abbrev pub reset_pair : Machine → ℕ → ℕ → Pair
reset_pair m a b = pair (reset_of m a) (reset_of m b)

-- the pair of states that a sequence leads to from the reset pair
abbrev pub pair_after : Machine → ℕ → ℕ → List ℕ → Pair
pair_after m a b s = pair (state_from m a (reset_of m a) s) (state_from m b (reset_of m b) s)

-- s is the least of all sequences that lead to the pair p
pub record LeastTo (m : Machine) (a b : ℕ) (p : Pair) (s : List ℕ) : Type 0 where
  pub letters : Letters m.letters s
  pub leads : pair_after m a b s ≡ p
  pub least : (t : List ℕ) → Letters m.letters t → pair_after m a b t ≡ p → AtMost s t

-- the pair at place k of a list
abbrev pub pair_at : Machine → ℕ → ℕ → List Pair → ℕ → Pair
pair_at m a b ps k = slice_index_or ps k (reset_pair m a b)

-- ps is the list of the pairs that sequences lead to: every one, no other, none twice, sorted by the least sequences that lead to them
pub record ReachablePairs (m : Machine) (a b : ℕ) (ps : List Pair) : Type 0 where
  pub every : (s : List ℕ) → Letters m.letters s → (k : ℕ) × (k < length ps) × (pair_at m a b ps k ≡ pair_after m a b s)
  pub reached : (k : ℕ) → k < length ps → (s : List ℕ) × LeastTo m a b (pair_at m a b ps k) s
  pub once : (i j : ℕ) → i < length ps → j < length ps → pair_at m a b ps i ≡ pair_at m a b ps j → i ≡ j
  pub in_order : (i j : ℕ) (s t : List ℕ) → i < j → j < length ps → LeastTo m a b (pair_at m a b ps i) s → LeastTo m a b (pair_at m a b ps j) t → Before s t
