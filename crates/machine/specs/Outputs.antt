-- The outputs of a member along a sequence, and when two members are told apart by them.
use Rattle.std.specs.Prelude.{◌≡◌, ℕ, ◌+◌, ◌<◌, Bool, true, false, if◌then◌else◌, not, List, [], ◌∷◌, length, Some, None, Option, ◌==◌, slice_index}
use Rattle.machine.specs.Machines.{Machine, reset_of, step_of}
use Rattle.machine.specs.Sequences.{Letters, AtMost}

-- two output words differ
abbrev pub differ : ℕ → ℕ → Bool
differ x y = not (x == y)

-- the output words of member a along a sequence, from the state q on
abbrev pub outputs_from : Machine → ℕ → ℕ → List ℕ → List ℕ
outputs_from m a q [] = []
outputs_from m a q (l ∷ s) = (step_of m a q l).1 ∷ outputs_from m a (step_of m a q l).0 s

-- the output words of member a along a sequence, from reset
abbrev pub outputs : Machine → ℕ → List ℕ → List ℕ
outputs m a s = outputs_from m a (reset_of m a) s

-- whether the outputs of a and b along s differ at place k
abbrev pub differ_at : Machine → ℕ → ℕ → List ℕ → ℕ → Bool
differ_at m a b s k = differ (slice_index (outputs m a s) k) (slice_index (outputs m b s) k)

-- the first place, counted from k on, at which two lists of output words differ
abbrev pub difference_from : ℕ → List ℕ → List ℕ → Option ℕ
difference_from k [] ys = None
difference_from k (x ∷ xs) [] = None
difference_from k (x ∷ xs) (y ∷ ys) = if differ x y then Some k else difference_from (k + 1) xs ys

-- the first place, counted from 0, at which the outputs of a and b along s differ
abbrev pub first_difference : Machine → ℕ → ℕ → List ℕ → Option ℕ
first_difference m a b s = difference_from 0 (outputs m a s) (outputs m b s)

-- s distinguishes a and b: its letters are in range, and the outputs differ at some place
pub record Distinguishes (m : Machine) (a b : ℕ) (s : List ℕ) : Type 0 where
  pub letters : Letters m.letters s
  pub place : ℕ
  pub inside : place < length s
  pub differs : differ_at m a b s place ≡ true

-- a and b are equivalent: along every sequence of letters in range, of any length, their outputs differ at no place
abbrev pub Equivalent : Machine → ℕ → ℕ → Type 0
Equivalent m a b = (s : List ℕ) → Letters m.letters s → (k : ℕ) → k < length s → differ_at m a b s k ≡ false

-- s is the least of all sequences that distinguish a and b
pub record LeastDistinguishing (m : Machine) (a b : ℕ) (s : List ℕ) : Type 0 where
  pub distinguishes : Distinguishes m a b s
  pub least : (t : List ℕ) → Distinguishes m a b t → AtMost s t
