-- A walk: positions, and letters that lead from one to another or to the goal.
use Rattle.std.specs.Prelude.{◌≡◌, ℕ, ◌^◌, ◌<◌, ◌≤◌, List, [], ◌∷◌, Some, None, Option}
use Rattle.machine.specs.Sequences.{Letters, AtMost}

-- a start, how many letters there are, where a letter leads (none is the goal), a number for each position, and how many numbers there are
pub record Graph (P : Type 0) : Type 0 where
  pub start : P
  pub letters : ℕ
  pub step : P → ℕ → Option P
  pub number : P → ℕ
  pub count : ℕ

-- start and steps stay inside; inside, equal numbers are equal positions and numbers are below the count; a number fits a mark word
pub record Sound {P : Type 0} (g : Graph P) (Inside : P → Type 0) : Type 0 where
  pub start_inside : Inside g.start
  pub step_inside : (p : P) (l : ℕ) (q : P) → Inside p → l < g.letters → g.step p l ≡ Some q → Inside q
  pub number_same : (p q : P) → Inside p → Inside q → g.number p ≡ g.number q → p ≡ q
  pub number_below : (p : P) → Inside p → g.number p < g.count
  pub count_fits : g.count ≤ 2 ^ 32

-- goes on from a position, where there is one
abbrev pub and_then : {P : Type 0} → Option P → (P → Option P) → Option P
and_then None f = None
and_then (Some p) f = f p

-- where a sequence leads from a position; none once the goal is met
abbrev pub run : {P : Type 0} → Graph P → P → List ℕ → Option P
run g p [] = Some p
run g p (l ∷ s) = and_then (g.step p l) (λ q. run g q s)

-- s is the least of all sequences that meet the goal
pub record LeastGoal {P : Type 0} (g : Graph P) (s : List ℕ) : Type 0 where
  pub letters : Letters g.letters s
  pub meets : run g g.start s ≡ None
  pub least : (t : List ℕ) → Letters g.letters t → run g g.start t ≡ None → AtMost s t

-- s is the least of all sequences that lead to p
pub record LeastPath {P : Type 0} (g : Graph P) (p : P) (s : List ℕ) : Type 0 where
  pub letters : Letters g.letters s
  pub leads : run g g.start s ≡ Some p
  pub least : (t : List ℕ) → Letters g.letters t → run g g.start t ≡ Some p → AtMost s t
