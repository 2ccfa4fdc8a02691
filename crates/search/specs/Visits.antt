-- A list of visits, each with a link back to the one that it was found from.
use Rattle.std.specs.Prelude.{◌≡◌, ℕ, zero, suc, ◌+◌, ◌<◌, ◌≤◌, Bool, true, false, List, [], ◌∷◌, ◌++◌, length, Some, None, ◌≢◌, slice_index, slice_index_or}
use Rattle.machine.specs.Sequences.{Letters, Before}
use Rattle.search.specs.Graphs.{Graph, run, LeastGoal, LeastPath}
use Rattle.search.specs.declared.visit.Visit.{Visit}
use Rattle.search.specs.declared.breadth_first.Outcome.{Outcome}
use Rattle.search.specs.declared.breadth_first.Outcome.TheVariants.{Goal, Exhausted}

-- the visit of the start
abbrev pub root : {P : Type 0} → Graph P → Visit P
root g = record { position = g.start; from = 0; letter = 0 }

-- the visit at place k
abbrev pub visit : {P : Type 0} → Graph P → List (Visit P) → ℕ → Visit P
visit g xs k = slice_index_or xs k (root g)

-- the back link at place k
abbrev pub from_at : {P : Type 0} → List (Visit P) → ℕ → ℕ
from_at [] k = 0
from_at (v ∷ xs) zero = v.from
from_at (v ∷ xs) (suc k) = from_at xs k

-- the letter at place k
abbrev pub letter_at : {P : Type 0} → List (Visit P) → ℕ → ℕ
letter_at [] k = 0
letter_at (v ∷ xs) zero = v.letter
letter_at (v ∷ xs) (suc k) = letter_at xs k

-- the letters along the back links from place k to the start, at most f of them
abbrev pub path_in : {P : Type 0} → List (Visit P) → ℕ → ℕ → List ℕ
path_in xs zero k = []
path_in xs (suc f) zero = []
path_in xs (suc f) (suc k) = path_in xs f (from_at xs (suc k)) ++ letter_at xs (suc k) ∷ []

-- the sequence that leads to the visit at place k
abbrev pub path : {P : Type 0} → List (Visit P) → ℕ → List ℕ
path xs k = path_in xs k k

-- below place n each back link leads to an earlier visit
abbrev pub Chained : {P : Type 0} → List (Visit P) → ℕ → Type 0
Chained xs n = (k : ℕ) → 0 < k → k < n → from_at xs k < k

-- the pair (a, b) of a visit and a letter is tried before the pair (c, d)
abbrev pub Earlier : ℕ → ℕ → ℕ → ℕ → Type 0
Earlier a b c d = (a ≤ c) × (a ≡ c → b < d)

-- the letter i leads from the visit j to one of the first n visits, which was found by this pair or an earlier one
abbrev pub Led : {P : Type 0} → Graph P → List (Visit P) → ℕ → ℕ → ℕ → Type 0
Led g xs n j i = (m : ℕ) × (m < n) × (g.step (visit g xs j).position i ≡ Some (visit g xs m).position) × (0 < m → Earlier (visit g xs m).from (visit g xs m).letter j (i + 1))

-- the first n of xs are inside, and the mark of each leads to it
pub record Marked {P : Type 0} (g : Graph P) (Inside : P → Type 0) (xs : List (Visit P)) (marks : List ℕ) (n : ℕ) : Type 0 where
  pub inside : (k : ℕ) → k < n → Inside (visit g xs k).position
  pub marked : (k : ℕ) → k < n → slice_index marks (g.number (visit g xs k).position) ≡ k

-- the first n of xs are the visits found by the pairs (visit, letter) that stand before (h, l), and none of these met the goal
pub record Searched {P : Type 0} (g : Graph P) (Inside : P → Type 0) (xs : List (Visit P)) (marks : List ℕ) (n h l : ℕ) : Type 0 where
  pub some : 0 < n
  pub first : (visit g xs 0).position ≡ g.start
  pub entered : Marked g Inside xs marks n
  pub back : (k : ℕ) → 0 < k → k < n → (visit g xs k).from < k
  pub lettered : (k : ℕ) → 0 < k → k < n → (visit g xs k).letter < g.letters
  pub linked : (k : ℕ) → 0 < k → k < n → g.step (visit g xs (visit g xs k).from).position (visit g xs k).letter ≡ Some (visit g xs k).position
  pub ordered : (i j : ℕ) → 0 < i → i < j → j < n → Earlier (visit g xs i).from (visit g xs i).letter (visit g xs j).from (visit g xs j).letter
  pub found : (k : ℕ) → 0 < k → k < n → Earlier (visit g xs k).from (visit g xs k).letter h l
  pub expanded : (j i : ℕ) → i < g.letters → Earlier j i h l → Led g xs n j i

-- whether the position is among the first n visits
abbrev pub Among : {P : Type 0} → Graph P → List (Visit P) → ℕ → P → Bool → Type 0
Among g xs n p true = (m : ℕ) × (m < n) × ((visit g xs m).position ≡ p)
Among g xs n p false = (k : ℕ) → k < n → (visit g xs k).position ≢ p

-- the letter at the visit ends the least sequence that meets the goal
pub record GoalAt {P : Type 0} (g : Graph P) (xs : List (Visit P)) (at letter : ℕ) : Type 0 where
  pub inside : at < length xs
  pub chained : Chained xs (at + 1)
  pub least : LeastGoal g (path xs at ++ letter ∷ [])

-- no sequence meets the goal; the first n visits are the positions that sequences lead to: every one, no other, none twice, sorted by the least sequences that lead to them
pub record Exhaustive {P : Type 0} (g : Graph P) (xs : List (Visit P)) (n : ℕ) : Type 0 where
  pub fits : n ≤ length xs
  pub never : (t : List ℕ) → Letters g.letters t → run g g.start t ≢ None
  pub every : (t : List ℕ) (p : P) → Letters g.letters t → run g g.start t ≡ Some p → (k : ℕ) × (k < n) × ((visit g xs k).position ≡ p)
  pub reached : (k : ℕ) → k < n → (s : List ℕ) × LeastPath g (visit g xs k).position s
  pub once : (i j : ℕ) → i < n → j < n → (visit g xs i).position ≡ (visit g xs j).position → i ≡ j
  pub in_order : (i j : ℕ) (s t : List ℕ) → i < j → j < n → LeastPath g (visit g xs i).position s → LeastPath g (visit g xs j).position t → Before s t

-- how a search ends
abbrev pub Explored : {P : Type 0} → Graph P → List (Visit P) → Outcome → Type 0
Explored g xs (Goal at letter) = GoalAt g xs at letter
Explored g xs (Exhausted count) = Exhaustive g xs count

-- where a goal is met, it is met at one of as many visits as there are numbers
abbrev pub MetEarly : {P : Type 0} → Graph P → Outcome → Type 0
MetEarly g (Goal at letter) = at < g.count
MetEarly g (Exhausted count) = Unit {0}
