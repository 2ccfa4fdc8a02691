-- Where sequences lead, letter by letter from the start.
use Rattle.std.proofs.Common.{◌≡◌, ℕ, ◌<◌, List, [], ◌∷◌, ◌++◌, Some, None}
use Rattle.search.specs.Graphs.{Graph}

-- the sequence leads from the start to the position, and does not meet the goal
pub data Reach {P : Type 0} (g : Graph P) : List ℕ → P → Type 0 where
  begin : Reach g [] g.start
  onward : {s : List ℕ} {p : P} {l : ℕ} {q : P} → Reach g s p → l < g.letters → g.step p l ≡ Some q → Reach g (s ++ l ∷ []) q

-- the sequence meets the goal, at its last letter
pub data Meets {P : Type 0} (g : Graph P) : List ℕ → Type 0 where
  met : {s : List ℕ} {p : P} {l : ℕ} → Reach g s p → l < g.letters → g.step p l ≡ None → Meets g (s ++ l ∷ [])
