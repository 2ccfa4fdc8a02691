-- What the search for the least sequence answers.
use Rattle.std.specs.Prelude.{◌≡◌, ℕ, ◌<◌, ◌≤◌, ◌⊎◌, List, length, Ok, Err, Result}
use Rattle.machine.specs.Slices.{FirstEntries}
use Rattle.search.specs.Graphs.{Graph, LeastGoal}
use Rattle.search.specs.Visits.{Exhaustive}
use Rattle.search.specs.declared.visit.Visit.{Visit}
use Rattle.search.specs.declared.found.Found.{Found}
use Rattle.search.specs.declared.found.Found.TheVariants.{Goal, Exhausted}
use Rattle.search.specs.declared.search_error.SearchError.{SearchError}
use Rattle.search.specs.declared.search_error.SearchError.TheVariants.{WorkTooShort, AnswerTooShort}

-- xs is written into the first entries of a slice, where it fits, with its length as the answer
abbrev pub Written : {A : Type 0} → List A → List A → Result ℕ SearchError → List A → Type 0
Written xs old (Ok n) new = (length xs ≡ n) × FirstEntries xs old new
Written xs old (Err AnswerTooShort) new = (length old < length xs) × (new ≡ old)
Written xs old (Err WorkTooShort) new = ⊥

-- v visits and w marks are enough for the walk
abbrev pub Enough : {P : Type 0} → Graph P → ℕ → ℕ → Type 0
Enough g v w = (g.count ≤ v) × (g.count ≤ w)

-- v visits and w marks are enough for so many positions, or a work slice is too short
abbrev pub Suffices : ℕ → ℕ → ℕ → Result Unit SearchError → Type 0
Suffices count v w (Ok _) = (count ≤ v) × (count ≤ w)
Suffices count v w (Err e) = (e ≡ WorkTooShort) × ((v < count) ⊎ (w < count))

-- a least sequence has no more letters than there are numbers, whether it was found or does not fit
abbrev pub FewLetters : {P : Type 0} → Graph P → Result Found SearchError → Type 0
FewLetters g (Ok (Goal n)) = n ≤ g.count
FewLetters g (Ok (Exhausted n)) = Unit {0}
FewLetters g (Err WorkTooShort) = Unit {0}
FewLetters g (Err AnswerTooShort) = (s : List ℕ) → LeastGoal g s → length s ≤ g.count

-- the answer over v visits, w marks and an answer slice, with what the visits and the answer slice hold afterwards
abbrev pub Finds : {P : Type 0} → Graph P → ℕ → ℕ → List ℕ → Result Found SearchError → List (Visit P) → List ℕ → Type 0
Finds g v w old (Ok (Goal n)) xs new = Enough g v w × ((s : List ℕ) × LeastGoal g s × (length s ≡ n) × FirstEntries s old new)
Finds g v w old (Ok (Exhausted n)) xs new = Enough g v w × Exhaustive g xs n × (new ≡ old)
Finds g v w old (Err WorkTooShort) xs new = ((v < g.count) ⊎ (w < g.count)) × (new ≡ old)
Finds g v w old (Err AnswerTooShort) xs new = Enough g v w × ((s : List ℕ) × LeastGoal g s × (length old < length s)) × (new ≡ old)
