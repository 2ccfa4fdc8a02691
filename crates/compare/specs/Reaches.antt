-- What reaching a state answers.
use Rattle.std.specs.Prelude.{◌≡◌, ℕ, ◌<◌, ◌≤◌, ◌⊎◌, List, length, Some, None, Ok, Err, Option, Result}
use Rattle.machine.specs.Machines.{Machine}
use Rattle.machine.specs.Products.{LeastWay, NeverReached}
use Rattle.machine.specs.Slices.{FirstEntries}
use Rattle.machine.specs.declared.refusal.Refusal.{Refusal}
use Rattle.machine.specs.declared.refusal.Refusal.TheVariants.{NoSuchMember, OutOfRange, WorkTooShort, AnswerTooShort}
use Rattle.search.specs.declared.found.Found.{Found}
use Rattle.search.specs.declared.found.Found.TheVariants.{Goal, Exhausted}
use Rattle.search.specs.declared.search_error.SearchError.{SearchError}
use Rattle.search.specs.declared.search_error.SearchError.TheVariants as error

-- v visits and w mark words are enough: one of each for every state
abbrev pub StateWork : Machine → ℕ → ℕ → Type 0
StateWork m v w = (m.states ≤ v) × (m.states ≤ w)

-- a work slice has fewer entries than there are states
abbrev pub ShortWork : Machine → ℕ → ℕ → Type 0
ShortWork m v w = (v < m.states) ⊎ (w < m.states)

-- the least sequence to the state q stands in the first n letters
abbrev pub WayWritten : Machine → ℕ → ℕ → List ℕ → ℕ → List ℕ → Type 0
WayWritten m a q letters n letters' = (s : List ℕ) × LeastWay m a q s × (length s ≡ n) × FirstEntries s letters letters'

-- the least sequence to the state q does not fit the letter slice
abbrev pub ShortWay : Machine → ℕ → ℕ → List ℕ → Type 0
ShortWay m a q letters = (s : List ℕ) × LeastWay m a q s × (length letters < length s)

-- what the search over the states of member a answers
abbrev pub StatesSearched : Machine → ℕ → ℕ → ℕ → ℕ → List ℕ → Result Found SearchError → List ℕ → Type 0
StatesSearched m a q v w letters (Ok (Goal n)) letters' = StateWork m v w × WayWritten m a q letters n letters'
StatesSearched m a q v w letters (Ok (Exhausted n)) letters' = StateWork m v w × NeverReached m a q × (letters' ≡ letters)
StatesSearched m a q v w letters (Err error.WorkTooShort) letters' = ShortWork m v w × (letters' ≡ letters)
StatesSearched m a q v w letters (Err error.AnswerTooShort) letters' = StateWork m v w × ShortWay m a q letters × (letters' ≡ letters)

-- why reaching the state q of member a is refused, over v visits, w mark words and a letter slice: the first that applies
abbrev pub ReachRefused : Machine → ℕ → ℕ → ℕ → ℕ → List ℕ → Refusal → Type 0
ReachRefused m a q v w letters r =
    ((r ≡ NoSuchMember) × (m.members ≤ a))
    ⊎ ((a < m.members) × (((r ≡ OutOfRange) × (m.states ≤ q))
    ⊎ ((q < m.states) × (((r ≡ WorkTooShort) × ShortWork m v w)
    ⊎ (StateWork m v w × (r ≡ AnswerTooShort) × ShortWay m a q letters)))))

-- the answer for the state q of member a over v visits, w mark words and a letter slice, with what the last holds afterwards
abbrev pub Reaches : Machine → ℕ → ℕ → ℕ → ℕ → List ℕ → Result (Option ℕ) Refusal → List ℕ → Type 0
Reaches m a q v w letters (Ok (Some n)) letters' = (a < m.members) × (q < m.states) × StateWork m v w × WayWritten m a q letters n letters'
Reaches m a q v w letters (Ok None) letters' = (a < m.members) × (q < m.states) × StateWork m v w × NeverReached m a q × (letters' ≡ letters)
Reaches m a q v w letters (Err r) letters' = ReachRefused m a q v w letters r × (letters' ≡ letters)
