-- What a comparison answers.
use Rattle.std.specs.Prelude.{◌≡◌, ℕ, ◌*◌, ◌<◌, ◌≤◌, true, ◌⊎◌, List, map, length, take, None, Ok, Err, Result}
use Rattle.machine.specs.Machines.{Machine}
use Rattle.machine.specs.Outputs.{Equivalent, LeastDistinguishing}
use Rattle.machine.specs.Products.{ReachablePairs}
use Rattle.machine.specs.Slices.{FirstEntries}
use Rattle.machine.specs.declared.pair.Pair.{Pair}
use Rattle.machine.specs.declared.refusal.Refusal.{Refusal}
use Rattle.machine.specs.declared.refusal.Refusal.TheVariants.{NoSuchMember, WorkTooShort, AnswerTooShort}
use Rattle.search.specs.declared.found.Found.{Found}
use Rattle.search.specs.declared.found.Found.TheVariants.{Goal, Exhausted}
use Rattle.search.specs.declared.search_error.SearchError.{SearchError}
use Rattle.search.specs.declared.search_error.SearchError.TheVariants as error
use Rattle.search.specs.declared.visit.Visit.{Visit}
use Rattle.compare.specs.Checks.{pairs_inside, finding, checked}
use Rattle.compare.specs.declared.verdict.Verdict.{Verdict}
use Rattle.compare.specs.declared.verdict.Verdict.TheVariants.{Differ, Equivalent as Same}

-- the positions of visits, in their order
abbrev pub positions : {P : Type 0} → List (Visit P) → List P
positions xs = map (λ v. v.position) xs

-- a and b are members of the device
abbrev pub Members : Machine → ℕ → ℕ → Type 0
Members m a b = (a < m.members) × (b < m.members)

-- v visits and w mark words are enough: one of each for every pair of states
abbrev pub PairWork : Machine → ℕ → ℕ → Type 0
PairWork m v w = (m.states * m.states ≤ v) × (m.states * m.states ≤ w)

-- what the search over the product machine answers: the letters found, or visits that are the reachable pairs
abbrev pub PairsSearched : Machine → ℕ → ℕ → ℕ → ℕ → List ℕ → Result Found SearchError → List (Visit Pair) → List ℕ → Type 0
PairsSearched m a b v w letters (Ok (Goal n)) xs letters' = PairWork m v w × ((s : List ℕ) × LeastDistinguishing m a b s × (length s ≡ n) × FirstEntries s letters letters')
PairsSearched m a b v w letters (Ok (Exhausted n)) xs letters' = PairWork m v w × Equivalent m a b × (n ≤ length xs) × (length (positions (take n xs)) ≡ n) × ReachablePairs m a b (positions (take n xs)) × (pairs_inside m.states (positions (take n xs)) ≡ true) × (finding m a b (positions (take n xs)) ≡ None) × (letters' ≡ letters)
PairsSearched m a b v w letters (Err error.WorkTooShort) xs letters' = ((v < m.states * m.states) ⊎ (w < m.states * m.states)) × (letters' ≡ letters)
PairsSearched m a b v w letters (Err error.AnswerTooShort) xs letters' = PairWork m v w × ((s : List ℕ) × LeastDistinguishing m a b s × (length letters < length s)) × (letters' ≡ letters)

-- a least distinguishing sequence has no more letters than there are pairs of states, whether it was found or does not fit
abbrev pub FewLetters : Machine → ℕ → ℕ → Result Found SearchError → Type 0
FewLetters m a b (Ok (Goal n)) = n ≤ m.states * m.states
FewLetters m a b (Ok (Exhausted n)) = Unit {0}
FewLetters m a b (Err error.WorkTooShort) = Unit {0}
FewLetters m a b (Err error.AnswerTooShort) = (s : List ℕ) → LeastDistinguishing m a b s → length s ≤ m.states * m.states

-- the least distinguishing sequence does not fit the letter slice
abbrev pub ShortLetters : Machine → ℕ → ℕ → List ℕ → Type 0
ShortLetters m a b letters = (s : List ℕ) × LeastDistinguishing m a b s × (length letters < length s)

-- the members are equivalent, and the reachable pairs do not fit the pair slice
abbrev pub ShortPairs : Machine → ℕ → ℕ → List Pair → Type 0
ShortPairs m a b pairs = Equivalent m a b × ((qs : List Pair) × ReachablePairs m a b qs × (length pairs < length qs))

-- why the comparison of a and b is refused, over v visits, w mark words, a letter slice and a pair slice: the first that applies
abbrev pub ComparisonRefused : Machine → ℕ → ℕ → ℕ → ℕ → List ℕ → List Pair → Refusal → Type 0
ComparisonRefused m a b v w letters pairs r =
    ((r ≡ NoSuchMember) × ((m.members ≤ a) ⊎ (m.members ≤ b)))
    ⊎ (Members m a b × (((r ≡ WorkTooShort) × ((v < m.states * m.states) ⊎ (w < m.states * m.states)))
    ⊎ (PairWork m v w × (r ≡ AnswerTooShort) × (ShortLetters m a b letters ⊎ ShortPairs m a b pairs))))

-- the answer for a and b, whose pairs always check as closed, over v visits, w mark words, a letter slice and a pair slice, with what the last two hold afterwards
abbrev pub Compared : Machine → ℕ → ℕ → ℕ → ℕ → List ℕ → List Pair → Result Verdict Refusal → List ℕ → List Pair → Type 0
Compared m a b v w letters pairs (Ok (Differ n)) letters' pairs' =
    Members m a b × PairWork m v w × ((s : List ℕ) × LeastDistinguishing m a b s × (length s ≡ n) × FirstEntries s letters letters') × (pairs' ≡ pairs)
Compared m a b v w letters pairs (Ok (Same n)) letters' pairs' =
    Members m a b × PairWork m v w × Equivalent m a b × ((qs : List Pair) × ReachablePairs m a b qs × (checked m a b qs ≡ Ok None) × (length qs ≡ n) × FirstEntries qs pairs pairs') × (letters' ≡ letters)
Compared m a b v w letters pairs (Err r) letters' pairs' =
    ComparisonRefused m a b v w letters pairs r × (letters' ≡ letters) × (pairs' ≡ pairs)
