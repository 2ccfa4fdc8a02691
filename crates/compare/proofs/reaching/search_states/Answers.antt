use Rattle.std.proofs.Common.{◌≡◌, ℕ, List, Ok, Err, Result}
use Rattle.machine.specs.Machines.{Machine, reset_of}
use Rattle.search.specs.Answers.{Finds}
use Rattle.search.specs.declared.found.Found.{Found}
use Rattle.search.specs.declared.found.Found.TheVariants.{Goal, Exhausted}
use Rattle.search.specs.declared.search_error.SearchError.{SearchError}
use Rattle.search.specs.declared.search_error.SearchError.TheVariants.{WorkTooShort, AnswerTooShort}
use Rattle.search.specs.declared.visit.Visit.{Visit}
use Rattle.compare.specs.Reaches.{StatesSearched}
use Rattle.compare.specs.Walks.{state_graph}
use Rattle.compare.proofs.States.{least_way, never_reached}
use Rattle.compare.proofs.reaching.search_states.Goals as goal

in_states : (m : Machine) (a q v w : ℕ) (old : List ℕ) (r : Result Found SearchError) (xs : List (Visit ℕ)) (new : List ℕ) → (reset_of m a ≡ q → ⊥) → Finds (state_graph m a q) v w old r xs new → StatesSearched m a q v w old r new
in_states m a q v w old (Ok (Goal n)) xs new off f = let s = f.1 in (f.0, (s.0, least_way m a q off s.0 s.1, s.2, s.3))
in_states m a q v w old (Ok (Exhausted n)) xs new off f = (f.0, never_reached m a q off xs n f.1, f.2)
in_states m a q v w old (Err WorkTooShort) xs new off f = f
in_states m a q v w old (Err AnswerTooShort) xs new off f = let s = f.1 in (f.0, (s.0, least_way m a q off s.0 s.1, s.2), f.2)

pub returns : goal.returns
returns g c = in_states _ _ _ _ _ _ c.shortest.result _ _ c.requires c.shortest.ensures.answer
