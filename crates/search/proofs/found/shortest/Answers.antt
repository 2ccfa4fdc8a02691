use Rattle.std.proofs.Common.{ℕ, ◌<◌, ◌≤◌, List, length, Ok, Err, Result, IsErr, arith}
use Rattle.std.proofs.lemmas.List.{length_push}
use Rattle.search.specs.Answers.{FewLetters}
use Rattle.search.specs.Graphs.{Graph, LeastGoal}
use Rattle.search.specs.Visits.{path, GoalAt}
use Rattle.search.specs.declared.found.Found.{Found}
use Rattle.search.specs.declared.search_error.SearchError.{SearchError}
use Rattle.search.specs.declared.search_error.SearchError.TheVariants.{WorkTooShort, AnswerTooShort}
use Rattle.search.specs.declared.visit.Visit.{Visit}
use Rattle.search.proofs.Paths.{no_longer, path_short}
use Rattle.search.proofs.found.shortest.Goals as goal

few : {P : Type 0} {g : Graph P} {xs : List (Visit P)} {at letter : ℕ} → GoalAt g xs at letter → at < g.count → (s : List ℕ) → LeastGoal g s → length s ≤ g.count
few {xs = xs} {at = at} {letter = letter} found early s l =
    omega (arith, no_longer s _ (l.least _ found.least.letters found.least.meets), length_push (path xs at) letter, path_short xs at)

few_err : {P : Type 0} (g : Graph P) (r : Result Found SearchError) → IsErr r → ((s : List ℕ) → LeastGoal g s → length s ≤ g.count) → FewLetters g r
few_err g (Ok f) e least = cc
few_err g (Err WorkTooShort) e least = tt
few_err g (Err AnswerTooShort) e least = least

pub returns-in_err-length-in-Goal-clause-few : goal.returns-in_err-length-in-Goal-clause-few
returns-in_err-length-in-Goal-clause-few g c = few_err _ _ c.from_residual-in_err-length-in-Goal.ensures.0 (few c.in-Goal.ensures.explored c.in-Goal.ensures.early)
