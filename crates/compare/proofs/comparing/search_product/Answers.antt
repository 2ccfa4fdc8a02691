use Rattle.std.proofs.Common.{ℕ, List, take, Ok, Err, Result, arith}
use Rattle.machine.specs.Machines.{Machine, Sound}
use Rattle.machine.specs.declared.pair.Pair.{Pair}
use Rattle.search.specs.Answers.{FewLetters as FewGoalLetters, Finds}
use Rattle.search.specs.declared.found.Found.{Found}
use Rattle.search.specs.declared.found.Found.TheVariants.{Goal, Exhausted}
use Rattle.search.specs.declared.search_error.SearchError.{SearchError}
use Rattle.search.specs.declared.search_error.SearchError.TheVariants.{WorkTooShort, AnswerTooShort}
use Rattle.search.specs.declared.visit.Visit.{Visit}
use Rattle.search.proofs.Paths.{no_longer}
use Rattle.compare.specs.Walks.{pair_graph}
use Rattle.compare.specs.Comparisons.{FewLetters, PairsSearched, positions}
use Rattle.compare.proofs.Closed.{reachable_closed, reachable_inside}
use Rattle.compare.proofs.Pairs.{least_distinguishing, equivalent, reachable_pairs, length_positions}
use Rattle.compare.proofs.comparing.search_product.Goals as goal

in_pairs : (m : Machine) → Sound m → (a b v w : ℕ) (old : List ℕ) (r : Result Found SearchError) (xs : List (Visit Pair)) (new : List ℕ) → Finds (pair_graph m a b) v w old r xs new → PairsSearched m a b v w old r xs new
in_pairs m sound a b v w old (Ok (Goal n)) xs new f = let s = f.1 in (f.0, (s.0, least_distinguishing m a b s.0 s.1, s.2, s.3))
in_pairs m sound a b v w old (Ok (Exhausted n)) xs new f =
    let same = equivalent m a b xs n f.1 in
    let reached = reachable_pairs m a b xs n f.1 in
    let qs = positions (take n xs) in
    (f.0, same, f.1.fits, length_positions n xs f.1.fits, reached, reachable_inside m sound a b same qs reached, reachable_closed m sound a b same qs reached, f.2)
in_pairs m sound a b v w old (Err WorkTooShort) xs new f = f
in_pairs m sound a b v w old (Err AnswerTooShort) xs new f = let s = f.1 in (f.0, (s.0, least_distinguishing m a b s.0 s.1, s.2), f.2)

-- a least sequence that does not fit is no longer than the one that was found
few_letters : (m : Machine) (a b v w : ℕ) (old : List ℕ) (r : Result Found SearchError) (xs : List (Visit Pair)) (new : List ℕ) → Finds (pair_graph m a b) v w old r xs new → FewGoalLetters (pair_graph m a b) r → FewLetters m a b r
few_letters m a b v w old (Ok (Goal n)) xs new f h = h
few_letters m a b v w old (Ok (Exhausted n)) xs new f h = h
few_letters m a b v w old (Err WorkTooShort) xs new f h = h
few_letters m a b v w old (Err AnswerTooShort) xs new f h = λ s l.
    let t = f.1.0 in
    let more = h t f.1.1 in
    omega (arith, no_longer s t (l.least t (least_distinguishing m a b t f.1.1).distinguishes))

pub returns : goal.returns
returns g c = record {
  answer = in_pairs _ (g.D.Device.sound c.args.product.now.device.now) _ _ _ _ _ c.shortest.result _ _ c.shortest.ensures.answer;
  few = few_letters _ _ _ _ _ _ c.shortest.result _ _ c.shortest.ensures.answer c.shortest.ensures.few;
}
