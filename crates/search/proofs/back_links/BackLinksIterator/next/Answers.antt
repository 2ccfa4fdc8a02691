use Rattle.std.proofs.Common.{◌≡◌, ◌+◌, ◌<◌, ◌∷◌, length, reverse, get_or, ap, arith}
use Rattle.search.specs.Visits.{path}
use Rattle.search.proofs.Paths.{link_back, path_back}
use Rattle.search.proofs.back_links.BackLinksIterator.next.Given.{Over}
use Rattle.search.proofs.back_links.BackLinksIterator.next.Goals as goal
use Rattle.search.proofs.back_links.BackLinksIterator.next.Goals.{After-index-self-self}

back : (g : Over) (c : After-index-self-self g) → (get_or c.args.self.now.visits.now c.args.self.now.at c.index-self-self.result).from < c.args.self.now.at
back g c = let s = c.args.self.now in link_back s.visits.now (s.at + 1) s.chained s.at c.index-self-self.result s.inside (omega arith) (omega arith)

step : (g : Over) (c : After-index-self-self g) → reverse (path c.args.self.now.visits.now c.args.self.now.at) ≡ (get_or c.args.self.now.visits.now c.args.self.now.at c.index-self-self.result).letter ∷ reverse (path c.args.self.now.visits.now (get_or c.args.self.now.visits.now c.args.self.now.at c.index-self-self.result).from)
step g c = let s = c.args.self.now in path_back s.visits.now (s.at + 1) s.chained s.at c.index-self-self.result s.inside (omega arith) (omega arith)

pub overflow_cast-self : goal.overflow_cast-self
overflow_cast-self g c = let b = back g (goal.at.overflow_cast-self g c).After-index-self-self in omega arith

pub invariant_of-self : goal.invariant_of-self
invariant_of-self g c =
    let b = back g (goal.at.invariant_of-self g c).After-index-self-self in
    record { inside = omega arith; chained = λ k d r. c.args.self.now.chained k d (omega arith) }

pub returns-clause-steps : goal.returns-clause-steps
returns-clause-steps g c = step g (goal.at.returns-clause-steps g c).After-index-self-self

pub returns-clause-goes : goal.returns-clause-goes
returns-clause-goes g c =
    let fewer = ap length (step g (goal.at.returns-clause-goes g c).After-index-self-self) in
    record { on = λ _. (tt, tt, omega (arith, fewer)); keeps = tt; rests = λ _. tt }
