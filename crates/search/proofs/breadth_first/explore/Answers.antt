use Rattle.std.proofs.Common.{◌≡◌, ap, ◌∙◌, arith, rules}
use Rattle.search.proofs.Steps.{few_visits}
use Rattle.search.proofs.Runs.{goal_at, exhaustive}
use Rattle.search.proofs.breadth_first.explore.Given.{Over}
use Rattle.search.proofs.breadth_first.explore.Goals as goal
use Rattle.search.proofs.breadth_first.explore.Goals.{In-Some-expand}

same_walk : (g : Over) (c : In-Some-expand g) → c.expand.new.self.walk.now ≡ c.args.walk.now
same_walk g c = ap (λ r. r.now) c.in-Some-expand.ensures.continues.walk ∙ c.loop-at.invariant.walk

pub returns-in-Some-expand-clause-explored : goal.returns-in-Some-expand-clause-explored
returns-in-Some-expand-clause-explored g c =
    let e = c.in-Some-expand.ensures.expanded in
    goal_at _ (ap g.W.Walk.graph (same_walk g c)) (search rules) c.expand.new.list.within e.0 e.2 e.1 e.3

pub returns-in-Some-expand-clause-early : goal.returns-in-Some-expand-clause-early
returns-in-Some-expand-clause-early g c =
    let e = c.in-Some-expand.ensures.expanded in
    let few = few_visits e.0 (g.W.Walk.sound c.expand.new.self.walk.now) in
    omega (arith, ap (λ w. (g.W.Walk.graph w).count) (same_walk g c))

pub loop-at-smaller : goal.loop-at-smaller
loop-at-smaller g c =
    let few = few_visits c.loop-at.invariant.tried (g.W.Walk.sound c.loop-at.search.walk.now) in
    omega (arith, ap (λ w. (g.W.Walk.graph w).count) c.loop-at.invariant.walk, c.in-Some.ensures.taken, c.in-Some.ensures.left, c.expand.ensures.continues.head)

pub returns-clause-explored : goal.returns-clause-explored
returns-clause-explored g c =
    exhaustive _ (ap g.W.Walk.graph c.loop-at.invariant.walk) (search rules) c.loop-at.list.within c.loop-at.invariant.tried (c.len.ensures ∙ c.next.ensures.tail) (omega (arith, c.in_default.ensures.none))
