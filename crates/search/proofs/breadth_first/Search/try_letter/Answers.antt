use Rattle.std.proofs.Common.{◌≡◌, ◌<◌, Some, sym, ap, ◌∙◌, arith}
use Rattle.std.proofs.lemmas.Option.{get_or_from_slice_get}
use Rattle.search.specs.Searches.{step_at}
use Rattle.search.specs.Visits.{root}
use Rattle.search.proofs.Steps.{known_step, new_step, room_for}
use Rattle.search.proofs.breadth_first.Search.try_letter.Given.{Over}
use Rattle.search.proofs.breadth_first.Search.try_letter.Goals as goal
use Rattle.search.proofs.breadth_first.Search.try_letter.Goals.{In-Some, Then-not-is_visited}

leads : (g : Over) (c : In-Some g) → step_at c.args.self.now c.args.list.now c.args.at c.args.letter ≡ Some c.in-Some.position
leads g c =
    let w = g.W.Walk.graph c.args.self.now.walk.now in
    ap (λ v. w.step v.position c.args.letter) (get_or_from_slice_get c.args.list.now.items.now c.args.at c.get-here.result (root w) c.get-here.ensures) ∙ sym c.in-Some.ensures

inside : (g : Over) (c : In-Some g) → g.W.Walk.Inside c.args.self.now.walk.now c.in-Some.position
inside g c = (g.W.Walk.sound c.args.self.now.walk.now).step_inside _ _ _ (c.requires.tried.entered.inside c.args.at c.requires.inside) c.requires.lettered (leads g c)

room : (g : Over) (c : Then-not-is_visited g) → g.W.Walk.Inside c.args.self.now.walk.now c.in-Some.position → c.args.list.now.tail < (g.W.Walk.graph c.args.self.now.walk.now).count
room g c inside = room_for c.requires.tried (g.W.Walk.sound c.args.self.now.walk.now) c.in-Some.position inside c.if-not-is_visited.ensures

pub overflow_cast-at : goal.overflow_cast-at
overflow_cast-at g c =
    let at = goal.at.overflow_cast-at g c in
    omega (arith, room g at.Then-not-is_visited (inside g at.In-Some), (g.W.Walk.sound c.args.self.now.walk.now).count_fits)

pub enter-requires-clause-room : goal.enter-requires-clause-room
enter-requires-clause-room g c =
    let at = goal.at.enter-requires-clause-room g c in
    omega (arith, room g at.Then-not-is_visited (inside g at.In-Some))

pub enter-requires-clause-few : goal.enter-requires-clause-few
enter-requires-clause-few g c =
    let at = goal.at.enter-requires-clause-few g c in
    omega (arith, room g at.Then-not-is_visited (inside g at.In-Some), (g.W.Walk.sound c.args.self.now.walk.now).count_fits)

pub returns-then-not-is_visited-clause-tried : goal.returns-then-not-is_visited-clause-tried
returns-then-not-is_visited-clause-tried g c =
    let at = goal.at.returns-then-not-is_visited-clause-tried g c in
    let sound = g.W.Walk.sound c.args.self.now.walk.now in
    let q_is = inside g at.In-Some in
    let more = room g at.Then-not-is_visited q_is in
    let less = sound.number_below _ q_is in
    let e = c.enter.ensures in
    rw (e.continues.walk, e.items, e.marks, e.tail) (new_step c.requires.tried sound c.in-Some.position c.requires.inside c.requires.lettered (leads g at.In-Some) c.if-not-is_visited.ensures (omega arith) (omega arith))

pub returns-else-not-is_visited-clause-tried : goal.returns-else-not-is_visited-clause-tried
returns-else-not-is_visited-clause-tried g c =
    let a = c.if-not-is_visited.ensures in
    known_step c.requires.tried a.0 a.1 (leads g (goal.at.returns-else-not-is_visited-clause-tried g c).In-Some ∙ ap Some (sym a.2))
