use Rattle.std.proofs.Common.{◌≡◌, ◌-◌, ◌≤◌, length}
use Rattle.search.specs.Searches.{HasTried}
use Rattle.search.proofs.breadth_first.explore.Given as goal

abbrev pub invariant-loop-at : goal.invariant-loop-at
invariant-loop-at g l = record {
  tried : HasTried l.search l.list l.list.head 0;
  room : (g.W.Walk.graph l.walk).count ≤ length l.list.items.now;
  walk : l.search.walk.now ≡ l.walk;
  lent : l.list.items.ghost_name ≡ l.initial.list.items.ghost_name;
}

abbrev pub decreases-loop-at : goal.decreases-loop-at
decreases-loop-at g l = (g.W.Walk.graph l.walk).count - l.list.head
