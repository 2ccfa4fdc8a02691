use Rattle.search.specs.Searches.{Continues, HasTried}
use Rattle.search.proofs.breadth_first.Search.expand.Given as goal

abbrev pub invariant-loop-letter : goal.invariant-loop-letter
invariant-loop-letter g l = record {
  tried : HasTried l.self l.list l.at l.letter;
  continues : Continues l.initial.self l.self l.initial.list l.list;
}
