use Rattle.std.proofs.Common.{◌≡◌, ◌++◌, take, drop}
use Rattle.compare.specs.Comparisons.{positions}
use Rattle.compare.proofs.comparing.write_pairs.Given as goal

abbrev pub invariant-loop-i : goal.invariant-loop-i
invariant-loop-i l = l.pairs ≡ positions (take l.i l.visits) ++ drop l.i l.initial.pairs
