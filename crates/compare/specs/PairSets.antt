-- What a set of pairs of states holds.
use Rattle.std.specs.Prelude.{List, Bool}
use Rattle.machine.specs.declared.pair.Pair.{Pair}
use Rattle.compare.specs.Checks.{in_table, TableOf}
use Rattle.compare.specs.declared.pair_set.PairSet.{PairSet}

-- whether the set has the pair
abbrev pub has_pair : PairSet → Pair → Bool
has_pair set p = in_table set.states set.marked p

-- the set has the pairs of the list and no others
abbrev pub IsSetOf : List Pair → PairSet → Type 0
IsSetOf ps set = TableOf set.states ps set.marked
