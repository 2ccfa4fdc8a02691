use Rattle.std.proofs.Common.{false}
use Rattle.compare.specs.Walks.{pair_number}
use Rattle.compare.proofs.Tables.{get_or_replicate_self}
use Rattle.compare.proofs.pair_set.PairSet.new.Goals as goal

pub returns-clause-empty : goal.returns-clause-empty
returns-clause-empty c = λ p h. get_or_replicate_self 65536 (pair_number c.args.states p) false
