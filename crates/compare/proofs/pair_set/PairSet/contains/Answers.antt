use Rattle.std.proofs.Common.{arith}
use Rattle.compare.proofs.Tables.{number_inside}
use Rattle.compare.proofs.pair_set.PairSet.contains.Goals as goal

pub bounds-self-pair_number : goal.bounds-self-pair_number
bounds-self-pair_number c = omega (arith, number_inside c.args.self.now.states c.args.pair c.requires)
