use Rattle.std.proofs.Common.{sym, arith}
use Rattle.compare.proofs.Tables.{number_inside, table_push}
use Rattle.compare.proofs.pair_set.PairSet.insert.Goals as goal

pub bounds-self-pair_number : goal.bounds-self-pair_number
bounds-self-pair_number c = omega (arith, number_inside c.args.self.now.states c.args.pair (sym c.if-not-is_inside.ensures))

pub returns-clause-more : goal.returns-clause-more
returns-clause-more c = λ ps held.
    rw c.pair_number.ensures (table_push c.args.self.now.states ps c.args.pair c.args.self.now.marked c.args.self.now.room (sym c.if-not-is_inside.ensures) held)
