use Rattle.std.proofs.Common.{arith}
use Rattle.gates.proofs.Settling.{ordered_take, ordered_drop}
use Rattle.gates.proofs.pass.Pass.split_at.Goals as goal

pub invariant_of-result : goal.invariant_of-result
invariant_of-result c = record {
  few = omega (arith, c.args.self.now.few, c.split_at.ensures.front_len);
  ordered = rw c.split_at.ensures.front (ordered_take c.args.self.now.first c.args.count c.args.self.now.gates.now c.args.self.now.ordered);
}

pub invariant_of-result-2 : goal.invariant_of-result-2
invariant_of-result-2 c = record {
  few = omega (arith, c.args.self.now.few, c.split_at.ensures.back_len);
  ordered = rw c.split_at.ensures.back (ordered_drop c.args.self.now.first c.args.count c.args.self.now.gates.now c.args.self.now.ordered);
}
