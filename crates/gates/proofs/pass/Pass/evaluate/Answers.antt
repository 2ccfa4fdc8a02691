use Rattle.std.proofs.Common.{arith}
use Rattle.gates.proofs.Passing.{reads_lower_at}
use Rattle.gates.proofs.pass.Pass.evaluate.Goals as goal

pub gate_value-value-requires-clause-left : goal.gate_value-value-requires-clause-left
gate_value-value-requires-clause-left c =
    omega (arith, c.args.self.now.few, (reads_lower_at c.args.self.now.first c.args.self.now.gates.now c.loop-place.place c.loop-place-test.true c.args.self.now.ordered).0)

pub gate_value-value-requires-clause-right : goal.gate_value-value-requires-clause-right
gate_value-value-requires-clause-right c =
    omega (arith, c.args.self.now.few, (reads_lower_at c.args.self.now.first c.args.self.now.gates.now c.loop-place.place c.loop-place-test.true c.args.self.now.ordered).1)
