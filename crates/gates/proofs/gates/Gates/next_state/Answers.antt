use Rattle.std.proofs.Common.{◌^◌, ◌≤◌, length, ◌∙◌, arith, pow_mono}
use Rattle.gates.specs.Soundness.{word_at_lt}
use Rattle.gates.proofs.Reading.{name_more, word_front}
use Rattle.gates.proofs.gates.Gates.next_state.Goals as goal

pub word-requires-clause-inside : goal.word-requires-clause-inside
word-requires-clause-inside c = name_more _ 512 c.args.self.now.loads.now c.args.self.now.few_nets c.args.self.now.loads_inside

pub overflow_cast-result : goal.overflow_cast-result
overflow_cast-result c =
    let top : 2 ^ length c.args.self.now.loads.now ≤ 2 ^ 8 = pow_mono c.args.self.now.few_loads in
    omega (arith, c.word.ensures, word_at_lt c.args.nets.now.values c.args.self.now.loads.now)

pub returns : goal.returns
returns c = c.word.ensures ∙ word_front c.args.nets.now.values _ c.args.self.now.loads.now c.args.self.now.loads_inside
