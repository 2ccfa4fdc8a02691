use Rattle.std.proofs.Common.{◌∙◌}
use Rattle.gates.proofs.Reading.{name_more, word_front}
use Rattle.gates.proofs.gates.Gates.output_word.Goals as goal

pub word-requires-clause-inside : goal.word-requires-clause-inside
word-requires-clause-inside c = name_more _ 512 c.args.self.now.outputs.now c.args.self.now.few_nets c.args.self.now.outputs_inside

pub returns : goal.returns
returns c = c.word.ensures ∙ word_front c.args.nets.now.values _ c.args.self.now.outputs.now c.args.self.now.outputs_inside
