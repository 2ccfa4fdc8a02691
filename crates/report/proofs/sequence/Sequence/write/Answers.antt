use Rattle.report.specs.Outcomes.{letter_line}
use Rattle.report.proofs.Writes.{adds_append, adds_line, adds_lines}
use Rattle.report.proofs.sequence.Sequence.write.Goals as goal

pub loop-letter-preserved : goal.loop-letter-preserved
loop-letter-preserved c = adds_line (letter_line c.args.self.now.pins.count) _ _ 0 c.loop-letter-test.true c.loop-letter.invariant (adds_append c.push_binary.ensures c.push.ensures)

pub returns : goal.returns
returns c = adds_append c.push_count.ensures (adds_lines (letter_line c.args.self.now.pins.count) _ _ c.loop-letter-test.false c.loop-letter.invariant)
