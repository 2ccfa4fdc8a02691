use Rattle.report.proofs.Writes.{adds_append}
use Rattle.report.proofs.writing.Writer.push_count.Goals as goal

pub returns : goal.returns
returns c = adds_append c.push_all.ensures (adds_append c.push_decimal.ensures c.push.ensures)
