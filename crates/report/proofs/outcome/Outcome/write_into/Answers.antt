use Rattle.std.proofs.Common.{rules}
use Rattle.report.proofs.Writes.{adds_first}
use Rattle.report.proofs.outcome.Outcome.write_into.Goals as goal

pub returns : goal.returns
returns c = adds_first (search rules) c.new-out.ensures.none c.new-out.ensures.bytes c.write.ensures
