use Rattle.report.proofs.Writes.{adds_append}
use Rattle.report.proofs.listing.write_names.Goals as goal

pub returns : goal.returns
returns c = adds_append c.push_all.ensures (adds_append c.push.ensures (adds_append c.push_all-2.ensures c.push-2.ensures))
