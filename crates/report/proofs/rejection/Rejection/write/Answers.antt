use Rattle.report.proofs.Writes.{adds_append}
use Rattle.report.proofs.rejection.Rejection.write.Goals as goal

pub returns : goal.returns
returns c =
    rw (← c.number.ensures, ← c.from.ensures, ← c.side_word.ensures)
    (adds_append c.push_all.ensures (adds_append c.push_decimal.ensures (adds_append c.push.ensures (adds_append c.push_all-2.ensures c.push_count.ensures))))
