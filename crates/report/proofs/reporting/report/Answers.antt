use Rattle.std.proofs.Common.{Some, refl}
use Rattle.kiss2.specs.declared.side.Side.TheVariants.{Good, Faulty}
use Rattle.report.specs.Outcomes.{refused}
use Rattle.report.proofs.reporting.report.Goals as goal

pub returns-in-Err : goal.returns-in-Err
returns-in-Err c =
    let e = c.in-Err.error in
    (refused e.refusal (Some Good) e.line, rw c.in-Err.ensures.refused refl, c.refuse.ensures)

pub returns-in-Err-read : goal.returns-in-Err-read
returns-in-Err-read c =
    let e = c.in-Err-read.error in
    (refused e.refusal (Some Faulty) e.line, rw (c.in-Ok.ensures.held, c.in-Err-read.ensures.refused) refl, c.refuse-in-Err-read.ensures)
