use Rattle.std.proofs.Common.{◌≡◌, false, None, refl, inl}
use Rattle.machine.specs.declared.refusal.Refusal.TheVariants.{WidthsDiffer}
use Rattle.report.specs.Outcomes.{refused}
use Rattle.report.specs.Reports.{same_widths}
use Rattle.report.proofs.tables.Tables.report.Goals as goal

pub returns-then-not-same_widths : goal.returns-then-not-same_widths
returns-then-not-same_widths c =
    let t = c.args.self.now in
    let apart : same_widths t.good.shape t.faulty.shape ≡ false = cc in
    (refused WidthsDiffer None 0, inl (refl, apart), rw c.into.ensures at c.refuse.ensures)
