use Rattle.std.proofs.Common.{None, refl, inl, inr, take, map}
use Rattle.machine.specs.declared.refusal.Refusal.TheVariants.{WorkTooShort}
use Rattle.compare.specs.Comparisons.{positions}
use Rattle.report.specs.Outcomes.{differ, equivalent, refused}
use Rattle.report.specs.Sources.{names_held}
use Rattle.report.proofs.Telling.{names_same, taken, too_few}
use Rattle.report.proofs.tables.Tables.compare.Goals as goal

pub returns-in-Ok-Goal : goal.returns-in-Ok-Goal
returns-in-Ok-Goal c =
    let h = rw c.in-Ok-Goal.field-0-is at c.in-Ok-Goal.ensures.answer in
    let s = h.1.0 in
    let is = taken s _ _ _ h.1.3 h.1.2 in
    (differ c.args.self.now.good.shape.inputs s, inr (h.0, inl (s, refl, h.1.1)), rw is at c.answer.ensures)

pub returns-in-Ok-Exhausted : goal.returns-in-Ok-Exhausted
returns-in-Ok-Exhausted c =
    let t = c.args.self.now in
    let h = rw c.in-Ok-Exhausted.field-0-is at c.in-Ok-Exhausted.ensures.answer in
    let vs = take c.in-Ok-Exhausted.count c.search.new.visits in
    (equivalent (map (names_held t) (positions vs)), inr (h.0, inr (positions vs, refl, h.1, h.4)), rw (names_same t vs) at c.answer-in-Ok-Exhausted.ensures)

pub returns-in-Err : goal.returns-in-Err
returns-in-Err c =
    let h = too_few c.args.self.now _ _ _ _ c.search.new.visits c.in-Err.error refl c.in-Err.ensures.answer c.in-Err.ensures.few in
    (refused WorkTooShort None 0, inl (refl, h.1), rw (c.into.ensures, c.from.ensures, h.0) at c.refuse.ensures)
