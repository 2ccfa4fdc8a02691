-- The outcome that a value of the code tells.
use Rattle.std.specs.Prelude.{map, None}
use Rattle.machine.specs.declared.refusal.Refusal.{Refusal}
use Rattle.kiss2.specs.Readings.{refused as refusal_at}
use Rattle.report.specs.Names.{visit_names}
use Rattle.report.specs.Outcomes.{Outcome, differ, equivalent, refused}
use Rattle.report.specs.declared.outcome.Outcome as code
use Rattle.report.specs.declared.rejection.Rejection.{Rejection}
use Rattle.report.specs.declared.outcome.Outcome.TheVariants.{Refused, Differ, Equivalent}

-- a refusal of both texts, with which no line is at fault
abbrev pub of_both : Refusal → Rejection
of_both r = record { error = refusal_at r 0; side = None }

-- a refusal, of one text or of both, at its line
abbrev pub rejected : Rejection → Outcome
rejected r = refused r.error.refusal r.side r.error.line

abbrev pub told : code.Outcome → Outcome
told (Refused r) = rejected r
told (Differ s) = differ s.pins.count s.letters.now
told (Equivalent l) = equivalent (map (visit_names l.good l.faulty) l.visits.now)
