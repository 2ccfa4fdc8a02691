-- What was read into tables.
use Rattle.std.specs.Prelude.{ℕ, List}
use Rattle.machine.specs.Machines.{Machine}
use Rattle.machine.specs.declared.pair.Pair.{Pair}
use Rattle.kiss2.specs.Readings.{Reading}
use Rattle.report.specs.Outcomes.{Outcome}
use Rattle.report.specs.Reports.{BothRead, both_machines, names_of}
use Rattle.report.specs.declared.source.Source.{Source}
use Rattle.report.specs.declared.tables.Tables.{Tables}

-- what was read into a source
abbrev pub held : Source → Reading
held s = record { shape = s.shape; names = s.names.entries.now; cells = s.cells.now }

-- the machines of two tables side by side
abbrev pub machines_of : Tables → Machine
machines_of t = both_machines (held t.good) (held t.faulty)

-- the names of a pair of their states
abbrev pub names_held : Tables → Pair → List ℕ × List ℕ
names_held t = names_of t.good.names.text.now t.faulty.names.text.now (held t.good) (held t.faulty)

-- the outcome of two tables, over v visits and w mark words
abbrev pub BothHeld : Tables → ℕ → ℕ → Outcome → Type 0
BothHeld t v w = BothRead t.good.names.text.now t.faulty.names.text.now (held t.good) (held t.faulty) v w
