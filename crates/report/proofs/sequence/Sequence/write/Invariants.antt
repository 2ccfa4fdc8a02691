use Rattle.std.proofs.Common.{take}
use Rattle.std.specs.List.{flat_map}
use Rattle.report.specs.Outcomes.{letter_line}
use Rattle.report.specs.Writing.{Adds}
use Rattle.report.proofs.sequence.Sequence.write.Given as goal

abbrev pub invariant-loop-letter : goal.invariant-loop-letter
invariant-loop-letter l = Adds (flat_map (letter_line l.fn.self.pins.count) (take l.letter-index l.fn.self.letters.now)) l.initial.out l.out
