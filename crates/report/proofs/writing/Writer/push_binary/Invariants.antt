use Rattle.kiss2.specs.Laws.{binary}
use Rattle.report.specs.Writing.{Adds}
use Rattle.report.specs.declared.writing.Writer.{Writer}
use Rattle.report.proofs.writing.Writer.push_binary.Given as goal

abbrev pub invariant-loop-bit : goal.invariant-loop-bit
invariant-loop-bit l = (w : Writer) → Adds (binary l.bit l.letter) l.self w → Adds (binary l.width l.letter) l.initial.self w
