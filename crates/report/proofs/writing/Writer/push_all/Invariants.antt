use Rattle.std.proofs.Common.{take}
use Rattle.report.specs.Writing.{Adds}
use Rattle.report.proofs.writing.Writer.push_all.Given as goal

abbrev pub invariant-loop-byte : goal.invariant-loop-byte
invariant-loop-byte l = Adds (take l.byte-index l.bytes) l.initial.self l.self
