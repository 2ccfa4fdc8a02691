use Rattle.std.proofs.Common.{◌≡◌, take}
use Rattle.gates.specs.Nets.{word_at}
use Rattle.gates.proofs.nets.Nets.word.Given as goal

-- the word of the numbers that were read
abbrev pub invariant-loop-place : goal.invariant-loop-place
invariant-loop-place l = l.word ≡ word_at l.self.values (take l.place l.numbers)
