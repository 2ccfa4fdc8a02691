use Rattle.std.proofs.Common.{◌≡◌, ◌-◌, ◌++◌, length, take}
use Rattle.gates.specs.Words.{bits}
use Rattle.gates.proofs.nets.Nets.write_bits.Given as goal

-- the bits written and those left
abbrev pub invariant-loop-value : goal.invariant-loop-value
invariant-loop-value l = (length l.value-items ≡ l.count) × (take l.value-index l.value-items ++ bits (l.count - l.value-index) l.rest ≡ bits l.count l.word)
