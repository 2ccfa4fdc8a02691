use Rattle.std.proofs.Common.{◌≡◌, ◌^◌, ◌<◌, take}
use Rattle.kiss2.specs.Headings.{decimal}
use Rattle.kiss2.proofs.directives.decimal.Given as goal

-- the number of the digits passed, which has no more digits than they
abbrev pub invariant-loop-byte : goal.invariant-loop-byte
invariant-loop-byte l = (l.number ≡ decimal (take l.byte-index l.bytes)) × (l.number < 10 ^ l.byte-index)
