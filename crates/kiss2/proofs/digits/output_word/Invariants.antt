use Rattle.std.proofs.Common.{◌≡◌, ◌^◌, ◌<◌, take}
use Rattle.kiss2.specs.Rows.{output_word}
use Rattle.kiss2.proofs.digits.output_word.Given as goal

-- the word of the digits passed, which has no more bits than they
abbrev pub invariant-loop-digit : goal.invariant-loop-digit
invariant-loop-digit l = (l.word ≡ output_word (take l.digit-index l.digits)) × (l.word < 2 ^ l.digit-index)
