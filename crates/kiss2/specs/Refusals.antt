-- How a refused text is told.
use Rattle.std.specs.Prelude.{ℕ, List, ◌++◌, codes, decimal}
use Rattle.machine.specs.Refusals.{refusal_number}
use Rattle.kiss2.specs.declared.refused.Refused.{Refused}

-- the number and the line
abbrev pub refused_text : Refused → List ℕ
refused_text r = codes "refused " ++ decimal (refusal_number r.refusal) ++ codes " at line " ++ decimal r.line
