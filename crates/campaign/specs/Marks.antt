-- How a mark is printed.
use Rattle.std.specs.Prelude.{ℕ, List, ◌++◌, codes, decimal}
use Rattle.campaign.specs.declared.mark.Mark.{Mark}
use Rattle.campaign.specs.declared.mark.Mark.TheVariants.{Open, Found, Undetectable}

-- a word, and the number of the sequence that found the fault
abbrev pub mark_text : Mark → List ℕ
mark_text Open = codes "open"
mark_text (Found n) = codes "found by " ++ decimal n
mark_text Undetectable = codes "undetectable"
