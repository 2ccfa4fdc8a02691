use Rattle.std.proofs.Common.{take, Ok}
use Rattle.std.specs.Fmt.{DisplaysOnOk}
use Rattle.worked.specs.Printing.{spaced_text}
use Rattle.worked.proofs.printing.SpacedDisplay.fmt.Given as goal

-- the items before the index are written
abbrev pub invariant-loop-item : goal.invariant-loop-item
invariant-loop-item g l =
    DisplaysOnOk g.W.Write.write_str_gives l.initial.f (Ok tt) (spaced_text g.T.Display.output (take l.item-index l.item-items)) l.f
