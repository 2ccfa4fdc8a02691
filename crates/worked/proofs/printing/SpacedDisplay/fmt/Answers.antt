use Rattle.std.proofs.Common.{take, Ok, Some, sym, rules}
use Rattle.std.proofs.Output.{displays_on_IsOk_append, displays_on_ok_of_eq}
use Rattle.std.specs.Fmt.{◌++?◌}
use Rattle.std.specs.Prelude.{codes}
use Rattle.worked.specs.Printing.{spaced_text}
use Rattle.worked.proofs.Printed.{spaced_more}
use Rattle.worked.proofs.printing.SpacedDisplay.fmt.Goals as goal

pub loop-item-preserved : goal.loop-item-preserved
loop-item-preserved g c =
    let took = g.W.Write.write_str_gives in
    let text = g.T.Display.output in
    let i = c.loop-item.item-index in
    let items = c.args.self.now.0.now in
    let x = c.item-item.result in
    displays_on_ok_of_eq took c.args.f.now c.write.new.self (Ok tt) _ _ (sym (spaced_more text items i x (search rules) (search rules)))
    (displays_on_IsOk_append took c.args.f.now c.loop-item.f c.write.new.self (Ok tt) (Ok tt) (spaced_text text (take i items)) (Some (codes " ") ++? text x) (λ h. h) c.loop-item.invariant c.in_ok-write.ensures.writes)
