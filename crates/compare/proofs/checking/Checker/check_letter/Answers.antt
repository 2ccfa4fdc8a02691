use Rattle.std.proofs.Common.{sym, ◌∙◌}
use Rattle.compare.proofs.Tables.{step_inside}
use Rattle.compare.proofs.checking.Checker.check_letter.Goals as goal

pub contains-requires : goal.contains-requires
contains-requires g c = rw c.args.self.now.same (step_inside _ (g.D.Device.sound c.args.self.now.product.device.now) _ _ _ _ _ (sym c.step.ensures ∙ c.in-Some.is))
