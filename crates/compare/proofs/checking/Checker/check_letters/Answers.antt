use Rattle.std.proofs.Common.{sym, ◌∙◌, arith}
use Rattle.compare.specs.Checks.{in_table}
use Rattle.compare.proofs.Flaws.{letter_flawed, letter_passed}
use Rattle.compare.proofs.checking.Checker.check_letters.Goals as goal

pub returns-then-is_some : goal.returns-then-is_some
returns-then-is_some g c =
    let m = g.D.Device.meaning c.args.self.now.product.device.now in
    let has = in_table c.args.self.now.listed.now.states c.args.self.now.listed.now.marked in
    letter_flawed m c.args.self.now.product.first c.args.self.now.product.second has c.args.place c.args.pair c.loop-letter.letter c.args.letters c.check_letter-flaw.result (omega arith) c.check_letter-flaw.ensures (sym c.if-is_some.ensures)
    ∙ c.loop-letter.invariant

pub loop-letter-preserved : goal.loop-letter-preserved
loop-letter-preserved g c =
    let m = g.D.Device.meaning c.args.self.now.product.device.now in
    let has = in_table c.args.self.now.listed.now.states c.args.self.now.listed.now.marked in
    letter_passed m c.args.self.now.product.first c.args.self.now.product.second has c.args.place c.args.pair c.loop-letter.letter c.args.letters c.check_letter-flaw.result (omega arith) c.check_letter-flaw.ensures (sym c.if-is_some.ensures)
    ∙ c.loop-letter.invariant
