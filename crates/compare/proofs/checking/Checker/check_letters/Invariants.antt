use Rattle.std.proofs.Common.{◌≡◌, ◌-◌}
use Rattle.compare.specs.Checks.{flaw_at_letters, in_table}
use Rattle.compare.proofs.checking.Checker.check_letters.Given as goal

-- the letters that are left decide
abbrev pub invariant-loop-letter : goal.invariant-loop-letter
invariant-loop-letter g l =
    let m = g.D.Device.meaning l.self.product.device.now in
    let has = in_table l.self.listed.now.states l.self.listed.now.marked in
    flaw_at_letters m l.self.product.first l.self.product.second has l.place l.pair l.letter (l.letters - l.letter) ≡ flaw_at_letters m l.self.product.first l.self.product.second has l.place l.pair 0 l.letters
