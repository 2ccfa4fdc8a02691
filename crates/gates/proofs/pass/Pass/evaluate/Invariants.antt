use Rattle.std.proofs.Common.{◌≡◌, ◌+◌, drop}
use Rattle.gates.specs.Passes.{passed}
use Rattle.gates.proofs.pass.Pass.evaluate.Given as goal

-- the gates left decide
abbrev pub invariant-loop-place : goal.invariant-loop-place
invariant-loop-place l = passed l.nets.values (l.self.first + l.place) (drop l.place l.self.gates.now) ≡ passed l.initial.nets.values l.self.first l.self.gates.now
