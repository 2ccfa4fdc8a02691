use Rattle.std.proofs.Common.{◌≡◌, drop}
use Rattle.machine.specs.Outputs.{first_difference}
use Rattle.compare.proofs.Replays.{left}
use Rattle.compare.proofs.replaying.difference.Given as goal

-- what is left, from the pair that was come to, decides
abbrev pub invariant-loop-place : goal.invariant-loop-place
invariant-loop-place g l =
    let m = g.D.Device.meaning l.product.device.now in
    left m l.product.first l.product.second l.place l.pair (drop l.place l.sequence) ≡ first_difference m l.product.first l.product.second l.sequence
