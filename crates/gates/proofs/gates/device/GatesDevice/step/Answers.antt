use Rattle.std.proofs.Common.{rules, ◌≡◌}
use Rattle.machine.specs.Machines.{within}
use Rattle.gates.proofs.gates.device.GatesDevice.step.Goals as goal

pub returns : goal.returns
returns c =
    let a : c.within.result ≡ within c.members.result c.args.member = search rules in
    let q : c.within-2.result ≡ within c.states.result c.args.state = search rules in
    let l : c.within-3.result ≡ within c.letters.result c.args.letter = search rules in
    cc
