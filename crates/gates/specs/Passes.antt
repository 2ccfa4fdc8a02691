-- How the nets are worked out in place: one pass over the gates, each writing its net.
use Rattle.std.specs.Prelude.{ℕ, ◌+◌, ◌-◌, Bool, List, [], ◌∷◌, take, drop, slice_set}
use Rattle.gates.specs.Nets.{gate_at}
use Rattle.gates.specs.declared.gate.Gate.{Gate}

-- the nets after some gates, the first of which has net n
abbrev pub passed : List Bool → ℕ → List Gate → List Bool
passed nets n [] = nets
passed nets n (g ∷ gs) = passed (slice_set nets n (gate_at nets g)) (n + 1) gs

-- the nets after all gates with one net held at v, where the first gate has net n: the gates up to that net, the net itself, and the gates after it
abbrev pub passed_held : List Bool → ℕ → List Gate → ℕ → Bool → List Bool
passed_held nets n gates net v =
    let done : ℕ = net + 1 - n in
    passed (slice_set (passed nets n (take done gates)) net v) (n + done) (drop done gates)
