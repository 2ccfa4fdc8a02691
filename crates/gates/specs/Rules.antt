-- What a gate list has to keep to.
use Rattle.std.specs.Prelude.{ℕ, ◌+◌, Bool, true, false, ◌&&◌, ◌||◌, List, [], ◌∷◌, length, ◌==◌, nat_lt}
use Rattle.gates.specs.declared.gate.Kind.{Kind}
use Rattle.gates.specs.declared.gate.Kind.TheVariants.{And, Or, Nand, Nor, Xor, Xnor, Not, Buff}
use Rattle.gates.specs.declared.gate.Gate.{Gate}

-- how many nets there are
abbrev pub net_count : ℕ → List Gate → List ℕ → ℕ
net_count pins gates loads = pins + length loads + length gates

-- a gate of this kind may read two nets
abbrev pub two_inputs : Kind → Bool
two_inputs And = true
two_inputs Or = true
two_inputs Nand = true
two_inputs Nor = true
two_inputs Xor = true
two_inputs Xnor = true
two_inputs Not = false
two_inputs Buff = false

-- the gate of net n reads nets of lower numbers, and one net alone if its kind asks for that
abbrev pub gate_ordered : ℕ → Gate → Bool
gate_ordered n g = nat_lt g.left n && nat_lt g.right n && (two_inputs g.kind || g.left == g.right)

-- so do the gates of the nets from n on
abbrev pub gates_ordered : ℕ → List Gate → Bool
gates_ordered n [] = true
gates_ordered n (g ∷ gs) = gate_ordered n g && gates_ordered (n + 1) gs

-- each number names one of n nets
abbrev pub name_nets : ℕ → List ℕ → Bool
name_nets n [] = true
name_nets n (k ∷ ks) = nat_lt k n && name_nets n ks
