-- The kinds of gates.
use Rattle.std.specs.Prelude.{ℕ, Bool, true, false, if◌then◌else◌, not, ◌&&◌, ◌||◌, [], ◌∷◌}
use Rattle.gates.specs.Words.{word}
use Rattle.gates.specs.declared.gate.Kind.{Kind}
use Rattle.gates.specs.declared.gate.Kind.TheVariants.{And, Or, Nand, Nor, Xor, Xnor, Not, Buff}

-- one of two values, and not both
abbrev pub either : Bool → Bool → Bool
either x y = if x then not y else y

-- what a gate makes of the values x and y of the nets that it reads
abbrev pub gate_value : Kind → Bool → Bool → Bool
gate_value And x y = x && y
gate_value Or x y = x || y
gate_value Nand x y = not (x && y)
gate_value Nor x y = not (x || y)
gate_value Xor x y = either x y
gate_value Xnor x y = not (either x y)
gate_value Not x y = not x
gate_value Buff x y = x

-- the four values as a word, bit 2 * x + y for x and y
abbrev pub truth_table : Kind → ℕ
truth_table k = word (gate_value k false false ∷ gate_value k false true ∷ gate_value k true false ∷ gate_value k true true ∷ [])
