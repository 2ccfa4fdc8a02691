-- The values of the nets of a gate list: first the pins, then the flip-flops, then the gates in their order.
use Rattle.std.specs.Prelude.{ℕ, ◌+◌, ◌*◌, Bool, true, false, if◌then◌else◌, List, [], ◌∷◌, ◌++◌, map, length, ◌==◌, slice_index_or}
use Rattle.gates.specs.Words.{bits, word}
use Rattle.gates.specs.Kinds.{gate_value}
use Rattle.gates.specs.declared.gate.Gate.{Gate}

-- the value of net n in member a, where it would be x: fault 1 + 2 * n holds it at 0, fault 2 + 2 * n at 1
abbrev pub held : ℕ → ℕ → Bool → Bool
held a n x = if a == 1 + 2 * n then false else (if a == 2 + 2 * n then true else x)

-- the values xs of the nets from n on, in member a
abbrev pub held_from : ℕ → ℕ → List Bool → List Bool
held_from a n [] = []
held_from a n (x ∷ xs) = held a n x ∷ held_from a (n + 1) xs

-- the value of net n
abbrev pub value_at : List Bool → ℕ → Bool
value_at nets n = slice_index_or nets n false

-- the value of a gate
abbrev pub gate_at : List Bool → Gate → Bool
gate_at nets g = gate_value g.kind (value_at nets g.left) (value_at nets g.right)

-- the nets with those of the gates, one gate after another, in member a
abbrev pub with_gates : ℕ → List Bool → List Gate → List Bool
with_gates a nets [] = nets
with_gates a nets (g ∷ gs) = with_gates a (nets ++ held a (length nets) (gate_at nets g) ∷ []) gs

-- the values of all nets in member a, at a state and a letter
abbrev pub net_values : ℕ → ℕ → List Gate → ℕ → ℕ → ℕ → List Bool
net_values pins flip_flops gates a q l = with_gates a (held_from a 0 (bits pins l ++ bits flip_flops q)) gates

-- the word of the nets with these numbers
abbrev pub word_at : List Bool → List ℕ → ℕ
word_at nets numbers = word (map (value_at nets) numbers)
