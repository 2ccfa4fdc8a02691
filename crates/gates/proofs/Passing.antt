-- A pass over gates that are in order.
use Rattle.std.proofs.Common.{◌≡◌, ℕ, zero, suc, ◌+◌, ◌<◌, true, List, [], ◌∷◌, length, get_or, subst, arith}
use Rattle.std.proofs.lemmas.Bool.{and_parts, ltb-true}
use Rattle.gates.specs.Rules.{gate_ordered, gates_ordered}
use Rattle.gates.specs.declared.gate.Gate.{Gate}
use Rattle.gates.specs.declared.gate.Kind.TheVariants.{And}

-- what is read past the end of a gate list
abbrev pub no_gate : Gate
no_gate = record { kind = And; left = 0; right = 0 }

-- a gate reads nets below n
abbrev pub ReadsBelow : ℕ → Gate → Type 0
ReadsBelow n g = (g.left < n) × (g.right < n)

-- a gate in order reads nets below its own
pub reads_lower : (n : ℕ) (g : Gate) → gate_ordered n g ≡ true → ReadsBelow n g
reads_lower n g o = let reads = and_parts _ _ (and_parts _ _ o).0 in (ltb-true g.left n reads.0, ltb-true g.right n reads.1)

-- so does each of a list
pub reads_lower_at : (n : ℕ) (gs : List Gate) (i : ℕ) → i < length gs → gates_ordered n gs ≡ true → ReadsBelow (n + i) (get_or gs i no_gate)
reads_lower_at n [] i h o = absurd (omega arith)
reads_lower_at n (g ∷ gs) zero h o =
    let e : n ≡ n + 0 = omega arith in
    subst (λ (m : ℕ). ReadsBelow m g) e (reads_lower n g (and_parts (gate_ordered n g) (gates_ordered (n + 1) gs) o).0)
reads_lower_at n (g ∷ gs) (suc i) h o =
    let e : n + 1 + i ≡ n + suc i = omega arith in
    subst (λ (m : ℕ). ReadsBelow m (get_or gs i no_gate)) e (reads_lower_at (n + 1) gs i (omega arith) (and_parts (gate_ordered n g) (gates_ordered (n + 1) gs) o).1)
