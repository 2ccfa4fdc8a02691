-- The checks of gates and numbers, one by one.
use Rattle.std.proofs.Common.{◌≡◌, ℕ, suc, ◌+◌, ◌%◌, ◌^◌, ◌≤◌, ◌&&◌, ltb, List, [], ◌∷◌, length, refl, ap, ◌∙◌, arith}
use Rattle.std.specs.List.{list_all, enumerate_from}
use Rattle.gates.specs.Rules.{gate_ordered, gates_ordered, name_nets}
use Rattle.gates.specs.declared.gate.Gate.{Gate}

-- each number names a net
pub all_named : (n : ℕ) (ks : List ℕ) → list_all (λ k. ltb k n) ks ≡ name_nets n ks
all_named n [] = refl
all_named n (k ∷ ks) = ap (λ b. ltb k n && b) (all_named n ks)

-- each gate is in order at its net, where the numbers stay within a word
pub all_ordered : (n k : ℕ) (gs : List Gate) → n + k + length gs ≤ 512 → list_all (λ p. gate_ordered ((n + p.0) % 2 ^ 64) p.1) (enumerate_from k gs) ≡ gates_ordered (n + k) gs
all_ordered n k [] few = refl
all_ordered n k (g ∷ gs) few =
    let small : (n + k) % 2 ^ 64 ≡ n + k = omega arith in
    let next : n + (k + 1) ≡ n + k + 1 = omega arith in
    ap (λ i. gate_ordered i g && list_all (λ p. gate_ordered ((n + p.0) % 2 ^ 64) p.1) (enumerate_from (k + 1) gs)) small
    ∙ ap (λ b. gate_ordered (n + k) g && b) (all_ordered n (k + 1) gs (omega arith) ∙ ap (λ i. gates_ordered i gs) next)
