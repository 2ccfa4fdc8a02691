-- A pass over all gates gives the values of all nets.
use Rattle.std.proofs.Common.{◌≡◌, ℕ, zero, suc, ◌+◌, ◌-◌, ◌*◌, ◌/◌, ◌%◌, ◌<◌, ◌≤◌, Bool, true, false, eqb, List, [], ◌∷◌, ◌++◌, length, take, drop, set, sym, refl, ap, ◌∙◌, subst, arith}
use Rattle.std.proofs.lemmas.List.{take_more_set, length-set, length-take-le, length-drop, get_or-take}
use Rattle.std.proofs.Math.Seq.{take-set-lt}
use Rattle.std.proofs.lemmas.Bool.{and_parts, and_from}
use Rattle.gates.specs.Words.{bits}
use Rattle.gates.specs.Nets.{held, held_from, gate_at, with_gates}
use Rattle.gates.specs.Passes.{passed, passed_held}
use Rattle.gates.specs.Rules.{gate_ordered, gates_ordered}
use Rattle.gates.specs.declared.gate.Gate.{Gate}
use Rattle.gates.proofs.Passing.{reads_lower}
use Rattle.gates.proofs.Holding.{held_none, held_from_none, held_here, held_other, stuck_evaluated}

-- the first k gates are in order
pub ordered_take : (n k : ℕ) (gs : List Gate) → gates_ordered n gs ≡ true → gates_ordered n (take k gs) ≡ true
ordered_take n zero gs o = refl
ordered_take n (suc k) [] o = refl
ordered_take n (suc k) (g ∷ gs) o =
    let parts = and_parts (gate_ordered n g) (gates_ordered (n + 1) gs) o in
    and_from (gate_ordered n g) _ parts.0 (ordered_take (n + 1) k gs parts.1)

-- and so are the others
pub ordered_drop : (n k : ℕ) (gs : List Gate) → gates_ordered n gs ≡ true → gates_ordered (n + k) (drop k gs) ≡ true
ordered_drop n zero gs o = let e : n ≡ n + 0 = omega arith in subst (λ (m : ℕ). gates_ordered m gs ≡ true) e o
ordered_drop n (suc k) [] o = refl
ordered_drop n (suc k) (g ∷ gs) o =
    let e : n + 1 + k ≡ n + suc k = omega arith in
    subst (λ (m : ℕ). gates_ordered m (drop k gs) ≡ true) e (ordered_drop (n + 1) k gs (and_parts (gate_ordered n g) (gates_ordered (n + 1) gs) o).1)

-- a pass keeps the number of nets
length_passed : (nets : List Bool) (n : ℕ) (gs : List Gate) → length (passed nets n gs) ≡ length nets
length_passed nets n [] = refl
length_passed nets n (g ∷ gs) = length_passed (set nets n (gate_at nets g)) (n + 1) gs ∙ length-set nets n (gate_at nets g)

-- a pass over gates gives the nets that they add, with none held
passed_is : (nets : List Bool) (n : ℕ) (gs : List Gate) → gates_ordered n gs ≡ true → n + length gs ≤ length nets → take (n + length gs) (passed nets n gs) ≡ with_gates 0 (take n nets) gs
passed_is nets n [] o h = let e : n + 0 ≡ n = omega arith in ap (λ (m : ℕ). take m nets) e
passed_is nets n (g ∷ gs) o h =
    let parts = and_parts (gate_ordered n g) (gates_ordered (n + 1) gs) o in
    let reads = reads_lower n g parts.0 in
    let x : Bool = gate_at nets g in
    let front : List Bool = take n nets in
    let same : gate_at front g ≡ x = rw (get_or-take n nets g.left false reads.0, get_or-take n nets g.right false reads.1) in
    let here : held 0 (length front) (gate_at front g) ≡ x = held_none (length front) (gate_at front g) ∙ same in
    let count : n + suc (length gs) ≡ n + 1 + length gs = omega arith in
    let room : n + 1 + length gs ≤ length (set nets n x) = omega (arith, length-set nets n x) in
    ap (λ (m : ℕ). take m (passed (set nets n x) (n + 1) gs)) count
    ∙ passed_is (set nets n x) (n + 1) gs parts.1 room
    ∙ ap (λ (ns : List Bool). with_gates 0 ns gs) (take_more_set nets n x (omega arith))
    ∙ ap (λ (y : Bool). with_gates 0 (front ++ y ∷ []) gs) (sym here)

module _ (nets : List Bool) (n : ℕ) (gs : List Gate) (o : gates_ordered n gs ≡ true) (room : n + length gs ≤ length nets) where
  -- the first k gates
  front_is : (k : ℕ) → k ≤ length gs → take (n + k) (passed nets n (take k gs)) ≡ with_gates 0 (take n nets) (take k gs)
  front_is k h =
      let count : length (take k gs) ≡ k = length-take-le k gs h in
      ap (λ (m : ℕ). take (n + m) (passed nets n (take k gs))) (sym count)
      ∙ passed_is nets n (take k gs) (ordered_take n k gs o) (omega arith)

  -- the gates after the first k
  back_is : (k : ℕ) → k ≤ length gs → take (n + length gs) (passed nets (n + k) (drop k gs)) ≡ with_gates 0 (take (n + k) nets) (drop k gs)
  back_is k h =
      let count : n + k + length (drop k gs) ≡ n + length gs = omega (arith, length-drop k gs) in
      ap (λ (m : ℕ). take m (passed nets (n + k) (drop k gs))) (sym count)
      ∙ passed_is nets (n + k) (drop k gs) (ordered_drop n k gs o) (omega arith)

  -- the good machine
  pub good_settled : take (n + length gs) (passed nets n gs) ≡ with_gates 0 (held_from 0 0 (take n nets)) gs
  good_settled = passed_is nets n gs o room ∙ ap (λ (ns : List Bool). with_gates 0 ns gs) (sym (held_from_none 0 (take n nets)))

-- a fault
pub fault_settled : (nets : List Bool) (n : ℕ) (gs : List Gate) → gates_ordered n gs ≡ true → n + length gs ≤ length nets → (a : ℕ) → 0 < a → a < 2 * (n + length gs) + 1 →
    take (n + length gs) (passed_held nets n gs ((a - 1) / 2) (eqb (a % 2) 0)) ≡ with_gates a (held_from a 0 (take n nets)) gs
fault_settled nets n gs o room a h l =
    let net : ℕ = (a - 1) / 2 in
    let v : Bool = eqb (a % 2) 0 in
    let k : ℕ = net + 1 - n in
    let up_to : List Bool = passed nets n (take k gs) in
    let few : k ≤ length gs = omega arith in
    let count : length (take n nets) ≡ n = length-take-le n nets (omega arith) in
    let kept : n + length gs ≤ length (set up_to net v) = omega (arith, length-set up_to net v, length_passed nets n (take k gs)) in
    let split : with_gates a (held_from a 0 (take n nets)) gs ≡ with_gates 0 (set (with_gates 0 (take n nets) (take k gs)) net v) (drop k gs) =
    subst (λ (m : ℕ). with_gates a (held_from a 0 (take n nets)) gs ≡ with_gates 0 (set (with_gates 0 (take n nets) (take (net + 1 - m) gs)) net v) (drop (net + 1 - m) gs)) count
    (stuck_evaluated a net v (held_here a h) (held_other a h) (take n nets) gs (omega arith)) in
    back_is (set up_to net v) n gs o kept k few
    ∙ ap (λ (ns : List Bool). with_gates 0 ns (drop k gs)) (take-set-lt (n + k) up_to net v (omega arith))
    ∙ ap (λ (ns : List Bool). with_gates 0 (set ns net v) (drop k gs)) (front_is nets n gs o room k few)
    ∙ sym split

-- the pins and the flip-flops are written one after the other, each number as it was converted
pub sources_are : (before pinned nets : List Bool) (pins p flip_flops letter l state : ℕ) → p ≡ pins → l ≡ letter → take (0 + p) pinned ≡ take 0 before ++ bits p l → take (p + flip_flops) nets ≡ take p pinned ++ bits flip_flops state →
    take (pins + flip_flops) nets ≡ bits pins letter ++ bits flip_flops state
sources_are before pinned nets pins p flip_flops letter l state same_pins same_letter first second =
    let e : p ≡ 0 + p = omega arith in
    let converted : take (p + flip_flops) nets ≡ bits p l ++ bits flip_flops state = second ∙ ap (λ (ns : List Bool). ns ++ bits flip_flops state) (ap (λ (n : ℕ). take n pinned) e ∙ first) in
    subst (λ (x : ℕ). take (x + flip_flops) nets ≡ bits x letter ++ bits flip_flops state) same_pins
    (subst (λ (y : ℕ). take (p + flip_flops) nets ≡ bits p y ++ bits flip_flops state) same_letter converted)
