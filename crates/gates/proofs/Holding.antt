-- A stuck net: held once, where its value is made, it is held wherever it is read.
use Rattle.std.proofs.Common.{◌≡◌, ℕ, zero, suc, ◌+◌, ◌-◌, ◌*◌, ◌/◌, ◌%◌, ◌<◌, ◌≤◌, Bool, true, false, eqb, ◌⊎◌, List, [], ◌∷◌, ◌++◌, length, take, drop, set, sym, refl, ap, ◌∙◌, subst, inl, inr, arith}
use Rattle.std.proofs.lemmas.List.{length_push, length-set, set_at}
use Rattle.std.proofs.lemmas.Bool.{cases_lt, cases_Bool, eq-eqb, ne_eqb, eqb-true, eqb-false}
use Rattle.gates.specs.Nets.{held, held_from, gate_at, with_gates}
use Rattle.gates.specs.declared.gate.Gate.{Gate}

-- the good machine holds no net
pub held_none : (n : ℕ) (x : Bool) → held 0 n x ≡ x
held_none n x =
    let low : eqb 0 (1 + 2 * n) ≡ false = ne_eqb 0 (1 + 2 * n) (λ e. omega arith) in
    let high : eqb 0 (2 + 2 * n) ≡ false = ne_eqb 0 (2 + 2 * n) (λ e. omega arith) in
    simp (low, high)

-- nor does it any of a list
pub held_from_none : (k : ℕ) (xs : List Bool) → held_from 0 k xs ≡ xs
held_from_none k [] = refl
held_from_none k (x ∷ xs) = rw (held_none k x, held_from_none (k + 1) xs)

module _ (a n : ℕ) (v : Bool) (here : (x : Bool) → held a n x ≡ v) (other : (m : ℕ) (x : Bool) → (m ≡ n → ⊥) → held a m x ≡ x) where
  -- the stuck net is none of a list's
  held_from_other : (k : ℕ) (xs : List Bool) → (n < k) ⊎ (k + length xs ≤ n) → held_from a k xs ≡ xs
  held_from_other k [] h = refl
  held_from_other k (x ∷ xs) (inl h) = rw (other k x (λ e. omega arith), held_from_other (k + 1) xs (inl (omega arith)))
  held_from_other k (x ∷ xs) (inr h) = rw (other k x (λ e. omega arith), held_from_other (k + 1) xs (inr (omega arith)))

  -- it is the one at place i
  held_from_here : (k i : ℕ) (xs : List Bool) → n ≡ k + i → i < length xs → held_from a k xs ≡ set xs i v
  held_from_here k i [] e h = absurd (omega arith)
  held_from_here k zero (x ∷ xs) e h =
      let at : k ≡ n = omega arith in
      let first : held a k x ≡ v = subst (λ (m : ℕ). held a m x ≡ v) (sym at) (here x) in
      rw (first, held_from_other (k + 1) xs (inl (omega arith)))
  held_from_here k (suc i) (x ∷ xs) e h = rw (other k x (λ f. omega arith), held_from_here (k + 1) i xs (omega arith) (omega arith))

  -- it is no gate's
  with_gates_past : (nets : List Bool) (gs : List Gate) → n < length nets → with_gates a nets gs ≡ with_gates 0 nets gs
  with_gates_past nets [] h = refl
  with_gates_past nets (g ∷ gs) h =
      let x : Bool = gate_at nets g in
      let same : held a (length nets) x ≡ held 0 (length nets) x = other (length nets) x (λ e. omega arith) ∙ sym (held_none (length nets) x) in
      ap (λ (y : Bool). with_gates a (nets ++ y ∷ []) gs) same ∙ with_gates_past (nets ++ held 0 (length nets) x ∷ []) gs (omega (arith, length_push nets (held 0 (length nets) x)))

  -- it is the gate's at place i
  with_gates_here : (i : ℕ) (nets : List Bool) (gs : List Gate) → n ≡ length nets + i → i < length gs →
      with_gates a nets gs ≡ with_gates 0 (set (with_gates 0 nets (take (suc i) gs)) n v) (drop (suc i) gs)
  with_gates_here i nets [] e h = absurd (omega arith)
  with_gates_here zero nets (g ∷ gs) e h =
      let x : Bool = gate_at nets g in
      let at : length nets ≡ n = omega arith in
      let first : held a (length nets) x ≡ v = subst (λ (m : ℕ). held a m x ≡ v) (sym at) (here x) in
      ap (λ (y : Bool). with_gates a (nets ++ y ∷ []) gs) first
      ∙ with_gates_past (nets ++ v ∷ []) gs (omega (arith, length_push nets v))
      ∙ ap (λ (ns : List Bool). with_gates 0 ns gs) (sym (set_at nets (held 0 (length nets) x) [] v n at))
  with_gates_here (suc i) nets (g ∷ gs) e h =
      let x : Bool = gate_at nets g in
      let same : held a (length nets) x ≡ held 0 (length nets) x = other (length nets) x (λ f. omega arith) ∙ sym (held_none (length nets) x) in
      ap (λ (y : Bool). with_gates a (nets ++ y ∷ []) gs) same ∙ with_gates_here i (nets ++ held 0 (length nets) x ∷ []) gs (omega (arith, length_push nets (held 0 (length nets) x))) (omega arith)

  -- the gates up to the stuck net, that net, and the other gates
  pub stuck_evaluated : (nets : List Bool) (gs : List Gate) → n < length nets + length gs →
      with_gates a (held_from a 0 nets) gs ≡ with_gates 0 (set (with_gates 0 nets (take (n + 1 - length nets) gs)) n v) (drop (n + 1 - length nets) gs)
  stuck_evaluated nets gs h = go (cases_lt n (length nets)) where
    Split : ℕ → Type 0
    Split k = with_gates a (held_from a 0 nets) gs ≡ with_gates 0 (set (with_gates 0 nets (take k gs)) n v) (drop k gs)

    go : (n < length nets) ⊎ (length nets ≤ n) → Split (n + 1 - length nets)
    go (inl b) =
        let none : 0 ≡ n + 1 - length nets = omega arith in
        let source : held_from a 0 nets ≡ set nets n v = held_from_here 0 n nets (omega arith) b in
        subst Split none (ap (λ (ns : List Bool). with_gates a ns gs) source ∙ with_gates_past (set nets n v) gs (omega (arith, length-set nets n v)))
    go (inr b) =
        let some : suc (n - length nets) ≡ n + 1 - length nets = omega arith in
        subst Split some (ap (λ (ns : List Bool). with_gates a ns gs) (held_from_other 0 nets (inr (omega arith))) ∙ with_gates_here (n - length nets) nets gs (omega arith) (omega arith))

-- the net that a fault holds
pub held_here : (a : ℕ) → 0 < a → (x : Bool) → held a ((a - 1) / 2) x ≡ eqb (a % 2) 0
held_here a h x = elim (cases_Bool (eqb (a % 2) 0)) [
  | inl even ↦
      (let e = eqb-true (a % 2) 0 even in
      let low : eqb a (1 + 2 * ((a - 1) / 2)) ≡ false = ne_eqb _ _ (λ f. omega arith) in
      let high : eqb a (2 + 2 * ((a - 1) / 2)) ≡ true = eq-eqb _ _ (omega arith) in
      simp (low, high, even))
  | inr odd ↦
      (let e = eqb-false (a % 2) 0 odd in
      let low : eqb a (1 + 2 * ((a - 1) / 2)) ≡ true = eq-eqb _ _ (omega arith) in
      simp (low, odd))
]

-- the nets that it does not hold
pub held_other : (a : ℕ) → 0 < a → (m : ℕ) (x : Bool) → (m ≡ (a - 1) / 2 → ⊥) → held a m x ≡ x
held_other a h m x ne =
    let low : eqb a (1 + 2 * m) ≡ false = ne_eqb a (1 + 2 * m) (λ e. ne (omega arith)) in
    let high : eqb a (2 + 2 * m) ≡ false = ne_eqb a (2 + 2 * m) (λ e. ne (omega arith)) in
    simp (low, high)
