-- A replay finds a difference exactly where the sequence distinguishes the two members.
use Rattle.std.proofs.Common.{◌≡◌, ℕ, zero, suc, ◌+◌, ◌<◌, ◌≤◌, Bool, true, false, cond, ltb, leb, List, [], ◌∷◌, length, get_or, is_some, Some, refl, inl, inr, arith}
use Rattle.std.proofs.lemmas.Bool.{and_parts, ltb-true}
use Rattle.machine.specs.Lists.{all}
use Rattle.machine.specs.Machines.{Machine, reset_of, step_of}
use Rattle.machine.specs.Outputs.{differ, outputs_from, difference_from, first_difference, Distinguishes, Equivalent, LeastDistinguishing}
use Rattle.machine.specs.Sequences.{Letters, legal, AtMost}
use Rattle.machine.proofs.Orders.{at_most_antisymmetric}

all_letters : (n : ℕ) (s : List ℕ) → all (λ l. ltb l n) s ≡ true → Letters n s
all_letters n [] e = tt
all_letters n (l ∷ s) e = let p = and_parts (ltb l n) (all (λ k. ltb k n) s) e in (ltb-true l n p.0, all_letters n s p.1)

pub legal_letters : (n : ℕ) (s : List ℕ) → legal n s ≡ true → Letters n s
legal_letters n s e =
    let p = (and_parts (ltb 0 (length s)) _ e).1 in
    all_letters n s (and_parts (leb (length s) 16384) _ p).1

pub at_most_length : (s t : List ℕ) → AtMost s t → length s ≤ length t
at_most_length s t (inl e) = let same : length s ≡ length t = cc in omega arith
at_most_length s t (inr (inl h)) = omega arith
at_most_length s t (inr (inr h)) = let same = h.0 in omega arith

module _ (m : Machine) (a b : ℕ) where
  -- whether the outputs from the states p and q on differ at place k
  abbrev differ_from : ℕ → ℕ → List ℕ → ℕ → Bool
  differ_from p q s k = differ (get_or (outputs_from m a p s) k 0) (get_or (outputs_from m b q s) k 0)

  -- whether a replay from the states p and q finds a difference
  abbrev finds : ℕ → ℕ → ℕ → List ℕ → Bool
  finds i p q s = is_some (difference_from i (outputs_from m a p s) (outputs_from m b q s))

  found_differs : (s : List ℕ) (i p q : ℕ) → finds i p q s ≡ true → (k : ℕ) × (k < length s) × (differ_from p q s k ≡ true)
  found_differs [] i p q e = absurd (cc)
  found_differs (l ∷ s) i p q e = go (differ (step_of m a p l).1 (step_of m b q l).1) refl e (found_differs s)
    where
      go : (t : Bool) → differ (step_of m a p l).1 (step_of m b q l).1 ≡ t
          → is_some (cond t (Some i) (difference_from (i + 1) (outputs_from m a (step_of m a p l).0 s) (outputs_from m b (step_of m b q l).0 s))) ≡ true
          → ((i p q : ℕ) → finds i p q s ≡ true → (k : ℕ) × (k < length s) × (differ_from p q s k ≡ true))
          → (k : ℕ) × (k < length (l ∷ s)) × (differ_from p q (l ∷ s) k ≡ true)
      go true d o ih = (0, omega arith, d)
      go false d o ih = let x = ih _ _ _ o in let low = x.1 in (suc x.0, omega arith, x.2)

  differs_found : (s : List ℕ) (i p q k : ℕ) → k < length s → differ_from p q s k ≡ true → finds i p q s ≡ true
  differs_found [] i p q k low d = absurd (omega arith)
  differs_found (l ∷ s) i p q k low d = go (differ (step_of m a p l).1 (step_of m b q l).1) refl k low d (differs_found s)
    where
      go : (t : Bool) → differ (step_of m a p l).1 (step_of m b q l).1 ≡ t
          → (k : ℕ) → k < length (l ∷ s) → differ_from p q (l ∷ s) k ≡ true
          → ((i p q k : ℕ) → k < length s → differ_from p q s k ≡ true → finds i p q s ≡ true)
          → is_some (cond t (Some i) (difference_from (i + 1) (outputs_from m a (step_of m a p l).0 s) (outputs_from m b (step_of m b q l).0 s))) ≡ true
      go true e k low d ih = refl
      go false e zero low d ih = absurd (cc)
      go false e (suc k) low d ih = ih _ _ _ k (omega arith) d

  pub found_distinguishes : (s : List ℕ) → Letters m.letters s → is_some (first_difference m a b s) ≡ true → Distinguishes m a b s
  found_distinguishes s h e =
      let x = found_differs s 0 (reset_of m a) (reset_of m b) e in
      record { letters = h; place = x.0; inside = x.1; differs = x.2 }

  pub distinguishes_found : (s : List ℕ) → Distinguishes m a b s → is_some (first_difference m a b s) ≡ true
  distinguishes_found s d = differs_found s 0 (reset_of m a) (reset_of m b) d.place d.inside d.differs

  pub equivalent_never : Equivalent m a b → (s : List ℕ) → Distinguishes m a b s → ⊥
  equivalent_never same s d = let differs = d.differs in cc (same s d.letters d.place d.inside)

  pub least_same : (s t : List ℕ) → LeastDistinguishing m a b s → LeastDistinguishing m a b t → s ≡ t
  least_same s t x y = at_most_antisymmetric s t (x.least t y.distinguishes) (y.least s x.distinguishes)
