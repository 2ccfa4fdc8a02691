-- Laws of the order of sequences.
use Rattle.std.proofs.Common.{◌≡◌, ℕ, ◌<◌, List, [], ◌∷◌, ◌++◌, length, sym, refl, ap, ◌∙◌, subst, inl, inr, arith}
use Rattle.std.proofs.lemmas.List.{length_push}
use Rattle.machine.specs.Sequences.{Lexical, Before, AtMost}

pub lexical_push : (s t : List ℕ) (a b : ℕ) → Lexical s t → Lexical (s ++ a ∷ []) (t ++ b ∷ [])
lexical_push [] t a b h = absurd h
lexical_push (x ∷ s) [] a b h = absurd h
lexical_push (x ∷ s) (y ∷ t) a b (inl h) = inl h
lexical_push (x ∷ s) (y ∷ t) a b (inr h) = inr (h.0, lexical_push s t a b h.1)

pub lexical_last : (s : List ℕ) (a b : ℕ) → a < b → Lexical (s ++ a ∷ []) (s ++ b ∷ [])
lexical_last [] a b h = inl h
lexical_last (x ∷ s) a b h = inr (refl, lexical_last s a b h)

pub lexical_trans : (s t u : List ℕ) → Lexical s t → Lexical t u → Lexical s u
lexical_trans [] t u h k = absurd h
lexical_trans (x ∷ s) [] u h k = absurd h
lexical_trans (x ∷ s) (y ∷ t) [] h k = absurd k
lexical_trans (x ∷ s) (y ∷ t) (z ∷ u) (inl h) (inl k) = inl (omega arith)
lexical_trans (x ∷ s) (y ∷ t) (z ∷ u) (inl h) (inr k) = let e = k.0 in inl (omega arith)
lexical_trans (x ∷ s) (y ∷ t) (z ∷ u) (inr h) (inl k) = let e = h.0 in inl (omega arith)
lexical_trans (x ∷ s) (y ∷ t) (z ∷ u) (inr h) (inr k) = inr (h.0 ∙ k.0, lexical_trans s t u h.1 k.1)

pub before_push : (s t : List ℕ) (a b : ℕ) → Before s t → Before (s ++ a ∷ []) (t ++ b ∷ [])
before_push s t a b (inl h) = inl (omega (arith, length_push s a, length_push t b))
before_push s t a b (inr h) = let e = h.0 in inr (omega (arith, length_push s a, length_push t b), lexical_push s t a b h.1)

pub before_last : (s : List ℕ) (a b : ℕ) → a < b → Before (s ++ a ∷ []) (s ++ b ∷ [])
before_last s a b h = inr (omega (arith, length_push s a, length_push s b), lexical_last s a b h)

pub before_trans : (s t u : List ℕ) → Before s t → Before t u → Before s u
before_trans s t u (inl h) (inl k) = inl (omega arith)
before_trans s t u (inl h) (inr k) = let e = k.0 in inl (omega arith)
before_trans s t u (inr h) (inl k) = let e = h.0 in inl (omega arith)
before_trans s t u (inr h) (inr k) = inr (h.0 ∙ k.0, lexical_trans s t u h.1 k.1)

pub at_most_trans : (s t u : List ℕ) → AtMost s t → AtMost t u → AtMost s u
at_most_trans s t u (inl e) k = subst (λ (v : List ℕ). AtMost v u) (sym e) k
at_most_trans s t u (inr h) (inl e) = inr (subst (λ (v : List ℕ). Before s v) e h)
at_most_trans s t u (inr h) (inr k) = inr (before_trans s t u h k)

pub at_most_push : (s t : List ℕ) (a : ℕ) → AtMost s t → AtMost (s ++ a ∷ []) (t ++ a ∷ [])
at_most_push s t a (inl e) = inl (ap (λ (v : List ℕ). v ++ a ∷ []) e)
at_most_push s t a (inr h) = inr (before_push s t a a h)

pub at_most_longer : (s t : List ℕ) (a : ℕ) → AtMost s t → AtMost s (t ++ a ∷ [])
at_most_longer s t a (inl e) = let k = ap length e in inr (inl (omega (arith, length_push t a)))
at_most_longer s t a (inr (inl h)) = inr (inl (omega (arith, length_push t a)))
at_most_longer s t a (inr (inr h)) = let e = h.0 in inr (inl (omega (arith, length_push t a)))

lexical_irreflexive : (s : List ℕ) → Lexical s s → ⊥
lexical_irreflexive [] h = h
lexical_irreflexive (x ∷ s) (inl h) = omega arith
lexical_irreflexive (x ∷ s) (inr h) = lexical_irreflexive s h.1

pub before_irreflexive : (s : List ℕ) → Before s s → ⊥
before_irreflexive s (inl h) = omega arith
before_irreflexive s (inr h) = lexical_irreflexive s h.1

pub at_most_antisymmetric : (s t : List ℕ) → AtMost s t → AtMost t s → s ≡ t
at_most_antisymmetric s t (inl e) k = e
at_most_antisymmetric s t (inr h) (inl e) = sym e
at_most_antisymmetric s t (inr h) (inr k) = absurd (before_irreflexive s (before_trans s t s h k))
