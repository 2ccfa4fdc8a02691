-- A computed test over all sequences up to one: it is the least that arrives where a test says.
use Rattle.std.proofs.Common.{◌≡◌, ℕ, zero, suc, ◌<◌, Bool, true, false, not, ◌&&◌, ◌⊎◌, List, [], ◌∷◌, length, sym, refl, ap, ◌∙◌, inl, inr, arith}
use Rattle.std.proofs.lemmas.Bool.{and_parts, not-true, both_ways, cases_order}
use Rattle.machine.specs.Sequences.{Letters, Lexical, Before, AtMost}

-- every number below n passes
abbrev pub each : ℕ → (ℕ → Bool) → Bool
each zero t = true
each (suc n) t = t n && each n t

each_at : (n : ℕ) (t : ℕ → Bool) → each n t ≡ true → (l : ℕ) → l < n → t l ≡ true
each_at zero t e l h = absurd (omega arith)
each_at (suc n) t e l h = go (cases_order l n) (each_at n t)
  where
    go : (l ≡ n) ⊎ ((l < n) ⊎ (n < l)) → (each n t ≡ true → (k : ℕ) → k < n → t k ≡ true) → t l ≡ true
    go (inl same) ih = ap t same ∙ (and_parts (t n) (each n t) e).0
    go (inr (inl low)) ih = ih (and_parts (t n) (each n t) e).1 l low
    go (inr (inr high)) ih = absurd (omega arith)

-- of two sequences one is the other or stands before it
lexical_total : (s t : List ℕ) → length s ≡ length t → (s ≡ t) ⊎ (Lexical s t ⊎ Lexical t s)
lexical_total [] [] e = inl refl
lexical_total [] (y ∷ t) e = absurd (omega arith)
lexical_total (x ∷ s) [] e = absurd (omega arith)
lexical_total (x ∷ s) (y ∷ t) e = go (cases_order x y) (lexical_total s t (omega arith))
  where
    go : (x ≡ y) ⊎ ((x < y) ⊎ (y < x)) → (s ≡ t) ⊎ (Lexical s t ⊎ Lexical t s) → (x ∷ s ≡ y ∷ t) ⊎ (Lexical (x ∷ s) (y ∷ t) ⊎ Lexical (y ∷ t) (x ∷ s))
    go (inl h) (inl r) = inl (ap (λ k. k ∷ s) h ∙ ap (λ u. y ∷ u) r)
    go (inl h) (inr (inl r)) = inr (inl (inr (h, r)))
    go (inl h) (inr (inr r)) = inr (inr (inr (sym h, r)))
    go (inr (inl h)) r = inr (inl (inl h))
    go (inr (inr h)) r = inr (inr (inl h))

total : (s t : List ℕ) → AtMost s t ⊎ Before t s
total s t = go (cases_order (length s) (length t))
  where
    same : (length s ≡ length t) → (s ≡ t) ⊎ (Lexical s t ⊎ Lexical t s) → AtMost s t ⊎ Before t s
    same e (inl h) = inl (inl h)
    same e (inr (inl h)) = inl (inr (inr (e, h)))
    same e (inr (inr h)) = inr (inr (sym e, h))

    go : (length s ≡ length t) ⊎ ((length s < length t) ⊎ (length t < length s)) → AtMost s t ⊎ Before t s
    go (inl e) = same e (lexical_total s t e)
    go (inr (inl h)) = inl (inr (inl h))
    go (inr (inr h)) = inr (inl h)

module _ (letters : ℕ) {P : Type 0} (next : P → ℕ → P) (hits : P → Bool) where
  -- where a sequence leads
  abbrev pub led : P → List ℕ → P
  led p [] = p
  led p (l ∷ s) = led (next p l) s

  -- no sequence of n letters arrives
  abbrev pub none_at : ℕ → P → Bool
  none_at zero p = not (hits p)
  none_at (suc n) p = each letters (λ l. none_at n (next p l))

  -- none with fewer than n letters does
  abbrev pub none_below : ℕ → P → Bool
  none_below zero p = true
  none_below (suc n) p = none_at n p && none_below n p

  -- none of the same length that stands before s does
  abbrev pub none_before : List ℕ → P → Bool
  none_before [] p = true
  none_before (x ∷ s) p = each x (λ l. none_at (length s) (next p l)) && none_before s (next p x)

  at_sound : (n : ℕ) (p : P) → none_at n p ≡ true → (t : List ℕ) → Letters letters t → length t ≡ n → hits (led p t) ≡ false
  at_sound zero p e [] h c = not-true _ e
  at_sound zero p e (l ∷ t) h c = absurd (omega arith)
  at_sound (suc n) p e [] h c = absurd (omega arith)
  at_sound (suc n) p e (l ∷ t) h c = at_sound n (next p l) (each_at letters (λ k. none_at n (next p k)) e l h.0) t h.1 (omega arith)

  below_sound : (n : ℕ) (p : P) → none_below n p ≡ true → (t : List ℕ) → Letters letters t → length t < n → hits (led p t) ≡ false
  below_sound zero p e t h c = absurd (omega arith)
  below_sound (suc n) p e t h c = go (cases_order (length t) n) (below_sound n p)
    where
      go : (length t ≡ n) ⊎ ((length t < n) ⊎ (n < length t)) → (none_below n p ≡ true → (u : List ℕ) → Letters letters u → length u < n → hits (led p u) ≡ false) → hits (led p t) ≡ false
      go (inl same) ih = at_sound n p (and_parts (none_at n p) (none_below n p) e).0 t h same
      go (inr (inl low)) ih = ih (and_parts (none_at n p) (none_below n p) e).1 t h low
      go (inr (inr high)) ih = absurd (omega arith)

  before_sound : (s : List ℕ) (p : P) → none_before s p ≡ true → (t : List ℕ) → Letters letters t → length t ≡ length s → Lexical t s → hits (led p t) ≡ false
  before_sound [] p e [] h c o = absurd o
  before_sound [] p e (l ∷ t) h c o = absurd o
  before_sound (x ∷ s) p e [] h c o = absurd o
  before_sound (x ∷ s) p e (l ∷ t) h c (inl o) = at_sound (length s) (next p l) (each_at x (λ k. none_at (length s) (next p k)) (and_parts (each x (λ k. none_at (length s) (next p k))) (none_before s (next p x)) e).0 l o) t h.1 (omega arith)
  before_sound (x ∷ s) p e (l ∷ t) h c (inr o) =
      let rest = (and_parts (each x (λ k. none_at (length s) (next p k))) (none_before s (next p x)) e).1 in
      ap (λ (k : ℕ). hits (led (next p k) t)) o.0 ∙ before_sound s (next p x) rest t h.1 (omega arith) o.1

  -- whatever arrives is s or comes after it
  pub least_hit : (s : List ℕ) (p : P) → none_below (length s) p ≡ true → none_before s p ≡ true → (t : List ℕ) → Letters letters t → hits (led p t) ≡ true → AtMost s t
  least_hit s p short equal t h arrives = go (total s t)
    where
      go : AtMost s t ⊎ Before t s → AtMost s t
      go (inl o) = o
      go (inr (inl o)) = absurd (both_ways _ (below_sound (length s) p short t h o) arrives)
      go (inr (inr o)) = absurd (both_ways _ (before_sound s p equal t h o.0 o.1) arrives)
