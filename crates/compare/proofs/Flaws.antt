-- The first flaw of a list of pairs, letter by letter and place by place.
use Rattle.std.proofs.Common.{◌≡◌, ℕ, zero, suc, ◌+◌, ◌-◌, ◌<◌, ◌≤◌, Bool, true, false, cond, ◌⊎◌, List, [], ◌∷◌, length, get_or, is_some, Some, None, Option, sym, refl, ap, ◌∙◌, inl, inr, arith}
use Rattle.std.proofs.lemmas.Bool.{or_cases, cases_lt}
use Rattle.std.specs.Option.{option_or}
use Rattle.std.specs.List.{enumerate_from}
use Rattle.machine.specs.Machines.{Machine, step_of}
use Rattle.machine.specs.Outputs.{differ}
use Rattle.machine.specs.declared.pair.Pair.{Pair}
use Rattle.compare.specs.Checks.{listed, next_pair, flaw_at, flaw_at_letters, flaw_at_places}
use Rattle.compare.specs.declared.flaw.Flaw.{Flaw}
use Rattle.compare.specs.declared.flaw.Flaw.TheVariants.{OutputsDiffer, SuccessorMissing}
use Rattle.compare.proofs.FirstOf.{first_of}
use Rattle.compare.proofs.Tables.{same_pair, same_pair_is}

both_none : (f g : Option Flaw) → option_or f g ≡ None → (f ≡ None) × (g ≡ None)
both_none None g e = (refl, e)
both_none (Some x) g e = absurd cc

module _ (m : Machine) (a b : ℕ) (has : Pair → Bool) where
  -- the first flaw along the places
  pub places_first : (k : ℕ) (ps : List Pair) → first_of (λ (e : ℕ × Pair). flaw_at_letters m a b has e.0 e.1 0 m.letters) (enumerate_from k ps) ≡ flaw_at_places m a b has k ps
  places_first k [] = refl
  places_first k (p ∷ ps) = ap (option_or (flaw_at_letters m a b has k p 0 m.letters)) (places_first (k + 1) ps)

  -- the letters from one on: a flaw here, or one behind it; none behind the last
  pub letter_flawed : (k : ℕ) (p : Pair) (l n : ℕ) (f : Option Flaw) → l < n → f ≡ flaw_at m a b has k p l → is_some f ≡ true → f ≡ flaw_at_letters m a b has k p l (n - l)
  letter_flawed k p l n None h e s = absurd cc
  letter_flawed k p l n (Some x) h e s = let size : n - l ≡ suc (n - (l + 1)) = omega arith in ap (λ o. option_or o (flaw_at_letters m a b has k p (l + 1) (n - (l + 1)))) e ∙ sym (ap (flaw_at_letters m a b has k p l) size)

  pub letter_passed : (k : ℕ) (p : Pair) (l n : ℕ) (f : Option Flaw) → l < n → f ≡ flaw_at m a b has k p l → is_some f ≡ false → flaw_at_letters m a b has k p (l + 1) (n - (l + 1)) ≡ flaw_at_letters m a b has k p l (n - l)
  letter_passed k p l n None h e s = let size : n - l ≡ suc (n - (l + 1)) = omega arith in ap (λ o. option_or o (flaw_at_letters m a b has k p (l + 1) (n - (l + 1)))) e ∙ sym (ap (flaw_at_letters m a b has k p l) size)
  letter_passed k p l n (Some x) h e s = absurd cc

  pub letters_over : (k : ℕ) (p : Pair) (l n : ℕ) → n ≤ l → None ≡ flaw_at_letters m a b has k p l (n - l)
  letters_over k p l n h = let e : n - l ≡ 0 = omega arith in sym (ap (flaw_at_letters m a b has k p l) e)

  no_letter : (k : ℕ) (p : Pair) (n l : ℕ) → ((i : ℕ) → l ≤ i → i < l + n → flaw_at m a b has k p i ≡ None) → flaw_at_letters m a b has k p l n ≡ None
  no_letter k p zero l h = refl
  no_letter k p (suc n) l h =
      ap (λ o. option_or o (flaw_at_letters m a b has k p (l + 1) n)) (h l (omega arith) (omega arith))
      ∙ no_letter k p n (l + 1) (λ i x y. h i (omega arith) (omega arith))

  -- nothing is wrong at the pair and the letter
  abbrev pub Good : Pair → ℕ → Type 0
  Good p l = (differ (step_of m a p.first l).1 (step_of m b p.second l).1 ≡ false) × (has (next_pair m a b p l) ≡ true)

  none_good : (k : ℕ) (p : Pair) (l : ℕ) → flaw_at m a b has k p l ≡ None → Good p l
  none_good k p l e = go (differ (step_of m a p.first l).1 (step_of m b p.second l).1) (has (next_pair m a b p l)) refl refl e
    where
      go : (t u : Bool) → differ (step_of m a p.first l).1 (step_of m b p.second l).1 ≡ t → has (next_pair m a b p l) ≡ u → cond t (Some (OutputsDiffer k l)) (cond u None (Some (SuccessorMissing k l))) ≡ None → Good p l
      go true u x y o = absurd cc
      go false true x y o = (x, y)
      go false false x y o = absurd cc

  good_none : (k : ℕ) (p : Pair) (l : ℕ) → Good p l → flaw_at m a b has k p l ≡ None
  good_none k p l h =
      ap (λ t. cond t (Some (OutputsDiffer k l)) (cond (has (next_pair m a b p l)) None (Some (SuccessorMissing k l)))) h.0
      ∙ ap (λ u. cond u None (Some (SuccessorMissing k l))) h.1

  letters_good : (k : ℕ) (p : Pair) (n l : ℕ) → flaw_at_letters m a b has k p l n ≡ None → (i : ℕ) → l ≤ i → i < l + n → Good p i
  letters_good k p zero l e i h c = absurd (omega arith)
  letters_good k p (suc n) l e i h c = go (cases_lt l i) (both_none (flaw_at m a b has k p l) (flaw_at_letters m a b has k p (l + 1) n) e) (letters_good k p n (l + 1))
    where
      go : (l < i) ⊎ (i ≤ l) → (flaw_at m a b has k p l ≡ None) × (flaw_at_letters m a b has k p (l + 1) n ≡ None) → (flaw_at_letters m a b has k p (l + 1) n ≡ None → (j : ℕ) → l + 1 ≤ j → j < l + 1 + n → Good p j) → Good p i
      go (inl o) x ih = ih x.1 i (omega arith) (omega arith)
      go (inr o) x ih = let one : i ≡ l = omega arith in none_good k p i (ap (flaw_at m a b has k p) one ∙ x.0)

  -- no flaw in a list: every pair of it is good at every letter
  pub places_good : (ps : List Pair) (k : ℕ) → flaw_at_places m a b has k ps ≡ None → (p : Pair) → listed ps p ≡ true → (l : ℕ) → l < m.letters → Good p l
  places_good [] k e p h l c = absurd cc
  places_good (q ∷ ps) k e p h l c = go (or_cases (same_pair q p) (listed ps p) h) (both_none (flaw_at_letters m a b has k q 0 m.letters) (flaw_at_places m a b has (k + 1) ps) e) (places_good ps (k + 1))
    where
      go : (same_pair q p ≡ true) ⊎ (listed ps p ≡ true) → (flaw_at_letters m a b has k q 0 m.letters ≡ None) × (flaw_at_places m a b has (k + 1) ps ≡ None) → (flaw_at_places m a b has (k + 1) ps ≡ None → (r : Pair) → listed ps r ≡ true → (i : ℕ) → i < m.letters → Good r i) → Good p l
      go (inl s) x ih = letters_good k p m.letters 0 (ap (λ (r : Pair). flaw_at_letters m a b has k r 0 m.letters) (sym (same_pair_is q p s)) ∙ x.0) l (omega arith) (omega arith)
      go (inr s) x ih = ih x.1 p s l c

  pub good_places : (ps : List Pair) (k : ℕ) (d : Pair) → ((i : ℕ) → i < length ps → (l : ℕ) → l < m.letters → Good (get_or ps i d) l) → flaw_at_places m a b has k ps ≡ None
  good_places [] k d h = refl
  good_places (p ∷ ps) k d h =
      ap (λ o. option_or o (flaw_at_places m a b has (k + 1) ps)) (no_letter k p m.letters 0 (λ l x y. good_none k p l (h 0 (omega arith) l (omega arith))))
      ∙ good_places ps (k + 1) d (λ i x l y. h (suc i) (omega arith) l y)

-- two ways to say which pairs are listed, alike at every pair that can follow
module _ (m : Machine) (a b : ℕ) (has had : Pair → Bool) (alike : (p : Pair) (l : ℕ) → has (next_pair m a b p l) ≡ had (next_pair m a b p l)) where
  at_alike : (k : ℕ) (p : Pair) (l : ℕ) → flaw_at m a b has k p l ≡ flaw_at m a b had k p l
  at_alike k p l = ap (λ u. cond (differ (step_of m a p.first l).1 (step_of m b p.second l).1) (Some (OutputsDiffer k l)) (cond u None (Some (SuccessorMissing k l)))) (alike p l)

  letters_alike : (k : ℕ) (p : Pair) (l n : ℕ) → flaw_at_letters m a b has k p l n ≡ flaw_at_letters m a b had k p l n
  letters_alike k p l zero = refl
  letters_alike k p l (suc n) =
      ap (λ o. option_or o (flaw_at_letters m a b has k p (l + 1) n)) (at_alike k p l)
      ∙ ap (λ o. option_or (flaw_at m a b had k p l) o) (letters_alike k p (l + 1) n)

  pub places_alike : (k : ℕ) (ps : List Pair) → flaw_at_places m a b has k ps ≡ flaw_at_places m a b had k ps
  places_alike k [] = refl
  places_alike k (p ∷ ps) =
      ap (λ o. option_or o (flaw_at_places m a b has (k + 1) ps)) (letters_alike k p 0 m.letters)
      ∙ ap (λ o. option_or (flaw_at_letters m a b had k p 0 m.letters) o) (places_alike (k + 1) ps)
