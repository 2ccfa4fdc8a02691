-- What a grading shows of the mark before it, and where a kept sequence stands.
use Rattle.std.proofs.Common.{◌≡◌, ℕ, zero, suc, ◌+◌, ◌-◌, ◌<◌, Bool, true, false, cond, ◌⊎◌, List, [], ◌∷◌, ◌++◌, length, get_or, replicate, is_some, refl, subst, inl, inr, arith}
use Rattle.std.proofs.lemmas.List.{length_push, get_or_append_left, get_or_push}
use Rattle.machine.specs.Machines.{Machine}
use Rattle.machine.specs.Outputs.{first_difference}
use Rattle.campaign.specs.Books.{Entry, entry, Numbered, numbered}
use Rattle.campaign.specs.Histories.{SomeOf}
use Rattle.campaign.specs.Rules.{graded}
use Rattle.campaign.specs.declared.mark.Mark.{Mark}
use Rattle.campaign.specs.declared.mark.Mark.TheVariants.{Open, Found, Undetectable}

pub all_open : (n f : ℕ) → get_or (replicate n Open) f Open ≡ Open
all_open zero f = refl
all_open (suc n) zero = refl
all_open (suc n) (suc f) = all_open n f

module _ (m : Machine) (s : List ℕ) (n f : ℕ) where
  stays_open : (t : Bool) → cond t (Found n) Open ≡ Open → t ≡ false
  stays_open true e = cc
  stays_open false e = refl

  is_found : (t : Bool) (i : ℕ) → cond t (Found n) Open ≡ Found i → (t ≡ true) × (n ≡ i)
  is_found true i e = (refl, cc)
  is_found false i e = absurd (cc)

  not_undetectable : (t : Bool) → cond t (Found n) Open ≡ Undetectable → ⊥
  not_undetectable true e = cc
  not_undetectable false e = cc

  pub graded_open : (k : Mark) → graded m s n f k ≡ Open → (k ≡ Open) × (is_some (first_difference m 0 f s) ≡ false)
  graded_open Open e = (refl, stays_open (is_some (first_difference m 0 f s)) e)
  graded_open (Found i) e = absurd (cc)
  graded_open Undetectable e = absurd (cc)

  pub graded_found : (k : Mark) (i : ℕ) → graded m s n f k ≡ Found i → (k ≡ Found i) ⊎ ((k ≡ Open) × (is_some (first_difference m 0 f s) ≡ true) × (n ≡ i))
  graded_found Open i e = let p = is_found (is_some (first_difference m 0 f s)) i e in inr (refl, p.0, p.1)
  graded_found (Found j) i e = inl e
  graded_found Undetectable i e = absurd (cc)

  pub graded_undetectable : (k : Mark) → graded m s n f k ≡ Undetectable → k ≡ Undetectable
  graded_undetectable Open e = absurd (not_undetectable (is_some (first_difference m 0 f s)) e)
  graded_undetectable (Found j) e = e
  graded_undetectable Undetectable e = e

-- an element that is as P says has a place, and the other way
some_place : {X : Type 0} (P : X → Type 0) (xs : List X) (d : X) → SomeOf P xs → (k : ℕ) × (k < length xs) × P (get_or xs k d)
some_place P [] d h = absurd h
some_place P (x ∷ xs) d (inl h) = (0, omega arith, h)
some_place P (x ∷ xs) d (inr h) = let y = some_place P xs d h in let low = y.1 in (suc y.0, omega arith, y.2)

place_some : {X : Type 0} (P : X → Type 0) (xs : List X) (d : X) (k : ℕ) → k < length xs → P (get_or xs k d) → SomeOf P xs
place_some P [] d k low h = absurd (omega arith)
place_some P (x ∷ xs) d zero low h = inl h
place_some P (x ∷ xs) d (suc k) low h = inr (place_some P xs d k (omega arith) h)

module _ (P : Entry → Type 0) (es : List Entry) where
  pub some_number : SomeOf P es → (n : ℕ) × Numbered es n × P (numbered es n)
  some_number h =
      let x = some_place P es (entry [] 0) h in
      let low = x.1 in
      let back : x.0 ≡ suc x.0 - 1 = omega arith in
      (suc x.0, (omega arith, omega arith), subst (λ (k : ℕ). P (get_or es k (entry [] 0))) back x.2)

  pub number_some : (n : ℕ) → Numbered es n → P (numbered es n) → SomeOf P es
  number_some n h p = let low = h.0 in let high = h.1 in place_some P es (entry [] 0) (n - 1) (omega arith) p

module _ (es : List Entry) (e : Entry) where
  pub number_kept : (n : ℕ) → Numbered es n → Numbered (es ++ e ∷ []) n
  number_kept n h = let low = h.0 in let high = h.1 in (low, omega (arith, length_push es e))

  -- the sequences that were kept before keep their numbers
  pub numbered_old : (n : ℕ) → Numbered es n → numbered (es ++ e ∷ []) n ≡ numbered es n
  numbered_old n h = let low = h.0 in let high = h.1 in get_or_append_left es (e ∷ []) (entry [] 0) (n - 1) (omega arith)

  -- the new one has the next
  pub numbered_new : (n : ℕ) → n ≡ length es + 1 → numbered (es ++ e ∷ []) n ≡ e
  numbered_new n h = get_or_push es e (entry [] 0) (n - 1) (omega arith)

  pub old_or_new : (n : ℕ) → Numbered (es ++ e ∷ []) n → Numbered es n ⊎ (n ≡ length es + 1)
  old_or_new n h = let low = h.0 in let high = h.1 in grind (arith, length_push es e)
