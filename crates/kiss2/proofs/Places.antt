-- The places that a row gives are those of the letters that its input matches.
use Rattle.std.proofs.Common.{◌≡◌, ℕ, zero, suc, ◌+◌, ◌*◌, ◌/◌, ◌%◌, ◌^◌, ◌<◌, Bool, true, false, cond, ◌||◌, eqb, ◌⊎◌, List, [], ◌∷◌, ◌++◌, length, sym, refl, ap, ◌∙◌, inl, inr, add-zero, mod-eq_of_lt, mul_assoc, add-mul, arith, pow_pos}
use native.Mathlib.Nat.{mul-add-div_right, mul-add-mod_self_right, pow-succ'}
use lib.Arith.{digits_lt}
use Rattle.std.proofs.lemmas.Nat.{div_below, mod_below, div-add-mod', shr_high}
use Rattle.std.proofs.lemmas.Bool.{and_from, and_parts, eq-eqb, eqb-true, or_cases, or_left, or_right}
use Rattle.machine.specs.Lists.{all}
use Rattle.kiss2.specs.Laws.{binary, matches}
use Rattle.kiss2.specs.Rows.{among, is_bit, places}

-- one power of two more
power_more : (n e : ℕ) → e * 2 ^ suc n ≡ e * 2 * 2 ^ n
power_more n e = ap (λ (k : ℕ). e * k) (pow-succ' 2 n) ∙ sym (mul_assoc e 2 (2 ^ n))

-- bits above the digits that are written do not matter
binary_low : (n e l : ℕ) → binary n (e * 2 ^ n + l) ≡ binary n l
binary_low zero e l = refl
binary_low (suc n) e l = rw (power_more n e, mul-add-div_right (pow_pos n) (e * 2) l, mul-add-mod_self_right e 2 (l / 2 ^ n), binary_low n (e * 2) l)

-- the highest digit and the others
binary_split : (n e l : ℕ) → e < 2 → l < 2 ^ n → binary (suc n) (e * 2 ^ n + l) ≡ (48 + e) ∷ binary n l
binary_split n e l two low = rw (shr_high e n l low, mod-eq_of_lt two, binary_low n e l)

-- a number in a list of two parts
among_append : (xs ys : List ℕ) (k : ℕ) → among (xs ++ ys) k ≡ (among xs k || among ys k)
among_append [] ys k = refl
among_append (x ∷ xs) ys k = go (eqb x k) (among_append xs ys k)
  where
    go : (t : Bool) → among (xs ++ ys) k ≡ (among xs k || among ys k) → (t || among (xs ++ ys) k) ≡ ((t || among xs k) || among ys k)
    go true more = refl
    go false more = more

-- the digit d, of an input, has the bit e, of a letter, or a dash
abbrev has_bit : ℕ → ℕ → Bool
has_bit d e = eqb d 45 || eqb d (48 + e)

module _ (d : ℕ) (ds : List ℕ) (q k : ℕ) (bit : is_bit d ≡ true) where
  -- a place is one of the remaining digits behind a bit that the first digit has
  place_step : among (places (d ∷ ds) q) k ≡ true → (e : ℕ) × (e < 2) × (has_bit d e ≡ true) × (among (places ds (q * 2 + e)) k ≡ true)
  place_step h = go (eqb d 45) (eqb d 49) refl refl h
    where
      low : among (places ds (q * 2)) k ≡ true → among (places ds (q * 2 + 0)) k ≡ true
      low i = ap (λ (j : ℕ). among (places ds j) k) (add-zero (q * 2)) ∙ i

      either : (eqb d 45 ≡ true) → (among (places ds (q * 2)) k ≡ true) ⊎ (among (places ds (q * 2 + 1)) k ≡ true) → (e : ℕ) × (e < 2) × (has_bit d e ≡ true) × (among (places ds (q * 2 + e)) k ≡ true)
      either dash (inl i) = (0, omega arith, or_left (eqb d 45) (eqb d 48) dash, low i)
      either dash (inr i) = (1, omega arith, or_left (eqb d 45) (eqb d 49) dash, i)

      zero_digit : (eqb d 48 ≡ true) ⊎ ((eqb d 49 || eqb d 45) ≡ true) → eqb d 45 ≡ false → eqb d 49 ≡ false → eqb d 48 ≡ true
      zero_digit (inl i) dash one = i
      zero_digit (inr i) dash one = absurd (let z : ◌≡◌ {A = ℕ} 0 1 = cc in omega arith)

      go : (t u : Bool) → eqb d 45 ≡ t → eqb d 49 ≡ u → among (cond t (places ds (q * 2) ++ places ds (q * 2 + 1)) (places ds (q * 2 + cond u 1 0))) k ≡ true → (e : ℕ) × (e < 2) × (has_bit d e ≡ true) × (among (places ds (q * 2 + e)) k ≡ true)
      go true u dash one i = either dash (or_cases _ _ (sym (among_append (places ds (q * 2)) (places ds (q * 2 + 1)) k) ∙ i))
      go false true dash one i = (1, omega arith, or_right (eqb d 45) (eqb d 49) one, i)
      go false false dash one i = (0, omega arith, or_right (eqb d 45) (eqb d 48) (zero_digit (or_cases _ _ bit) dash one), i)

  -- and each of those is a place
  place_back : (e : ℕ) → e < 2 → has_bit d e ≡ true → among (places ds (q * 2 + e)) k ≡ true → among (places (d ∷ ds) q) k ≡ true
  place_back zero two has h = go (eqb d 45) (eqb d 49) refl refl has
    where
      low : among (places ds (q * 2)) k ≡ true
      low = ap (λ (j : ℕ). among (places ds j) k) (sym (add-zero (q * 2))) ∙ h

      go : (t u : Bool) → eqb d 45 ≡ t → eqb d 49 ≡ u → (t || eqb d 48) ≡ true → among (cond t (places ds (q * 2) ++ places ds (q * 2 + 1)) (places ds (q * 2 + cond u 1 0))) k ≡ true
      go true u dash one f = among_append (places ds (q * 2)) (places ds (q * 2 + 1)) k ∙ or_left _ _ low
      go false true dash one f = absurd (omega (arith, eqb-true d 48 f, eqb-true d 49 one))
      go false false dash one f = h
  place_back (suc zero) two has h = go (eqb d 45) (eqb d 49) has
    where
      go : (t u : Bool) → (t || u) ≡ true → among (cond t (places ds (q * 2) ++ places ds (q * 2 + 1)) (places ds (q * 2 + cond u 1 0))) k ≡ true
      go true u f = among_append (places ds (q * 2)) (places ds (q * 2 + 1)) k ∙ or_right (among (places ds (q * 2)) k) _ h
      go false true f = h
      go false false f = absurd (let z : ◌≡◌ {A = ℕ} 0 1 = cc in omega arith)
  place_back (suc (suc e)) two has h = absurd (omega arith)

-- a place that a row gives is that of a letter that its input matches
pub place_letter : (ds : List ℕ) (q k : ℕ) → all is_bit ds ≡ true → among (places ds q) k ≡ true → (l : ℕ) × (l < 2 ^ length ds) × (k ≡ q * 2 ^ length ds + l) × (matches ds (binary (length ds) l) ≡ true)
place_letter [] q k bits h = go (or_cases (eqb q k) false h)
  where
    go : (eqb q k ≡ true) ⊎ (false ≡ true) → (l : ℕ) × (l < 1) × (k ≡ q * 1 + l) × (true ≡ true)
    go (inl e) = (0, omega arith, omega (arith, eqb-true q k e), refl)
    go (inr e) = absurd (let z : ◌≡◌ {A = ℕ} 0 1 = cc in omega arith)
place_letter (d ∷ ds) q k bits h =
    let b = and_parts (is_bit d) _ bits in
    let x = place_step d ds q k b.0 h in
    let y = place_letter ds (q * 2 + x.0) k b.1 x.3 in
    let n = length ds in
    let below : x.0 * 2 ^ n + y.0 < 2 * 2 ^ n = digits_lt x.1 y.1 in (
      x.0 * 2 ^ n + y.0,
      omega (arith, pow-succ' 2 n),
      omega (arith, y.2, power_more n q, add-mul (q * 2) x.0 (2 ^ n)),
      ap (matches (d ∷ ds)) (binary_split n x.0 y.0 x.1 y.1) ∙ and_from (has_bit d x.0) _ x.2 y.3,
    )

-- the place of a letter that the input of a row matches is one that the row gives
pub letter_place : (ds : List ℕ) (q l : ℕ) → all is_bit ds ≡ true → l < 2 ^ length ds → matches ds (binary (length ds) l) ≡ true → among (places ds q) (q * 2 ^ length ds + l) ≡ true
letter_place [] q l bits low m = or_left (eqb q (q * 1 + l)) false (eq-eqb q (q * 1 + l) (omega arith))
letter_place (d ∷ ds) q l bits low m =
    let b = and_parts (is_bit d) _ bits in
    let n = length ds in
    let e = l / 2 ^ n in
    let r = l % 2 ^ n in
    let whole : e * 2 ^ n + r ≡ l = div-add-mod' l (2 ^ n) in
    let two : e < 2 = div_below l (2 ^ n) 2 (pow_pos n) (omega (arith, pow-succ' 2 n)) in
    let rest : r < 2 ^ n = mod_below l (2 ^ n) (pow_pos n) in
    let split : binary (suc n) l ≡ (48 + e) ∷ binary n r = ap (binary (suc n)) (sym whole) ∙ binary_split n e r two rest in
    let fit = and_parts (has_bit d e) (matches ds (binary n r)) (ap (matches (d ∷ ds)) (sym split) ∙ m) in
    let place : (q * 2 + e) * 2 ^ n + r ≡ q * 2 ^ suc n + l = omega (arith, power_more n q, add-mul (q * 2) e (2 ^ n)) in
    place_back d ds q _ b.0 e two fit.0 (ap (λ (k : ℕ). among (places ds (q * 2 + e)) k) (sym place) ∙ letter_place ds (q * 2 + e) r b.1 rest fit.1)
