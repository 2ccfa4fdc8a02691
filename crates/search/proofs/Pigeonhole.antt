-- Of different numbers below n there are at most n.
use Rattle.std.proofs.Common.{◌≡◌, ℕ, zero, suc, ◌<◌, ◌≤◌, eqb, true, false, ◌⊎◌, List, [], ◌∷◌, length, inl, inr, refl, ap, arith}
use Rattle.std.proofs.lemmas.Bool.{eqb-true, ne_eqb, or_cases}
use Rattle.std.proofs.lemmas.Map.Steps.{length-le_from_distinct_below}
use Rattle.std.specs.List.{AllByRecursion, IsDistinct, list_any}

-- the first m numbers, the last in front
firsts : (ℕ → ℕ) → ℕ → List ℕ
firsts f zero = []
firsts f (suc m) = f m ∷ firsts f m

length-firsts : (f : ℕ → ℕ) (m : ℕ) → length (firsts f m) ≡ m
unfolding firsts
length-firsts f zero = refl
length-firsts f (suc m) = ap suc (length-firsts f m)

others : (f : ℕ → ℕ) (x m : ℕ) → ((k : ℕ) → k < m → x ≡ f k → ⊥) → AllByRecursion (λ y. eqb x y ≡ false) (firsts f m)
unfolding firsts
others f x zero h = tt
others f x (suc m) h = (ne_eqb x (f m) (h m (omega arith)), others f x m (λ k b. h k (omega arith)))

distinct : (f : ℕ → ℕ) (m : ℕ) → ((i j : ℕ) → i < m → j < m → f i ≡ f j → i ≡ j) → IsDistinct eqb (firsts f m)
unfolding firsts IsDistinct
distinct f zero apart = tt
distinct f (suc m) apart =
    (others f (f m) m (λ k b e. let same = apart m k (omega arith) (omega arith) e in omega arith), distinct f m (λ i j a b. apart i j (omega arith) (omega arith)))

under : (f : ℕ → ℕ) (n m : ℕ) → ((k : ℕ) → k < m → f k < n) → (q : ℕ) → list_any (eqb q) (firsts f m) ≡ true → q < n
unfolding firsts
under f n zero below q h = absurd (cc)
under f n (suc m) below q h = go (or_cases _ _ h) (under f n m (λ k b. below k (omega arith)) q)
  where
    go : (eqb q (f m) ≡ true) ⊎ (list_any (eqb q) (firsts f m) ≡ true) → (list_any (eqb q) (firsts f m) ≡ true → q < n) → q < n
    go (inl e) ih = omega (arith, eqb-true q (f m) e, below m (omega arith))
    go (inr e) ih = ih e

pub pigeonhole : (n m : ℕ) (f : ℕ → ℕ) → ((k : ℕ) → k < m → f k < n) → ((i j : ℕ) → i < m → j < m → f i ≡ f j → i ≡ j) → m ≤ n
pigeonhole n m f below apart = omega (arith, length-le_from_distinct_below (firsts f m) n (distinct f m apart) (under f n m below), length-firsts f m)

-- with another number below n there are fewer
pub pigeonhole_more : (n m : ℕ) (f : ℕ → ℕ) (x : ℕ) → ((k : ℕ) → k < m → f k < n) → ((i j : ℕ) → i < m → j < m → f i ≡ f j → i ≡ j) → x < n → ((k : ℕ) → k < m → x ≡ f k → ⊥) → m < n
unfolding IsDistinct
pigeonhole_more n m f x below apart low fresh =
    omega (arith, length-le_from_distinct_below (x ∷ firsts f m) n (others f x m fresh, distinct f m apart) (λ q h. go q (or_cases _ _ h)), length-firsts f m)
  where
    go : (q : ℕ) → (eqb q x ≡ true) ⊎ (list_any (eqb q) (firsts f m) ≡ true) → q < n
    go q (inl e) = omega (arith, eqb-true q x e)
    go q (inr e) = under f n m below q e
