-- The sequence of a visit, by its back links.
use Rattle.std.proofs.Common.{◌≡◌, ℕ, zero, suc, ◌+◌, ◌<◌, ◌≤◌, List, [], ◌∷◌, ◌++◌, length, get_or, drop, set, reverse, sym, refl, ap, ◌∙◌, inl, inr, append_assoc, arith}
use Rattle.std.proofs.lemmas.List.{length_push, reverse-append, reverse-reverse, drop-set}
use Rattle.machine.specs.Sequences.{AtMost}
use Rattle.search.specs.Visits.{from_at, letter_at, path_in, path, Chained}
use Rattle.search.specs.declared.visit.Visit.{Visit}

pub from_at_is : {P : Type 0} (xs : List (Visit P)) (k : ℕ) (d : Visit P) → k < length xs → from_at xs k ≡ (get_or xs k d).from
from_at_is [] k d b = absurd (omega arith)
from_at_is (v ∷ xs) zero d b = refl
from_at_is (v ∷ xs) (suc k) d b = from_at_is xs k d (omega arith)

pub letter_at_is : {P : Type 0} (xs : List (Visit P)) (k : ℕ) (d : Visit P) → k < length xs → letter_at xs k ≡ (get_or xs k d).letter
letter_at_is [] k d b = absurd (omega arith)
letter_at_is (v ∷ xs) zero d b = refl
letter_at_is (v ∷ xs) (suc k) d b = letter_at_is xs k d (omega arith)

-- f links give at most f letters
links_letters : {P : Type 0} (xs : List (Visit P)) (f k : ℕ) → length (path_in xs f k) ≤ f
links_letters xs zero k = omega arith
links_letters xs (suc f) zero = omega arith
links_letters xs (suc f) (suc k) = omega (arith, length_push (path_in xs f (from_at xs (suc k))) (letter_at xs (suc k)), links_letters xs f (from_at xs (suc k)))

-- a sequence that is at most another is no longer
pub no_longer : (s t : List ℕ) → AtMost s t → length s ≤ length t
no_longer s t (inl e) = let k = ap length e in omega arith
no_longer s t (inr (inl h)) = omega arith
no_longer s t (inr (inr h)) = let e = h.0 in omega arith

pub path_short : {P : Type 0} (xs : List (Visit P)) (k : ℕ) → length (path xs k) ≤ k
path_short xs k = links_letters xs k k

module _ {P : Type 0} (xs : List (Visit P)) (n : ℕ) (chained : Chained xs n) where
  -- any number of links that is enough gives the same letters
  enough_same : (f e k : ℕ) → k < n → k ≤ f → k ≤ e → path_in xs f k ≡ path_in xs e k
  enough_same zero zero zero b p q = refl
  enough_same zero (suc e) zero b p q = refl
  enough_same (suc f) zero zero b p q = refl
  enough_same (suc f) (suc e) zero b p q = refl
  enough_same zero e (suc k) b p q = absurd (omega arith)
  enough_same (suc f) zero (suc k) b p q = absurd (omega arith)
  enough_same (suc f) (suc e) (suc k) b p q =
      let a = chained (suc k) (omega arith) b in
      ap (λ (s : List ℕ). s ++ letter_at xs (suc k) ∷ []) (enough_same f e (from_at xs (suc k)) (omega arith) (omega arith) (omega arith))

  pub path_more : (k : ℕ) → 0 < k → k < n → path xs k ≡ path xs (from_at xs k) ++ letter_at xs k ∷ []
  path_more zero c b = absurd (omega arith)
  path_more (suc k) c b =
      let a = chained (suc k) c b in
      ap (λ (s : List ℕ). s ++ letter_at xs (suc k) ∷ []) (enough_same k (from_at xs (suc k)) (from_at xs (suc k)) (omega arith) (omega arith) (omega arith))

  -- the visit at place k
  module _ (k : ℕ) (d : Visit P) (low : k < length xs) (c : 0 < k) (b : k < n) where
    pub link_back : (get_or xs k d).from < k
    link_back = let a = chained k c b in omega (arith, from_at_is xs k d low)

    pub path_is : path xs k ≡ path xs (get_or xs k d).from ++ (get_or xs k d).letter ∷ []
    path_is =
        path_more k c b
        ∙ ap (λ (x : ℕ). path xs x ++ letter_at xs k ∷ []) (from_at_is xs k d low)
        ∙ ap (λ (x : ℕ). path xs (get_or xs k d).from ++ x ∷ []) (letter_at_is xs k d low)

    -- the same from the last letter on
    pub path_back : reverse (path xs k) ≡ (get_or xs k d).letter ∷ reverse (path xs (get_or xs k d).from)
    path_back = ap reverse path_is ∙ reverse-append (path xs (get_or xs k d).from) ((get_or xs k d).letter ∷ [])

-- one letter more is written, before those that are there
pub written_more : (s t out : List ℕ) (l i : ℕ) → reverse s ≡ l ∷ reverse t → i < length out → s ++ drop (i + 1) out ≡ t ++ drop i (set out i l)
written_more s t out l i e fits =
    let last : s ≡ t ++ l ∷ [] = sym (reverse-reverse s) ∙ ap reverse e ∙ reverse-append (l ∷ []) (reverse t) ∙ ap (λ (u : List ℕ). u ++ l ∷ []) (reverse-reverse t) in
    ap (λ (u : List ℕ). u ++ drop (i + 1) out) last
    ∙ append_assoc t (l ∷ []) (drop (i + 1) out)
    ∙ ap (λ (u : List ℕ). t ++ u) (sym (drop-set out i l fits))
