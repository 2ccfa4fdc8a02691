-- The loop that writes the bits of a word.
use Rattle.std.proofs.Common.{◌≡◌, ℕ, zero, suc, ◌+◌, ◌-◌, ◌/◌, ◌%◌, ◌<◌, ◌≤◌, Bool, eqb, List, [], ◌∷◌, ◌++◌, length, take, set, sym, ap, ◌∙◌, subst, append-nil, arith}
use Rattle.std.proofs.lemmas.List.{take_more_set, append_assoc, take_all}
use Rattle.gates.specs.Words.{bits}

-- the lowest bit and those above it
bits_more : (n w : ℕ) → 0 < n → bits n w ≡ eqb (w % 2) 1 ∷ bits (n - 1) (w / 2)
bits_more zero w h = absurd (omega arith)
bits_more (suc n) w h = let e : n ≡ suc n - 1 = omega arith in ap (λ k. eqb (w % 2) 1 ∷ bits k (w / 2)) e

-- one more bit is written
pub bit_written : (nets : List Bool) (count rest j : ℕ) → j < length nets → j < count
    → take (j + 1) (set nets j (eqb (rest % 2) 1)) ++ bits (count - (j + 1)) (rest / 2) ≡ take j nets ++ bits (count - j) rest
bit_written nets count rest j h l =
    let b : Bool = eqb (rest % 2) 1 in
    let e : count - j - 1 ≡ count - (j + 1) = omega arith in
    let more : bits (count - j) rest ≡ b ∷ bits (count - (j + 1)) (rest / 2) = subst (λ (k : ℕ). bits (count - j) rest ≡ b ∷ bits k (rest / 2)) e (bits_more (count - j) rest (omega arith)) in
    ap (λ (ns : List Bool). ns ++ bits (count - (j + 1)) (rest / 2)) (take_more_set nets j b h)
    ∙ append_assoc (take j nets) (b ∷ []) (bits (count - (j + 1)) (rest / 2))
    ∙ ap (λ (back : List Bool). take j nets ++ back) (sym more)

-- behind all the items there are no bits left
pub all_written : (items : List Bool) (count rest j : ℕ) → length items ≡ count → count ≤ j → items ≡ take j items ++ bits (count - j) rest
all_written items count rest j h l =
    let e : count - j ≡ 0 = omega arith in
    sym (ap (λ (k : ℕ). take j items ++ bits k rest) e ∙ append-nil (take j items) ∙ take_all j items (omega arith))
