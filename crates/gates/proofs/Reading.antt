-- The loop that reads a word, from its lowest bit up.
use Rattle.std.proofs.Common.{◌≡◌, ℕ, zero, suc, ◌+◌, ◌*◌, ◌^◌, ◌<◌, ◌≤◌, Bool, true, false, cond, ltb, List, [], ◌∷◌, ◌++◌, map, length, get_or, take, refl, ap, ◌∙◌, arith, pow_mono}
use Rattle.std.proofs.Math.Nat.{pow-succ'}
use Rattle.std.proofs.lemmas.List.{map_more, get_or-take, length-map, length-take-le}
use Rattle.std.proofs.lemmas.Bool.{and_from, and_parts, lt-ltb, ltb-true}
use Rattle.gates.specs.Words.{word}
use Rattle.gates.specs.Nets.{value_at, word_at}
use Rattle.gates.specs.Rules.{name_nets}
use Rattle.gates.specs.Soundness.{word_at_lt}

-- each of the numbers is below n
pub named_here : (n : ℕ) (ks : List ℕ) (i : ℕ) → i < length ks → name_nets n ks ≡ true → get_or ks i 0 < n
named_here n [] i h p = absurd (omega arith)
named_here n (k ∷ ks) zero h p = ltb-true k n (and_parts (ltb k n) (name_nets n ks) p).0
named_here n (k ∷ ks) (suc i) h p = named_here n ks i (omega arith) (and_parts (ltb k n) (name_nets n ks) p).1

-- one more bit on top
word_push : (bs : List Bool) (b : Bool) → word (bs ++ b ∷ []) ≡ word bs + cond b (2 ^ length bs) 0
word_push [] true = refl
word_push [] false = refl
word_push (x ∷ bs) b =
    let more : word (bs ++ b ∷ []) ≡ word bs + cond b (2 ^ length bs) 0 = word_push bs b in
    let twice : cond b (2 ^ length (x ∷ bs)) 0 ≡ 2 * cond b (2 ^ length bs) 0 = elim b as (λ v. cond v (2 ^ length (x ∷ bs)) 0 ≡ 2 * cond v (2 ^ length bs) 0) [ true ↦ pow-succ' 2 (length bs) | false ↦ refl ] in
    omega (arith, more, twice)

module _ (nets : List Bool) (ks : List ℕ) (i : ℕ) (h : i < length ks) where
  -- one more number is read
  pub word_more : word_at nets (take (i + 1) ks) ≡ word_at nets (take i ks) + cond (value_at nets (get_or ks i 0)) (2 ^ i) 0
  word_more =
      let bs : List Bool = map (value_at nets) (take i ks) in
      let b : Bool = value_at nets (get_or ks i 0) in
      let count : length bs ≡ i = length-map (take i ks) (value_at nets) ∙ length-take-le i ks (omega arith) in
      ap word (map_more (value_at nets) ks i 0 h) ∙ word_push bs b ∙ ap (λ (n : ℕ). word bs + cond b (2 ^ n) 0) count

  -- the word fits
  pub word_fits : length ks ≤ 32 → word_at nets (take i ks) + cond (value_at nets (get_or ks i 0)) (2 ^ i) 0 < 2 ^ 32
  word_fits few =
      let count : length (take (i + 1) ks) ≤ 32 = omega (arith, length-take-le (i + 1) ks (omega arith)) in
      let top : 2 ^ length (take (i + 1) ks) ≤ 2 ^ 32 = pow_mono count in
      omega (arith, word_more, word_at_lt nets (take (i + 1) ks))

-- the numbers name nets among more
pub name_more : (m n : ℕ) (ks : List ℕ) → m ≤ n → name_nets m ks ≡ true → name_nets n ks ≡ true
name_more m n [] h p = refl
name_more m n (k ∷ ks) h p =
    let parts = and_parts (ltb k m) (name_nets m ks) p in
    and_from (ltb k n) (name_nets n ks) (lt-ltb k n (omega (arith, ltb-true k m parts.0))) (name_more m n ks h parts.1)

-- only the first nets are read
pub word_front : (nets : List Bool) (m : ℕ) (ks : List ℕ) → name_nets m ks ≡ true → word_at nets ks ≡ word_at (take m nets) ks
word_front nets m [] p = refl
word_front nets m (k ∷ ks) p =
    let parts = and_parts (ltb k m) (name_nets m ks) p in
    rw (get_or-take m nets k false (ltb-true k m parts.0), word_front nets m ks parts.1)
