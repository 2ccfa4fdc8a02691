-- Words and their bits.
use Rattle.std.specs.Prelude.{◌≡◌, ℕ, zero, suc, ◌+◌, ◌*◌, ◌/◌, ◌%◌, ◌^◌, ◌<◌, ◌≤◌, Bool, true, false, if◌then◌else◌, List, [], ◌∷◌, length, ◌==◌}
use Rattle.std.proofs.Math.Nat.{pow-succ'}
use Rattle.std.proofs.Common.{arith}

-- the lowest n bits of a word, bit 0 first
abbrev pub bits : ℕ → ℕ → List Bool
bits zero w = []
bits (suc n) w = (w % 2 == 1) ∷ bits n (w / 2)

-- the word of some bits, bit 0 first
abbrev pub word : List Bool → ℕ
word [] = 0
word (b ∷ bs) = (if b then 1 else 0) + 2 * word bs

-- n bits make a word below 2 ^ n
pub word_lt : (bs : List Bool) → word bs < 2 ^ length bs
word_lt [] = omega arith
word_lt (b ∷ bs) =
    let twice : 2 ^ length (b ∷ bs) ≡ 2 * 2 ^ length bs = pow-succ' 2 (length bs) in
    let low : (if b then 1 else 0) ≤ 1 = elim b as (λ v. (if v then 1 else 0) ≤ 1) [ true ↦ omega arith | false ↦ omega arith ] in
    omega (arith, word_lt bs)
