-- Sequences of letters and their order.
use Rattle.std.specs.Prelude.{◌≡◌, ℕ, ◌<◌, Bool, ◌&&◌, ◌⊎◌, List, [], ◌∷◌, length, nat_le, nat_lt}
use Rattle.machine.specs.Lists.{all}

-- each letter of the sequence is below n
abbrev pub Letters : ℕ → List ℕ → Type 0
Letters n [] = Unit {0}
Letters n (l ∷ s) = (l < n) × Letters n s

-- a sequence that a device of n letters takes: it has 1 to 16,384 letters, each below n
abbrev pub legal : ℕ → List ℕ → Bool
legal n s = nat_lt 0 (length s) && (nat_le (length s) 16384 && all (λ l. nat_lt l n) s)

-- where the two first part, s has the smaller letter
abbrev pub Lexical : List ℕ → List ℕ → Type 0
Lexical [] t = ⊥
Lexical (a ∷ s) [] = ⊥
Lexical (a ∷ s) (b ∷ t) = (a < b) ⊎ ((a ≡ b) × Lexical s t)

-- s stands before t: it is shorter, or as long and has the smaller letter where they first part
abbrev pub Before : List ℕ → List ℕ → Type 0
Before s t = (length s < length t) ⊎ ((length s ≡ length t) × Lexical s t)

-- s is t or stands before it
abbrev pub AtMost : List ℕ → List ℕ → Type 0
AtMost s t = (s ≡ t) ⊎ Before s t
