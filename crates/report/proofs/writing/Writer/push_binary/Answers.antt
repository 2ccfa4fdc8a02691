use Rattle.std.proofs.Common.{◌≡◌, ℕ, zero, suc, ◌+◌, ◌-◌, ◌/◌, ◌%◌, ◌^◌, ◌<◌, ◌∷◌, ap, subst, arith}
use Rattle.kiss2.specs.Laws.{binary}
use Rattle.report.specs.Writing.{Adds}
use Rattle.report.proofs.Writes.{adds_append, adds_none}
use Rattle.report.proofs.writing.Writer.push_binary.Goals as goal

-- the highest digit comes first
binary_more : (n l : ℕ) → 0 < n → binary n l ≡ (48 + (l / 2 ^ (n - 1)) % 2) ∷ binary (n - 1) l
binary_more zero l h = absurd (omega arith)
binary_more (suc n) l h = let e : n ≡ suc n - 1 = omega arith in ap (λ (k : ℕ). (48 + (l / 2 ^ k) % 2) ∷ binary k l) e

pub loop-bit-preserved : goal.loop-bit-preserved
loop-bit-preserved c = λ w h. c.loop-bit.invariant w (rw (binary_more c.loop-bit.bit c.args.letter c.loop-bit-test.true) (adds_append c.push.ensures h))

pub returns : goal.returns
returns c =
    let none : 0 ≡ c.loop-bit.bit = omega arith in
    c.loop-bit.invariant _ (subst (λ (n : ℕ). Adds (binary n c.args.letter) c.loop-bit.self c.loop-bit.self) none (adds_none c.loop-bit.self))
