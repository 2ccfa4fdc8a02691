-- Products of numbers that are cut at a largest one.
use Rattle.std.proofs.Common.{◌≡◌, ℕ, zero, suc, ◌*◌, ◌<◌, ◌≤◌, min, ⊎_elim, mul_comm, mul-le-mul_right, ap, ◌∙◌, arith}
use Rattle.std.proofs.lemmas.Bool.{cases_lt}

-- a product of a number that was cut at m, cut there
pub cut_product : (m a b : ℕ) → min (min a m * b) m ≡ min (b * a) m
cut_product m a zero = omega arith
cut_product m a (suc b) =
    ⊎_elim
    (λ (less : m < a). let big : 1 * a ≤ suc b * a = mul-le-mul_right a (omega arith) in
    let all : 1 * m ≤ suc b * m = mul-le-mul_right m (omega arith) in
    let is : min a m ≡ m = omega arith in
    ap (λ (k : ℕ). min (k * suc b) m) is ∙ ap (λ (k : ℕ). min k m) (mul_comm m (suc b)) ∙ omega (arith, big, all))
    (λ (most : a ≤ m). let is : min a m ≡ a = omega arith in
    ap (λ (k : ℕ). min (k * suc b) m) is ∙ ap (λ (k : ℕ). min k m) (mul_comm a (suc b)))
    (cases_lt m a)
