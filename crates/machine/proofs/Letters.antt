-- The letters over a few pins.
use Rattle.std.proofs.Common.{ℕ, ◌*◌, ◌%◌, ◌^◌, ◌≤◌, arith, pow_mono}
use Rattle.std.proofs.lemmas.Nat.{one_shl}

-- over up to six pins there are at most 64
pub few_letters : (n : ℕ) → n ≤ 6 → 1 * 2 ^ n % 256 ≤ 64
few_letters n h =
    let few : 2 ^ n ≤ 2 ^ 6 = pow_mono h in
    omega (arith, one_shl n 8 (omega arith))
