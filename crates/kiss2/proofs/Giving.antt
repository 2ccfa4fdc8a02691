-- Giving cells one after another, and what the rows give together.
use Rattle.std.proofs.Common.{◌≡◌, ℕ, ◌+◌, ◌-◌, ◌*◌, ◌^◌, ◌<◌, ◌≤◌, List, [], ◌∷◌, ◌++◌, length, get_or, take, drop, Some, None, Ok, Err, Option, Result, sym, refl, ap, ◌∙◌, mul-le-mul_right, mul_assoc, mul_comm, mul-le-mul, arith, pow_mono, pow-add}
use Rattle.std.proofs.lemmas.Slice.{first_rest}
use Rattle.std.proofs.lemmas.Bool.{cond-true, eq-eqb}
use Rattle.devices.specs.declared.cell.Cell.{Cell}
use Rattle.kiss2.specs.Rows.{places}
use Rattle.kiss2.specs.Placing.{Placed, Table, and_then, put_all, put_at}
use Rattle.kiss2.specs.declared.filling.Clash.{Clash}

-- one place after some others
put_append : (c : Cell) (ks js : List ℕ) (t : Table) → put_all c (ks ++ js) t ≡ and_then (put_all c ks t) (put_all c js)
put_append c [] js t = refl
put_append c (k ∷ ks) js t = go (put_at c k t) (put_append c ks js)
  where
    go : (x : Option Table) → ((u : Table) → put_all c (ks ++ js) u ≡ and_then (put_all c ks u) (put_all c js)) → and_then x (put_all c (ks ++ js)) ≡ and_then (and_then x (put_all c ks)) (put_all c js)
    go None more = refl
    go (Some u) more = more u

-- some places, and then others
pub placed_both : (c : Cell) (ks js : List ℕ) (t u : Table) (r : Result Unit Clash) (v : Table) → put_all c ks t ≡ Some u → Placed (put_all c js u) r v → Placed (put_all c (ks ++ js) t) r v
placed_both c ks js t u (Ok _) v e f = put_append c ks js t ∙ ap (λ (x : Option Table). and_then x (put_all c js)) e ∙ f
placed_both c ks js t u (Err _) v e f = put_append c ks js t ∙ ap (λ (x : Option Table). and_then x (put_all c js)) e ∙ f

-- a place that cannot be given stops all
pub placed_stops : (c : Cell) (ks js : List ℕ) (t : Table) → put_all c ks t ≡ None → put_all c (ks ++ js) t ≡ None
placed_stops c ks js t e = put_append c ks js t ∙ ap (λ (x : Option Table). and_then x (put_all c js)) e

-- one digit more halves the room
pub room_halves : (p q n m size : ℕ) → q ≤ p * 2 + 1 → n ≡ m + 1 → (p + 1) * 2 ^ n ≤ size → (q + 1) * 2 ^ m ≤ size
room_halves p q n m size h e k =
    let twice : 2 ^ n ≡ 2 ^ m * 2 = ap (λ (i : ℕ). 2 ^ i) e ∙ pow-add 2 m 1 in
    let same : (p + 1) * 2 ^ n ≡ (p + 1) * 2 * 2 ^ m = ap (λ (x : ℕ). (p + 1) * x) (twice ∙ mul_comm (2 ^ m) 2) ∙ sym (mul_assoc (p + 1) 2 (2 ^ m)) in
    let less : q + 1 ≤ (p + 1) * 2 = omega arith in
    omega (arith, mul-le-mul_right (2 ^ m) less, same, k)

-- the digits behind the first
abbrev pub rest_of : List ℕ → List ℕ
rest_of ds = take (length ds - 1) (drop 1 ds)

-- a first digit, and the rest
pub first_digit : (ds : List ℕ) → 0 < length ds → ds ≡ get_or ds 0 0 ∷ rest_of ds
first_digit ds h = first_rest ds 0 h

pub rest_shorter : (ds : List ℕ) → 0 < length ds → length ds ≡ length (rest_of ds) + 1
rest_shorter ds h = ap length (first_digit ds h) ∙ omega arith

-- a dash leads on by both bits
pub places_dash : (ds : List ℕ) (q : ℕ) → 0 < length ds → get_or ds 0 0 ≡ 45 → places ds q ≡ places (rest_of ds) (q * 2) ++ places (rest_of ds) (q * 2 + 1)
places_dash ds q h e = ap (λ (s : List ℕ). places s q) (first_digit ds h) ∙ cond-true _ _ _ (eq-eqb _ 45 e)

-- a table has at most 16,384 cells
pub cells_few : (n k : ℕ) → n ≤ 256 → k ≤ 6 → n * 2 ^ k ≤ 16384
cells_few n k h l = let most : 2 ^ k ≤ 2 ^ 6 = pow_mono l in mul-le-mul h most
