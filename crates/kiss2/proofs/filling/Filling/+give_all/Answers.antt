use Rattle.std.proofs.Common.{◌≡◌, ℕ, ◌+◌, ◌*◌, ◌<◌, ◌≤◌, Bool, true, false, cond, eqb, List, ◌++◌, length, get_or, Some, None, refl, sym, ap, ◌∙◌, subst, arith}
use Rattle.std.proofs.lemmas.Bool.{eqb-true}
use Rattle.std.proofs.lemmas.Result.{err_from_is_err_and}
use Rattle.kiss2.specs.Placing.{Placed, put_all, table}
use Rattle.kiss2.specs.Rows.{places}
use Rattle.kiss2.proofs.Giving.{placed_both, placed_stops, places_dash, rest_of, rest_shorter, room_halves}
use Rattle.kiss2.proofs.filling.Filling.+give_all.Goals as goal

-- a bit is 0 or 1
bit_small : (b : Bool) → cond b 1 0 ≤ 1
bit_small true = omega arith
bit_small false = omega arith

-- only a dash stands for no bit
is_dash : (b x : Bool) → cond b None (Some x) ≡ None → b ≡ true
is_dash true x e = refl
is_dash false x e = absurd (let z : ◌≡◌ {A = ℕ} 0 1 = cc in omega arith)

-- the places of both bits
both_bits : (ds : List ℕ) (q p r : ℕ) → 0 < length ds → eqb (get_or ds 0 0) 45 ≡ true → p ≡ q * 2 + 0 → r ≡ q * 2 + 1 → places ds q ≡ places (rest_of ds) p ++ places (rest_of ds) r
both_bits ds q p r some e f g =
    places_dash ds q some (eqb-true (get_or ds 0 0) 45 e)
    ∙ ap (λ (k : ℕ). places (rest_of ds) k ++ places (rest_of ds) (q * 2 + 1)) (let z : q * 2 ≡ p = omega (arith, f) in z)
    ∙ ap (λ (k : ℕ). places (rest_of ds) p ++ places (rest_of ds) k) (sym g)

pub give_all-requires : goal.give_all-requires
give_all-requires t c =
    let less = rest_shorter c.args.digits.now c.in-len1-up.len_at_least in
    let place = c.longer.result in
    let small : place ≤ c.args.place * 2 + 1 = omega (arith, c.longer.ensures, bit_small c.in-Some.bit) in
    (omega (arith, less, c.decreases), (room_halves c.args.place place _ _ _ small less c.requires.cells, room_halves c.args.place place _ _ _ small less c.requires.few))

pub give_all-requires-in-None : goal.give_all-requires-in-None
give_all-requires-in-None t c =
    let less = rest_shorter c.args.digits.now c.in-len1-up.len_at_least in
    let place = c.longer-in-None.result in
    let small : place ≤ c.args.place * 2 + 1 = omega (arith, c.longer-in-None.ensures) in
    (omega (arith, less, c.decreases), (room_halves c.args.place place _ _ _ small less c.requires.cells, room_halves c.args.place place _ _ _ small less c.requires.few))

pub give_all-requires-in-None-2 : goal.give_all-requires-in-None-2
give_all-requires-in-None-2 t c =
    let less = rest_shorter c.args.digits.now c.in-len1-up.len_at_least in
    let place = c.longer-in-None-2.result in
    let small : place ≤ c.args.place * 2 + 1 = omega (arith, c.longer-in-None-2.ensures) in
    let cells = room_halves c.args.place place _ _ _ small less c.requires.cells in
    (omega (arith, less, c.decreases), (omega (arith, cells, c.give_all-in-None.ensures.lent.size), room_halves c.args.place place _ _ _ small less c.requires.few))

pub returns-in_err-give_all-in-None-clause-put : goal.returns-in_err-give_all-in-None-clause-put
returns-in_err-give_all-in-None-clause-put t c =
    let ds = c.args.digits.now in
    let before = table c.args.self.now.cells.now c.args.self.now.given in
    let p = err_from_is_err_and c.from_residual.result c.from_residual.ensures.1 in
    let e = c.in_err-give_all-in-None.ensures.put in
    let both = both_bits ds c.args.place c.longer-in-None.result (c.args.place * 2 + 1) c.in-len1-up.len_at_least (is_dash _ _ (sym c.bit_of.ensures ∙ c.in-None.is)) c.longer-in-None.ensures refl in
    rw p.1 (ap (λ (ks : List ℕ). put_all c.args.cell ks before) both ∙ placed_stops c.args.cell (places (rest_of ds) c.longer-in-None.result) (places (rest_of ds) (c.args.place * 2 + 1)) before e)

pub returns-in_ok-give_all-in-None-clause-put : goal.returns-in_ok-give_all-in-None-clause-put
returns-in_ok-give_all-in-None-clause-put t c =
    let ds = c.args.digits.now in
    let before = table c.args.self.now.cells.now c.args.self.now.given in
    let between = table c.give_all-in-None.new.self.cells.now c.give_all-in-None.new.self.given in
    let last = c.give_all-in-None-2.new.self in
    let both = both_bits ds c.args.place c.longer-in-None.result c.longer-in-None-2.result c.in-len1-up.len_at_least (is_dash _ _ (sym c.bit_of.ensures ∙ c.in-None.is)) c.longer-in-None.ensures c.longer-in-None-2.ensures in
    subst (λ (ks : List ℕ). Placed (put_all c.args.cell ks before) c.give_all-in-None-2.result (table last.cells.now last.given)) (sym both)
    (placed_both c.args.cell (places (rest_of ds) c.longer-in-None.result) (places (rest_of ds) c.longer-in-None-2.result) before between c.give_all-in-None-2.result (table last.cells.now last.given) c.in_ok-give_all-in-None.ensures.put c.give_all-in-None-2.ensures.put)
