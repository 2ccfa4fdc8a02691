-- The cell that some rows give at a place.
use Rattle.std.proofs.Common.{◌≡◌, ℕ, suc, Bool, true, false, cond, eqb, ◌⊎◌, List, [], ◌∷◌, ◌++◌, Some, None, Option, sym, refl, ap, ◌∙◌, subst, inl, inr, arith}
use Rattle.std.specs.List.{ContainsAt as Has}
use Rattle.std.proofs.ByRecursion.{has_push_cases}
use Rattle.std.proofs.lemmas.Bool.{and_parts, cond-true, eqb-true, or_cases}
use Rattle.machine.specs.Lists.{all}
use Rattle.devices.specs.declared.cell.Cell.{Cell}
use Rattle.kiss2.specs.Rows.{Transition, agrees, among, cell_given, fits_rows, given_at, places, same_cell}

-- the row gives the cell at place k
abbrev pub Gives : Transition → ℕ → Type 0
Gives t k = among (places t.input t.current) k ≡ true

-- what holds of all numbers of a list holds of each among them
all_among : (test : ℕ → Bool) (ns : List ℕ) (k : ℕ) → all test ns ≡ true → among ns k ≡ true → test k ≡ true
all_among test [] k h e = absurd (let z : ◌≡◌ {A = ℕ} 0 1 = cc in omega arith)
all_among test (n ∷ ns) k h e = go (or_cases (eqb n k) (among ns k) e) (all_among test ns k (and_parts (test n) _ h).1)
  where
    go : (eqb n k ≡ true) ⊎ (among ns k ≡ true) → (among ns k ≡ true → test k ≡ true) → test k ≡ true
    go (inl f) more = ap test (sym (eqb-true n k f)) ∙ (and_parts (test n) _ h).0
    go (inr f) more = more f

-- a cell that is given stays
given_old : (ts us : List Transition) (k : ℕ) (x : Cell) → given_at ts k ≡ Some x → given_at (ts ++ us) k ≡ Some x
given_old [] us k x e = absurd (let z : ◌≡◌ {A = ℕ} 0 1 = cc in omega arith)
given_old (t ∷ ts) us k x e = go (among (places t.input t.current) k) e (given_old ts us k x)
  where
    go : (b : Bool) → cond b (Some (cell_given t)) (given_at ts k) ≡ Some x → (given_at ts k ≡ Some x → given_at (ts ++ us) k ≡ Some x) → cond b (Some (cell_given t)) (given_at (ts ++ us) k) ≡ Some x
    go true f more = f
    go false f more = more f

-- where none is given, later rows give it
given_new : (ts us : List Transition) (k : ℕ) → given_at ts k ≡ None → given_at (ts ++ us) k ≡ given_at us k
given_new [] us k e = refl
given_new (t ∷ ts) us k e = go (among (places t.input t.current) k) e (given_new ts us k)
  where
    go : (b : Bool) → cond b (Some (cell_given t)) (given_at ts k) ≡ None → (given_at ts k ≡ None → given_at (ts ++ us) k ≡ given_at us k) → cond b (Some (cell_given t)) (given_at (ts ++ us) k) ≡ given_at us k
    go true f more = absurd (let z : ◌≡◌ {A = ℕ} 0 1 = cc in omega arith)
    go false f more = more f

-- a cell that is given is that of some row
pub given_by : (ts : List Transition) (k : ℕ) (x : Cell) → given_at ts k ≡ Some x → (t : Transition) × Has ts t × Gives t k × (cell_given t ≡ x)
given_by [] k x e = absurd (let z : ◌≡◌ {A = ℕ} 0 1 = cc in omega arith)
given_by (t ∷ ts) k x e = go (among (places t.input t.current) k) refl e (given_by ts k x)
  where
    go : (b : Bool) → among (places t.input t.current) k ≡ b → cond b (Some (cell_given t)) (given_at ts k) ≡ Some x → (given_at ts k ≡ Some x → (u : Transition) × Has ts u × Gives u k × (cell_given u ≡ x)) → (u : Transition) × Has (t ∷ ts) u × Gives u k × (cell_given u ≡ x)
    go true here f more = (t, (0, omega arith, λ d. refl), here, cc)
    go false here f more =
        let y = more f in
        (y.0, (suc y.1.0, omega (arith, y.1.1), y.1.2), y.2, y.3)

-- two cells that are the same
same_is : (x y : Cell) → same_cell x y ≡ true → x ≡ y
same_is x y e =
    let p = and_parts (eqb x.next y.next) _ e in
    let f = eqb-true _ _ p.0 in
    let g = eqb-true _ _ p.1 in
    ap (λ (n : ℕ). record { next = n; output = x.output }) f ∙ ap (λ (n : ℕ). record { next = y.next; output = n }) g

-- each row agrees with the cells that all give
abbrev pub AllAgree : List Transition → Type 0
AllAgree ts = (t : Transition) → Has ts t → (k : ℕ) → Gives t k → given_at ts k ≡ Some (cell_given t)

-- one row more that fits
pub agree_more : (ts : List Transition) (t : Transition) → AllAgree ts → fits_rows ts t ≡ true → AllAgree (ts ++ t ∷ [])
agree_more ts t agree fits u has k gives = go (has_push_cases ts t u has)
  where
    here : (o : Option Cell) → given_at ts k ≡ o → agrees o (cell_given t) ≡ true → Gives t k → given_at (ts ++ t ∷ []) k ≡ Some (cell_given t)
    here None e f g = given_new ts (t ∷ []) k e ∙ cond-true _ _ _ g
    here (Some x) e f g = given_old ts (t ∷ []) k (cell_given t) (e ∙ ap Some (same_is x (cell_given t) f))

    go : Has ts u ⊎ (t ≡ u) → given_at (ts ++ t ∷ []) k ≡ Some (cell_given u)
    go (inl old) = given_old ts (t ∷ []) k (cell_given u) (agree u old k gives)
    go (inr e) =
        let g : Gives t k = subst (λ (v : Transition). Gives v k) (sym e) gives in
        here (given_at ts k) refl (all_among (λ j. agrees (given_at ts j) (cell_given t)) (places t.input t.current) k fits g) g ∙ ap (λ (v : Transition). Some (cell_given v)) e
