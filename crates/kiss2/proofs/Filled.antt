-- What the table holds once a row is given.
use Rattle.std.proofs.Common.{◌≡◌, ℕ, ◌+◌, ◌*◌, ◌^◌, ◌<◌, ◌≤◌, Bool, true, false, cond, ◌&&◌, ◌||◌, eqb, ◌⊎◌, List, [], ◌∷◌, ◌++◌, length, get_or, set, is_some, Some, None, Option, unwrap_or, sym, refl, ap, ◌∙◌, subst, inl, inr, ⊎_elim, arith, length-set}
use Rattle.std.specs.List.{AllByRecursion}
use Rattle.std.proofs.ByRecursion.{All-append, All-weaker}
use Rattle.std.proofs.lemmas.List.{get_or-set_same, get_or-set_other}
use Rattle.std.proofs.lemmas.Bool.{cases_eq, cond_both, cond-false, cond-true, eq-eqb, ne_eqb, cases_Bool}
use Rattle.devices.specs.Cells.{no_cell}
use Rattle.devices.specs.declared.cell.Cell.{Cell}
use Rattle.machine.specs.Lists.{all}
use Rattle.kiss2.specs.Placing.{Table, and_then, put_all, put_at, table}
use Rattle.kiss2.specs.Progressing.{Filled, RowRoom}
use Rattle.kiss2.specs.Rows.{Transition, agrees, among, cell_given, fits_rows, given_at, places, same_cell}
use Rattle.kiss2.proofs.Giving.{room_halves}

-- what stands at the places, with the cell c at one more where none stood
abbrev with_cell : (ℕ → Option Cell) → Cell → ℕ → ℕ → Option Cell
with_cell f c k j = cond (eqb k j) (Some (unwrap_or (f j) c)) (f j)

abbrev with_cells : (ℕ → Option Cell) → Cell → List ℕ → ℕ → Option Cell
with_cells f c [] j = f j
with_cells f c (k ∷ ks) j = with_cells (with_cell f c k) c ks j

-- the table holds what stands at the places, and elsewhere what was there at first
record Shows (old : List Cell) (f : ℕ → Option Cell) (t : Table) : Type 0 where
  marked : (k : ℕ) → k < length t.given → get_or t.given k false ≡ is_some (f k)
  filled : (k : ℕ) → k < length t.cells → get_or t.cells k no_cell ≡ unwrap_or (f k) (get_or old k no_cell)

same_self : (c : Cell) → same_cell c c ≡ true
same_self c = ap (λ (b : Bool). b && eqb c.output c.output) (eq-eqb c.next c.next refl) ∙ eq-eqb c.output c.output refl

-- a cell that was put agrees as before
agrees_with : (f : ℕ → Option Cell) (c : Cell) (k j : ℕ) → agrees (with_cell f c k j) c ≡ agrees (f j) c
agrees_with f c k j = go (eqb k j) (f j)
  where
    go : (b : Bool) (o : Option Cell) → agrees (cond b (Some (unwrap_or o c)) o) c ≡ agrees o c
    go true None = same_self c
    go true (Some x) = refl
    go false o = refl

all_agree : (f : ℕ → Option Cell) (c : Cell) (k : ℕ) (ks : List ℕ) → all (λ j. agrees (with_cell f c k j) c) ks ≡ all (λ j. agrees (f j) c) ks
all_agree f c k [] = refl
all_agree f c k (j ∷ ks) = ap (λ (b : Bool). b && all (λ i. agrees (with_cell f c k i) c) ks) (agrees_with f c k j) ∙ ap (λ (b : Bool). agrees (f j) c && b) (all_agree f c k ks)

with_same : (f : ℕ → Option Cell) (c : Cell) (k : ℕ) → with_cell f c k k ≡ Some (unwrap_or (f k) c)
with_same f c k = cond-true (eqb k k) _ _ (eq-eqb k k refl)

with_other : (f : ℕ → Option Cell) (c : Cell) (k j : ℕ) → (j ≡ k → ⊥) → with_cell f c k j ≡ f j
with_other f c k j h = cond-false (eqb k j) _ _ (ne_eqb k j (λ e. h (sym e)))

-- what one place comes to
abbrev OnePut : List Cell → Cell → (ℕ → Option Cell) → Table → ℕ → Type 0
OnePut old c f t k =
    ((agrees (f k) c ≡ true) × ((u : Table) × (put_at c k t ≡ Some u) × Shows old (with_cell f c k) u × (length u.cells ≡ length t.cells) × (length u.given ≡ length t.given)))
    ⊎ ((agrees (f k) c ≡ false) × (put_at c k t ≡ None))

module _ (old : List Cell) (c : Cell) (f : ℕ → Option Cell) (t : Table) (k : ℕ) (shows : Shows old f t) (h : k < length t.cells) (i : k < length t.given) where
  -- a cell that was given is kept
  kept : (x : Cell) → f k ≡ Some x → OnePut old c f t k
  kept x e =
      let was : get_or t.given k false ≡ true = shows.marked k i ∙ ap is_some e in
      let is : get_or t.cells k no_cell ≡ x = shows.filled k h ∙ ap (λ (o : Option Cell). unwrap_or o (get_or old k no_cell)) e in
      let put : put_at c k t ≡ cond (same_cell x c) (Some t) None = cond-true _ _ _ was ∙ ap (λ (y : Cell). cond (same_cell y c) (Some t) None) is in
      let agree : agrees (f k) c ≡ same_cell x c = ap (λ (o : Option Cell). agrees o c) e in
      let still : (j : ℕ) → with_cell f c k j ≡ f j = λ j. ⊎_elim (λ (q : j ≡ k). subst (λ (n : ℕ). with_cell f c k n ≡ f n) (sym q) (with_same f c k ∙ ap (λ (o : Option Cell). Some (unwrap_or o c)) e ∙ sym e)) (λ ne. with_other f c k j ne) (cases_eq j k) in
      ⊎_elim
      (λ (y : same_cell x c ≡ true). inl (agree ∙ y, (t, put ∙ cond-true _ _ _ y, record { marked = λ j l. shows.marked j l ∙ ap is_some (sym (still j)); filled = λ j l. shows.filled j l ∙ ap (λ (o : Option Cell). unwrap_or o (get_or old j no_cell)) (sym (still j)) }, refl, refl)))
      (λ y. inr (agree ∙ y, put ∙ cond-false _ _ _ y))
      (cases_Bool (same_cell x c))

  -- a new one is put
  entered : f k ≡ None → OnePut old c f t k
  entered e =
      let was : get_or t.given k false ≡ false = shows.marked k i ∙ ap is_some e in
      let here : with_cell f c k k ≡ Some c = with_same f c k ∙ ap (λ (o : Option Cell). Some (unwrap_or o c)) e in
      let cells : List Cell = set t.cells k c in
      let given : List Bool = set t.given k true in
      let marks : (j : ℕ) → j < length given → get_or given j false ≡ is_some (with_cell f c k j) = λ j l. ⊎_elim
      (λ (q : j ≡ k). subst (λ (n : ℕ). get_or given n false ≡ is_some (with_cell f c k n)) (sym q) (get_or-set_same t.given k true false i ∙ ap is_some (sym here)))
      (λ ne. get_or-set_other t.given k j true false ne ∙ shows.marked j (omega (arith, l, length-set t.given k true)) ∙ ap is_some (sym (with_other f c k j ne))) (cases_eq j k) in
      let fills : (j : ℕ) → j < length cells → get_or cells j no_cell ≡ unwrap_or (with_cell f c k j) (get_or old j no_cell) = λ j l. ⊎_elim
      (λ (q : j ≡ k). subst (λ (n : ℕ). get_or cells n no_cell ≡ unwrap_or (with_cell f c k n) (get_or old n no_cell)) (sym q) (get_or-set_same t.cells k c no_cell h ∙ ap (λ (o : Option Cell). unwrap_or o (get_or old k no_cell)) (sym here)))
      (λ ne. get_or-set_other t.cells k j c no_cell ne ∙ shows.filled j (omega (arith, l, length-set t.cells k c)) ∙ ap (λ (o : Option Cell). unwrap_or o (get_or old j no_cell)) (sym (with_other f c k j ne))) (cases_eq j k) in
      inl (ap (λ (o : Option Cell). agrees o c) e, (table cells given, cond-false _ _ _ was, record { marked = marks; filled = fills }, length-set t.cells k c, length-set t.given k true))

  put_one : OnePut old c f t k
  put_one = go (f k) refl
    where
      go : (o : Option Cell) → f k ≡ o → OnePut old c f t k
      go None e = entered e
      go (Some x) e = kept x e

-- what some places come to
abbrev AllPut : List Cell → Cell → (ℕ → Option Cell) → Table → List ℕ → Type 0
AllPut old c f t ks =
    ((all (λ k. agrees (f k) c) ks ≡ true) × ((u : Table) × (put_all c ks t ≡ Some u) × Shows old (with_cells f c ks) u))
    ⊎ ((all (λ k. agrees (f k) c) ks ≡ false) × (put_all c ks t ≡ None))

put_some : (old : List Cell) (c : Cell) (f : ℕ → Option Cell) (t : Table) (ks : List ℕ) → Shows old f t → AllByRecursion (λ k. k < length t.cells) ks → AllByRecursion (λ k. k < length t.given) ks → AllPut old c f t ks
put_some old c f t [] shows hs is = inl (refl, (t, refl, shows))
put_some old c f t (k ∷ ks) shows (h, hs) (i, is) =
    ⊎_elim
    (λ one.
    let u = one.1.0 in
    let more = put_some old c (with_cell f c k) u ks one.1.2 (All-weaker _ _ (λ j l. omega (arith, l, one.1.3)) ks hs) (All-weaker _ _ (λ j l. omega (arith, l, one.1.4)) ks is) in
    let on : put_all c (k ∷ ks) t ≡ put_all c ks u = ap (λ (o : Option Table). and_then o (put_all c ks)) one.1.1 in
    let fit : all (λ j. agrees (f j) c) (k ∷ ks) ≡ all (λ j. agrees (with_cell f c k j) c) ks = ap (λ (b : Bool). b && all (λ j. agrees (f j) c) ks) one.0 ∙ sym (all_agree f c k ks) in
    ⊎_elim (λ yes'. inl (fit ∙ yes'.0, (yes'.1.0, on ∙ yes'.1.1, yes'.1.2))) (λ no'. inr (fit ∙ no'.0, on ∙ no'.1)) more)
    (λ none. inr (ap (λ (b : Bool). b && all (λ j. agrees (f j) c) ks) none.0, ap (λ (o : Option Table). and_then o (put_all c ks)) none.1))
    (put_one old c f t k shows h i)

-- all places of a row lie below its end
pub places_below : (ds : List ℕ) (q : ℕ) → AllByRecursion (λ k. k < (q + 1) * 2 ^ length ds) (places ds q)
places_below [] q = (omega arith, tt)
places_below (d ∷ ds) q =
    let half : (p : ℕ) → p ≤ q * 2 + 1 → (p + 1) * 2 ^ length ds ≤ (q + 1) * 2 ^ length (d ∷ ds) = λ p h. room_halves q p (length (d ∷ ds)) (length ds) _ h (omega arith) (omega arith) in
    let from : (p : ℕ) → p ≤ q * 2 + 1 → AllByRecursion (λ k. k < (q + 1) * 2 ^ length (d ∷ ds)) (places ds p) = λ p h. All-weaker _ _ (λ k l. omega (arith, l, half p h)) (places ds p) (places_below ds p) in
    cond_both (eqb d 45) _ _ (AllByRecursion (λ k. k < (q + 1) * 2 ^ length (d ∷ ds))) (λ _. All-append _ (places ds (q * 2)) (places ds (q * 2 + 1)) (from (q * 2) (omega arith)) (from (q * 2 + 1) (omega arith))) (λ _. from _ (cond_both (eqb d 49) 1 0 (λ (b : ℕ). q * 2 + b ≤ q * 2 + 1) (λ _. omega arith) (λ _. omega arith)))

-- what stands once a cell is put at some places
with_cells_are : (f : ℕ → Option Cell) (c : Cell) (ks : List ℕ) (j : ℕ) → with_cells f c ks j ≡ cond (among ks j) (Some (unwrap_or (f j) c)) (f j)
with_cells_are f c [] j = refl
with_cells_are f c (k ∷ ks) j = with_cells_are (with_cell f c k) c ks j ∙ go (eqb k j) (among ks j) (f j)
  where
    go : (b m : Bool) (o : Option Cell) → cond m (Some (unwrap_or (cond b (Some (unwrap_or o c)) o) c)) (cond b (Some (unwrap_or o c)) o) ≡ cond (b || m) (Some (unwrap_or o c)) o
    go true true o = refl
    go true false o = refl
    go false m o = refl

-- what the rows give with one row more
given_more : (ts : List Transition) (t : Transition) (j : ℕ) → given_at (ts ++ t ∷ []) j ≡ cond (among (places t.input t.current) j) (Some (unwrap_or (given_at ts j) (cell_given t))) (given_at ts j)
given_more [] t j = refl
given_more (u ∷ ts) t j = ap (λ (o : Option Cell). cond (among (places u.input u.current) j) (Some (cell_given u)) o) (given_more ts t j) ∙ go (among (places u.input u.current) j) (among (places t.input t.current) j) (given_at ts j)
  where
    go : (b m : Bool) (o : Option Cell) → cond b (Some (cell_given u)) (cond m (Some (unwrap_or o (cell_given t))) o) ≡ cond m (Some (unwrap_or (cond b (Some (cell_given u)) o) (cell_given t))) (cond b (Some (cell_given u)) o)
    go true true o = refl
    go true false o = refl
    go false m o = refl

-- a row whose cells all lie in the table is put, or is at odds
pub row_filled : (old : List Cell) (ts : List Transition) (tr : Transition) (t : Table) → Filled old ts t → RowRoom (length t.cells) tr → RowRoom (length t.given) tr → ((fits_rows ts tr ≡ true) × ((u : Table) × (put_all (cell_given tr) (places tr.input tr.current) t ≡ Some u) × Filled old (ts ++ tr ∷ []) u)) ⊎ ((fits_rows ts tr ≡ false) × (put_all (cell_given tr) (places tr.input tr.current) t ≡ None))
row_filled old ts tr t filled h i =
    let ks = places tr.input tr.current in
    let below = places_below tr.input tr.current in
    let same : (j : ℕ) → with_cells (given_at ts) (cell_given tr) ks j ≡ given_at (ts ++ tr ∷ []) j = λ j. with_cells_are (given_at ts) (cell_given tr) ks j ∙ sym (given_more ts tr j) in
    ⊎_elim
    (λ put. inl (put.0, (put.1.0, put.1.1, record { marked = λ j l. put.1.2.marked j l ∙ ap is_some (same j); filled = λ j l. put.1.2.filled j l ∙ ap (λ (o : Option Cell). unwrap_or o (get_or old j no_cell)) (same j) })))
    inr
    (put_some old (cell_given tr) (given_at ts) t ks (record { marked = filled.marked; filled = filled.filled }) (All-weaker _ _ (λ k l. omega (arith, l, h)) ks below) (All-weaker _ _ (λ k l. omega (arith, l, i)) ks below))
