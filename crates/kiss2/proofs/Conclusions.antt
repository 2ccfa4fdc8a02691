-- What is concluded from what is held is what all lines say together.
use Rattle.std.proofs.Common.{◌≡◌, ℕ, ◌+◌, ◌-◌, ◌*◌, ◌^◌, ◌<◌, ◌≤◌, Bool, true, false, cond, not, ◌&&◌, ◌||◌, eqb, ltb, List, [], ◌∷◌, ◌++◌, map, length, get_or, take, drop, is_some, Some, None, Ok, Err, Option, Result, unwrap_or, sym, refl, ap, ◌∙◌, subst, ⊎_elim, mul-le-mul_right, arith, length-append, length-drop}
use Rattle.std.specs.List.{range_with_len, AllByRecursion}
use Rattle.std.proofs.lemmas.List.FromFn.{fill_by_all, get_or-map-range_with_len, length-range_with_len, length-map-range_with_len, get_or-range_with_len}
use Rattle.std.proofs.ByRecursion.{All-weaker}
use Rattle.std.proofs.lemmas.List.{ext_get_or, get_or_append_left, get_or-append_right, get_or-drop, get_or-take, length-take-le}
use Rattle.std.proofs.lemmas.Bool.{and_parts, cases_lt, cond-false, cond-true, le-ltb, lt-ltb, ltb-false, ne_eqb, or_from}
use Rattle.machine.proofs.All.{all_at}
use Rattle.machine.specs.Lists.{all}
use Rattle.machine.specs.Slices.{FirstEntries}
use Rattle.machine.specs.declared.refusal.Refusal.TheVariants.{CellNotGiven, CountMismatch, TextTooLong, WorkTooShort}
use Rattle.devices.specs.Cells.{no_cell}
use Rattle.devices.specs.declared.cell.Cell.{Cell}
use Rattle.kiss2.specs.Concluding.{Read, shape_held, with_reset, without_clash}
use Rattle.kiss2.specs.Placing.{Table}
use Rattle.kiss2.specs.Progressing.{Filled, Holds, Progress, RowRoom, reset_state}
use Rattle.kiss2.specs.Readings.{Reading, Seen, cell_count, cells_of, complete, concluded, conclusion, miscounted, mismatch, nothing_seen, reading, reading_of, refused, reset_missing, reset_number, take_lines, unless_clash}
use Rattle.kiss2.specs.Rows.{Transition, among, given_at, number_of, places}
use Rattle.kiss2.specs.Seeing.{RowSound, Sound, WidthUpto}
use Rattle.kiss2.specs.Texts.{bytes_of, lines}
use Rattle.kiss2.specs.declared.heading.Heading.{Heading}
use Rattle.kiss2.specs.declared.part.Part.{Part}
use Rattle.kiss2.specs.declared.refused.Refused.{Refused}
use Rattle.kiss2.specs.declared.shape.Shape.{Shape}
use Rattle.kiss2.proofs.Filled.{places_below}
use Rattle.kiss2.proofs.Giving.{cells_few}
use Rattle.kiss2.proofs.Lawful.{accepted, lawful}
use Rattle.kiss2.proofs.Soundness.{ok_same}
use Rattle.kiss2.proofs.Stepping.{names_held}

-- the shape alone
abbrev pub only_shape : Result Reading Refused → Result Shape Refused
only_shape (Ok x) = Ok x.shape
only_shape (Err e) = Err e

-- the reset state is found, or missing
abbrev ResetAs : Option ℕ → Bool → (ℕ → Type 0) → Type 0
ResetAs None m P = m ≡ true
ResetAs (Some q) m P = (m ≡ false) × P q

-- the checks in their order
checks : (a b m z : Bool) (o k k' : Option ℕ) (w w' : Bool) (f : ℕ → Shape) (x : Reading) → ResetAs o m (λ q. f q ≡ x.shape) → (z ≡ false → k ≡ k') → (z ≡ false → k ≡ None → w ≡ w') → cond (a || b) (Err (refused CountMismatch 0)) (with_reset o (λ q. cond z (Err (refused WorkTooShort 0)) (without_clash k (cond w (Ok (f q)) (Err (refused CellNotGiven 0)))))) ≡ only_shape (cond (a || (b || m)) (Err (refused CountMismatch 0)) (cond z (Err (refused WorkTooShort 0)) (unless_clash k' (cond w' (Ok x) (Err (refused CellNotGiven 0))))))
checks true b m z o k k' w w' f x reset same whole = refl
checks false true m z o k k' w w' f x reset same whole = refl
checks false false m z None k k' w w' f x reset same whole = sym (ap (λ (c : Bool). only_shape (cond c (Err (refused CountMismatch 0)) (cond z (Err (refused WorkTooShort 0)) (unless_clash k' (cond w' (Ok x) (Err (refused CellNotGiven 0))))))) reset)
checks false false m z (Some q) k k' w w' f x reset same whole =
    go z k w same whole ∙ sym (ap (λ (c : Bool). only_shape (cond c (Err (refused CountMismatch 0)) (cond z (Err (refused WorkTooShort 0)) (unless_clash k' (cond w' (Ok x) (Err (refused CellNotGiven 0))))))) reset.0)
  where
    end : (v : Bool) → cond v (Ok (f q)) (Err (refused CellNotGiven 0)) ≡ only_shape (cond v (Ok x) (Err (refused CellNotGiven 0)))
    end true = ap Ok reset.1
    end false = refl

    go : (y : Bool) (j : Option ℕ) (v : Bool) → (y ≡ false → j ≡ k') → (y ≡ false → j ≡ None → v ≡ w') → cond y (Err (refused WorkTooShort 0)) (without_clash j (cond v (Ok (f q)) (Err (refused CellNotGiven 0)))) ≡ only_shape (cond y (Err (refused WorkTooShort 0)) (unless_clash k' (cond w' (Ok x) (Err (refused CellNotGiven 0)))))
    go true j v s t = refl
    go false (Some n) v s t = ap (λ (i : Option ℕ). only_shape (unless_clash i (cond w' (Ok x) (Err (refused CellNotGiven 0))))) (s refl)
    go false None v s t = end v ∙ ap (λ (u : Bool). only_shape (cond u (Ok x) (Err (refused CellNotGiven 0)))) (t refl refl) ∙ ap (λ (i : Option ℕ). only_shape (unless_clash i (cond w' (Ok x) (Err (refused CellNotGiven 0))))) (s refl)

some_same : (o : Option Cell) (a b : Cell) → is_some o ≡ true → unwrap_or o a ≡ unwrap_or o b
some_same None a b h = absurd (let z : ◌≡◌ {A = ℕ} 0 1 = cc in omega arith)
some_same (Some x) a b h = refl

all_images : {X : Type 0} (f : X → Bool) (xs : List X) → all (λ b. b) (map f xs) ≡ all f xs
all_images f [] = refl
all_images f (x ∷ xs) = ap (λ (b : Bool). f x && b) (all_images f xs)

-- no place past the end is among the places
among_below : (ks : List ℕ) (m k : ℕ) → AllByRecursion (λ j. j < m) ks → m ≤ k → among ks k ≡ false
among_below [] m k h l = refl
among_below (j ∷ ks) m k (h, hs) l = or_from (eqb j k) _ (ne_eqb j k (λ e. omega (arith, h, l, e))) (among_below ks m k hs l)

module _ (width states : ℕ) where
  -- the cells of a row lie among those of the table
  row_inside : (t : Transition) → RowSound width states t → (t.current + 1) * 2 ^ length t.input ≤ states * 2 ^ width
  row_inside t r =
      let more : t.current + 1 ≤ states = omega (arith, r.current_inside) in
      subst (λ (n : ℕ). (t.current + 1) * 2 ^ n ≤ states * 2 ^ width) (sym r.wide) (mul-le-mul_right (2 ^ width) more)

  rooms : (room : ℕ) (ts : List Transition) → states * 2 ^ width ≤ room → AllByRecursion (RowSound width states) ts → AllByRecursion (RowRoom room) ts
  rooms room ts h rs = All-weaker _ _ (λ t r. omega (arith, row_inside t r, h)) ts rs

  -- no row gives a cell past them
  given_past : (ts : List Transition) (k : ℕ) → AllByRecursion (RowSound width states) ts → states * 2 ^ width ≤ k → given_at ts k ≡ None
  given_past [] k rs h = refl
  given_past (t ∷ ts) k (r, rs) h = cond-false _ _ _ (among_below (places t.input t.current) _ k (places_below t.input t.current) (omega (arith, row_inside t r, h))) ∙ given_past ts k rs h

module _ (text : List ℕ) (old_cells : List Cell) (old_names : List Part) (p : Progress) (names : List Part) (t : Table) (s : Seen) (sound : Sound text s) (holds : Holds old_cells old_names p names t s) where
  -- where the slice has room for all cells, the table is held
  stands : cell_count s ≤ length t.cells → (p.clash ≡ s.clash) × (s.clash ≡ None → Filled old_cells s.rows t)
  stands h = holds.cells_stand (rooms (unwrap_or s.heading.inputs 0) (length s.names) (length t.cells) s.rows h sound.rows)

  -- the marks say whether every cell is given
  marked_all : length t.given ≡ 16384 → cell_count s ≤ 16384 → Filled old_cells s.rows t → all (λ b. b) (take (cell_count s) t.given) ≡ all (λ k. is_some (given_at s.rows k)) (range_with_len 0 (cell_count s))
  marked_all long few filled =
      let n = cell_count s in
      let f : ℕ → Bool = λ k. is_some (given_at s.rows k) in
      let fits : n ≤ length t.given = omega (arith, long, few) in
      ap (all (λ b. b)) (fill_by_all f (take n t.given) n false (length-take-le n t.given fits) (λ k h. get_or-take n t.given k false h ∙ filled.marked k (omega (arith, h, fits)))) ∙ all_images f (range_with_len 0 n)

  reset_as : (o : Option Part) (f : ℕ → Shape) (x : Shape) → f (reset_number text s o) ≡ x → ResetAs (reset_state text s.names o) (reset_missing text s o) (λ q. f q ≡ x)
  reset_as None f x e = (refl, e)
  reset_as (Some r) f x e = go (ltb (number_of text s.names (bytes_of text r)) (length s.names))
    where
      go : (b : Bool) → ResetAs (cond b (Some (number_of text s.names (bytes_of text r))) None) (not b) (λ q. f q ≡ x)
      go true = (refl, e)
      go false = refl

  -- the checks over a heading, the numbers of rows and states, and the names
  checked : ℕ → Heading → ℕ → ℕ → List Part → Result Shape Refused
  checked room h rows states ps =
      cond (miscounted h.rows rows || miscounted h.states states) (Err (refused CountMismatch 0))
      (with_reset (reset_state text ps h.reset) (λ q.
      cond (ltb room (states * 2 ^ unwrap_or h.inputs 0)) (Err (refused WorkTooShort 0))
      (without_clash p.clash
      (cond (ltb 0 rows && all (λ b. b) (take (states * 2 ^ unwrap_or h.inputs 0) t.given))
      (Ok (record { inputs = unwrap_or h.inputs 0; outputs = unwrap_or h.outputs 0; rows = rows; states = states; reset = q }))
      (Err (refused CellNotGiven 0))))))

  -- what is held decides as what the lines say
  from_lines : (room : ℕ) → shape_held text p names room t.given ≡ checked room s.heading (length s.rows) (length s.names) s.names
  unfolding checked
  from_lines room =
      ap (λ (h : Heading). checked room h p.rows p.states (take p.states names)) holds.heading
      ∙ ap (λ (n : ℕ). checked room s.heading n p.states (take p.states names)) holds.rows
      ∙ ap (checked room s.heading (length s.rows) p.states) (names_held holds)
      ∙ ap (λ (n : ℕ). checked room s.heading (length s.rows) n s.names) holds.states

  pub concluded_is : length t.given ≡ 16384 → cell_count s ≤ 16384 → shape_held text p names (length t.cells) t.given ≡ only_shape (conclusion text (length t.cells) s)
  unfolding checked
  concluded_is long few =
      from_lines (length t.cells)
      ∙ checks (miscounted s.heading.rows (length s.rows)) (miscounted s.heading.states (length s.names)) (reset_missing text s s.heading.reset) (ltb (length t.cells) (cell_count s)) (reset_state text s.names s.heading.reset) p.clash s.clash _ (complete s) _ (reading_of text s)
      (reset_as s.heading.reset _ _ refl)
      (λ z. (stands (ltb-false _ _ z)).0)
      (λ z none. let h = stands (ltb-false _ _ z) in ap (λ (b : Bool). ltb 0 (length s.rows) && b) (marked_all long few (h.1 (sym h.0 ∙ none))))

  -- the first cells are those of the table, and the others as at first
  pub cells_stand : complete s ≡ true → Filled old_cells s.rows t → length t.cells ≡ length old_cells → cell_count s ≤ length old_cells → FirstEntries (cells_of s) old_cells t.cells
  cells_stand whole filled long fits =
      let n = cell_count s in
      let f : ℕ → Cell = λ k. unwrap_or (given_at s.rows k) no_cell in
      let size : length (cells_of s) ≡ n = length-map-range_with_len f 0 n in
      let given : (k : ℕ) → k < n → is_some (given_at s.rows k) ≡ true = λ k h.
      let at = all_at (λ j. is_some (given_at s.rows j)) (range_with_len 0 n) k 0 (omega (arith, h, length-range_with_len 0 n)) (and_parts (ltb 0 (length s.rows)) _ whole).1 in
      subst (λ (j : ℕ). is_some (given_at s.rows j) ≡ true) (get_or-range_with_len 0 n k 0 h ∙ omega arith) at in
      let left : (k : ℕ) → k < n → get_or t.cells k no_cell ≡ get_or (cells_of s) k no_cell = λ k h.
      filled.filled k (omega (arith, h, fits, long)) ∙ some_same (given_at s.rows k) _ _ (given k h) ∙ sym (get_or-map-range_with_len f 0 n k k no_cell h (omega arith)) in
      let right : (k : ℕ) → n ≤ k → k < length t.cells → get_or t.cells k no_cell ≡ get_or old_cells k no_cell = λ k h l.
      filled.filled k l ∙ ap (λ (o : Option Cell). unwrap_or o (get_or old_cells k no_cell)) (given_past (unwrap_or s.heading.inputs 0) (length s.names) s.rows k sound.rows h) in (
        omega (arith, size, fits),
        ext_get_or no_cell t.cells (cells_of s ++ drop (length (cells_of s)) old_cells) (long ∙ sym (length-append (cells_of s) (drop (length (cells_of s)) old_cells) ∙ omega (arith, size, fits, length-drop (length (cells_of s)) old_cells)))
            (λ k h. ⊎_elim
            (λ l. left k l ∙ sym (get_or_append_left (cells_of s) (drop (length (cells_of s)) old_cells) no_cell k (omega (arith, l, size))))
            (λ l. right k l h ∙ sym (get_or-append_right (cells_of s) (drop (length (cells_of s)) old_cells) (length (cells_of s)) k no_cell refl (omega (arith, l, size)) ∙ get_or-drop (length (cells_of s)) old_cells (k - length (cells_of s)) no_cell ∙ ap (λ (j : ℕ). get_or old_cells j no_cell) (omega (arith, l, size))))
            (cases_lt k n)),
      )

-- a text whose lines are all taken says what is concluded from them
read_of : (text : List ℕ) (entries room : ℕ) (s : Seen) → 256 ≤ entries → length text ≤ 16384 → take_lines text 1 nothing_seen (lines text) ≡ Ok s → reading text entries room ≡ conclusion text room s
read_of text entries room s h l taken =
    cond-false (ltb entries 256) (Err (refused WorkTooShort 0)) _ (le-ltb entries 256 h)
    ∙ cond-false (ltb 16384 (length text)) (Err (refused TextTooLong 0)) _ (le-ltb 16384 (length text) l) ∙ ap (concluded text room) taken

-- an accepted text has room for its cells
room_for : (text : List ℕ) (room : ℕ) (s : Seen) (x : Reading) → mismatch text s ≡ false → conclusion text room s ≡ Ok x → cell_count s ≤ room
room_for text room s x none e =
    ⊎_elim
    (λ (short : room < cell_count s). absurd (let r : ◌≡◌ {A = Result Reading Refused} (Err (refused WorkTooShort 0)) (Ok x) = sym (cond-true (ltb room (cell_count s)) (Err (refused WorkTooShort 0)) _ (lt-ltb room (cell_count s) short)) ∙ sym (cond-false (mismatch text s) (Err (refused CountMismatch 0)) _ none) ∙ e in let z : ◌≡◌ {A = ℕ} 0 1 = cc in omega arith))
    (λ fits. fits)
    (cases_lt room (cell_count s))

held_width : {text : List ℕ} {s : Seen} → Sound text s → unwrap_or s.heading.inputs 0 ≤ 6
held_width {s = s} sound = go s.heading.inputs sound.inputs
  where
    go : (o : Option ℕ) → WidthUpto 6 o → unwrap_or o 0 ≤ 6
    go None w = omega arith
    go (Some n) w = w.1

-- what the reader answers, from what it holds
pub read_is : (text : List ℕ) (old_cells : List Cell) (old_names : List Part) (p : Progress) (names : List Part) (t : Table) (s : Seen) → Sound text s → Holds old_cells old_names p names t s → take_lines text 1 nothing_seen (lines text) ≡ Ok s → 256 ≤ length old_names → length text ≤ 16384 → length t.given ≡ 16384 → length t.cells ≡ length old_cells → (r : Result Shape Refused) → r ≡ shape_held text p names (length t.cells) t.given → Read text old_cells old_names r t.cells names
read_is text old_cells old_names p names t s sound holds taken entries short long same r is =
    go (conclusion text (length old_cells) s) refl
  where
    few : cell_count s ≤ 16384
    few = cells_few (length s.names) (unwrap_or s.heading.inputs 0) sound.few_names (held_width sound)

    reads : reading text (length old_names) (length old_cells) ≡ conclusion text (length old_cells) s
    reads = read_of text (length old_names) (length old_cells) s entries short taken

    answer : r ≡ only_shape (conclusion text (length old_cells) s)
    answer = is ∙ concluded_is text old_cells old_names p names t s sound holds long few ∙ ap (λ (n : ℕ). only_shape (conclusion text n s)) same

    accepts : (x : Reading) → conclusion text (length old_cells) s ≡ Ok x → Read text old_cells old_names (Ok x.shape) t.cells names
    accepts x e =
        let acc = accepted text (length old_names) (length old_cells) x (reads ∙ e) in
        let all_lines : acc.all_lines ≡ s = ok_same acc.all_lines s (sym acc.taken ∙ taken) in
        let matched : mismatch text s ≡ false = subst (λ (u : Seen). mismatch text u ≡ false) all_lines acc.matched in
        let clear : s.clash ≡ None = subst (λ (u : Seen). u.clash ≡ None) all_lines acc.clear in
        let whole : complete s ≡ true = subst (λ (u : Seen). complete u ≡ true) all_lines acc.whole in
        let this : reading_of text s ≡ x = subst (λ (u : Seen). reading_of text u ≡ x) all_lines acc.is in
        let fits = room_for text (length old_cells) s x matched e in
        let filled = (stands text old_cells old_names p names t s sound holds (omega (arith, fits, same))).1 clear in
        let law = lawful text (length old_names) (length old_cells) x (reads ∙ e) in
        (x, reads ∙ e, refl, subst (λ (y : Reading). FirstEntries y.cells old_cells t.cells) this (cells_stand text old_cells old_names p names t s sound holds whole filled same fits), subst (λ (y : Reading). FirstEntries y.names old_names names) this holds.names_stand, law.0, law.1)

    go : (c : Result Reading Refused) → conclusion text (length old_cells) s ≡ c → Read text old_cells old_names r t.cells names
    go (Ok x) e = subst (λ (y : Result Shape Refused). Read text old_cells old_names y t.cells names) (sym (answer ∙ ap only_shape e)) (accepts x e)
    go (Err d) e = subst (λ (y : Result Shape Refused). Read text old_cells old_names y t.cells names) (sym (answer ∙ ap only_shape e)) (reads ∙ e)
