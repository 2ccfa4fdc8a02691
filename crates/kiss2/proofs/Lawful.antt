-- Every text that is accepted is lawful.
use Rattle.std.proofs.Common.{◌≡◌, ℕ, suc, ◌+◌, ◌*◌, ◌/◌, ◌%◌, ◌^◌, ◌<◌, ◌≤◌, Bool, true, false, cond, ltb, List, [], ◌∷◌, length, get_or, is_some, Some, None, Ok, Err, Option, Result, unwrap_or, sym, refl, ap, ◌∙◌, subst, zero-add, arith}
use lib.Arith.{digits_lt}
use Rattle.std.specs.List.{range_with_len, ContainsAt as Has}
use Rattle.std.proofs.lemmas.Nat.{mod_low, shr_high}
use Rattle.std.proofs.lemmas.List.FromFn.{get_or-range_with_len, get_or-map-range_with_len, length-range_with_len, length-map-range_with_len}
use Rattle.std.proofs.ByRecursion.{all-has}
use Rattle.std.proofs.lemmas.Bool.{and_from, and_parts, lt-ltb, ltb-true, not-false, or_parts}
use Rattle.machine.specs.Lists.{all}
use Rattle.machine.specs.declared.refusal.Refusal.TheVariants.{CellNotGiven, CountMismatch, RowsDisagree, TextTooLong, WorkTooShort}
use Rattle.machine.proofs.All.{all_at}
use Rattle.devices.specs.Cells.{cell_inside, no_cell}
use Rattle.devices.specs.declared.cell.Cell.{Cell}
use Rattle.kiss2.specs.Laws.{InRange, Lawful, Matched, Numbered, RowOf, binary, entry_at, matches}
use Rattle.kiss2.specs.Readings.{Reading, Seen, cell_count, cells_of, complete, concluded, miscounted, mismatch, nothing_seen, reading, reading_of, refused, reset_missing, reset_number, take_lines, unless_clash}
use Rattle.kiss2.specs.Rows.{Transition, cell_given, given_at, is_bit, number_of, output_word}
use Rattle.kiss2.specs.Seeing.{RowSound, Sound, WidthUpto}
use Rattle.kiss2.specs.Texts.{bytes_of, lines}
use Rattle.kiss2.specs.declared.part.Part.{Part}
use Rattle.kiss2.specs.declared.refused.Refused.{Refused}
use Rattle.kiss2.proofs.Givens.{Gives, given_by}
use Rattle.kiss2.proofs.Places.{letter_place, place_letter}
use Rattle.kiss2.proofs.Soundness.{no_value, ok_same}
use Rattle.kiss2.proofs.Telling.{Came, Told, lines_agree, lines_came, lines_sound, lines_told}

-- why a text is accepted
pub record Accepted (text : List ℕ) (x : Reading) : Type 0 where
  pub all_lines : Seen
  pub taken : take_lines text 1 nothing_seen (lines text) ≡ Ok all_lines
  pub matched : mismatch text all_lines ≡ false
  pub clear : all_lines.clash ≡ None
  pub whole : complete all_lines ≡ true
  pub is : reading_of text all_lines ≡ x

-- the tests that an accepted text has passed
pub accepted : (text : List ℕ) (entries room : ℕ) (x : Reading) → reading text entries room ≡ Ok x → Accepted text x
accepted text entries room x e = outer (ltb entries 256) (ltb 16384 (length text)) (take_lines text 1 nothing_seen (lines text)) refl e
  where
    inner : (s : Seen) (t u : Bool) (o : Option ℕ) (v : Bool) → take_lines text 1 nothing_seen (lines text) ≡ Ok s → mismatch text s ≡ t → s.clash ≡ o → complete s ≡ v → cond t (Err (refused CountMismatch 0)) (cond u (Err (refused WorkTooShort 0)) (unless_clash o (cond v (Ok (reading_of text s)) (Err (refused CellNotGiven 0))))) ≡ Ok x → Accepted text x
    inner s true u o v f g h i k = no_value (refused CountMismatch 0) x k
    inner s false true o v f g h i k = no_value (refused WorkTooShort 0) x k
    inner s false false (Some n) v f g h i k = no_value (refused RowsDisagree n) x k
    inner s false false None false f g h i k = no_value (refused CellNotGiven 0) x k
    inner s false false None true f g h i k = record { all_lines = s; taken = f; matched = g; clear = h; whole = i; is = ok_same (reading_of text s) x k }

    outer : (t u : Bool) (r : Result Seen Refused) → take_lines text 1 nothing_seen (lines text) ≡ r → cond t (Err (refused WorkTooShort 0)) (cond u (Err (refused TextTooLong 0)) (concluded text room r)) ≡ Ok x → Accepted text x
    outer true u r f k = no_value (refused WorkTooShort 0) x k
    outer false true r f k = no_value (refused TextTooLong 0) x k
    outer false false (Err why) f k = no_value why x k
    outer false false (Ok s) f k = inner s (mismatch text s) (ltb room (cell_count s)) s.clash (complete s) f refl refl refl k

-- a value that there is
some_value : {X : Type 0} (o : Option X) → is_some o ≡ true → (x : X) × (o ≡ Some x)
some_value None e = absurd (let z : ◌≡◌ {A = ℕ} 0 1 = cc in omega arith)
some_value (Some x) e = (x, refl)

-- a width that is given is in range
width_range : (most : ℕ) (o : Option ℕ) → is_some o ≡ true → WidthUpto most o → (1 ≤ unwrap_or o 0) × (unwrap_or o 0 ≤ most)
width_range most None e h = absurd (let z : ◌≡◌ {A = ℕ} 0 1 = cc in omega arith)
width_range most (Some n) e h = h

-- what holds of each cell holds of all
all_cells_from : (test : Cell → Bool) (cells : List Cell) → ((k : ℕ) → k < length cells → test (get_or cells k no_cell) ≡ true) → all test cells ≡ true
all_cells_from test [] h = refl
all_cells_from test (c ∷ cells) h = and_from (test c) (all test cells) (h 0 (omega arith)) (all_cells_from test cells (λ k low. h (suc k) (omega arith)))

-- the row and the column of a place
same_place : (n q p l k : ℕ) → l < 2 ^ n → k < 2 ^ n → q * 2 ^ n + l ≡ p * 2 ^ n + k → (p ≡ q) × (k ≡ l)
same_place n q p l k low high e = (
  sym (shr_high p n k high) ∙ ap (λ (m : ℕ). m / 2 ^ n) (sym e) ∙ shr_high q n l low,
  sym (mod_low p n k high) ∙ ap (λ (m : ℕ). m % 2 ^ n) (sym e) ∙ mod_low q n l low,
)

-- the width of the inputs
abbrev width : Seen → ℕ
width s = unwrap_or s.heading.inputs 0

-- the cell of a place
cell_at : (s : Seen) (k : ℕ) → k < cell_count s → get_or (cells_of s) k no_cell ≡ unwrap_or (given_at s.rows k) no_cell
cell_at s k low = get_or-map-range_with_len (λ j. unwrap_or (given_at s.rows j) no_cell) 0 (cell_count s) k k no_cell low (omega arith)

-- the reset state is a state where there are some
reset_found : (text : List ℕ) (s : Seen) (o : Option Part) → 0 < length s.names → reset_missing text s o ≡ false → reset_number text s o < length s.names
reset_found text s None some e = some
reset_found text s (Some p) some e = ltb-true _ _ (not-false (ltb (number_of text s.names (bytes_of text p)) (length s.names)) e)

module _ (text : List ℕ) (s : Seen) (taken : take_lines text 1 nothing_seen (lines text) ≡ Ok s) (clear : s.clash ≡ None) (whole : complete s ≡ true) where
  -- there is a row
  some_row : 0 < length s.rows
  some_row = ltb-true 0 (length s.rows) (and_parts _ _ whole).0

  -- each row is sound
  row_sound : (t : Transition) → Has s.rows t → RowSound (width s) (length s.names) t
  row_sound t has = all-has (RowSound (width s) (length s.names)) s.rows t (lines_sound text s taken).rows has

  -- so there is a state
  some_state : 0 < length s.names
  some_state = go s.rows refl some_row
    where
      go : (ts : List Transition) → s.rows ≡ ts → 0 < length ts → 0 < length s.names
      go [] e h = absurd (omega arith)
      go (t ∷ ts) e h = omega (arith, (row_sound t (0, omega (arith, some_row), λ d. ap (λ (us : List Transition). get_or us 0 d) e)).current_inside)

  -- each place is given by some row, and has its cell
  place_given : (k : ℕ) → k < cell_count s → (t : Transition) × Has s.rows t × Gives t k × (get_or (cells_of s) k no_cell ≡ cell_given t)
  place_given k low = go (some_value (given_at s.rows k) here)
    where
      number : k ≡ get_or (range_with_len 0 (cell_count s)) k 0
      number = sym (zero-add k) ∙ sym (get_or-range_with_len 0 (cell_count s) k 0 low)

      here : is_some (given_at s.rows k) ≡ true
      here = ap (λ (j : ℕ). is_some (given_at s.rows j)) number ∙ all_at (λ j. is_some (given_at s.rows j)) (range_with_len 0 (cell_count s)) k 0 (omega (arith, length-range_with_len 0 (cell_count s))) (and_parts (ltb 0 (length s.rows)) _ whole).1

      go : (x : Cell) × (given_at s.rows k ≡ Some x) → (t : Transition) × Has s.rows t × Gives t k × (get_or (cells_of s) k no_cell ≡ cell_given t)
      go x =
          let y = given_by s.rows k x.0 x.1 in
          (y.0, y.1, y.2, cell_at s k low ∙ ap (λ (o : Option Cell). unwrap_or o no_cell) x.1 ∙ sym y.3)

  -- a row gives the place of each letter that its input matches
  letter_given : (t : Transition) → Has s.rows t → all is_bit t.input ≡ true → (l : ℕ) → l < 2 ^ width s → matches t.input (binary (width s) l) ≡ true → Gives t (t.current * 2 ^ width s + l)
  letter_given t has bits l = subst (λ (n : ℕ). l < 2 ^ n → matches t.input (binary n l) ≡ true → Gives t (t.current * 2 ^ n + l)) (row_sound t has).wide (letter_place t.input t.current l bits)

  -- and no other
  given_letter : (t : Transition) → Has s.rows t → all is_bit t.input ≡ true → (k : ℕ) → Gives t k → (l : ℕ) × (l < 2 ^ width s) × (k ≡ t.current * 2 ^ width s + l) × (matches t.input (binary (width s) l) ≡ true)
  given_letter t has bits k gives = subst (λ (n : ℕ). (l : ℕ) × (l < 2 ^ n) × (k ≡ t.current * 2 ^ n + l) × (matches t.input (binary n l) ≡ true)) (row_sound t has).wide (place_letter t.input t.current k bits gives)

  -- what all lines say together is lawful
  lawful_reading : Lawful text (reading_of text s)
  lawful_reading = record {
    rows_agree = λ a b c d from. agree a b c d (lines_told text s taken a b c d from);
    cells_given = given;
    numbers_name = λ v w q p h k. (λ e. sym h.1 ∙ ap (λ (n : ℕ). bytes_of text (entry_at s.names n)) e ∙ k.1, λ e. (lines_sound text s taken).names_apart q p h.0 k.0 (h.1 ∙ e ∙ sym k.1));
  }
    where
      agree : (a b c d : Part) → Told text a b c d s → (q p : ℕ) × Numbered text (reading_of text s) b q × Numbered text (reading_of text s) c p × ((l : ℕ) → Matched text (reading_of text s) a l → get_or (cells_of s) (q * 2 ^ width s + l) no_cell ≡ record { next = p; output = output_word (bytes_of text d) })
      agree a b c d x = (t.current, t.next, x.says.current, x.says.next, at)
        where
          t : Transition
          t = x.it

          at : (l : ℕ) → Matched text (reading_of text s) a l → get_or (cells_of s) (t.current * 2 ^ width s + l) no_cell ≡ record { next = t.next; output = output_word (bytes_of text d) }
          at l m =
              let gives = letter_given t x.among x.says.digits l m.0 (ap (λ (ds : List ℕ). matches ds (binary (width s) l)) x.says.input ∙ m.1) in
              cell_at s (t.current * 2 ^ width s + l) (digits_lt x.says.current.0 m.0)
              ∙ ap (λ (o : Option Cell). unwrap_or o no_cell) (lines_agree text s taken clear t x.among (t.current * 2 ^ width s + l) gives)
              ∙ ap (λ (n : ℕ). record { next = t.next; output = n }) x.says.output

      given : (q l : ℕ) → q < length s.names → l < 2 ^ width s → (a : Part) × ((b : Part) × ((c : Part) × ((d : Part) × RowOf text a b c d × Numbered text (reading_of text s) b q × Matched text (reading_of text s) a l)))
      given q l high low =
          let x = place_given (q * 2 ^ width s + l) (digits_lt high low) in
          let t = x.0 in
          let y = all-has (Came text s.names) s.rows t (lines_came text s taken) x.1 in
          let z = given_letter t x.1 y.says.digits (q * 2 ^ width s + l) x.2 in
          let same = same_place (width s) q t.current l z.0 low z.1 z.2 in
          let number : Numbered text (reading_of text s) y.b q = subst (λ (n : ℕ). Numbered text (reading_of text s) y.b n) same.0 y.says.current in
          let letter = ap (λ (ds : List ℕ). matches ds (binary (width s) l)) (sym y.says.input) ∙ ap (λ (n : ℕ). matches t.input (binary (width s) n)) (sym same.1) ∙ z.3 in
          (y.a, (y.b, (y.c, (y.d, y.from, number, (low, letter)))))

  -- and in range
  in_range_reading : mismatch text s ≡ false → InRange text (reading_of text s)
  in_range_reading match = record {
    some_input = inputs.0;
    few_inputs = inputs.1;
    some_output = outputs.0;
    few_outputs = outputs.1;
    some_state = some_state;
    few_states = sound.few_names;
    reset_inside = reset_found text s s.heading.reset some_state (or_parts (miscounted s.heading.states (length s.names)) _ (or_parts (miscounted s.heading.rows (length s.rows)) _ match).1).1;
    all_names = refl;
    names_inside = sound.names_inside;
    short_names = sound.short_names;
    all_cells = size;
    next_inside = all_cells_from (cell_inside (length s.names)) (cells_of s) inside;
  }
    where
      sound : Sound text s
      sound = lines_sound text s taken

      inputs : (1 ≤ width s) × (width s ≤ 6)
      inputs = width_range 6 s.heading.inputs (sound.widths_known some_row).0 sound.inputs

      outputs : (1 ≤ unwrap_or s.heading.outputs 0) × (unwrap_or s.heading.outputs 0 ≤ 32)
      outputs = width_range 32 s.heading.outputs (sound.widths_known some_row).1 sound.outputs

      size : length (cells_of s) ≡ cell_count s
      size = length-map-range_with_len (λ j. unwrap_or (given_at s.rows j) no_cell) 0 (cell_count s)

      inside : (k : ℕ) → k < length (cells_of s) → cell_inside (length s.names) (get_or (cells_of s) k no_cell) ≡ true
      inside k low =
          let x = place_given k (omega (arith, size)) in
          ap (cell_inside (length s.names)) x.3 ∙ lt-ltb _ _ (row_sound x.0 x.1).next_inside

-- a text that is accepted is lawful, and its counts are in range
pub lawful : (text : List ℕ) (entries room : ℕ) (x : Reading) → reading text entries room ≡ Ok x → Lawful text x × InRange text x
lawful text entries room x e =
    let a = accepted text entries room x e in
    let s = a.all_lines in
    subst (λ (y : Reading). Lawful text y × InRange text y) a.is (lawful_reading text s a.taken a.clear a.whole, in_range_reading text s a.taken a.clear a.whole a.matched)
