-- What holds of every text that is accepted, whatever way it was read.
use Rattle.std.specs.Prelude.{◌≡◌, ℕ, zero, suc, ◌+◌, ◌*◌, ◌/◌, ◌%◌, ◌^◌, ◌<◌, ◌≤◌, Bool, true, ◌&&◌, ◌||◌, ◌⊎◌, ◌↔◌, List, [], ◌∷◌, length, Ok, ◌==◌, slice_index_or}
use Rattle.devices.specs.Cells.{cells_inside, no_cell}
use Rattle.kiss2.specs.Texts.{bytes_of, lines, part, words}
use Rattle.kiss2.specs.Lines.{line_of, row}
use Rattle.kiss2.specs.Readings.{Reading}
use Rattle.kiss2.specs.Rows.{output_word}
use Rattle.kiss2.specs.declared.part.Part.{Part}

-- the n binary digits of a number, the highest first
abbrev pub binary : ℕ → ℕ → List ℕ
binary zero l = []
binary (suc n) l = (48 + (l / 2 ^ n) % 2) ∷ binary n l

-- the digits match an input: each is the same, or the input has a dash there
abbrev pub matches : List ℕ → List ℕ → Bool
matches [] ds = true
matches (b ∷ s) [] = true
matches (b ∷ s) (d ∷ ds) = (b == 45 || b == d) && matches s ds

-- the part is one of these
abbrev pub Among : Part → List Part → Type 0
Among p [] = ⊥
Among p (q ∷ qs) = (p ≡ q) ⊎ Among p qs

-- some line of the text is a row of these four words
abbrev pub RowOf : List ℕ → Part → Part → Part → Part → Type 0
RowOf text a b c d = (l : Part) × Among l (lines text) × (line_of text (words text l) ≡ Ok (row a b c d))

-- the name entry of number q
abbrev pub entry_at : List Part → ℕ → Part
entry_at ps q = slice_index_or ps q (part 0 0)

-- the state that the word w names has number q
abbrev pub Numbered : List ℕ → Reading → Part → ℕ → Type 0
Numbered text x w q = (q < x.shape.states) × (bytes_of text (entry_at x.names q) ≡ bytes_of text w)

-- the letter l matches the input word a
abbrev pub Matched : List ℕ → Reading → Part → ℕ → Type 0
Matched text x a l = (l < 2 ^ x.shape.inputs) × (matches (bytes_of text a) (binary x.shape.inputs l) ≡ true)

pub record Lawful (text : List ℕ) (x : Reading) : Type 0 where
  -- every row agrees with the table at each cell that its input matches
  pub rows_agree : (a b c d : Part) → RowOf text a b c d → (q p : ℕ) × Numbered text x b q × Numbered text x c p × ((l : ℕ) → Matched text x a l → slice_index_or x.cells (q * 2 ^ x.shape.inputs + l) no_cell ≡ record { next = p; output = output_word (bytes_of text d) })
  -- every cell of the table is given by some row
  pub cells_given : (q l : ℕ) → q < x.shape.states → l < 2 ^ x.shape.inputs → (a : Part) × ((b : Part) × ((c : Part) × ((d : Part) × RowOf text a b c d × Numbered text x b q × Matched text x a l)))
  -- a number stands for one name, and a name for one number
  pub numbers_name : (v w : Part) (q p : ℕ) → Numbered text x v q → Numbered text x w p → (q ≡ p) ↔ (bytes_of text v ≡ bytes_of text w)

-- the part lies in the text
abbrev pub Inside : List ℕ → Part → Type 0
Inside text p = p.place + p.length ≤ length text

-- the counts of an accepted text are in range, and its cells and names are those of its states
pub record InRange (text : List ℕ) (x : Reading) : Type 0 where
  pub some_input : 1 ≤ x.shape.inputs
  pub few_inputs : x.shape.inputs ≤ 6
  pub some_output : 1 ≤ x.shape.outputs
  pub few_outputs : x.shape.outputs ≤ 32
  pub some_state : 1 ≤ x.shape.states
  pub few_states : x.shape.states ≤ 256
  pub reset_inside : x.shape.reset < x.shape.states
  pub all_names : length x.names ≡ x.shape.states
  pub names_inside : (q : ℕ) → q < x.shape.states → Inside text (entry_at x.names q)
  pub short_names : (q : ℕ) → q < x.shape.states → (entry_at x.names q).length ≤ 16
  pub all_cells : length x.cells ≡ x.shape.states * 2 ^ x.shape.inputs
  pub next_inside : cells_inside x.shape.states x.cells ≡ true
