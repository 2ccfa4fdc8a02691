-- What a text says as a whole, or why and at which line it is refused.
use Rattle.std.specs.Prelude.{ℕ, ◌+◌, ◌*◌, ◌^◌, Bool, false, if◌then◌else◌, not, ◌&&◌, ◌||◌, List, [], ◌∷◌, ◌++◌, map, length, is_some, Some, None, Ok, Err, Option, Result, ◌==◌, nat_le, nat_lt}
use Rattle.std.specs.Option.{unwrap_or}
use Rattle.std.specs.List.{range_with_len}
use Rattle.machine.specs.Lists.{all}
use Rattle.machine.specs.declared.refusal.Refusal.{Refusal}
use Rattle.machine.specs.declared.refusal.Refusal.TheVariants.{TextTooLong, BadLine, BadName, RowsDisagree, CellNotGiven, CountMismatch, WorkTooShort}
use Rattle.devices.specs.Cells.{no_cell}
use Rattle.devices.specs.declared.cell.Cell.{Cell}
use Rattle.kiss2.specs.Texts.{bytes_of, lines, words}
use Rattle.kiss2.specs.Lines.{Line, blank, directive, end, row, line_of}
use Rattle.kiss2.specs.Headings.{nothing_said, take_directive, with_end}
use Rattle.kiss2.specs.Rows.{Transition, fits_rows, given_at, named, number_of, output_word, row_refusal}
use Rattle.kiss2.specs.declared.heading.Heading.{Heading}
use Rattle.kiss2.specs.declared.part.Part.{Part}
use Rattle.kiss2.specs.declared.refused.Refused.{Refused}
use Rattle.kiss2.specs.declared.shape.Shape.{Shape}

-- what some lines have said: the directives, the states by number, the rows, and the line of the first row that contradicts one before it
pub record Seen : Type 0 where
  pub heading : Heading
  pub names : List Part
  pub rows : List Transition
  pub clash : Option ℕ

-- no line seen yet
abbrev pub nothing_seen : Seen
nothing_seen = record { heading = nothing_said; names = []; rows = []; clash = None }

-- a refusal at a line
abbrev pub refused : Refusal → ℕ → Refused
refused r n = record { refusal = r; line = n }

-- the first that there is
abbrev pub or_else : Option ℕ → Option ℕ → Option ℕ
or_else None y = y
or_else (Some x) y = Some x

-- some lines with another heading
abbrev pub with_heading : Seen → Heading → Seen
with_heading s h = record { heading = h; names = s.names; rows = s.rows; clash = s.clash }

-- a row of these words, with its states numbered
abbrev pub transition : List ℕ → List Part → Part → Part → Part → Part → Transition
transition text names a b c d = record {
  input = bytes_of text a;
  current = number_of text names (bytes_of text b);
  next = number_of text (named text names b) (bytes_of text c);
  output = output_word (bytes_of text d);
}

-- the states named once a row with current state b and next state c is read: current before next
abbrev pub names_with : List ℕ → List Part → Part → Part → List Part
names_with text names b c = named text (named text names b) c

-- some lines and a row at line n
abbrev pub with_row : ℕ → Seen → List Part → Transition → Seen
with_row n s names t = record { heading = s.heading; names = names; rows = s.rows ++ t ∷ []; clash = or_else s.clash (if fits_rows s.rows t then None else Some n) }

-- goes on where there is no refusal
abbrev pub unless : Option Refusal → Result Seen Refusal → Result Seen Refusal
unless None x = x
unless (Some r) x = Err r

-- a row of these words at line n
abbrev pub take_row : List ℕ → ℕ → Seen → Part → Part → Part → Part → Result Seen Refusal
take_row text n s a b c d =
    unless (row_refusal s.heading (bytes_of text a) (bytes_of text b) (bytes_of text c) (bytes_of text d))
    (if nat_le (length (names_with text s.names b c)) 256 then Ok (with_row n s (names_with text s.names b c) (transition text s.names a b c d)) else Err BadName)

-- the directive's heading in the place of the old one
abbrev pub headed : Seen → Result Heading Refusal → Result Seen Refusal
headed s (Ok h) = Ok (with_heading s h)
headed s (Err r) = Err r

-- a line at its number: only blank lines follow the end
abbrev pub take_line : List ℕ → ℕ → Seen → Line → Result Seen Refusal
take_line text n s blank = Ok s
take_line text n s (directive key w) = if s.heading.ended then Err BadLine else headed s (take_directive (nat_lt 0 (length s.rows)) s.heading key w (bytes_of text w))
take_line text n s end = if s.heading.ended then Err BadLine else Ok (with_heading s (with_end s.heading))
take_line text n s (row a b c d) = if s.heading.ended then Err BadLine else take_row text n s a b c d

-- a line, if it says something
abbrev pub take_said : List ℕ → ℕ → Seen → Result Line Refusal → Result Seen Refusal
take_said text n s (Ok l) = take_line text n s l
take_said text n s (Err r) = Err r

-- goes on behind line n, where it is not refused
abbrev pub on_from : Result Seen Refusal → ℕ → (Seen → Result Seen Refused) → Result Seen Refused
on_from (Ok s) n f = f s
on_from (Err r) n f = Err (refused r n)

-- the lines from number n on, one after another, up to the first that is refused
abbrev pub take_lines : List ℕ → ℕ → Seen → List Part → Result Seen Refused
take_lines text n s [] = Ok s
take_lines text n s (l ∷ ls) = on_from (take_said text n s (line_of text (words text l))) n (λ s'. take_lines text (n + 1) s' ls)

-- a stated count that is not the one found
abbrev pub miscounted : Option ℕ → ℕ → Bool
miscounted None n = false
miscounted (Some m) n = not (m == n)

-- the number of the reset state: without a directive the first
abbrev pub reset_number : List ℕ → Seen → Option Part → ℕ
reset_number text s None = 0
reset_number text s (Some p) = number_of text s.names (bytes_of text p)

-- whether a reset is named that is no state
abbrev pub reset_missing : List ℕ → Seen → Option Part → Bool
reset_missing text s None = false
reset_missing text s (Some p) = not (nat_lt (number_of text s.names (bytes_of text p)) (length s.names))

-- whether what the directives say of rows, states and reset is not what the rows have
abbrev pub mismatch : List ℕ → Seen → Bool
mismatch text s = miscounted s.heading.rows (length s.rows) || (miscounted s.heading.states (length s.names) || reset_missing text s s.heading.reset)

-- how many cells the table has: one for each state and letter
abbrev pub cell_count : Seen → ℕ
cell_count s = length s.names * 2 ^ unwrap_or s.heading.inputs 0

-- whether there are rows, and they give every cell
abbrev pub complete : Seen → Bool
complete s = nat_lt 0 (length s.rows) && all (λ k. is_some (given_at s.rows k)) (range_with_len 0 (cell_count s))

-- the cells of the table in their order
abbrev pub cells_of : Seen → List Cell
cells_of s = map (λ k. unwrap_or (given_at s.rows k) no_cell) (range_with_len 0 (cell_count s))

-- what an accepted text says: its shape, the names of its states by number, and its cells
pub record Reading : Type 0 where
  pub shape : Shape
  pub names : List Part
  pub cells : List Cell

-- what all lines say together
abbrev pub reading_of : List ℕ → Seen → Reading
reading_of text s = record {
  shape = record { inputs = unwrap_or s.heading.inputs 0; outputs = unwrap_or s.heading.outputs 0; rows = length s.rows; states = length s.names; reset = reset_number text s s.heading.reset };
  names = s.names;
  cells = cells_of s;
}

-- the refusal of the first row that contradicts one before it, if there is one
abbrev pub unless_clash : Option ℕ → Result Reading Refused → Result Reading Refused
unless_clash None x = x
unless_clash (Some n) x = Err (refused RowsDisagree n)

-- what all lines say together, over a slice of so many cells, or why they are refused: the checks in their order
abbrev pub conclusion : List ℕ → ℕ → Seen → Result Reading Refused
conclusion text room s =
    if mismatch text s then Err (refused CountMismatch 0) else
    if nat_lt room (cell_count s) then Err (refused WorkTooShort 0) else
    unless_clash s.clash (if complete s then Ok (reading_of text s) else Err (refused CellNotGiven 0))

-- the conclusion from lines that were not refused
abbrev pub concluded : List ℕ → ℕ → Result Seen Refused → Result Reading Refused
concluded text room (Ok s) = conclusion text room s
concluded text room (Err e) = Err e

-- what a text says, over slices of so many name entries and cells, or why it is refused
abbrev pub reading : List ℕ → ℕ → ℕ → Result Reading Refused
reading text entries room =
    if nat_lt entries 256 then Err (refused WorkTooShort 0) else
    if nat_lt 16384 (length text) then Err (refused TextTooLong 0) else
    concluded text room (take_lines text 1 nothing_seen (lines text))
