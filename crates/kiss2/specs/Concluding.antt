-- What a reader concludes from what it holds once all lines are read.
use Rattle.std.specs.Prelude.{◌≡◌, ℕ, ◌*◌, ◌^◌, Bool, if◌then◌else◌, ◌&&◌, ◌||◌, List, length, take, Some, None, Ok, Err, Option, Result, nat_lt}
use Rattle.std.specs.Option.{unwrap_or}
use Rattle.machine.specs.Lists.{all}
use Rattle.machine.specs.Slices.{FirstEntries}
use Rattle.machine.specs.declared.refusal.Refusal.TheVariants.{RowsDisagree, CellNotGiven, CountMismatch, WorkTooShort}
use Rattle.devices.specs.declared.cell.Cell.{Cell}
use Rattle.kiss2.specs.Laws.{InRange, Lawful}
use Rattle.kiss2.specs.Progressing.{Progress, reset_state}
use Rattle.kiss2.specs.Readings.{Reading, miscounted, reading, refused}
use Rattle.kiss2.specs.declared.part.Part.{Part}
use Rattle.kiss2.specs.declared.refused.Refused.{Refused}
use Rattle.kiss2.specs.declared.shape.Shape.{Shape}

-- goes on with the reset state, where there is one
abbrev pub with_reset : Option ℕ → (ℕ → Result Shape Refused) → Result Shape Refused
with_reset None f = Err (refused CountMismatch 0)
with_reset (Some q) f = f q

-- goes on where no row is at odds with an earlier one
abbrev pub without_clash : Option ℕ → Result Shape Refused → Result Shape Refused
without_clash None x = x
without_clash (Some n) x = Err (refused RowsDisagree n)

-- how many cells the table has
abbrev pub cells_held : Progress → ℕ
cells_held p = p.states * 2 ^ unwrap_or p.heading.inputs 0

-- the shape of the table, over a slice of so many cells, or a refusal: the checks in their order
abbrev pub shape_held : List ℕ → Progress → List Part → ℕ → List Bool → Result Shape Refused
shape_held text p names room given =
    if miscounted p.heading.rows p.rows || miscounted p.heading.states p.states then Err (refused CountMismatch 0) else
    with_reset (reset_state text (take p.states names) p.heading.reset) (λ q.
    if nat_lt room (cells_held p) then Err (refused WorkTooShort 0) else
    without_clash p.clash (
    if nat_lt 0 p.rows && all (λ b. b) (take (cells_held p) given)
    then Ok (record { inputs = unwrap_or p.heading.inputs 0; outputs = unwrap_or p.heading.outputs 0; rows = p.rows; states = p.states; reset = q })
    else Err (refused CellNotGiven 0)))

-- a text that is read: its shape is answered, its cells and names stand in the first entries of the slices, and the law of accepted texts holds; or it is refused with its line
abbrev pub Read : List ℕ → List Cell → List Part → Result Shape Refused → List Cell → List Part → Type 0
Read text cells names (Ok shape) cells' names' = (x : Reading) × (reading text (length names) (length cells) ≡ Ok x) × (x.shape ≡ shape) × FirstEntries x.cells cells cells' × FirstEntries x.names names names' × Lawful text x × InRange text x
Read text cells names (Err e) cells' names' = reading text (length names) (length cells) ≡ Err e
