-- Giving cells of a table one after another.
use Rattle.std.specs.Prelude.{◌≡◌, ℕ, Bool, true, false, if◌then◌else◌, List, [], ◌∷◌, Some, None, Ok, Err, Option, Result, slice_index_or, slice_set}
use Rattle.devices.specs.Cells.{no_cell}
use Rattle.devices.specs.declared.cell.Cell.{Cell}
use Rattle.kiss2.specs.Rows.{same_cell}
use Rattle.kiss2.specs.declared.filling.Clash.{Clash}

-- cells, and which of them have been given
pub record Table : Type 0 where
  pub cells : List Cell
  pub given : List Bool

abbrev pub table : List Cell → List Bool → Table
table cells given = record { cells = cells; given = given }

-- the table with the cell c at place k; none where another was given before
abbrev pub put_at : Cell → ℕ → Table → Option Table
put_at c k t =
    if slice_index_or t.given k false
    then (if same_cell (slice_index_or t.cells k no_cell) c then Some t else None)
    else Some (table (slice_set t.cells k c) (slice_set t.given k true))

-- goes on from a table, where there is one
abbrev pub and_then : Option Table → (Table → Option Table) → Option Table
and_then None f = None
and_then (Some t) f = f t

-- the table with the cell c at each of these places
abbrev pub put_all : Cell → List ℕ → Table → Option Table
put_all c [] t = Some t
put_all c (k ∷ ks) t = and_then (put_at c k t) (put_all c ks)

-- the table is the one that there is; where there is none, the row clashes
abbrev pub Placed : Option Table → Result Unit Clash → Table → Type 0
Placed x (Ok _) t = x ≡ Some t
Placed x (Err _) t = x ≡ None
