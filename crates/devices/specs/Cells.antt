-- The cells of a table and of its faults, and when their states and letters are in range.
use Rattle.std.specs.Prelude.{ℕ, ◌+◌, ◌-◌, ◌*◌, Bool, if◌then◌else◌, ◌&&◌, List, ◌==◌, nat_lt, slice_index_or}
use Rattle.machine.specs.Lists.{all}
use Rattle.devices.specs.declared.cell.Cell.{Cell}
use Rattle.devices.specs.declared.cell.AlteredCell.{AlteredCell}

-- the cell leads to a state
abbrev pub cell_inside : ℕ → Cell → Bool
cell_inside states c = nat_lt c.next states

-- each cell leads to a state
abbrev pub cells_inside : ℕ → List Cell → Bool
cells_inside states cells = all (cell_inside states) cells

-- the altered cell stands at a state and a letter, and leads to a state
abbrev pub altered_cell_inside : ℕ → ℕ → AlteredCell → Bool
altered_cell_inside letters states x = nat_lt x.state states && nat_lt x.letter letters && nat_lt x.next states

-- each altered cell does so
abbrev pub altered_inside : ℕ → ℕ → List AlteredCell → Bool
altered_inside letters states altered = all (altered_cell_inside letters states) altered

-- what is read past the end of a list of cells
abbrev pub no_cell : Cell
no_cell = record { next = 0; output = 0 }

-- what is read past the end of a list of altered cells
abbrev pub no_altered_cell : AlteredCell
no_altered_cell = record { state = 0; letter = 0; next = 0; output = 0 }

-- the good cell of state q and letter l
abbrev pub good_cell : ℕ → List Cell → ℕ → ℕ → Cell
good_cell letters cells q l = slice_index_or cells (q * letters + l) no_cell

-- the cell of state q and letter l in the fault of the altered cell x
abbrev pub faulty_cell : AlteredCell → Cell → ℕ → ℕ → Cell
faulty_cell x good q l = if x.state == q && x.letter == l then record { next = x.next; output = x.output } else good

-- the cell of member a at state q and letter l: member 0 is the good table, member k has the altered cell k - 1
abbrev pub cell_of : ℕ → List Cell → List AlteredCell → ℕ → ℕ → ℕ → Cell
cell_of letters cells altered a q l = if a == 0 then good_cell letters cells q l else faulty_cell (slice_index_or altered (a - 1) no_altered_cell) (good_cell letters cells q l) q l
