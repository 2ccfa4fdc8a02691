-- What a table means.
use Rattle.std.specs.Prelude.{ℕ, ◌+◌, List, [], ◌∷◌, length}
use Rattle.machine.specs.Machines.{Machine}
use Rattle.devices.specs.Cells.{cell_of}
use Rattle.devices.specs.declared.cell.Cell.{Cell}
use Rattle.devices.specs.declared.cell.AlteredCell.{AlteredCell}
use Rattle.devices.specs.declared.table.Table.{Table}

-- the machines of a list of cells and of its altered cells, all with one reset
abbrev pub table_machine : ℕ → ℕ → ℕ → List Cell → List AlteredCell → Machine
table_machine letters states reset cells altered = record {
  members = length altered + 1;
  letters = letters;
  states = states;
  reset = λ a. reset;
  next = λ a q l. (cell_of letters cells altered a q l).next;
  output = λ a q l. (cell_of letters cells altered a q l).output;
}

-- the idle device: one member, one letter, one state, whose cell stays and has output 0
abbrev pub idle : Machine
idle = table_machine 1 1 0 (record { next = 0; output = 0 } ∷ []) []

-- what a table means
abbrev pub machine_of : Table → Machine
machine_of t = table_machine t.letters t.states t.reset t.cells.now t.altered.now
