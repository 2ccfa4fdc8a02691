-- The worked controller. Its states are named 00, 01, 11 and 10, with the numbers 0 to 3.
use Rattle.std.specs.Prelude.{ℕ, List, [], ◌∷◌}
use Rattle.devices.specs.Tables.{table_machine}
use Rattle.devices.specs.declared.cell.Cell.{Cell}
use Rattle.devices.specs.declared.cell.AlteredCell.{AlteredCell}
use Rattle.layers.specs.Layers.{observed}
use Rattle.machine.specs.Machines.{Machine}

abbrev cell : ℕ → ℕ → Cell
cell next output = record { next = next; output = output }

abbrev altered_cell : ℕ → ℕ → ℕ → ℕ → AlteredCell
altered_cell state letter next output = record { state = state; letter = letter; next = next; output = output }

-- two cells for each state: letter 0, letter 1
abbrev pub cells : List Cell
cells = cell 1 0 ∷ cell 0 1 ∷ cell 0 0 ∷ cell 2 1 ∷ cell 3 0 ∷ cell 2 0 ∷ cell 2 0 ∷ cell 0 0 ∷ []

-- fault 1 stays in 10 at letter 1; fault 2 changes nothing; fault 3 loses the output of 00 at letter 1
abbrev pub altered : List AlteredCell
altered = altered_cell 3 1 3 0 ∷ altered_cell 0 0 1 0 ∷ altered_cell 0 1 0 0 ∷ []

abbrev pub controller : Machine
controller = table_machine 2 4 0 cells altered

-- the controller with no output to be seen
abbrev pub unseen : Machine
unseen = observed 0 controller
