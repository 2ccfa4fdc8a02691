-- Taking a table in: which tables are refused, and what the device means afterwards.
use Rattle.std.specs.Prelude.{◌≡◌, ℕ, ◌*◌, ◌^◌, Bool, if◌then◌else◌, not, ◌||◌, List, length, take, Some, None, Ok, Err, Option, Result, nat_lt}
use Rattle.machine.specs.declared.refusal.Refusal.{Refusal}
use Rattle.machine.specs.declared.refusal.Refusal.TheVariants.{OutsideDeviceRules, WorkTooShort, BadAlteredCell}
use Rattle.devices.specs.Cells.{cells_inside, altered_inside}
use Rattle.devices.specs.Tables.{table_machine, machine_of}
use Rattle.devices.specs.declared.cell.Cell.{Cell}
use Rattle.devices.specs.declared.cell.AlteredCell.{AlteredCell}
use Rattle.devices.specs.declared.table.Table.{Table}

-- a count outside its range, or a reset that is no state
abbrev pub outside_rules : ℕ → ℕ → ℕ → Bool
outside_rules pins states reset = nat_lt pins 1 || nat_lt 6 pins || nat_lt states 1 || nat_lt 256 states || not (nat_lt reset states)

-- why a table is refused, if it is: the checks in their order
abbrev pub table_refusal : ℕ → ℕ → ℕ → List Cell → List AlteredCell → Option Refusal
table_refusal pins states reset cells altered =
    if outside_rules pins states reset then Some OutsideDeviceRules
    else (if nat_lt (length cells) (states * 2 ^ pins) then Some WorkTooShort
    else (if not (cells_inside states (take (states * 2 ^ pins) cells)) then Some OutsideDeviceRules
    else (if nat_lt 1024 (length altered) || not (altered_inside (2 ^ pins) states altered) then Some BadAlteredCell else None)))

-- a table made: it is what the device means, or it is refused
abbrev pub Made : ℕ → ℕ → ℕ → List Cell → List AlteredCell → Result Table Refusal → Type 0
Made pins states reset cells altered (Ok table) = (table_refusal pins states reset cells altered ≡ None) × (machine_of table ≡ table_machine (2 ^ pins) states reset cells altered)
Made pins states reset cells altered (Err r) = table_refusal pins states reset cells altered ≡ Some r

-- a table taken in: it is what the device means afterwards, or it is refused and the device is as it was
abbrev pub TakenIn : ℕ → ℕ → ℕ → List Cell → List AlteredCell → Table → Table → Result Unit Refusal → Type 0
TakenIn pins states reset cells altered before after (Ok _) = (table_refusal pins states reset cells altered ≡ None) × (machine_of after ≡ table_machine (2 ^ pins) states reset cells altered)
TakenIn pins states reset cells altered before after (Err r) = (table_refusal pins states reset cells altered ≡ Some r) × (after ≡ before)
