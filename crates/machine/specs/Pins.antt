-- How many input pins a device has.
use Rattle.std.specs.Prelude.{◌≡◌, ℕ, ◌<◌, ◌⊎◌, Ok, Err, Result}
use Rattle.machine.specs.declared.pins.Pins.{Pins}
use Rattle.machine.specs.declared.refusal.Refusal.{Refusal}
use Rattle.machine.specs.declared.refusal.Refusal.TheVariants.{OutsideDeviceRules}

-- 1 to 6 pins, or a refusal
abbrev pub PinsOf : ℕ → Result Pins Refusal → Type 0
PinsOf count (Ok pins) = (pins.count ≡ count) × (0 < count)
PinsOf count (Err refusal) = (refusal ≡ OutsideDeviceRules) × ((count ≡ 0) ⊎ (6 < count))
