-- Taking a gate list in: which are refused, and what the device means afterwards.
use Rattle.std.specs.Prelude.{◌≡◌, ℕ, ◌+◌, ◌^◌, Bool, if◌then◌else◌, not, ◌||◌, List, length, Some, None, Ok, Err, Option, Result, nat_lt}
use Rattle.machine.specs.declared.refusal.Refusal.{Refusal}
use Rattle.machine.specs.declared.refusal.Refusal.TheVariants.{OutsideDeviceRules}
use Rattle.gates.specs.Rules.{net_count, gates_ordered, name_nets}
use Rattle.gates.specs.GateLists.{gates_machine, machine_of}
use Rattle.gates.specs.declared.gate.Gate.{Gate}
use Rattle.gates.specs.declared.gates.Gates.{Gates}

-- not 1 to 6 pins, more than 8 flip-flops, not 1 to 32 outputs, or more than 512 nets
abbrev pub counts_outside : ℕ → List Gate → List ℕ → List ℕ → Bool
counts_outside pins gates loads outputs =
    nat_lt pins 1 || nat_lt 6 pins || nat_lt 8 (length loads) || nat_lt (length outputs) 1 || nat_lt 32 (length outputs) || nat_lt 512 (net_count pins gates loads)

-- a reset that is no state, gates that are not in order, or a load or an output that names no net
abbrev pub parts_outside : ℕ → ℕ → List Gate → List ℕ → List ℕ → Bool
parts_outside pins reset gates loads outputs =
    not (nat_lt reset (2 ^ length loads)) || not (gates_ordered (pins + length loads) gates) || not (name_nets (net_count pins gates loads) loads) || not (name_nets (net_count pins gates loads) outputs)

-- why a gate list is refused, if it is
abbrev pub gates_refusal : ℕ → ℕ → List Gate → List ℕ → List ℕ → Option Refusal
gates_refusal pins reset gates loads outputs =
    if counts_outside pins gates loads outputs || parts_outside pins reset gates loads outputs then Some OutsideDeviceRules else None

-- a device made: it is that of the gate list, or this is refused
abbrev pub Made : ℕ → ℕ → List Gate → List ℕ → List ℕ → Result Gates Refusal → Type 0
Made pins reset gates loads outputs (Ok device) = (gates_refusal pins reset gates loads outputs ≡ None) × (machine_of device ≡ gates_machine pins reset gates loads outputs)
Made pins reset gates loads outputs (Err r) = gates_refusal pins reset gates loads outputs ≡ Some r

-- a gate list taken in: it is what the device means afterwards, or it is refused and the device is as it was
abbrev pub TakenIn : ℕ → ℕ → List Gate → List ℕ → List ℕ → Gates → Gates → Result Unit Refusal → Type 0
TakenIn pins reset gates loads outputs before after (Ok _) = (gates_refusal pins reset gates loads outputs ≡ None) × (machine_of after ≡ gates_machine pins reset gates loads outputs)
TakenIn pins reset gates loads outputs before after (Err r) = (gates_refusal pins reset gates loads outputs ≡ Some r) × (after ≡ before)
