-- What a replay answers.
use Rattle.std.specs.Prelude.{ℕ, Bool, ◌&&◌, List, Ok, Err, Option, Result, if◌then◌else◌, nat_lt}
use Rattle.machine.specs.Machines.{Machine}
use Rattle.machine.specs.Outputs.{first_difference}
use Rattle.machine.specs.Sequences.{legal}
use Rattle.machine.specs.declared.refusal.Refusal.{Refusal}
use Rattle.machine.specs.declared.refusal.Refusal.TheVariants.{NoSuchMember, BadSequence}

-- whether a and b are members of the device
abbrev pub are_members : Machine → ℕ → ℕ → Bool
are_members m a b = nat_lt a m.members && nat_lt b m.members

-- the first place at which the outputs of a and b along s differ, or a refusal: the checks in their order
abbrev pub replayed : Machine → ℕ → ℕ → List ℕ → Result (Option ℕ) Refusal
replayed m a b s = if are_members m a b then (if legal m.letters s then Ok (first_difference m a b s) else Err BadSequence) else Err NoSuchMember
