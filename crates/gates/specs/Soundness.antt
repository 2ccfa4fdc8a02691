-- The ranges of a gate device, from its ghost fields.
use Rattle.std.proofs.Common.{subst, arith, pow_mono}
use Rattle.std.specs.Prelude.{ℕ, ◌^◌, ◌<◌, Bool, List, map, length}
use Rattle.std.proofs.lemmas.List.{length-map}
use Rattle.std.proofs.lemmas.Nat.{pow_pos}
use Rattle.machine.specs.Machines.{Sound}
use Rattle.gates.specs.Words.{word_lt}
use Rattle.gates.specs.Nets.{value_at, word_at}
use Rattle.gates.specs.GateLists.{machine_of}
use Rattle.gates.specs.declared.gates.Gates.{Gates}

-- a word read from n nets is below 2 ^ n
pub word_at_lt : (nets : List Bool) (numbers : List ℕ) → word_at nets numbers < 2 ^ length numbers
word_at_lt nets numbers = subst (λ (n : ℕ). word_at nets numbers < 2 ^ n) (length-map numbers (value_at nets)) (word_lt (map (value_at nets) numbers))

-- the counts of a gate device are in range, and its resets and next states are states
pub gates_sound : (g : Gates) → Sound (machine_of g)
gates_sound g = record {
  some_member = omega arith;
  few_members = omega (arith, g.few_nets);
  some_letter = omega (arith, pow_pos g.pins.count);
  few_letters = pow_mono g.pins.few;
  some_state = omega (arith, pow_pos (length g.loads.now));
  few_states = pow_mono g.few_loads;
  reset_inside = λ a h. g.reset_inside;
  next_inside = λ a q l ha hq hl. word_at_lt _ g.loads.now;
}
