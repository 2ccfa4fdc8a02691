-- What a gate list means.
use Rattle.std.specs.Prelude.{ℕ, ◌+◌, ◌*◌, ◌^◌, Bool, List, length}
use Rattle.machine.specs.Machines.{Machine}
use Rattle.gates.specs.Nets.{net_values, word_at}
use Rattle.gates.specs.Rules.{net_count}
use Rattle.gates.specs.declared.gate.Gate.{Gate}
use Rattle.gates.specs.declared.gates.Gates.{Gates}

-- the machines of a gate list: the good one and two faults of each net, all with one reset; the flip-flops load, and the outputs show, the nets that they name
abbrev pub gates_machine : ℕ → ℕ → List Gate → List ℕ → List ℕ → Machine
gates_machine pins reset gates loads outputs = record {
  members = 2 * net_count pins gates loads + 1;
  letters = 2 ^ pins;
  states = 2 ^ length loads;
  reset = λ a. reset;
  next = λ a q l. word_at (net_values pins (length loads) gates a q l) loads;
  output = λ a q l. word_at (net_values pins (length loads) gates a q l) outputs;
}

-- the idle device: one member, one letter, one state that it stays in, and output 0
abbrev pub idle : Machine
idle = record {
  members = 1;
  letters = 1;
  states = 1;
  reset = λ a. 0;
  next = λ a q l. 0;
  output = λ a q l. 0;
}

-- how many nets a gate device has
abbrev pub nets_of : Gates → ℕ
nets_of g = net_count g.pins.count g.gates.now g.loads.now

-- the values of its nets
abbrev pub values_of : Gates → ℕ → ℕ → ℕ → List Bool
values_of g a q l = net_values g.pins.count (length g.loads.now) g.gates.now a q l

-- what it means
abbrev pub machine_of : Gates → Machine
machine_of g = gates_machine g.pins.count g.reset g.gates.now g.loads.now g.outputs.now
