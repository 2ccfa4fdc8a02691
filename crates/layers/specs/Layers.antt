-- What each layer makes of the devices below it.
use Rattle.std.specs.Prelude.{ℕ, min, max, if◌then◌else◌, ◌==◌, bit_and, bit_or}
use Rattle.machine.specs.Machines.{Machine, reset_of, step_of, within}

-- only the outputs of the mask are seen
abbrev pub observed : ℕ → Machine → Machine
observed mask m = record {
  members = m.members;
  letters = m.letters;
  states = m.states;
  reset = m.reset;
  next = m.next;
  output = λ a q l. bit_and (m.output a q l) mask;
}

-- the letter that goes down for the letter l: only the pins of keep are as in l, and those of the value are 1; one that there is not is read as 0
abbrev pub tied_letter : ℕ → ℕ → Machine → ℕ → ℕ
tied_letter keep value m l = within m.letters (bit_or (bit_and l keep) value)

-- some pins are tied
abbrev pub tied : ℕ → ℕ → Machine → Machine
tied keep value m = record {
  members = m.members;
  letters = m.letters;
  states = m.states;
  reset = m.reset;
  next = λ a q l. m.next a q (tied_letter keep value m l);
  output = λ a q l. m.output a q (tied_letter keep value m l);
}

-- two good machines side by side: member 0 is the good one of the first device, member 1 that of the second, over the letters that both have
abbrev pub rivals : Machine → Machine → Machine
rivals m n = record {
  members = 2;
  letters = min m.letters n.letters;
  states = max m.states n.states;
  reset = λ a. if a == 0 then reset_of m 0 else reset_of n 0;
  next = λ a q l. if a == 0 then (step_of m 0 q l).0 else (step_of n 0 q l).0;
  output = λ a q l. if a == 0 then (step_of m 0 q l).1 else (step_of n 0 q l).1;
}
