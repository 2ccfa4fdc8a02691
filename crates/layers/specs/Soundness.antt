-- The ranges of each layer, from those of the devices below.
use Rattle.std.specs.Prelude.{ℕ, ◌<◌, max, ◌==◌}
use Rattle.std.proofs.Common.{arith}
use Rattle.std.proofs.lemmas.Bool.{cond_both}
use Rattle.machine.proofs.Ranges.{within_below, reset_below, next_below}
use Rattle.machine.specs.Machines.{Machine, Sound}
use Rattle.layers.specs.Layers.{observed, tied, tied_letter, rivals}

pub observed_sound : (mask : ℕ) (m : Machine) → Sound m → Sound (observed mask m)
observed_sound mask m s = record {
  some_member = s.some_member;
  few_members = s.few_members;
  some_letter = s.some_letter;
  few_letters = s.few_letters;
  some_state = s.some_state;
  few_states = s.few_states;
  reset_inside = s.reset_inside;
  next_inside = s.next_inside;
}

pub tied_sound : (keep value : ℕ) (m : Machine) → Sound m → Sound (tied keep value m)
tied_sound keep value m s = record {
  some_member = s.some_member;
  few_members = s.few_members;
  some_letter = s.some_letter;
  few_letters = s.few_letters;
  some_state = s.some_state;
  few_states = s.few_states;
  reset_inside = s.reset_inside;
  next_inside = λ a q l ha hq hl. s.next_inside a q (tied_letter keep value m l) ha hq (within_below _ _ s.some_letter);
}

pub rivals_sound : (m n : Machine) → Sound m → Sound n → Sound (rivals m n)
rivals_sound m n s t = record {
  some_member = omega arith;
  few_members = omega arith;
  some_letter = omega (arith, s.some_letter, t.some_letter);
  few_letters = omega (arith, s.few_letters);
  some_state = omega (arith, s.some_state);
  few_states = omega (arith, s.few_states, t.few_states);
  reset_inside = λ a h. cond_both (a == 0) _ _ (λ q. q < max m.states n.states) (λ _. omega (arith, reset_below m s 0)) (λ _. omega (arith, reset_below n t 0));
  next_inside = λ a q l ha hq hl. cond_both (a == 0) _ _ (λ p. p < max m.states n.states) (λ _. omega (arith, next_below m s 0 q l)) (λ _. omega (arith, next_below n t 0 q l));
}
