-- Resets and steps of a device lead to its states, whatever the member, the state and the letter.
use Rattle.std.proofs.Common.{ℕ, ◌<◌, ◌≤◌, ltb}
use Rattle.std.proofs.lemmas.Bool.{cond_both, ltb-true}
use Rattle.machine.specs.Machines.{Machine, Sound, within, reset_of, step_of}

-- a number that is read within a count is below it
pub within_below : (n x : ℕ) → 1 ≤ n → within n x < n
within_below n x some = cond_both (ltb x n) x 0 (λ y. y < n) (λ e. ltb-true x n e) (λ e. some)

module _ (m : Machine) (sound : Sound m) where
  pub reset_below : (a : ℕ) → reset_of m a < m.states
  reset_below a = sound.reset_inside _ (within_below m.members a sound.some_member)

  pub next_below : (a q l : ℕ) → (step_of m a q l).0 < m.states
  next_below a q l = sound.next_inside _ _ _ (within_below m.members a sound.some_member) (within_below m.states q sound.some_state) (within_below m.letters l sound.some_letter)
