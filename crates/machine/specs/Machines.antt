-- What a device means: a family of Mealy machines over common letters and states.
use Rattle.std.specs.Prelude.{ℕ, ◌<◌, ◌≤◌, if◌then◌else◌, nat_lt}

-- how many members, letters and states there are; each member's reset; where a member goes from a state at a letter, and what it puts out
pub record Machine : Type 0 where
  pub members : ℕ
  pub letters : ℕ
  pub states : ℕ
  pub reset : ℕ → ℕ
  pub next : ℕ → ℕ → ℕ → ℕ
  pub output : ℕ → ℕ → ℕ → ℕ

-- the counts are in range, and every reset and next state is a state
pub record Sound (m : Machine) : Type 0 where
  pub some_member : 1 ≤ m.members
  pub few_members : m.members ≤ 1025
  pub some_letter : 1 ≤ m.letters
  pub few_letters : m.letters ≤ 64
  pub some_state : 1 ≤ m.states
  pub few_states : m.states ≤ 256
  pub reset_inside : (a : ℕ) → a < m.members → m.reset a < m.states
  pub next_inside : (a q l : ℕ) → a < m.members → q < m.states → l < m.letters → m.next a q l < m.states

-- a number out of range is read as 0
abbrev pub within : ℕ → ℕ → ℕ
within n x = if nat_lt x n then x else 0

-- the reset state of a member
abbrev pub reset_of : Machine → ℕ → ℕ
reset_of m a = m.reset (within m.members a)

-- one step of a member: where it goes, and its output word
abbrev pub step_of : Machine → ℕ → ℕ → ℕ → ℕ × ℕ
step_of m a q l = (m.next (within m.members a) (within m.states q) (within m.letters l), m.output (within m.members a) (within m.states q) (within m.letters l))
