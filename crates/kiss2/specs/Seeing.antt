-- What holds of the lines seen so far.
use Rattle.std.specs.Prelude.{◌≡◌, ℕ, ◌<◌, ◌≤◌, true, List, length, is_some, Some, None, Option}
use Rattle.std.specs.Option.{unwrap_or}
use Rattle.std.specs.List.{AllByRecursion}
use Rattle.kiss2.specs.Texts.{bytes_of}
use Rattle.kiss2.specs.Lines.{Line, blank, directive, end, row}
use Rattle.kiss2.specs.Laws.{Inside, entry_at}
use Rattle.kiss2.specs.Readings.{Seen}
use Rattle.kiss2.specs.Rows.{Transition}
use Rattle.kiss2.specs.declared.part.Part.{Part}

-- a width that is given is from 1 to most
abbrev pub WidthUpto : ℕ → Option ℕ → Type 0
WidthUpto most None = Unit {0}
WidthUpto most (Some n) = (1 ≤ n) × (n ≤ most)

-- a name that is given lies in the text
abbrev pub NameInside : List ℕ → Option Part → Type 0
NameInside text None = Unit {0}
NameInside text (Some p) = Inside text p

-- a row leads from a state to a state, and its input has the width
pub record RowSound (width states : ℕ) (t : Transition) : Type 0 where
  pub current_inside : t.current < states
  pub next_inside : t.next < states
  pub wide : length t.input ≡ width

-- what every list of lines that is not refused keeps true
pub record Sound (text : List ℕ) (s : Seen) : Type 0 where
  pub inputs : WidthUpto 6 s.heading.inputs
  pub outputs : WidthUpto 32 s.heading.outputs
  pub reset : NameInside text s.heading.reset
  pub few_names : length s.names ≤ 256
  pub names_inside : (q : ℕ) → q < length s.names → Inside text (entry_at s.names q)
  pub short_names : (q : ℕ) → q < length s.names → (entry_at s.names q).length ≤ 16
  pub names_apart : (q p : ℕ) → q < length s.names → p < length s.names → bytes_of text (entry_at s.names q) ≡ bytes_of text (entry_at s.names p) → q ≡ p
  pub widths_known : 0 < length s.rows → (is_some s.heading.inputs ≡ true) × (is_some s.heading.outputs ≡ true)
  pub rows : AllByRecursion (RowSound (unwrap_or s.heading.inputs 0) (length s.names)) s.rows

-- the words of a line lie in the text
abbrev pub LineInside : List ℕ → Line → Type 0
LineInside text blank = Unit {0}
LineInside text (directive key w) = Inside text w
LineInside text end = Unit {0}
LineInside text (row a b c d) = Inside text a × Inside text b × Inside text c × Inside text d
