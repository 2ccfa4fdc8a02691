-- Taking words out of a line, and lines out of a text.
use Rattle.std.specs.Prelude.{◌≡◌, ℕ, ◌+◌, ◌-◌, if◌then◌else◌, List, [], ◌∷◌, length, drop, Some, None, Option, nat_le}
use Rattle.kiss2.specs.Texts.{NextWord, line_length, lines_after, part}
use Rattle.kiss2.specs.declared.lines.Lines.{Lines}
use Rattle.kiss2.specs.declared.part.Part.{Part}
use Rattle.kiss2.specs.declared.part.Word.{Word}
use Rattle.kiss2.specs.declared.scanning.Words.{Words}

-- the next word is taken out, if there is one; the text and the end stay
abbrev pub TakesWord : Words → Option Word → Words → Type 0
TakesWord left word left' =
    NextWord left.text.now left.at left.end word left'.at × (left'.text ≡ left.text) × (left'.end ≡ left.end)

-- the lines of the text from place p on: the one there, and those behind it; behind the end none
abbrev pub lines_left : List ℕ → ℕ → List Part
lines_left text p = if nat_le p (length text) then part p (line_length (drop p text)) ∷ lines_after p (drop p text) else []

-- the first line that is left is taken out, as its words; the text stays
pub record LineTaken (left : Lines) (line : Words) (left' : Lines) : Type 0 where
  pub first : lines_left left.text.now left.place ≡ part line.at (line.end - line.at) ∷ lines_left left.text.now left'.place
  pub place : line.at ≡ left.place
  pub next_place : left'.place ≡ line.end + 1
  pub text : line.text.now ≡ left.text.now
  pub same_text : left'.text.now ≡ left.text.now

-- the next line is taken out, if there is one
abbrev pub TakesLine : Lines → Option Words → Lines → Type 0
TakesLine left None left' = lines_left left.text.now left.place ≡ []
TakesLine left (Some line) left' = LineTaken left line left'
