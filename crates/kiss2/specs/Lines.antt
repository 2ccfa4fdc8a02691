-- What a line of the text says.
use Rattle.std.specs.Prelude.{◌≡◌, ℕ, Bool, false, if◌then◌else◌, ◌||◌, List, [], ◌∷◌, Some, None, Ok, Err, Option, Result, ◌==◌}
use Rattle.machine.specs.declared.refusal.Refusal.{Refusal}
use Rattle.machine.specs.declared.refusal.Refusal.TheVariants.{BadLine}
use Rattle.kiss2.specs.Texts.{bytes_of, part_of, Stands}
use Rattle.kiss2.specs.declared.part.Part.{Part}
use Rattle.kiss2.specs.declared.line.Key.{Key}
use Rattle.kiss2.specs.declared.line.Key.TheVariants.{Inputs, Outputs, Rows, States, Reset}
use Rattle.kiss2.specs.declared.line.Row.{Row as ReadRow}
use Rattle.kiss2.specs.declared.line.Line.{Line as ReadLine}
use Rattle.kiss2.specs.declared.line.Line.TheVariants.{Blank, Directive, End, Row}

-- nothing; a directive with its word; the end; a row with its input, current state, next state and output
pub data Line : Type 0 where
  blank : Line
  directive : Key → Part → Line
  end : Line
  row : Part → Part → Part → Part → Line

-- the word begins with a full stop
abbrev pub opens_with_stop : List ℕ → Bool
opens_with_stop [] = false
opens_with_stop (b ∷ s) = b == 46

-- the directive of a letter, of those that take a word: .i, .o, .p, .s and .r
abbrev pub key_of : ℕ → Option Key
key_of letter =
    if letter == 105 then Some Inputs else
    if letter == 111 then Some Outputs else
    if letter == 112 then Some Rows else
    if letter == 115 then Some States else
    if letter == 114 then Some Reset else None

-- the directive of a key and its word
abbrev pub keyed : Option Key → Part → Result Line Refusal
keyed None w = Err BadLine
keyed (Some k) w = Ok (directive k w)

-- what a directive says, by its letter and the words behind it
abbrev pub directive_of : ℕ → List Part → Result Line Refusal
directive_of letter [] = if letter == 101 then Ok end else Err BadLine
directive_of letter (w ∷ []) = keyed (key_of letter) w
directive_of letter (w ∷ v ∷ ws) = Err BadLine

-- what a row says, by its words
abbrev pub row_of : List ℕ → Part → List Part → Result Line Refusal
row_of text a [] = Err BadLine
row_of text a (b ∷ []) = Err BadLine
row_of text a (b ∷ c ∷ []) = Err BadLine
row_of text a (b ∷ c ∷ d ∷ []) = if opens_with_stop (bytes_of text b) || opens_with_stop (bytes_of text c) then Err BadLine else Ok (row a b c d)
row_of text a (b ∷ c ∷ d ∷ e ∷ ws) = Err BadLine

-- what a line says whose first word is behind a full stop: one letter names the directive
abbrev pub behind_stop : List ℕ → List Part → Result Line Refusal
behind_stop [] ws = Err BadLine
behind_stop (letter ∷ []) ws = directive_of letter ws
behind_stop (letter ∷ b ∷ s) ws = Err BadLine

-- what a line says, by the bytes of its first word: a full stop opens a directive
abbrev pub said : List ℕ → Part → List Part → List ℕ → Result Line Refusal
said text w ws [] = row_of text w ws
said text w ws (b ∷ s) = if b == 46 then behind_stop s ws else row_of text w ws

-- what a line says, by its words
abbrev pub line_of : List ℕ → List Part → Result Line Refusal
line_of text [] = Ok blank
line_of text (w ∷ ws) = said text w ws (bytes_of text w)

-- the words of a row stand in the text
pub record RowStands (text : List ℕ) (r : ReadRow) : Type 0 where
  pub input : Stands text r.input
  pub current : Stands text r.current
  pub next : Stands text r.next
  pub output : Stands text r.output

-- the words of a line that was read stand in the text
abbrev pub LineStands : List ℕ → ReadLine → Type 0
LineStands text Blank = Unit {0}
LineStands text (Directive key value) = Stands text value
LineStands text End = Unit {0}
LineStands text (Row r) = RowStands text r

-- what a line that was read says
abbrev pub line_said : ReadLine → Line
line_said Blank = blank
line_said (Directive key value) = directive key (part_of value)
line_said End = end
line_said (Row r) = row (part_of r.input) (part_of r.current) (part_of r.next) (part_of r.output)

-- a line that was read is the one defined, or its refusal is
abbrev pub ReadsAs : List ℕ → Result Line Refusal → Result ReadLine Refusal → Type 0
ReadsAs text x (Ok l) = (x ≡ Ok (line_said l)) × LineStands text l
ReadsAs text x (Err r) = x ≡ Err r
