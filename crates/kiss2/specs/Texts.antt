-- The lines of a text, and the words of a line.
use Rattle.std.specs.Prelude.{◌≡◌, ℕ, ◌+◌, ◌-◌, ◌^◌, ◌<◌, ◌≤◌, Bool, true, false, if◌then◌else◌, not, ◌||◌, List, [], ◌∷◌, length, take, drop, Some, None, Option, ◌==◌}
use Rattle.std.specs.List.{prefix_len}
use Rattle.kiss2.specs.declared.part.Part.{Part}
use Rattle.kiss2.specs.declared.part.Word.{Word}

-- the part of n bytes at place p
abbrev pub part : ℕ → ℕ → Part
part p n = record { place = p; length = n }

-- the bytes of a part of the text
abbrev pub bytes_of : List ℕ → Part → List ℕ
bytes_of text p = take p.length (drop p.place text)

-- a space, a tab or a carriage return
abbrev pub is_blank : ℕ → Bool
is_blank b = b == 32 || b == 9 || b == 13

-- a blank, or the number sign that opens a comment
abbrev pub ends_word : ℕ → Bool
ends_word b = is_blank b || b == 35

-- any byte but a line end
abbrev pub in_line : ℕ → Bool
in_line b = not (b == 10)

-- how many bytes stand before the first line end
abbrev pub line_length : List ℕ → ℕ
line_length s = prefix_len in_line s

-- how many bytes stand before the first that ends a word
abbrev pub word_length : List ℕ → ℕ
word_length s = prefix_len (λ b. not (ends_word b)) s

-- the lines behind the line ends of s, which begins at place p
abbrev pub lines_after : ℕ → List ℕ → List Part
lines_after p [] = []
lines_after p (b ∷ s) = if in_line b then lines_after (p + 1) s else part (p + 1) (line_length s) ∷ lines_after (p + 1) s

-- the lines of a text: the first, and one behind each line end
abbrev pub lines : List ℕ → List Part
lines text = part 0 (line_length text) ∷ lines_after 0 text

-- the words of s, which begins at place p, up to a comment; inside tells that the byte before belongs to a word
abbrev pub words_from : ℕ → Bool → List ℕ → List Part
words_from p inside [] = []
words_from p inside (b ∷ s) =
    if b == 35 then [] else
    if is_blank b then words_from (p + 1) false s else
    if inside then words_from (p + 1) true s else
    part p (word_length (b ∷ s)) ∷ words_from (p + 1) true s

-- the words of a line
abbrev pub words : List ℕ → Part → List Part
words text line = words_from line.place false (bytes_of text line)

-- the words from place at to place end of the text
abbrev pub words_left : List ℕ → ℕ → ℕ → List Part
words_left text at end = words_from at false (take (end - at) (drop at text))

-- the part of the text that a word is
abbrev pub part_of : Word → Part
part_of w = part w.place (length w.bytes.now)

-- the word's place and length are numbers that a part holds
abbrev pub FitsPart : Word → Type 0
FitsPart w = (w.place < 2 ^ 16) × (length w.bytes.now < 2 ^ 16)

-- a word is the part of the text at its place
pub record Stands (text : List ℕ) (w : Word) : Type 0 where
  pub bytes : w.bytes.now ≡ bytes_of text (part_of w)
  pub inside : w.place + length w.bytes.now ≤ length text

-- the next word from place at to place end, with the place behind it; none where no word is left
abbrev pub NextWord : List ℕ → ℕ → ℕ → Option Word → ℕ → Type 0
NextWord text at end None after = (words_left text at end ≡ []) × (after ≡ at)
NextWord text at end (Some w) after = (words_left text at end ≡ part_of w ∷ words_left text after end) × Stands text w
