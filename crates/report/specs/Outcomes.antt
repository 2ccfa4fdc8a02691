-- What a report tells, and how it is spelled.
use Rattle.std.specs.Prelude.{ℕ, List, [], ◌∷◌, ◌++◌, length, codes, decimal, Some, None, Option}
use Rattle.std.specs.List.{flat_map}
use Rattle.machine.specs.Refusals.{refusal_number}
use Rattle.machine.specs.declared.refusal.Refusal.{Refusal}
use Rattle.kiss2.specs.Laws.{binary}
use Rattle.kiss2.specs.declared.side.Side.{Side}
use Rattle.kiss2.specs.declared.side.Side.TheVariants.{Good, Faulty}

-- a refusal of a text at a line; the letters of a least distinguishing sequence, with their width in bits; the names of the states of each reachable pair
pub data Outcome : Type 0 where
  refused : Refusal → Option Side → ℕ → Outcome
  differ : ℕ → List ℕ → Outcome
  equivalent : List (List ℕ × List ℕ) → Outcome

-- the word for a text, or for both
abbrev pub whom_word : Option Side → List ℕ
whom_word (Some Good) = codes "good"
whom_word (Some Faulty) = codes "faulty"
whom_word None = codes "both"

-- the end of a line
abbrev pub line_end : List ℕ
line_end = 10 ∷ []

-- a line with a letter
abbrev pub letter_line : ℕ → ℕ → List ℕ
letter_line width l = binary width l ++ line_end

-- a line with the two names of a pair
abbrev pub pair_line : List ℕ × List ℕ → List ℕ
pair_line p = p.0 ++ (codes " " ++ (p.1 ++ line_end))

-- a line with a word and a number
abbrev pub count_line : List ℕ → ℕ → List ℕ
count_line word n = word ++ (decimal n ++ line_end)

-- the line of a refusal
abbrev pub refusal_line : Refusal → Option Side → ℕ → List ℕ
refusal_line r w n = codes "refused " ++ (decimal (refusal_number r) ++ (codes " " ++ (whom_word w ++ count_line (codes " ") n)))

-- the bytes that spell an outcome
abbrev pub rendering : Outcome → List ℕ
rendering (refused r w n) = refusal_line r w n
rendering (differ width s) = count_line (codes "differ ") (length s) ++ flat_map (letter_line width) s
rendering (equivalent ps) = count_line (codes "equivalent ") (length ps) ++ flat_map pair_line ps
