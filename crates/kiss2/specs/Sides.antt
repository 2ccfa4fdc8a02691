-- The name of a state on one of two sides.
use Rattle.std.specs.Prelude.{◌≡◌, ℕ, ◌+◌, Bool, codes, if◌then◌else◌, ◌&&◌, List, length, Ok, Err, Result, nat_le, nat_lt}
use Rattle.std.specs.Borrow.{Bor}
use Rattle.machine.specs.declared.refusal.Refusal.{Refusal}
use Rattle.machine.specs.declared.refusal.Refusal.TheVariants.{OutOfRange}
use Rattle.kiss2.specs.Laws.{entry_at}
use Rattle.kiss2.specs.Texts.{bytes_of}
use Rattle.kiss2.specs.declared.part.Part.{Part}
use Rattle.kiss2.specs.declared.side.Side.{Side}
use Rattle.kiss2.specs.declared.side.Side.TheVariants.{Good, Faulty}

-- what stands on the side that is meant
abbrev pub side_of : {X : Type 0} → Side → X → X → X
side_of Good good faulty = good
side_of Faulty good faulty = faulty

-- the word for a side
abbrev pub word_of : Side → List ℕ
word_of Good = codes "good"
word_of Faulty = codes "faulty"

-- whether the part lies in the text
abbrev pub lies_in : List ℕ → Part → Bool
lies_in text p = nat_le (p.place + p.length) (length text)

-- the name of state q by its entry: there must be one, and it must lie in the text
abbrev pub name_of : List ℕ → List Part → ℕ → Result (List ℕ) Refusal
name_of text ps q = if nat_lt q (length ps) && lies_in text (entry_at ps q) then Ok (bytes_of text (entry_at ps q)) else Err OutOfRange

-- the answer is that name
abbrev pub TellsName : List ℕ → List Part → ℕ → Result (Bor (List ℕ)) Refusal → Type 0
TellsName text ps q (Ok s) = name_of text ps q ≡ Ok s.now
TellsName text ps q (Err r) = name_of text ps q ≡ Err r
