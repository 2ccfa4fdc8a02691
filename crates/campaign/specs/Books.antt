-- What a ledger says: the marks of the faults, and the kept sequences with their origins.
use Rattle.std.specs.Prelude.{ℕ, ◌-◌, ◌<◌, ◌≤◌, List, [], map, length, take, drop, slice_index_or, sum_by}
use Rattle.std.specs.Option.{unwrap_or}
use Rattle.campaign.specs.declared.ledger.Kept.{Kept}
use Rattle.campaign.specs.declared.ledger.Ledger.{Ledger}
use Rattle.campaign.specs.declared.mark.Mark.{Mark}
use Rattle.campaign.specs.declared.mark.Mark.TheVariants.{Open}

-- a kept sequence, and the fault that a judgement kept it for, 0 if a client brought it
pub record Entry : Type 0 where
  pub letters : List ℕ
  pub origin : ℕ

-- the sequence s with an origin
abbrev pub entry : List ℕ → ℕ → Entry
entry s o = record { letters = s; origin = o }

-- the marks by fault, and the kept sequences in the order in which they were kept
pub record Book : Type 0 where
  pub marks : List Mark
  pub kept : List Entry

-- the mark of fault f
abbrev pub mark_of : Book → ℕ → Mark
mark_of b f = slice_index_or b.marks f Open

-- whether a sequence has the number n: they are numbered from 1
abbrev pub Numbered : List Entry → ℕ → Type 0
Numbered es n = (0 < n) × (n ≤ length es)

-- the kept sequence with the number n
abbrev pub numbered : List Entry → ℕ → Entry
numbered es n = slice_index_or es (n - 1) (entry [] 0)

-- how many letters the kept sequences have together
abbrev pub letters_in : List Entry → ℕ
letters_in es = sum_by (λ e. length e.letters) es

-- the letters of a part
abbrev pub part : ℕ → ℕ → List ℕ → List ℕ
part start n letters = take n (drop start letters)

-- the kept sequence that lies at these letters
abbrev pub entry_of : List ℕ → Kept → Entry
entry_of letters k = entry (part k.start k.length letters) (unwrap_or k.origin 0)

-- what a ledger says
abbrev pub book : Ledger → Book
book l = record { marks = l.marks; kept = map (entry_of l.letters) l.kept.items }
