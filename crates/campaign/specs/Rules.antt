-- What each call of a campaign answers, and what it changes.
use Rattle.std.specs.Prelude.{◌≡◌, ℕ, ◌+◌, ◌*◌, ◌<◌, ◌≤◌, ◌&&◌, ◌⊎◌, List, [], ◌∷◌, ◌++◌, length, take, drop, replicate, is_some, Some, None, Ok, Err, Option, Result, ◌≢◌, nat_le, nat_lt, if◌then◌else◌}
use Rattle.machine.specs.Machines.{Machine}
use Rattle.machine.specs.Outputs.{Equivalent, LeastDistinguishing, first_difference}
use Rattle.machine.specs.Sequences.{legal}
use Rattle.machine.specs.declared.refusal.Refusal.{Refusal}
use Rattle.machine.specs.declared.refusal.Refusal.TheVariants.{NoSuchMember, BadSequence, WorkTooShort, AnswerTooShort, FaultNotOpen, SequencesFull, LettersFull, NoSuchSequence}
use Rattle.compare.specs.Comparisons.{PairWork}
use Rattle.campaign.specs.Books.{Entry, entry, Book, mark_of, Numbered, numbered, letters_in}
use Rattle.campaign.specs.declared.mark.Mark.{Mark}
use Rattle.campaign.specs.declared.mark.Mark.TheVariants.{Open, Found, Undetectable}

-- f is a fault of the device
abbrev pub Fault : Machine → ℕ → Type 0
Fault m f = (0 < f) × (f < m.members)

-- fewer than 256 sequences are kept
abbrev pub HasNumber : List Entry → Type 0
HasNumber es = length es < 256

-- the number that the next kept sequence gets
abbrev pub next_number : List Entry → ℕ
next_number es = length es + 1

-- as many letters are left as the sequence has, of 16,384
abbrev pub HasLetters : List Entry → List ℕ → Type 0
HasLetters es s = letters_in es + length s ≤ 16384

-- a work slice has fewer entries than there are pairs of states
abbrev pub ShortWork : Machine → ℕ → ℕ → Type 0
ShortWork m v w = (v < m.states * m.states) ⊎ (w < m.states * m.states)

-- a campaign as it is made: every fault open and nothing kept
pub record Fresh (b : Book) : Type 0 where
  pub all_open : b.marks ≡ replicate 1025 Open
  pub none_kept : b.kept ≡ []

-- the mark of fault f once sequence s, with the number n, was graded: an open fault that it distinguishes becomes found by it
abbrev pub graded : Machine → List ℕ → ℕ → ℕ → Mark → Mark
graded m s n f Open = if is_some (first_difference m 0 f s) then Found n else Open
graded m s n f (Found k) = Found k
graded m s n f Undetectable = Undetectable

-- s is kept last, with an origin, and every fault is graded by it
pub record Keeps (m : Machine) (before : Book) (s : List ℕ) (origin : ℕ) (after : Book) : Type 0 where
  pub kept : after.kept ≡ before.kept ++ entry s origin ∷ []
  pub marks : (f : ℕ) → Fault m f → mark_of after f ≡ graded m s (next_number before.kept) f (mark_of before f)

-- fault f is marked k, and nothing else changes
pub record SetsMark (before : Book) (f : ℕ) (k : Mark) (after : Book) : Type 0 where
  pub kept : after.kept ≡ before.kept
  pub here : mark_of after f ≡ k
  pub elsewhere : (g : ℕ) → (g ≢ f) → mark_of after g ≡ mark_of before g

-- fault f is marked undetectable, and nothing else changes
abbrev pub Settles : Book → ℕ → Book → Type 0
Settles before f after = SetsMark before f Undetectable after

-- why a client's sequence is refused, or its number: the checks in their order
abbrev pub admission : Machine → List Entry → List ℕ → Result ℕ Refusal
admission m es s =
    if legal m.letters s then (if nat_lt (length es) 256 then (if nat_le (letters_in es + length s) 16384 then Ok (next_number es)
    else Err LettersFull)
    else Err SequencesFull)
    else Err BadSequence

-- a client's sequence is kept with origin 0, or nothing changes
abbrev pub Admitted : Machine → Book → List ℕ → Result ℕ Refusal → Book → Type 0
Admitted m before s (Ok n) after = (admission m before.kept s ≡ Ok n) × Keeps m before s 0 after
Admitted m before s (Err r) after = (admission m before.kept s ≡ Err r) × (after ≡ before)

-- the least sequence that distinguishes fault f is kept, with the number n and the fault as its origin
abbrev pub KeepsLeast : Machine → Book → ℕ → ℕ → Book → Type 0
KeepsLeast m before f n after = (n ≡ next_number before.kept) × ((s : List ℕ) × LeastDistinguishing m 0 f s × HasNumber before.kept × HasLetters before.kept s × Keeps m before s f after)

-- why s finds no place behind the kept sequences: all numbers are given, or too few letters are left
abbrev pub NoPlace : List Entry → List ℕ → Refusal → Type 0
NoPlace es s r =
    ((r ≡ SequencesFull) × (256 ≤ length es))
    ⊎ (HasNumber es × (r ≡ LettersFull) × (16384 < letters_in es + length s))

-- why the least sequence of fault f is not kept, over v visits and w mark words: the first that applies
abbrev pub KeepingRefused : Machine → List Entry → ℕ → ℕ → ℕ → Refusal → Type 0
KeepingRefused m es f v w r =
    ((r ≡ WorkTooShort) × ShortWork m v w)
    ⊎ (PairWork m v w × ((s : List ℕ) × LeastDistinguishing m 0 f s × NoPlace es s r))

-- why the judgement of fault f is refused, over v visits and w mark words: the first that applies
abbrev pub JudgementRefused : Machine → Book → ℕ → ℕ → ℕ → Refusal → Type 0
JudgementRefused m b f v w r =
    ((r ≡ NoSuchMember) × (Fault m f → ⊥))
    ⊎ (Fault m f × (((r ≡ FaultNotOpen) × (mark_of b f ≢ Open))
    ⊎ ((mark_of b f ≡ Open) × KeepingRefused m b.kept f v w r)))

-- an open fault is found undetectable, or the least sequence that distinguishes it is kept, or nothing changes
abbrev pub Judged : Machine → Book → ℕ → ℕ → ℕ → Result (Option ℕ) Refusal → Book → Type 0
Judged m before f v w (Ok None) after = Fault m f × (mark_of before f ≡ Open) × PairWork m v w × Equivalent m 0 f × Settles before f after
Judged m before f v w (Ok (Some n)) after = Fault m f × (mark_of before f ≡ Open) × PairWork m v w × KeepsLeast m before f n after
Judged m before f v w (Err r) after = JudgementRefused m before f v w r × (after ≡ before)

-- the mark of fault f, or a refusal
abbrev pub marked : Machine → Book → ℕ → Result Mark Refusal
marked m b f = if nat_lt 0 f && nat_lt f m.members then Ok (mark_of b f) else Err NoSuchMember

-- sequence n is written into the buffer from a place on, and nothing else; its length and origin are told
abbrev pub ReadOut : List Entry → ℕ → List ℕ → ℕ → Result (ℕ × ℕ) Refusal → List ℕ → Type 0
ReadOut es n old place (Ok r) new =
    Numbered es n × (place + length (numbered es n).letters ≤ length old)
    × (r ≡ (length (numbered es n).letters, (numbered es n).origin))
    × (new ≡ take place old ++ ((numbered es n).letters ++ drop (place + length (numbered es n).letters) old))
ReadOut es n old place (Err r) new =
    (((r ≡ NoSuchSequence) × (Numbered es n → ⊥)) ⊎ (Numbered es n × (r ≡ AnswerTooShort) × (length old < place + length (numbered es n).letters)))
    × (new ≡ old)
