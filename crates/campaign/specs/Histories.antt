-- Every history of calls is told truly.
use Rattle.std.specs.Prelude.{◌≡◌, ℕ, ◌≤◌, true, ◌⊎◌, ◌↔◌, List, [], ◌∷◌, ◌++◌, map, length, Some, None, Ok, Err, Option, Result, ◌≢◌}
use Rattle.machine.specs.Machines.{Machine}
use Rattle.machine.specs.Outputs.{Distinguishes, Equivalent, LeastDistinguishing}
use Rattle.machine.specs.Sequences.{legal}
use Rattle.machine.specs.declared.refusal.Refusal.{Refusal}
use Rattle.machine.specs.declared.refusal.Refusal.TheVariants.{NoSuchMember, FaultNotOpen}
use Rattle.compare.specs.Comparisons.{PairWork}
use Rattle.campaign.specs.Books.{Entry, entry, Book, Numbered, numbered}
use Rattle.campaign.specs.Rules.{Fault, HasNumber, HasLetters, KeepingRefused, admission, Admitted, Judged, marked, ReadOut, next_number}
use Rattle.campaign.specs.declared.mark.Mark.{Mark}
use Rattle.campaign.specs.declared.mark.Mark.TheVariants.{Open, Found, Undetectable}

-- a call with its arguments: a fault with the lengths of the two work slices, a client's letters, a fault, a sequence's number with a buffer and a place in it
pub data Call : Type 0 where
  judge : ℕ → ℕ → ℕ → Call
  admit : List ℕ → Call
  mark : ℕ → Call
  read_out : ℕ → List ℕ → ℕ → Call

-- a call with what it answered, and for a read-out what the buffer then held
pub data Event : Type 0 where
  judged : ℕ → ℕ → ℕ → Result (Option ℕ) Refusal → Event
  admitted : List ℕ → Result ℕ Refusal → Event
  marked_as : ℕ → Result Mark Refusal → Event
  was_read : ℕ → List ℕ → ℕ → Result (ℕ × ℕ) Refusal → List ℕ → Event

-- the call of an event
abbrev pub call_of : Event → Call
call_of (judged f v w r) = judge f v w
call_of (admitted s r) = admit s
call_of (marked_as f r) = mark f
call_of (was_read n old place r new) = read_out n old place

-- the calls of some events
abbrev pub calls : List Event → List Call
calls es = map call_of es

-- a run: what calls lead to from a start, by what each call ensures; the latest stands first
pub data Run (m : Machine) (start : Book) : List Event → Book → Type 0 where
  made : Run m start [] start
  after_judge : {evs : List Event} {before after : Book} (f v w : ℕ) (r : Result (Option ℕ) Refusal) → Run m start evs before → Judged m before f v w r after → Run m start (judged f v w r ∷ evs) after
  after_admit : {evs : List Event} {before after : Book} (s : List ℕ) (r : Result ℕ Refusal) → Run m start evs before → Admitted m before s r after → Run m start (admitted s r ∷ evs) after
  after_mark : {evs : List Event} {before : Book} (f : ℕ) (r : Result Mark Refusal) → Run m start evs before → r ≡ marked m before f → Run m start (marked_as f r ∷ evs) before
  after_read : {evs : List Event} {before : Book} (n : ℕ) (old : List ℕ) (place : ℕ) (r : Result (ℕ × ℕ) Refusal) (new : List ℕ) → Run m start evs before → ReadOut before.kept n old place r new → Run m start (was_read n old place r new ∷ evs) before

-- some element is as P says
abbrev pub SomeOf : {X : Type 0} → (X → Type 0) → List X → Type 0
SomeOf P [] = ⊥
SomeOf P (x ∷ xs) = P x ⊎ SomeOf P xs

-- some kept sequence distinguishes fault f from the good machine
abbrev pub Distinguished : Machine → List Entry → ℕ → Type 0
Distinguished m es f = SomeOf (λ e. Distinguishes m 0 f e.letters) es

-- the call judges fault f, with work slices long enough
abbrev pub Judges : Machine → ℕ → Call → Type 0
Judges m f (judge g v w) = (g ≡ f) × PairWork m v w
Judges m f (admit s) = ⊥
Judges m f (mark g) = ⊥
Judges m f (read_out n old place) = ⊥

-- fault f is settled by the calls so far and the sequences that they kept: one distinguishes it, or no sequence does and it was judged
abbrev pub Settled : Machine → List Call → List Entry → ℕ → Type 0
Settled m cs es f = Distinguished m es f ⊎ (Equivalent m 0 f × SomeOf (Judges m f) cs)

-- the call keeps the sequence s with an origin, after calls that kept es: a legal client's sequence that fits; the least sequence for a fault that is not settled, if it fits
abbrev pub CallKeeps : Machine → List Call → List Entry → Call → List ℕ → ℕ → Type 0
CallKeeps m cs es (judge f v w) s origin = (origin ≡ f) × Fault m f × (Settled m cs es f → ⊥) × PairWork m v w × LeastDistinguishing m 0 f s × HasNumber es × HasLetters es s
CallKeeps m cs es (admit t) s origin = (origin ≡ 0) × (s ≡ t) × (legal m.letters t ≡ true) × HasNumber es × HasLetters es t
CallKeeps m cs es (mark f) s origin = ⊥
CallKeeps m cs es (read_out n old place) s origin = ⊥

-- the sequences that a list of calls keeps, by the calls and the device's meaning alone; the latest call stands first
pub data KeptBy (m : Machine) : List Call → List Entry → Type 0 where
  none : KeptBy m [] []
  one_more : {c : Call} {cs : List Call} {es : List Entry} (s : List ℕ) (origin : ℕ) → KeptBy m cs es → CallKeeps m cs es c s origin → KeptBy m (c ∷ cs) (es ++ entry s origin ∷ [])
  no_more : {c : Call} {cs : List Call} {es : List Entry} → KeptBy m cs es → ((s : List ℕ) (origin : ℕ) → CallKeeps m cs es c s origin → ⊥) → KeptBy m (c ∷ cs) es

-- a list of calls keeps one list of sequences
abbrev pub KeptOnce : Machine → Type 0
KeptOnce m = (cs : List Call) (es fs : List Entry) → KeptBy m cs es → KeptBy m cs fs → es ≡ fs

-- the event is a judgement of fault f that was not refused
abbrev pub JudgedWell : ℕ → Event → Type 0
JudgedWell f (judged g v w (Ok n)) = g ≡ f
JudgedWell f (judged g v w (Err r)) = ⊥
JudgedWell f (admitted s r) = ⊥
JudgedWell f (marked_as g r) = ⊥
JudgedWell f (was_read n old place r new) = ⊥

-- n is the number of the first kept sequence that distinguishes fault f
pub record First (m : Machine) (es : List Entry) (f n : ℕ) : Type 0 where
  pub is_kept : Numbered es n
  pub distinguishes : Distinguishes m 0 f (numbered es n).letters
  pub earliest : (k : ℕ) → Numbered es k → Distinguishes m 0 f (numbered es k).letters → n ≤ k

-- what a mark says is true: refused exactly for what is no fault; undetectable exactly where a judgement was not refused and no sequence of any length distinguishes the fault; found by n exactly where n is the first kept sequence that does; else open
pub record TrueMark (m : Machine) (evs : List Event) (es : List Entry) (f : ℕ) (r : Result Mark Refusal) : Type 0 where
  pub refused : (r ≡ Err NoSuchMember) ↔ (Fault m f → ⊥)
  pub undetectable : (r ≡ Ok Undetectable) ↔ (Fault m f × SomeOf (JudgedWell f) evs × Equivalent m 0 f)
  pub found : (n : ℕ) → (r ≡ Ok (Found n)) ↔ (Fault m f × First m es f n)
  pub cases : (r ≡ Err NoSuchMember) ⊎ ((r ≡ Ok Undetectable) ⊎ (((n : ℕ) × (r ≡ Ok (Found n))) ⊎ (r ≡ Ok Open)))

-- which refusal a judgement gets
abbrev pub TrueRefusal : Machine → List Call → List Entry → ℕ → ℕ → ℕ → Refusal → Type 0
TrueRefusal m cs es f v w r =
    ((r ≡ NoSuchMember) × (Fault m f → ⊥))
    ⊎ (Fault m f × (((r ≡ FaultNotOpen) × Settled m cs es f)
    ⊎ ((Settled m cs es f → ⊥) × KeepingRefused m es f v w r)))

-- what a judgement answers is true: undetectable where no sequence distinguishes the fault, the next number where the least sequence is kept
abbrev pub TrueJudgement : Machine → List Call → List Entry → ℕ → ℕ → ℕ → Result (Option ℕ) Refusal → Type 0
TrueJudgement m cs es f v w (Ok None) = Fault m f × (Settled m cs es f → ⊥) × PairWork m v w × Equivalent m 0 f
TrueJudgement m cs es f v w (Ok (Some n)) = (n ≡ next_number es) × ((s : List ℕ) × CallKeeps m cs es (judge f v w) s f)
TrueJudgement m cs es f v w (Err r) = TrueRefusal m cs es f v w r

-- what was kept for a fault distinguishes it, and whatever does has at least as many letters
abbrev pub ShortestFor : Machine → Entry → Type 0
ShortestFor m e = (e.origin ≢ 0) → Distinguishes m 0 e.origin e.letters × ((t : List ℕ) → Distinguishes m 0 e.origin t → length e.letters ≤ length t)

-- what an event answered is true, after the events evs, by whose calls es are kept
abbrev pub TrueEvent : Machine → List Event → List Entry → Event → Type 0
TrueEvent m evs es (judged f v w r) = TrueJudgement m (calls evs) es f v w r
TrueEvent m evs es (admitted s r) = r ≡ admission m es s
TrueEvent m evs es (marked_as f r) = TrueMark m evs es f r
TrueEvent m evs es (was_read n old place r new) = ReadOut es n old place r new × (Numbered es n → ShortestFor m (numbered es n))

-- every event of a history was answered truly, each by the calls before it
pub data ToldTruly (m : Machine) : List Event → Type 0 where
  begin : ToldTruly m []
  next : {e : Event} {evs : List Event} {es : List Entry} → ToldTruly m evs → KeptBy m (calls evs) es → TrueEvent m evs es e → ToldTruly m (e ∷ evs)

-- whatever calls follow, in any number and order, their history is told truly
abbrev pub Lawful : Machine → Book → Type 0
Lawful m start = (evs : List Event) (after : Book) → Run m start evs after → ToldTruly m evs
