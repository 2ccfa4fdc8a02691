-- What the parts of a campaign do to a ledger.
use Rattle.std.specs.Prelude.{◌≡◌, ℕ, ◌+◌, ◌<◌, ◌≤◌, List, [], ◌∷◌, ◌++◌, length, Some, None, Ok, Err, Option, Result, ◌≢◌, slice_index_or}
use Rattle.machine.specs.Machines.{Machine}
use Rattle.machine.specs.Outputs.{Equivalent, LeastDistinguishing}
use Rattle.machine.specs.declared.refusal.Refusal.{Refusal}
use Rattle.compare.specs.Comparisons.{PairWork}
use Rattle.search.specs.declared.found.Found.{Found}
use Rattle.search.specs.declared.found.Found.TheVariants.{Goal, Exhausted}
use Rattle.search.specs.declared.search_error.SearchError.{SearchError}
use Rattle.search.specs.declared.search_error.SearchError.TheVariants.{WorkTooShort, AnswerTooShort}
use Rattle.campaign.specs.Books.{Book, book, letters_in, part, entry_of}
use Rattle.campaign.specs.Rules.{Fault, HasNumber, HasLetters, ShortWork, KeepsLeast, KeepingRefused, graded}
use Rattle.campaign.specs.declared.ledger.Kept.{Kept}
use Rattle.campaign.specs.declared.ledger.Ledger.{Ledger}
use Rattle.campaign.specs.declared.mark.Mark.{Mark}
use Rattle.campaign.specs.declared.mark.Mark.TheVariants.{Open}

-- all but the marks is as before
pub record SameKept (before after : Ledger) : Type 0 where
  pub kept : after.kept ≡ before.kept
  pub letters : after.letters ≡ before.letters
  pub used : after.used ≡ before.used

-- the mark of fault f is k, and nothing else changes
pub record Remarked (before : Ledger) (f : ℕ) (k : Mark) (after : Ledger) : Type 0 where
  pub here : slice_index_or after.marks f Open ≡ k
  pub elsewhere : (g : ℕ) → (g ≢ f) → slice_index_or after.marks g Open ≡ slice_index_or before.marks g Open
  pub same : SameKept before after

-- the entry k is kept last, and nothing else changes
pub record Appended (before : Ledger) (k : Kept) (after : Ledger) : Type 0 where
  pub kept : (book after).kept ≡ (book before).kept ++ entry_of before.letters k ∷ []
  pub marks : after.marks ≡ before.marks
  pub letters : after.letters ≡ before.letters

-- where the letters of the next sequence go: behind the used ones, unless all numbers are given
abbrev pub NextPlace : Ledger → Option ℕ → Type 0
NextPlace l (Some place) = HasNumber (book l).kept × (place ≡ l.used)
NextPlace l None = 256 ≤ length (book l).kept

-- every fault is graded by s under a number, and nothing else changes
pub record Graded (m : Machine) (before : Ledger) (s : List ℕ) (number : ℕ) (after : Ledger) : Type 0 where
  pub marks : (f : ℕ) → Fault m f → slice_index_or after.marks f Open ≡ graded m s number f (slice_index_or before.marks f Open)
  pub same : SameKept before after

-- the n letters behind the used ones are the least sequence that distinguishes fault f, and it can be kept
pub record FoundNext (m : Machine) (l : Ledger) (f n : ℕ) : Type 0 where
  pub number : HasNumber (book l).kept
  pub room : l.used + n ≤ 16384
  pub least : LeastDistinguishing m 0 f (part l.used n l.letters)
  pub fits : HasLetters (book l).kept (part l.used n l.letters)

-- the least sequence that distinguishes fault f has too many letters for those that are left, where a number is left
abbrev pub FitsNowhere : Machine → Book → ℕ → Type 0
FitsNowhere m b f = (s : List ℕ) × LeastDistinguishing m 0 f s × (HasNumber b.kept → 16384 < letters_in b.kept + length s)

-- what a search for the least sequence of fault f leaves in a ledger, which says what it said
abbrev pub SearchedInto : Machine → Ledger → ℕ → ℕ → ℕ → Result Found SearchError → Ledger → Type 0
SearchedInto m before f v w (Ok (Goal n)) after = PairWork m v w × FoundNext m after f n × (book after ≡ book before)
SearchedInto m before f v w (Ok (Exhausted n)) after = PairWork m v w × Equivalent m 0 f × (book after ≡ book before)
SearchedInto m before f v w (Err WorkTooShort) after = ShortWork m v w × (book after ≡ book before)
SearchedInto m before f v w (Err AnswerTooShort) after = PairWork m v w × FitsNowhere m (book after) f × (book after ≡ book before)

-- the least sequence that distinguishes fault f is kept under the next number, or there is none, or it finds no place
abbrev pub LeastKept : Machine → Book → ℕ → ℕ → ℕ → Result (Option ℕ) Refusal → Book → Type 0
LeastKept m before f v w (Ok (Some n)) after = PairWork m v w × KeepsLeast m before f n after
LeastKept m before f v w (Ok None) after = PairWork m v w × Equivalent m 0 f × (after ≡ before)
LeastKept m before f v w (Err r) after = KeepingRefused m before.kept f v w r × (after ≡ before)
