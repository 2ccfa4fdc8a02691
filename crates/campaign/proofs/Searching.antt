-- A search that writes behind the used letters of a ledger.
use Rattle.std.proofs.Common.{◌≡◌, ℕ, ◌-◌, ◌≤◌, List, ◌++◌, length, take, drop, Ok, Err, Result, Option, Some, None, sym, ap, ◌∙◌, arith}
use Rattle.std.specs.Option.{unwrap_or}
use borrow.Rule.Slice.PartMut.{put_mid}
use Rattle.std.proofs.lemmas.List.{length-take-le, length-drop, take_at, drop_at, append_assoc}
use Rattle.std.proofs.lemmas.Slice.{take-put_mid_below}
use Rattle.machine.specs.Machines.{Machine}
use Rattle.machine.specs.Outputs.{LeastDistinguishing}
use Rattle.machine.specs.declared.pair.Pair.{Pair}
use Rattle.compare.specs.Comparisons.{PairsSearched}
use Rattle.search.specs.declared.found.Found.{Found}
use Rattle.search.specs.declared.found.Found.TheVariants.{Goal, Exhausted}
use Rattle.search.specs.declared.search_error.SearchError.{SearchError}
use Rattle.search.specs.declared.search_error.SearchError.TheVariants.{WorkTooShort, AnswerTooShort}
use Rattle.search.specs.declared.visit.Visit.{Visit}
use Rattle.campaign.specs.Books.{Book, book, letters_in, part}
use Rattle.campaign.specs.Ledgers.{NextPlace, FoundNext, SearchedInto}
use Rattle.campaign.specs.Limits.{letters_used}
use Rattle.campaign.specs.Rules.{HasNumber}
use Rattle.campaign.specs.declared.ledger.Ledger.{Ledger}
use Rattle.campaign.proofs.Entries.{book_same}

-- the part from a place on holds a sequence that was written into its first entries
written : (start n : ℕ) (xs s rest : List ℕ) → start ≤ length xs → length s ≡ n → part start n (put_mid start (length xs - start) xs (s ++ rest)) ≡ s
written start n xs s rest h size =
    ap (take n) (drop_at (take start xs) _ start (length-take-le start xs h) ∙ append_assoc s rest _) ∙ take_at s _ n size

-- where a search writes: where the next sequence goes, and past all letters where there is no such place
pub record Start (l : Ledger) (start : ℕ) : Type 0 where
  pub numbered : HasNumber (book l).kept → start ≡ l.used
  pub full : 256 ≤ length (book l).kept → start ≡ 16384
  pub behind : l.used ≤ start
  pub within : start ≤ 16384

pub start_of : (l : Ledger) (p : Option ℕ) (start : ℕ) → start ≡ unwrap_or p 16384 → NextPlace l p → Start l start
start_of l (Some place) start e (number, is) = record { numbered = λ h. e ∙ is; full = λ h. omega arith; behind = omega arith; within = let few = l.few in omega arith }
start_of l None start e given = record { numbered = λ h. omega arith; full = λ h. e; behind = let few = l.few in omega arith; within = omega arith }

module _ (m : Machine) (before after : Ledger) (f v w start : ℕ) (new : List ℕ) (full : length before.letters ≡ 16384)
    (next : Start before start)
    (letters : after.letters ≡ put_mid start (16384 - start) before.letters new)
    (marks : after.marks ≡ before.marks) (kept : after.kept ≡ before.kept) (used : after.used ≡ before.used) where
  same : book after ≡ book before
  same =
      let front = ap (take before.used) letters ∙ take-put_mid_below start (16384 - start) before.letters new before.used next.behind (omega arith) in
      cc (book_same before after.letters front)

  same_count : length (book after).kept ≡ length (book before).kept
  same_count = ap (λ (b : Book). length b.kept) same

  same_letters : letters_in (book after).kept ≡ letters_in (book before).kept
  same_letters = ap (λ (b : Book). letters_in b.kept) same

  -- how many letters there is room for
  room : length (take (16384 - start) (drop start before.letters)) ≡ 16384 - start
  room = let rest = length-drop start before.letters in length-take-le (16384 - start) (drop start before.letters) (omega arith)

  -- a sequence that distinguishes has letters, so there was a number for it
  numbered : (s : List ℕ) → LeastDistinguishing m 0 f s → length s ≤ 16384 - start → HasNumber (book before).kept
  numbered s least fits =
      let some = least.distinguishes.inside in
      grind (arith, next.full)

  pub searched_into : (r : Result Found SearchError) (xs : List (Visit Pair)) → PairsSearched m 0 f v w (take (16384 - start) (drop start before.letters)) r xs new → SearchedInto m before f v w r after
  searched_into (Ok (Goal n)) xs (work, (s, least, size, first)) =
      let fits = first.0 in
      let inside : length s ≤ 16384 - start = omega (arith, room) in
      let number = numbered s least inside in
      let at = next.numbered number in
      let here : part after.used n after.letters ≡ s =
      ap (λ (k : ℕ). part k n after.letters) (used ∙ sym at)
      ∙ ap (part start n) (letters ∙ ap (λ (k : ℕ). put_mid start (k - start) before.letters new) (sym full) ∙ ap (put_mid start (length before.letters - start) before.letters) first.1)
      ∙ written start n before.letters s _ (omega arith) size
      in
      let found : FoundNext m after f n = record {
        number = omega (arith, same_count);
        room = omega arith;
        least = rw here least;
        fits = rw here (omega (arith, same_letters, letters_used before));
      } in
      (work, found, same)
  searched_into (Ok (Exhausted n)) xs p = (p.0, p.1, same)
  searched_into (Err WorkTooShort) xs p = (p.0, same)
  searched_into (Err AnswerTooShort) xs (work, (s, least, long), kept) =
      (work, (s, least, λ number. let at = next.numbered (omega (arith, same_count)) in omega (arith, room, same_letters, letters_used before)), same)
