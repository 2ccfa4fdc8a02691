-- What a ledger says is within the limits, from its ghost fields.
use Rattle.std.specs.Prelude.{◌≡◌, ℕ, ◌+◌, ◌≤◌, List, [], ◌∷◌, map, drop, length, All, sum_by}
use Rattle.std.proofs.Common.{suc, refl, ◌∙◌, arith}
use Rattle.std.proofs.lemmas.List.{length-drop, length-map, length-take-le}
use Rattle.std.proofs.lemmas.List.Sums.{sum_by-cons}
use Rattle.campaign.specs.Books.{Entry, part, entry_of, letters_in, book}
use Rattle.campaign.specs.Standings.{WithinLimits}
use Rattle.campaign.specs.declared.ledger.Kept.{Kept}
use Rattle.campaign.specs.declared.ledger.Ledger.{Ledger}

-- how many letters the entries have together
letters_total : (letters : List ℕ) (ks : List Kept) → All (λ k. k.start + k.length ≤ length letters) ks → sum_by (λ e. length e.letters) (map (entry_of letters) ks) ≡ sum_by (λ k. k.length) ks
letters_total letters [] inside = refl
letters_total letters (k ∷ ks) inside =
    let fits = inside 0 k (omega arith) in
    let here : length (part k.start k.length letters) ≡ k.length = length-take-le k.length (drop k.start letters) (omega (arith, length-drop k.start letters)) in
    let rest = letters_total letters ks (λ i d low. inside (suc i) d (omega arith)) in
    omega (arith, sum_by-cons {X = Entry}, sum_by-cons {X = Kept})

pub letters_used : (l : Ledger) → letters_in (book l).kept ≡ l.used
letters_used l =
    let few = l.few in
    let full = l.all_letters in
    letters_total l.letters l.kept.items (λ i d low. let lies = l.inside i d low in omega arith) ∙ l.summed

pub within_limits : (l : Ledger) → WithinLimits (book l)
within_limits l = record {
  sequences = let few = l.numbered in omega (arith, length-map l.kept.items (entry_of l.letters));
  letters = let few = l.few in omega (arith, letters_used l);
  members = l.all_marks;
}
