-- What a write behind the used letters of a ledger leaves: the same entries.
use Rattle.std.proofs.Common.{◌≡◌, ℕ, suc, ◌+◌, ◌≤◌, List, [], ◌∷◌, map, take, drop, All, sym, refl, ap, ◌∙◌, arith}
use Rattle.std.proofs.lemmas.List.{take-take, drop-take}
use Rattle.campaign.specs.Books.{Entry, entry_of, book}
use Rattle.campaign.specs.declared.ledger.Kept.{Kept}
use Rattle.campaign.specs.declared.ledger.Ledger.{Ledger}

-- a part that lies in a front depends on the front alone
part_same : (xs ys : List ℕ) (u a n : ℕ) → a + n ≤ u → take u xs ≡ take u ys → take n (drop a xs) ≡ take n (drop a ys)
part_same xs ys u a n h e =
    sym (drop-take a n xs)
    ∙ ap (drop a) (sym (take-take (a + n) u xs h) ∙ ap (take (a + n)) e ∙ take-take (a + n) u ys h)
    ∙ drop-take a n ys

entries_same : (ks : List Kept) (u : ℕ) (xs ys : List ℕ) → All (λ k. k.start + k.length ≤ u) ks → take u xs ≡ take u ys → map (entry_of xs) ks ≡ map (entry_of ys) ks
entries_same [] u xs ys inside e = refl
entries_same (k ∷ ks) u xs ys inside e =
    let here = part_same xs ys u k.start k.length (inside 0 k (omega arith)) e in
    let rest = entries_same ks u xs ys (λ i d low. inside (suc i) d (omega arith)) e in
    cc

-- what a ledger says with these letters in place of its own
pub book_same : (l : Ledger) (letters : List ℕ) → take l.used letters ≡ take l.used l.letters → record { marks = l.marks; kept = map (entry_of letters) l.kept.items } ≡ book l
book_same l letters front = ap (λ (es : List Entry). record { marks = l.marks; kept = es }) (entries_same l.kept.items l.used letters l.letters l.inside front)
