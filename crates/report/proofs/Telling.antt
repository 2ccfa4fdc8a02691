-- What a search over two tables says.
use Rattle.std.proofs.Common.{◌≡◌, ℕ, ◌≤◌, List, [], ◌∷◌, map, length, take, drop, Err, refl, ap, ◌∙◌, arith}
use Rattle.std.proofs.lemmas.List.{take_at}
use Rattle.std.proofs.lemmas.Nat.{mul-le}
use Rattle.machine.specs.Slices.{FirstEntries}
use Rattle.machine.specs.declared.pair.Pair.{Pair}
use Rattle.machine.specs.declared.refusal.Refusal.TheVariants.{WorkTooShort}
use Rattle.search.specs.Errors.{refusal_of}
use Rattle.search.specs.declared.search_error.SearchError.{SearchError}
use Rattle.search.specs.declared.search_error.SearchError.TheVariants as error
use Rattle.search.specs.declared.visit.Visit.{Visit}
use Rattle.compare.specs.Comparisons.{FewLetters, PairsSearched, positions}
use Rattle.report.specs.Names.{visit_names}
use Rattle.report.specs.Reports.{TooFew}
use Rattle.report.specs.Sources.{machines_of, names_held}
use Rattle.report.specs.declared.tables.Tables.{Tables}

-- what stands in the first entries of a slice
pub taken : {A : Type 0} (xs old new : List A) (n : ℕ) → FirstEntries xs old new → length xs ≡ n → take n new ≡ xs
taken xs old new n f e = ap (take n) f.1 ∙ take_at xs (drop (length xs) old) n e

-- the names of the pairs, one by one
pub names_same : (t : Tables) (vs : List (Visit Pair)) → map (visit_names t.good.names t.faulty.names) vs ≡ map (names_held t) (positions vs)
names_same t [] = refl
names_same t (v ∷ vs) = ap (λ (ps : List (List ℕ × List ℕ)). visit_names t.good.names t.faulty.names v ∷ ps) (names_same t vs)

-- a search with room for 65,536 letters fails for its work slices only
pub too_few : (t : Tables) (v w : ℕ) (letters letters' : List ℕ) (xs : List (Visit Pair)) (e : SearchError) → length letters ≡ 65536 → PairsSearched (machines_of t) 0 1 v w letters (Err e) xs letters' → FewLetters (machines_of t) 0 1 (Err e) → (refusal_of e ≡ WorkTooShort) × TooFew (machines_of t) v w
too_few t v w letters letters' xs error.WorkTooShort room h few = (refl, h.0)
too_few t v w letters letters' xs error.AnswerTooShort room h few =
    let n : ℕ = (machines_of t).states in
    let few_states : n ≤ 256 = omega (arith, t.good.in_range.few_states, t.faulty.in_range.few_states) in
    absurd (omega (arith, mul-le n n 256 256 few_states few_states, few h.1.0 h.1.1, h.1.2))
