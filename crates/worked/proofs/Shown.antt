-- Each worked case, by computing.
use Rattle.std.proofs.Common.{◌≡◌, ℕ, List, [], ◌∷◌, sym, refl, ap, ◌∙◌, inl, inr, ⊎_elim, arith}
use Rattle.std.proofs.lemmas.Bool.{both_ways}
use Rattle.machine.specs.Outputs.{Distinguishes, LeastDistinguishing, differ_at}
use Rattle.machine.specs.Products.{pair}
use Rattle.machine.specs.declared.pair.Pair.{Pair}
use Rattle.machine.specs.declared.refusal.Refusal.TheVariants.{FaultNotOpen}
use Rattle.compare.proofs.Closed.{closed_equivalent}
use Rattle.campaign.specs.Books.{entry}
use Rattle.campaign.specs.Histories.{judge, KeptBy, none, one_more, Settled}
use Rattle.worked.specs.Cases.{AllHold, Holds, equivalent, reach, found, refused, cases, diagonal, telling}
use Rattle.worked.specs.Controller.{controller, unseen}
use Rattle.worked.proofs.Reached.{reachable_by_test}
use Rattle.worked.proofs.Ways.{least_difference, least_way}

-- the least sequences to the pairs of a state with itself
abbrev ways : List (List ℕ)
ways = [] ∷ (0 ∷ []) ∷ (0 ∷ 1 ∷ []) ∷ (0 ∷ 1 ∷ 0 ∷ []) ∷ []

-- and to the pairs that are reached where no output is seen
abbrev all_ways : List (List ℕ)
all_ways = [] ∷ (0 ∷ []) ∷ (0 ∷ 1 ∷ []) ∷ (0 ∷ 1 ∷ 0 ∷ []) ∷ (0 ∷ 1 ∷ 0 ∷ 1 ∷ []) ∷ (0 ∷ 1 ∷ 0 ∷ 1 ∷ 0 ∷ []) ∷ []

abbrev pairs : List Pair
pairs = pair 0 0 ∷ pair 1 1 ∷ pair 2 2 ∷ pair 3 3 ∷ pair 0 3 ∷ pair 1 2 ∷ []

fault_1 : LeastDistinguishing controller 0 1 telling
fault_1 = least_difference controller 0 1 telling refl refl refl refl

fault_3 : LeastDistinguishing controller 0 3 (1 ∷ [])
fault_3 = least_difference controller 0 3 (1 ∷ []) refl refl refl refl

found_3 : Distinguishes controller 0 3 telling
found_3 = record { letters = fault_1.distinguishes.letters; place = 4; inside = omega arith; differs = refl }

-- judging 1 first
first_1 : KeptBy controller (judge 1 16 16 ∷ []) (entry telling 1 ∷ [])
first_1 = one_more telling 1 none (refl, (omega arith, omega arith), ⊎_elim (λ x. x) (λ x. x.1), (omega arith, omega arith), fault_1, omega arith, omega arith)

-- judging 3 first, then 1: the one letter for 3 does not distinguish 1
first_3 : KeptBy controller (judge 3 16 16 ∷ []) (entry (1 ∷ []) 3 ∷ [])
first_3 = one_more (1 ∷ []) 3 none (refl, (omega arith, omega arith), ⊎_elim (λ x. x) (λ x. x.1), (omega arith, omega arith), fault_3, omega arith, omega arith)

one_letter : Distinguishes controller 0 1 (1 ∷ []) → ⊥
one_letter d =
    let low = d.inside in
    let at : d.place ≡ 0 = omega arith in
    both_ways _ refl (ap (differ_at controller 0 1 (1 ∷ [])) (sym at) ∙ d.differs)

open_1 : Settled controller (judge 3 16 16 ∷ []) (entry (1 ∷ []) 3 ∷ []) 1 → ⊥
open_1 (inl (inl d)) = one_letter d
open_1 (inl (inr n)) = n
open_1 (inr (e, inl j)) = let same = j.0 in omega arith
open_1 (inr (e, inr n)) = n

then_1 : KeptBy controller (judge 1 16 16 ∷ judge 3 16 16 ∷ []) (entry (1 ∷ []) 3 ∷ entry telling 1 ∷ [])
then_1 = one_more telling 1 first_3 (refl, (omega arith, omega arith), open_1, (omega arith, omega arith), fault_1, omega arith, omega arith)

same_0 : Holds (equivalent controller 0 0 diagonal)
same_0 = (closed_equivalent controller 0 0 diagonal refl, reachable_by_test controller 0 0 diagonal ways refl refl refl refl)

same_2 : Holds (equivalent controller 0 2 diagonal)
same_2 = (closed_equivalent controller 0 2 diagonal refl, reachable_by_test controller 0 2 diagonal ways refl refl refl refl)

unseen_1 : Holds (equivalent unseen 0 1 pairs)
unseen_1 = (closed_equivalent unseen 0 1 pairs refl, reachable_by_test unseen 0 1 pairs all_ways refl refl refl refl)

way_to_3 : Holds (reach controller 0 3 (0 ∷ 1 ∷ 0 ∷ []))
way_to_3 = least_way controller 0 3 (0 ∷ 1 ∷ 0 ∷ []) refl refl refl refl

found_by_1 : (f : ℕ) → Distinguishes controller 0 f telling → Holds (found controller (judge 1 16 16 ∷ []) (entry telling 1 ∷ []) f 1)
found_by_1 f d = (first_1, record { is_kept = (omega arith, omega arith); distinguishes = d; earliest = λ k h e. h.0 })

refused_3 : Holds (refused controller (judge 1 16 16 ∷ []) (entry telling 1 ∷ []) 3 FaultNotOpen)
refused_3 = (first_1, inr ((omega arith, omega arith), inl (refl, inl (inl found_3))))

pub all_hold : AllHold cases
all_hold = (fault_1, (same_0, (same_2, (unseen_1, (refl, (refl, (way_to_3, (refl, (refl, (found_by_1 1 fault_1.distinguishes, (found_by_1 3 found_3, (refused_3, (then_1, tt)))))))))))))
