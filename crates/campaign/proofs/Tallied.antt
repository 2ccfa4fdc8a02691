-- One fault more is counted.
use Rattle.std.proofs.Common.{◌≡◌, ℕ, zero, suc, ◌+◌, ◌-◌, Bool, cond, [], ◌∷◌, ◌++◌, sym, ap, ◌∙◌, arith}
use Rattle.std.specs.Prelude.{Ok, count_by}
use Rattle.std.specs.List.{range_with_len}
use Rattle.std.proofs.lemmas.Bool.Decides.{nat_tests}
use Rattle.std.proofs.lemmas.List.Sums.{sum_by_push}
use Rattle.machine.specs.Machines.{Machine}
use Rattle.campaign.specs.Books.{Book, mark_of}
use Rattle.campaign.specs.Rules.{Fault, marked}
use Rattle.campaign.specs.Tallies.{answers, faults_marked}
use Rattle.campaign.specs.declared.mark.Mark.{Mark}

range_push : (a n j : ℕ) → a + n ≡ j → range_with_len a (suc n) ≡ range_with_len a n ++ j ∷ []
range_push a zero j e = let is : a ≡ j = omega arith in ap (λ k. k ∷ []) is
range_push a (suc n) j e = ap (λ ks. a ∷ ks) (range_push (a + 1) n j (omega arith))

module _ (p : Mark → Bool) (m : Machine) (b : Book) where
  abbrev passes : ℕ → Bool
  passes f = answers p (marked m b f)

  -- how many faults below f have a mark that passes
  abbrev pub marked_before : ℕ → ℕ
  marked_before f = count_by passes (range_with_len 1 (f - 1))

  fault_marked : (f : ℕ) → Fault m f → marked m b f ≡ Ok (mark_of b f)
  fault_marked f (low, high) = grind (arith, nat_tests)

  -- t counts up to fault f, and u one fault more
  pub counted_more : (t u f g : ℕ) → t ≡ marked_before f → u ≡ t + cond (p (mark_of b f)) 1 0 → Fault m f → g ≡ f + 1 → u ≡ marked_before g
  counted_more t u f g counted more fault e =
      let low = fault.0 in
      let is : suc (f - 1) ≡ g - 1 = omega arith in
      more ∙ ap (λ k. k + cond (p (mark_of b f)) 1 0) counted
      ∙ ap (λ r. marked_before f + cond (answers p r) 1 0) (sym (fault_marked f fault))
      ∙ sym (sum_by_push (λ h. cond (passes h) 1 0) (range_with_len 1 (f - 1)) f)
      ∙ ap (count_by passes) (sym (range_push 1 (f - 1) f (omega arith)))
      ∙ ap (λ k. count_by passes (range_with_len 1 k)) is

  pub all_counted : (t f : ℕ) → t ≡ marked_before f → f ≡ m.members → t ≡ faults_marked p m b
  all_counted t f counted e = counted ∙ ap marked_before e
