-- What every history of calls keeps, and what follows from it for one fault.
use Rattle.std.proofs.Common.{◌≡◌, ℕ, ◌<◌, ◌≤◌, cond, ◌&&◌, ltb, ◌⊎◌, List, Ok, Err, Result, refl, ap, ◌∙◌, inl, inr, arith}
use Rattle.std.proofs.lemmas.Bool.{cases_lt}
use Rattle.std.proofs.lemmas.Bool.Decides.{nat_tests}
use Rattle.machine.specs.Machines.{Machine}
use Rattle.machine.specs.Outputs.{Distinguishes, Equivalent}
use Rattle.machine.specs.declared.refusal.Refusal.{Refusal}
use Rattle.machine.specs.declared.refusal.Refusal.TheVariants.{NoSuchMember}
use Rattle.campaign.specs.Books.{Entry, Numbered, numbered}
use Rattle.campaign.specs.Histories.{Event, calls, SomeOf, Judges, Settled, KeptBy, JudgedWell, First, TrueMark, ShortestFor, ToldTruly}
use Rattle.campaign.specs.Rules.{Fault}
use Rattle.campaign.specs.declared.mark.Mark.{Mark}
use Rattle.campaign.specs.declared.mark.Mark.TheVariants.{Open, Found, Undetectable}
use Rattle.campaign.proofs.Differences.{equivalent_never}
use Rattle.campaign.proofs.Grades.{some_number, number_some}

-- after the events evs, whose calls kept es, with the marks of the faults
pub record Holds (m : Machine) (evs : List Event) (es : List Entry) (marks : ℕ → Mark) : Type 0 where
  pub told : ToldTruly m evs
  pub kept : KeptBy m (calls evs) es
  pub shortest : (n : ℕ) → Numbered es n → ShortestFor m (numbered es n)
  pub open_none : (f : ℕ) → Fault m f → marks f ≡ Open → (n : ℕ) → Numbered es n → Distinguishes m 0 f (numbered es n).letters → ⊥
  pub found_first : (f n : ℕ) → Fault m f → marks f ≡ Found n → First m es f n
  pub never : (f : ℕ) → Fault m f → marks f ≡ Undetectable → SomeOf (JudgedWell f) evs × Equivalent m 0 f
  pub settles : (f : ℕ) → Fault m f → Equivalent m 0 f → SomeOf (Judges m f) (calls evs) → marks f ≡ Open → ⊥
  pub worked : (f : ℕ) → SomeOf (JudgedWell f) evs → SomeOf (Judges m f) (calls evs)

-- two first ones are one
first_same : (m : Machine) (es : List Entry) (f n k : ℕ) → First m es f n → First m es f k → n ≡ k
first_same m es f n k a b =
    let x = a.earliest k b.is_kept b.distinguishes in
    let y = b.earliest n a.is_kept a.distinguishes in
    omega arith

module _ {m : Machine} {evs : List Event} {es : List Entry} {marks : ℕ → Mark} (h : Holds m evs es marks) (f : ℕ) (fault : Fault m f) where
  found_never : (n : ℕ) → marks f ≡ Found n → Equivalent m 0 f → ⊥
  found_never n e same = equivalent_never m 0 f same _ (h.found_first f n fault e).distinguishes

  is_undetectable : Equivalent m 0 f → SomeOf (Judges m f) (calls evs) → marks f ≡ Undetectable
  is_undetectable same judged = go (marks f) refl
    where
      go : (k : Mark) → marks f ≡ k → k ≡ Undetectable
      go Open e = absurd (h.settles f fault same judged e)
      go (Found n) e = absurd (found_never n e same)
      go Undetectable e = refl

  is_found : (n : ℕ) → First m es f n → marks f ≡ Found n
  is_found n first = go (marks f) refl
    where
      go : (k : Mark) → marks f ≡ k → k ≡ Found n
      go Open e = absurd (h.open_none f fault e n first.is_kept first.distinguishes)
      go (Found i) e = ap Found (first_same m es f i n (h.found_first f i fault e) first)
      go Undetectable e = absurd (equivalent_never m 0 f (h.never f fault e).1 _ first.distinguishes)

  pub open_unsettled : marks f ≡ Open → Settled m (calls evs) es f → ⊥
  open_unsettled e (inl some) =
      let x = some_number (λ k. Distinguishes m 0 f k.letters) es some in
      h.open_none f fault e x.0 x.1 x.2
  open_unsettled e (inr x) = h.settles f fault x.0 x.1 e

  pub closed_settled : (marks f ≡ Open → ⊥) → Settled m (calls evs) es f
  closed_settled closed = go (marks f) refl
    where
      go : (k : Mark) → marks f ≡ k → Settled m (calls evs) es f
      go Open e = absurd (closed e)
      go (Found n) e =
          let first = h.found_first f n fault e in
          inl (number_some (λ k. Distinguishes m 0 f k.letters) es n first.is_kept first.distinguishes)
      go Undetectable e = let x = h.never f fault e in inr (x.1, h.worked f x.0)

  mark_told : (r : Result Mark Refusal) → r ≡ Ok (marks f) → TrueMark m evs es f r
  mark_told r e = record {
    refused = (λ o. absurd (cc), λ out. absurd (out fault));
    undetectable = (
      λ o. let u : marks f ≡ Undetectable = cc in let x = h.never f fault u in (fault, x.0, x.1),
      λ x. e ∙ ap Ok (is_undetectable x.2 (h.worked f x.1)),
    );
    found = λ n. (
      λ o. let u : marks f ≡ Found n = cc in (fault, h.found_first f n fault u),
      λ x. e ∙ ap Ok (is_found n x.1),
    );
    cases = go (marks f) refl;
  }
    where
      go : (k : Mark) → marks f ≡ k → (r ≡ Err NoSuchMember) ⊎ ((r ≡ Ok Undetectable) ⊎ (((n : ℕ) × (r ≡ Ok (Found n))) ⊎ (r ≡ Ok Open)))
      go Open o = inr (inr (inr (e ∙ ap Ok o)))
      go (Found n) o = inr (inr (inl (n, e ∙ ap Ok o)))
      go Undetectable o = inr (inl (e ∙ ap Ok o))

-- what is no fault is refused
mark_refused : (m : Machine) (evs : List Event) (es : List Entry) (f : ℕ) (r : Result Mark Refusal) → (Fault m f → ⊥) → r ≡ Err NoSuchMember → TrueMark m evs es f r
mark_refused m evs es f r out e = record {
  refused = (λ o. out, λ x. e);
  undetectable = (λ o. absurd (cc), λ x. absurd (out x.0));
  found = λ n. (λ o. absurd (cc), λ x. absurd (out x.0));
  cases = inl e;
}

pub true_mark : {m : Machine} {evs : List Event} {es : List Entry} {marks : ℕ → Mark} → Holds m evs es marks → (f : ℕ) (r : Result Mark Refusal) → r ≡ cond (ltb 0 f && ltb f m.members) (Ok (marks f)) (Err NoSuchMember) → TrueMark m evs es f r
true_mark {m} {evs} {es} {marks} h f r e = go (cases_lt 0 f) (cases_lt f m.members)
  where
    go : (0 < f) ⊎ (f ≤ 0) → (f < m.members) ⊎ (m.members ≤ f) → TrueMark m evs es f r
    go (inl some) (inl low) = mark_told h f (some, low) r (grind (arith, nat_tests))
    go (inr none) low = mark_refused m evs es f r (λ x. let some = x.0 in omega arith) (grind (arith, nat_tests))
    go some (inr high) = mark_refused m evs es f r (λ x. let low = x.1 in omega arith) (grind (arith, nat_tests))
