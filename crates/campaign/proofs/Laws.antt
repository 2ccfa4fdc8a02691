-- Every history of calls on a fresh campaign is told truly, by induction over the calls.
use Rattle.std.proofs.Common.{◌≡◌, ℕ, true, List, [], ◌∷◌, length, get_or, Some, None, Ok, Err, Option, Result, sym, refl, ap, ◌∙◌, subst, inl, inr, arith}
use Rattle.std.proofs.lemmas.Bool.Decides.{nat_tests}
use Rattle.machine.specs.Machines.{Machine}
use Rattle.machine.specs.Outputs.{Distinguishes, Equivalent, LeastDistinguishing}
use Rattle.machine.specs.Sequences.{legal}
use Rattle.machine.specs.declared.refusal.Refusal.{Refusal}
use Rattle.compare.specs.Comparisons.{PairWork}
use Rattle.campaign.specs.Books.{Entry, entry, Book, mark_of}
use Rattle.campaign.specs.Histories.{judge, Event, judged, admitted, marked_as, was_read, calls, Run, made, after_judge, after_admit, after_mark, after_read, Judges, CallKeeps, none, TrueRefusal, ShortestFor, begin, Lawful}
use Rattle.campaign.specs.Rules.{Fault, HasNumber, HasLetters, ShortWork, Fresh, Keeps, admission, Admitted, JudgementRefused, Judged}
use Rattle.campaign.specs.declared.mark.Mark.{Mark}
use Rattle.campaign.specs.declared.mark.Mark.TheVariants.{Open}
use Rattle.campaign.proofs.Differences.{legal_letters, at_most_length, equivalent_never, least_same}
use Rattle.campaign.proofs.Grades.{all_open}
use Rattle.campaign.proofs.Steps.{quiet, one_kept, one_settled}
use Rattle.campaign.proofs.Held.{Holds, open_unsettled, closed_settled, true_mark}

-- the invariant over a book
abbrev KeepsLaw : Machine → List Event → Book → Type 0
KeepsLaw m evs b = Holds m evs b.kept (λ f. mark_of b f)

-- the same entries
moved : {m : Machine} {evs : List Event} {es es' : List Entry} {marks : ℕ → Mark} → es' ≡ es → Holds m evs es marks → Holds m evs es' marks
moved {m} {evs} {es} {es'} {marks} e h = subst (λ (x : List Entry). Holds m evs x marks) (sym e) h

-- short work is not enough
short_long : (m : Machine) (v w : ℕ) → ShortWork m v w → PairWork m v w → ⊥
short_long m v w (inl s) p = let x = p.0 in omega arith
short_long m v w (inr s) p = let x = p.1 in omega arith

least_shortest : {m : Machine} {f : ℕ} {s : List ℕ} → LeastDistinguishing m 0 f s → ShortestFor m (entry s f)
least_shortest {m} {f} {s} l some = (l.distinguishes, λ t d. at_most_length s t (l.least t d))

-- a refused judgement
module _ {m : Machine} {evs : List Event} (b : Book) (f v w : ℕ) (r : Refusal) (h : KeepsLaw m evs b) where
  refused_true : JudgementRefused m b f v w r → TrueRefusal m (calls evs) b.kept f v w r
  refused_true (inl x) = inl x
  refused_true (inr (fault, inl (is, closed))) = inr (fault, inl (is, closed_settled h f fault closed))
  refused_true (inr (fault, inr (opened, x))) = inr (fault, inr (open_unsettled h f fault opened, x))

  refused_keeps : JudgementRefused m b f v w r → (s : List ℕ) (origin : ℕ) → CallKeeps m (calls evs) b.kept (judge f v w) s origin → ⊥
  refused_keeps (inl (is, out)) s origin c = out c.1
  refused_keeps (inr (fault, inl (is, closed))) s origin c = c.2 (closed_settled h f fault closed)
  refused_keeps (inr (fault, inr (opened, inl (is, short)))) s origin c = short_long m v w short c.3
  refused_keeps (inr (fault, inr (opened, inr (work, (t, least, inl (is, full)))))) s origin c = let few = c.5 in omega arith
  refused_keeps (inr (fault, inr (opened, inr (work, (t, least, inr (few, is, long)))))) s origin c =
      let same : length s ≡ length t = ap length (least_same m 0 f s t c.4 least) in
      let fits = c.6 in
      omega arith

  refused_judges : JudgementRefused m b f v w r → (g : ℕ) → Fault m g → Equivalent m 0 g → Judges m g (judge f v w) → mark_of b g ≡ Open → ⊥
  refused_judges x g fault same j o = go x
    where
      is_f : g ≡ f
      is_f = sym j.0

      go : JudgementRefused m b f v w r → ⊥
      go (inl (is, out)) = out (subst (λ (k : ℕ). Fault m k) is_f fault)
      go (inr (there, inl (is, closed))) = closed (subst (λ (k : ℕ). mark_of b k ≡ Open) is_f o)
      go (inr (there, inr (opened, inl (is, short)))) = short_long m v w short j.1
      go (inr (there, inr (opened, inr (work, (t, least, full))))) = equivalent_never m 0 f (subst (λ (k : ℕ). Equivalent m 0 k) is_f same) t least.distinguishes

step_judged : {m : Machine} {evs : List Event} (before after : Book) (f v w : ℕ) (r : Result (Option ℕ) Refusal) → KeepsLaw m evs before → Judged m before f v w r after → KeepsLaw m (judged f v w r ∷ evs) after
step_judged before after f v w (Ok None) h p =
    moved p.4.kept (one_settled h p.0 p.1 p.2 p.3 p.4.here p.4.elsewhere)
step_judged {m} {evs} before after f v w (Ok (Some n)) h p =
    moved x.4.kept (one_kept h (judged f v w (Ok (Some n))) (p.3.0, (x.0, keeps)) keeps x.1.distinguishes.letters x.4.marks
    (λ g j. subst (λ (k : ℕ). Distinguishes m 0 k x.0) j.0 x.1.distinguishes)
    (λ g q. (q, p.2)) (least_shortest x.1))
  where
    x : (s : List ℕ) × LeastDistinguishing m 0 f s × HasNumber before.kept × HasLetters before.kept s × Keeps m before s f after
    x = p.3.1

    keeps : CallKeeps m (calls evs) before.kept (judge f v w) x.0 f
    keeps = (refl, p.0, open_unsettled h f p.0 p.1, p.2, x.1, x.2, x.3)
step_judged {m} {evs} before after f v w (Err r) h p =
    subst (λ (b : Book). KeepsLaw m (judged f v w (Err r) ∷ evs) b) (sym p.1)
    (quiet h (judged f v w (Err r)) (refused_true before f v w r h p.0) (refused_keeps before f v w r h p.0) (refused_judges before f v w r h p.0) (λ g x. x))

-- what an admission's answer says of the sequence
module _ (m : Machine) (es : List Entry) (s : List ℕ) where
  admits : (n : ℕ) → admission m es s ≡ Ok n → (legal m.letters s ≡ true) × HasNumber es × HasLetters es s
  admits n e = (grind (arith, nat_tests), grind (arith, nat_tests), grind (arith, nat_tests))

  refuses : (r : Refusal) → admission m es s ≡ Err r → (legal m.letters s ≡ true) → HasNumber es → HasLetters es s → ⊥
  refuses r e p q x = grind (arith, nat_tests)

-- what is kept with origin 0 was kept for no fault
client_shortest : (m : Machine) (s : List ℕ) → ShortestFor m (entry s 0)
client_shortest m s some = absurd (some refl)

step_admitted : {m : Machine} {evs : List Event} (before after : Book) (s : List ℕ) (r : Result ℕ Refusal) → KeepsLaw m evs before → Admitted m before s r after → KeepsLaw m (admitted s r ∷ evs) after
step_admitted {m} {evs} before after s (Ok n) h p =
    let x = admits m before.kept s n p.0 in
    moved p.1.kept (one_kept h (admitted s (Ok n)) (sym p.0) (refl, refl, x.0, x.1, x.2) (legal_letters m.letters s x.0) p.1.marks
    (λ f j. absurd j) (λ f w. absurd w) (client_shortest m s))
step_admitted {m} {evs} before after s (Err r) h p =
    subst (λ (b : Book). KeepsLaw m (admitted s (Err r) ∷ evs) b) (sym p.1)
    (quiet h (admitted s (Err r)) (sym p.0) (λ t origin c. refuses m before.kept s r p.0 c.2 c.3 c.4) (λ f fault same j o. j) (λ f w. w))

start_holds : (m : Machine) (start : Book) → Fresh start → KeepsLaw m [] start
start_holds m start fresh = moved fresh.none_kept (record {
  told = begin;
  kept = none;
  shortest = λ n i. let low = i.0 in let high = i.1 in absurd (omega arith);
  open_none = λ f fault p n i d. let low = i.0 in let high = i.1 in omega arith;
  found_first = λ f n fault p. absurd (cc (opened f));
  never = λ f fault p. absurd (cc (opened f));
  settles = λ f fault same js p. js;
  worked = λ f ws. absurd ws;
})
  where
    opened : (f : ℕ) → mark_of start f ≡ Open
    opened f = ap (λ (ms : List Mark). get_or ms f Open) fresh.all_open ∙ all_open 1025 f

run_holds : {m : Machine} {start : Book} {evs : List Event} {after : Book} → Fresh start → Run m start evs after → KeepsLaw m evs after
run_holds {m} {start} fresh made = start_holds m start fresh
run_holds fresh (after_judge {before = before} {after = after} f v w r run p) = step_judged before after f v w r (run_holds fresh run) p
run_holds fresh (after_admit {before = before} {after = after} s r run p) = step_admitted before after s r (run_holds fresh run) p
run_holds fresh (after_mark {before = before} f r run p) =
    let h = run_holds fresh run in
    quiet h (marked_as f r) (true_mark h f r p) (λ s origin c. c) (λ g fault same j o. j) (λ g x. x)
run_holds fresh (after_read {before = before} n old place r new run p) =
    let h = run_holds fresh run in
    quiet h (was_read n old place r new) (p, h.shortest n) (λ s origin c. c) (λ g fault same j o. j) (λ g x. x)

-- whatever calls follow a fresh campaign, their history is told truly
pub fresh_lawful : (m : Machine) (start : Book) → Fresh start → Lawful m start
fresh_lawful m start fresh evs after run = (run_holds fresh run).told
