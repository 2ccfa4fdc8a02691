-- Least sequences by a computed test: to a difference, to a state, to a pair.
use Rattle.std.proofs.Common.{◌≡◌, ℕ, zero, suc, ◌<◌, Bool, true, false, not, ◌&&◌, eqb, ltb, List, [], ◌∷◌, length, get_or, is_some, Some, None, Option, refl, ap, ◌∙◌, arith}
use Rattle.std.proofs.lemmas.Bool.{eq-eqb, and_parts, ltb-true}
use Rattle.machine.specs.Lists.{all}
use Rattle.machine.specs.Machines.{Machine, reset_of, step_of}
use Rattle.machine.specs.Outputs.{LeastDistinguishing}
use Rattle.machine.specs.Products.{pair, pair_at, state_from, reset_pair, pair_after, LeastWay, LeastTo}
use Rattle.machine.specs.Sequences.{Letters}
use Rattle.machine.specs.declared.pair.Pair.{Pair}
use Rattle.search.specs.Graphs.{Graph, and_then, run}
use Rattle.compare.specs.Checks.{next_pair}
use Rattle.compare.specs.Walks.{pair_graph}
use Rattle.compare.proofs.Pairs.{least_distinguishing}
use Rattle.compare.proofs.Tables.{same_pair, same_pair_is, same_pair_self}
use Rattle.worked.proofs.Tests.{led, none_below, none_before, least_hit}

abbrev pub in_range : ℕ → List ℕ → Bool
in_range n s = all (λ l. ltb l n) s

in_range_sound : (n : ℕ) (s : List ℕ) → in_range n s ≡ true → Letters n s
in_range_sound n [] e = tt
in_range_sound n (l ∷ s) e = let p = and_parts (ltb l n) (in_range n s) e in (ltb-true l n p.0, in_range_sound n s p.1)

-- goes on unless the goal was met
abbrev pub onward : {P : Type 0} → Graph P → Option P → ℕ → Option P
onward g o l = and_then o (λ q. g.step q l)

-- the goal was met
abbrev pub met : {P : Type 0} → Option P → Bool
met o = not (is_some o)

led_run : {P : Type 0} (g : Graph P) (s : List ℕ) (o : Option P) → led g.letters (onward g) met o s ≡ and_then o (λ q. run g q s)
led_run g [] None = refl
led_run g [] (Some p) = refl
led_run g (l ∷ s) None = led_run g s None
led_run g (l ∷ s) (Some p) = led_run g s (g.step p l)

pub least_difference : (m : Machine) (a b : ℕ) (s : List ℕ) → in_range m.letters s ≡ true → run (pair_graph m a b) (reset_pair m a b) s ≡ None
    → none_below m.letters (onward (pair_graph m a b)) met (length s) (Some (reset_pair m a b)) ≡ true
    → none_before m.letters (onward (pair_graph m a b)) met s (Some (reset_pair m a b)) ≡ true
    → LeastDistinguishing m a b s
least_difference m a b s h e short equal = least_distinguishing m a b s (record {
  letters = in_range_sound m.letters s h;
  meets = e;
  least = λ t c o. least_hit m.letters (onward (pair_graph m a b)) met s (Some (reset_pair m a b)) short equal t c (ap met (led_run (pair_graph m a b) t (Some (reset_pair m a b)) ∙ o));
})

module _ (m : Machine) (a q : ℕ) where
  abbrev pub next_state : ℕ → ℕ → ℕ
  next_state p l = (step_of m a p l).0

  abbrev pub arrived : ℕ → Bool
  arrived p = eqb p q

  led_state : (s : List ℕ) (p : ℕ) → led m.letters next_state arrived p s ≡ state_from m a p s
  led_state [] p = refl
  led_state (l ∷ s) p = led_state s (step_of m a p l).0

  pub least_way : (s : List ℕ) → in_range m.letters s ≡ true → state_from m a (reset_of m a) s ≡ q
      → none_below m.letters next_state arrived (length s) (reset_of m a) ≡ true
      → none_before m.letters next_state arrived s (reset_of m a) ≡ true
      → LeastWay m a q s
  least_way s h e short equal = record {
    letters = in_range_sound m.letters s h;
    leads = e;
    least = λ t c o. least_hit m.letters next_state arrived s (reset_of m a) short equal t c (eq-eqb _ _ (led_state t (reset_of m a) ∙ o));
  }

module _ (m : Machine) (a b : ℕ) where
  led_pair : (p : Pair) (s : List ℕ) (x : Pair) → led m.letters (next_pair m a b) (λ y. same_pair y p) x s ≡ pair (state_from m a x.first s) (state_from m b x.second s)
  led_pair p [] x = refl
  led_pair p (l ∷ s) x = led_pair p s (next_pair m a b x l)

  -- whether s is the least sequence to the pair p
  abbrev pub least_to_test : Pair → List ℕ → Bool
  least_to_test p s =
      in_range m.letters s
      && (same_pair (pair_after m a b s) p
      && (none_below m.letters (next_pair m a b) (λ y. same_pair y p) (length s) (reset_pair m a b)
      && none_before m.letters (next_pair m a b) (λ y. same_pair y p) s (reset_pair m a b)))

  least_to_sound : (p : Pair) (s : List ℕ) → least_to_test p s ≡ true → LeastTo m a b p s
  least_to_sound p s e =
      let legal = and_parts _ _ e in
      let leads = and_parts _ _ legal.1 in
      let none = and_parts _ _ leads.1 in
      record {
        letters = in_range_sound m.letters s legal.0;
        leads = same_pair_is _ _ leads.0;
        least = λ t c o. least_hit m.letters (next_pair m a b) (λ y. same_pair y p) s (reset_pair m a b) none.0 none.1 t c (ap (λ y. same_pair y p) (led_pair p t (reset_pair m a b) ∙ o) ∙ same_pair_self p);
      }

  -- whether each sequence is the least to the pair at its place
  abbrev pub all_least : List Pair → List (List ℕ) → Bool
  all_least [] [] = true
  all_least [] (w ∷ ws) = false
  all_least (p ∷ ps) [] = false
  all_least (p ∷ ps) (w ∷ ws) = least_to_test p w && all_least ps ws

  pub all_least_length : (ps : List Pair) (ws : List (List ℕ)) → all_least ps ws ≡ true → length ws ≡ length ps
  all_least_length [] [] e = refl
  all_least_length [] (w ∷ ws) e = absurd cc
  all_least_length (p ∷ ps) [] e = absurd cc
  all_least_length (p ∷ ps) (w ∷ ws) e = ap suc (all_least_length ps ws (and_parts (least_to_test p w) _ e).1)

  pub all_least_at : (ps : List Pair) (ws : List (List ℕ)) → all_least ps ws ≡ true → (k : ℕ) → k < length ps → LeastTo m a b (pair_at m a b ps k) (get_or ws k [])
  all_least_at [] ws e k h = absurd (omega arith)
  all_least_at (p ∷ ps) [] e k h = absurd cc
  all_least_at (p ∷ ps) (w ∷ ws) e zero h = least_to_sound p w (and_parts (least_to_test p w) _ e).0
  all_least_at (p ∷ ps) (w ∷ ws) e (suc k) h = all_least_at ps ws (and_parts (least_to_test p w) _ e).1 k (omega arith)
