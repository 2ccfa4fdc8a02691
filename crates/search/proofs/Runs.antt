-- The walk letter by letter and its runs are the same; what the search has found, over runs.
use Rattle.std.proofs.Common.{◌≡◌, ℕ, ◌<◌, ◌≤◌, List, [], ◌∷◌, ◌++◌, length, Some, None, Option, sym, refl, ap, ◌∙◌, subst, inl, inr, append_assoc, append-nil, arith, length-append}
use Rattle.machine.specs.Sequences.{Letters, Before, AtMost}
use Rattle.machine.proofs.Orders.{at_most_trans, at_most_antisymmetric}
use Rattle.search.specs.Graphs.{Graph, and_then, run, LeastPath}
use Rattle.search.specs.Visits.{visit, path, Searched, GoalAt, Exhaustive}
use Rattle.search.specs.declared.visit.Visit.{Visit}
use Rattle.search.proofs.Least.{chained, path_reach, path_less, goal_least, apart, all_covered, none_meets, path_least}
use Rattle.search.proofs.Reaches.{Reach, begin, onward, Meets, met}

module _ {P : Type 0} (g : Graph P) where
  letters_push : (s : List ℕ) (l : ℕ) → Letters g.letters s → l < g.letters → Letters g.letters (s ++ l ∷ [])
  letters_push [] l h k = (k, tt)
  letters_push (a ∷ s) l h k = (h.0, letters_push s l h.1 k)

  and_then_more : (o : Option P) (f h : P → Option P) → ((q : P) → f q ≡ h q) → and_then o f ≡ and_then o h
  and_then_more None f h e = refl
  and_then_more (Some q) f h e = e q

  and_then_twice : (o : Option P) (f h : P → Option P) → and_then o (λ q. and_then (f q) h) ≡ and_then (and_then o f) h
  and_then_twice None f h = refl
  and_then_twice (Some q) f h = refl

  run_push : (p : P) (s : List ℕ) (l : ℕ) → run g p (s ++ l ∷ []) ≡ and_then (run g p s) (λ q. g.step q l)
  run_push p [] l = last (g.step p l)
    where
      last : (o : Option P) → and_then o (λ q. Some q) ≡ o
      last None = refl
      last (Some q) = refl
  run_push p (a ∷ s) l = and_then_more (g.step p a) _ _ (λ q. run_push q s l) ∙ and_then_twice (g.step p a) (λ q. run g q s) (λ q. g.step q l)

  pub reach_letters : {s : List ℕ} {p : P} → Reach g s p → Letters g.letters s
  reach_letters begin = tt
  reach_letters (onward {s = s} {l = l} r c e) = letters_push s l (reach_letters r) c

  pub reach_run : {s : List ℕ} {p : P} → Reach g s p → run g g.start s ≡ Some p
  reach_run begin = refl
  reach_run (onward {s = s} {p = p} {l = l} r c e) = run_push g.start s l ∙ ap (λ (o : Option P). and_then o (λ q. g.step q l)) (reach_run r) ∙ e

  pub meets_letters : {s : List ℕ} → Meets g s → Letters g.letters s
  meets_letters (met {s = s} {l = l} r c e) = letters_push s l (reach_letters r) c

  pub meets_run : {s : List ℕ} → Meets g s → run g g.start s ≡ None
  meets_run (met {s = s} {p = p} {l = l} r c e) = run_push g.start s l ∙ ap (λ (o : Option P). and_then o (λ q. g.step q l)) (reach_run r) ∙ e

  none_some : {A : Type 0} (q : P) → None ≡ Some q → A
  none_some q e = absurd (cc)

  -- a run that goes on from a reached position
  run_reach : (s u : List ℕ) (p q : P) → Reach g u p → Letters g.letters s → run g p s ≡ Some q → Reach g (u ++ s) q
  run_reach [] u p q r h e = let same : p ≡ q = cc in subst (λ (x : P). Reach g (u ++ []) x) same (subst (λ (v : List ℕ). Reach g v p) (sym (append-nil u)) r)
  run_reach (l ∷ s) u p q r h e = go (g.step p l) refl e (run_reach s)
    where
      go : (o : Option P) → g.step p l ≡ o → and_then o (λ x. run g x s) ≡ Some q → ((v : List ℕ) (x y : P) → Reach g v x → Letters g.letters s → run g x s ≡ Some y → Reach g (v ++ s) y) → Reach g (u ++ l ∷ s) q
      go None a b ih = none_some q b
      go (Some x) a b ih = subst (λ (v : List ℕ). Reach g v q) (append_assoc u (l ∷ []) s) (ih (u ++ l ∷ []) x q (onward r h.0 a) h.1 b)

  front_at_most : (u : List ℕ) (l : ℕ) (s : List ℕ) → AtMost (u ++ l ∷ []) (u ++ l ∷ s)
  front_at_most u l [] = inl refl
  front_at_most u l (a ∷ s) = inr (inl (omega (arith, length-append u (l ∷ []), length-append u (l ∷ a ∷ s))))

  run_meets : (s u : List ℕ) (p : P) → Reach g u p → Letters g.letters s → run g p s ≡ None → (v : List ℕ) × Meets g v × AtMost v (u ++ s)
  run_meets [] u p r h e = none_some p (sym e)
  run_meets (l ∷ s) u p r h e = go (g.step p l) refl e (run_meets s)
    where
      go : (o : Option P) → g.step p l ≡ o → and_then o (λ x. run g x s) ≡ None → ((v : List ℕ) (x : P) → Reach g v x → Letters g.letters s → run g x s ≡ None → (w : List ℕ) × Meets g w × AtMost w (v ++ s)) → (v : List ℕ) × Meets g v × AtMost v (u ++ l ∷ s)
      go None a b ih = (u ++ l ∷ [], met r h.0 a, front_at_most u l s)
      go (Some x) a b ih =
          let y = ih (u ++ l ∷ []) x (onward r h.0 a) h.1 b in
          (y.0, y.1, subst (λ (v : List ℕ). AtMost y.0 v) (append_assoc u (l ∷ []) s) y.2)

  -- the least sequence to a position is one
  least_same : (p : P) (s t : List ℕ) → LeastPath g p s → LeastPath g p t → s ≡ t
  least_same p s t a b = at_most_antisymmetric s t (a.least t b.letters b.leads) (b.least s a.letters a.leads)

  module _ {Inside : P → Type 0} {xs ys : List (Visit P)} {marks : List ℕ} {n h l : ℕ} {f : Graph P} (walk : g ≡ f) (same : ys ≡ xs) (fits : n ≤ length xs) (inv : Searched g Inside xs marks n h l) where
    pub goal_at : h < n → l < g.letters → g.step (visit g xs h).position l ≡ None → GoalAt f ys h l
    goal_at b c e =
        let m = met (path_reach inv fits h b) c e in
        subst (λ (k : Graph P). GoalAt k ys h l) walk (subst (λ (zs : List (Visit P)). GoalAt g zs h l) (sym same) (record {
          inside = omega arith;
          chained = λ k d r. chained inv fits k d (omega arith);
          least = record {
            letters = meets_letters m;
            meets = meets_run m;
            least = λ t d o. let v = run_meets t [] g.start begin d o in at_most_trans (path xs h ++ l ∷ []) v.0 t (goal_least inv fits b v.1) v.2;
          };
        }))

    path_is_least : n ≤ h → (k : ℕ) → k < n → LeastPath g (visit g xs k).position (path xs k)
    path_is_least o k b = record {
      letters = reach_letters (path_reach inv fits k b);
      leads = reach_run (path_reach inv fits k b);
      least = λ t c e. path_least inv fits o k b (run_reach t [] g.start (visit g xs k).position begin c e);
    }

    pub exhaustive : {m : ℕ} → m ≡ n → n ≤ h → Exhaustive f ys m
    exhaustive {m} size o =
        subst (λ (k : Graph P). Exhaustive k ys m) walk (subst (λ (zs : List (Visit P)). Exhaustive g zs m) (sym same) (subst (λ (k : ℕ). Exhaustive g xs k) (sym size) (record {
          fits = fits;
          never = λ t c e. let v = run_meets t [] g.start begin c e in none_meets inv fits o v.1;
          every = λ t p c e. let v = all_covered inv fits o (run_reach t [] g.start p begin c e) in (v.0, v.1, v.2);
          reached = λ k b. (path xs k, path_is_least o k b);
          once = apart inv fits;
          in_order = λ i j s t r b c d.
              let a : i < n = omega arith in
              let u = least_same _ (path xs i) s (path_is_least o i a) c in
              let v = least_same _ (path xs j) t (path_is_least o j b) d in
              subst (λ (x : List ℕ). Before x t) u (subst (λ (x : List ℕ). Before (path xs i) x) v (path_less inv fits i j r b));
        })))
