-- What `find_map` answers: the first answer that a function gives along a list.
use Rattle.std.proofs.Common.{◌≡◌, ℕ, zero, suc, ◌+◌, ◌<◌, List, [], ◌∷◌, ◌++◌, map, Some, None, Option, IsTrue, sym, refl, ap, ◌∙◌, subst, arith}
use denote.Param.Members.{Mut}
use Rattle.std.specs.Fn.{Called}
use Rattle.std.specs.List.{slice_get}
use Rattle.std.specs.Option.{option_or, MatchOption, IfSome, IsSomeAnd}
use Rattle.std.specs.Iterator.{AlwaysYields}
use Rattle.std.specs.Iterator.Runs.{SomeRun, AllItemsGive, IsFirstToGive}
use Rattle.std.proofs.iter.runs.Made.{took, at-is}
use Rattle.std.proofs.iter.Yields.{gives_left, gives_Drains}
use Rattle.std.proofs.lemmas.Iterator.{YieldsList}

-- the first answer of h along the list
abbrev pub first_of : {B C : Type 0} → (B → Option C) → List B → Option C
first_of h [] = None
first_of h (y ∷ ys) = option_or (h y) (first_of h ys)

-- a closure f that computes h of what v reads of an item
module _ {A B C F : Type 0} (v : A → B) (g : Mut F (A × Unit {0}) (Option C)) (h : B → Option C) (f : F)
    (computes : (x : A) (o : Option C) (q : F) → Called g f (x, tt) o q → (q ≡ f) × (o ≡ h (v x))) where
  none_of : (xs : List A) → ((k : ℕ) → IfSome (slice_get xs k) (λ x. Called g f (x, tt) None f)) → first_of h (map v xs) ≡ None
  none_of [] e = refl
  none_of (x ∷ xs) e = ap (λ o. option_or o (first_of h (map v xs))) (sym (computes x None f (e 0)).1) ∙ none_of xs (λ k. e (suc k))

  some_of : (c : C) (more : List B) (xs : List A) (i : ℕ) → IsSomeAnd (slice_get xs i) (λ x. Called g f (x, tt) (Some c) f) → ((k : ℕ) → k < i → IsSomeAnd (slice_get xs k) (λ x. Called g f (x, tt) None f)) → first_of h (map v xs ++ more) ≡ Some c
  some_of c more [] i e d = absurd e
  some_of c more (x ∷ xs) zero e d = ap (λ o. option_or o (first_of h (map v xs ++ more))) (sym (computes x (Some c) f e).1)
  some_of c more (x ∷ xs) (suc i) e d =
      ap (λ o. option_or o (first_of h (map v xs ++ more))) (sym (computes x None f (d 0 (omega arith))).1)
      ∙ some_of c more xs i e (λ k l. d (suc k) (omega arith))

module _ {S A B C F : Type 0} {steps : S → Option A → S → Type 0} {v : A → B} {g : Mut F (A × Unit {0}) (Option C)} {s : S} {all : List B} (h : B → Option C) (f : F) where
  pub first_of_find_map : (r : Option C)
      → SomeRun steps s (λ p. MatchOption r (IsTrue p.whole × AllItemsGive p g f None) (λ y. (i : ℕ) × (i < p.len) × (p.len ≡ i + 1) × IsFirstToGive p g f (Some y) None i))
      → YieldsList steps v s all → ((x : A) (o : Option C) (q : F) → Called g f (x, tt) o q → (q ≡ f) × (o ≡ h (v x))) → r ≡ first_of h all
  first_of_find_map None (p, is, w) e computes =
      let y = took p in
      let z = y.2 w.0 in
      let starts : AlwaysYields steps v p.from all = subst (λ t. AlwaysYields steps v t all) (sym is) e.runs in
      let gave = w.1 (λ a o q c. (computes a.0 o q c).0) in
      sym (ap (first_of h) (sym (gives_Drains steps v p.items all p.from starts (z.0, (y.0, y.1, z.1)))) ∙ none_of v g h f computes p.items (λ k. subst (λ o. IfSome o (λ x. Called g f (x, tt) None f)) (at-is p k) (gave k)))
  first_of_find_map (Some c) (p, is, w) e computes =
      let y = took p in
      let starts : AlwaysYields steps v p.from all = subst (λ t. AlwaysYields steps v t all) (sym is) e.runs in
      let left = gives_left steps v p.items all p.from y.0 starts y.1 in
      let gave = w.3 (λ a o q c. (computes a.0 o q c).0) in
      sym (ap (first_of h) left.1 ∙ some_of v g h f computes c left.0 p.items w.0 (subst (λ o. IsSomeAnd o (λ x. Called g f (x, tt) (Some c) f)) (at-is p w.0) gave.0) (λ k l. subst (λ o. IsSomeAnd o (λ x. Called g f (x, tt) None f)) (at-is p k) (gave.1 k l)))
