-- One item more of a spaced list.
use Rattle.std.proofs.Common.{◌≡◌, ℕ, ◌+◌, ◌<◌, List, [], ◌∷◌, ◌++◌, length, take, get_or, Some, None, Option, sym, refl, ap, ◌∙◌}
use Rattle.std.proofs.Output.{then_text_assoc}
use Rattle.std.proofs.lemmas.List.{append-nil, take_more}
use Rattle.std.specs.Fmt.{◌++?◌}
use Rattle.std.specs.Prelude.{codes, flat_map}
use Rattle.worked.specs.Printing.{spaced_text}

nothing_more : (o : Option (List ℕ)) → o ++? Some [] ≡ o
nothing_more None = refl
nothing_more (Some a) = ap Some (append-nil a)

after_nothing : (o : Option (List ℕ)) → Some [] ++? o ≡ o
after_nothing None = refl
after_nothing (Some a) = refl

module _ {X : Type 0} (text : X → Option (List ℕ)) where
  spaced_push : (xs : List X) (x : X) → spaced_text text (xs ++ x ∷ []) ≡ spaced_text text xs ++? (Some (codes " ") ++? text x)
  spaced_push [] x = ap (λ o. Some (codes " ") ++? o) (nothing_more (text x)) ∙ sym (after_nothing (Some (codes " ") ++? text x))
  spaced_push (y ∷ ys) x =
      ap (λ o. Some (codes " ") ++? text y ++? o) (spaced_push ys x)
      ∙ ap (λ o. Some (codes " ") ++? o) (sym (then_text_assoc (text y) (spaced_text text ys) (Some (codes " ") ++? text x)))
      ∙ sym (then_text_assoc (Some (codes " ")) (text y ++? spaced_text text ys) (Some (codes " ") ++? text x))

  pub spaced_more : (xs : List X) (i : ℕ) (x : X) → i < length xs → get_or xs i x ≡ x → spaced_text text (take (i + 1) xs) ≡ spaced_text text (take i xs) ++? (Some (codes " ") ++? text x)
  spaced_more xs i x inside is =
      ap (spaced_text text) (take_more xs i x inside ∙ ap (λ y. take i xs ++ y ∷ []) is) ∙ spaced_push (take i xs) x

-- where each item's text is told, so is the list's
pub all_told : {X : Type 0} (text : X → List ℕ) (xs : List X) → spaced_text (λ x. Some (text x)) xs ≡ Some (flat_map (λ x. codes " " ++ text x) xs)
all_told text [] = refl
all_told text (x ∷ xs) = ap (λ o. Some (codes " ") ++? Some (text x) ++? o) (all_told text xs)
