-- Names entered one after another stand in the first entries of the slice.
use Rattle.std.proofs.Common.{◌≡◌, ℕ, ◌≤◌, List, ◌++◌, length, take, drop, sym, refl, ap, ◌∙◌, arith, length-append, length-drop}
use Rattle.std.proofs.lemmas.List.{take_at}
use Rattle.std.proofs.lemmas.Slice.{drop-append-drop}
use Rattle.machine.specs.Slices.{FirstEntries}

-- the first entries are what stands there
pub first_are : {A : Type 0} (xs old new : List A) (n : ℕ) → FirstEntries xs old new → n ≡ length xs → take n new ≡ xs
first_are xs old new n f e = ap (take n) f.1 ∙ take_at xs (drop (length xs) old) n (sym e)

-- writing more first entries leaves the others
pub first_again : {A : Type 0} (xs ys old mid new : List A) → FirstEntries xs old mid → FirstEntries ys mid new → length xs ≤ length ys → length mid ≡ length old → FirstEntries ys old new
first_again {A} xs ys old mid new f g h e =
    (omega (arith, g.0, e), g.1 ∙ ap (λ (r : List A). ys ++ r) (ap (drop (length ys)) f.1 ∙ drop-append-drop (length xs) old xs (length ys) h refl))

-- the slice keeps its length
pub first_length : {A : Type 0} (xs old new : List A) → FirstEntries xs old new → length new ≡ length old
first_length xs old new f = ap length f.1 ∙ simp (length-append, length-drop) (omega (arith, f.0))
