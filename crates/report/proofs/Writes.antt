-- Texts that are written one behind another.
use Rattle.std.proofs.Common.{◌≡◌, ℕ, suc, ◌+◌, ◌-◌, ◌^◌, ◌<◌, ◌≤◌, List, [], ◌∷◌, ◌++◌, length, drop, get_or, take, set, min, refl, ap, ◌∙◌, sym, subst, ⊎_elim, arith}
use Rattle.std.proofs.lemmas.Bool.{cases_lt}
use Rattle.std.proofs.Math.Seq.{length-sets}
use lib.Seq.{sets, sets-eq}
use Rattle.std.specs.List.{flat_map}
use Rattle.std.proofs.lemmas.List.{length-append, set_past, take_all, take_more, flat_map_more}
use Rattle.report.specs.Writing.{Adds, Rendered}
use Rattle.report.specs.declared.writing.Writer.{Writer}

sets_append : (l : List ℕ) (i : ℕ) (xs ys : List ℕ) → sets l i (xs ++ ys) ≡ sets (sets l i xs) (i + length xs) ys
sets_append l i [] ys = let e : i ≡ i + 0 = omega arith in ap (λ (k : ℕ). sets l k ys) e
sets_append l i (x ∷ xs) ys =
    let e : suc i + length xs ≡ i + length (x ∷ xs) = omega arith in
    sets_append (set l i x) (suc i) xs ys ∙ ap (λ (k : ℕ). sets (sets (set l i x) (suc i) xs) k ys) e

-- nothing is written past the end
pub sets_past : (l : List ℕ) (i : ℕ) (xs : List ℕ) → length l ≤ i → sets l i xs ≡ l
sets_past l i [] h = refl
sets_past l i (x ∷ xs) h = ap (λ (z : List ℕ). sets z (suc i) xs) (set_past l i x h) ∙ sets_past l (suc i) xs (omega arith)

-- a place past the largest word is past the end, as that word is
saturated : (l : List ℕ) (i : ℕ) (xs : List ℕ) → length l < 2 ^ 63 → sets l (min i (2 ^ 64 - 1)) xs ≡ sets l i xs
saturated l i xs h =
    ⊎_elim
    (λ (small : i < 2 ^ 64). let e : min i (2 ^ 64 - 1) ≡ i = omega arith in ap (λ (k : ℕ). sets l k xs) e)
    (λ (large : 2 ^ 64 ≤ i). sets_past l (min i (2 ^ 64 - 1)) xs (omega arith) ∙ sym (sets_past l i xs (omega arith)))
    (cases_lt i (2 ^ 64))

-- nothing is written
pub adds_none : (w : Writer) → Adds [] w w
adds_none w = record { counted = omega arith; bytes = refl; same_slice = refl }

-- one text is written, and then another
pub adds_append : {xs ys : List ℕ} {a b d : Writer} → Adds xs a b → Adds ys b d → Adds (xs ++ ys) a d
adds_append {xs} {ys} {a} {b} {d} h k = record {
  counted = omega (arith, h.counted, k.counted, length-append xs ys);
  bytes =
      k.bytes
      ∙ ap (λ (z : List ℕ). sets z b.count ys) h.bytes
      ∙ ap (λ (i : ℕ). sets (sets a.out.now a.count xs) i ys) h.counted
      ∙ saturated (sets a.out.now a.count xs) (a.count + length xs) ys (omega (arith, a.addressable, length-sets a.out.now a.count xs))
      ∙ sym (sets_append a.out.now a.count xs ys);
  same_slice = k.same_slice ∙ h.same_slice;
}

-- an element more is written
pub adds_next : {a b d : Writer} (xs : List ℕ) (i : ℕ) → i < length xs → Adds (take i xs) a b → Adds (get_or xs i 0 ∷ []) b d → Adds (take (i + 1) xs) a d
adds_next {a} {b} {d} xs i low h k = subst (λ (t : List ℕ). Adds t a d) (sym (take_more xs i 0 low)) (adds_append h k)

-- a line more is written
pub adds_line : {X : Type 0} {a b d : Writer} (line : X → List ℕ) (xs : List X) (i : ℕ) (none : X) → i < length xs → Adds (flat_map line (take i xs)) a b → Adds (line (get_or xs i none)) b d → Adds (flat_map line (take (i + 1) xs)) a d
adds_line {a} {b} {d} line xs i none low h k =
    subst (λ (t : List ℕ). Adds t a d) (flat_map_more line [] (take i xs) (get_or xs i none) ∙ ap (flat_map line) (sym (take_more xs i none low))) (adds_append h k)

-- all lines are written
pub adds_lines : {X : Type 0} {a b : Writer} (line : X → List ℕ) (xs : List X) (i : ℕ) → length xs ≤ i → Adds (flat_map line (take i xs)) a b → Adds (flat_map line xs) a b
adds_lines {X} {a} {b} line xs i high h = subst (λ (t : List X). Adds (flat_map line t) a b) (take_all i xs high) h

-- a text that is written into a slice from its first byte on
pub adds_first : {text old new : List ℕ} {a b : Writer} → new ≡ b.out.now → a.count ≡ 0 → a.out.now ≡ old → Adds text a b → Rendered text old new b.count
adds_first {text} {old} {new} {a} {b} is none begins adds = record {
  counted = omega arith;
  first = λ fits.
      let whole : 0 + length text ≡ length text = omega arith in (
        fits,
        is
            ∙ adds.bytes
            ∙ ap (λ (z : List ℕ). sets z a.count text) begins
            ∙ ap (λ (i : ℕ). sets old i text) none
            ∙ sets-eq text old 0 (omega arith)
            ∙ ap (λ (k : ℕ). text ++ drop k old) whole,
      );
}
