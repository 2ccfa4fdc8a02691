-- The words of a line, found one after another.
use Rattle.std.proofs.Common.{◌≡◌, ℕ, ◌+◌, ◌-◌, ◌≤◌, Bool, true, false, cond, not, ◌||◌, eqb, List, [], ◌∷◌, length, take, drop, sym, refl, ap, ◌∙◌, ⊎_elim, add-zero, one-add, arith, length-drop, length-take}
use Rattle.std.specs.List.{prefix_len}
use Rattle.std.proofs.lemmas.List.{drop-drop, drop-take}
use Rattle.std.proofs.lemmas.Bool.{ne_eqb, or_parts, or_cases, cond-true, cond-false, both_ways}
use Rattle.kiss2.specs.Texts.{part, is_blank, ends_word, word_length, words_from, words_left}
use Rattle.kiss2.specs.declared.part.Part.{Part}

-- a blank opens no comment
blank_no_comment : (b : ℕ) → is_blank b ≡ true → eqb b 35 ≡ false
blank_no_comment b h =
    ne_eqb b 35 (λ e. let z : is_blank 35 ≡ true = ap is_blank (sym e) ∙ h in let y : ◌≡◌ {A = ℕ} 0 1 = cc in omega arith)

drop_one_more : (b : ℕ) (s : List ℕ) (n : ℕ) → drop (1 + n) (b ∷ s) ≡ drop n s
drop_one_more b s n = rw one-add refl

-- the words behind one byte more
one_byte : (p : ℕ) (b : ℕ) (s : List ℕ) (n : ℕ) → words_from (p + 1 + n) false (drop n s) ≡ words_from (p + (1 + n)) false (drop (1 + n) (b ∷ s))
one_byte p b s n =
    let e : p + 1 + n ≡ p + (1 + n) = omega arith in
    ap (λ (k : ℕ). words_from k false (drop n s)) e ∙ ap (λ (t : List ℕ). words_from (p + (1 + n)) false t) (sym (drop_one_more b s n))

-- blanks before the first word do not matter
pub skip_blanks : (p : ℕ) (s : List ℕ) → words_from p false s ≡ words_from (p + prefix_len is_blank s) false (drop (prefix_len is_blank s) s)
skip_blanks p [] = refl
skip_blanks p (b ∷ s) = go (is_blank b) refl (skip_blanks (p + 1) s)
  where
    n : ℕ
    n = prefix_len is_blank s

    go : (t : Bool) → is_blank b ≡ t → words_from (p + 1) false s ≡ words_from (p + 1 + n) false (drop n s) → cond (eqb b 35) [] (cond t (words_from (p + 1) false s) (part p (word_length (b ∷ s)) ∷ words_from (p + 1) true s)) ≡ words_from (p + cond t (1 + n) 0) false (drop (cond t (1 + n) 0) (b ∷ s))
    go true e more = cond-false (eqb b 35) _ _ (blank_no_comment b e) ∙ more ∙ one_byte p b s n
    go false e more =
        ap (λ (z : List Part). cond (eqb b 35) [] z) (sym (cond-false (is_blank b) (words_from (p + 1) false s) _ e))
        ∙ ap (λ (k : ℕ). words_from k false (b ∷ s)) (sym (add-zero p))

-- the bytes of a word bring no further word
pub skip_word : (p : ℕ) (s : List ℕ) → words_from p true s ≡ words_from (p + word_length s) false (drop (word_length s) s)
skip_word p [] = refl
skip_word p (b ∷ s) = go (ends_word b) refl (skip_word (p + 1) s)
  where
    n : ℕ
    n = word_length s

    X : List Part
    X = words_from (p + 1) false s

    at_end : (t u : Bool) → eqb b 35 ≡ t → is_blank b ≡ u → (u || t) ≡ true → cond t [] (cond u X (words_from (p + 1) true s)) ≡ cond t [] (cond u X (part p (word_length (b ∷ s)) ∷ words_from (p + 1) true s))
    at_end true u e f o = refl
    at_end false true e f o = refl
    at_end false false e f o = absurd (let z : ◌≡◌ {A = ℕ} 0 1 = cc in omega arith)

    go : (t : Bool) → ends_word b ≡ t → words_from (p + 1) true s ≡ words_from (p + 1 + n) false (drop n s) → cond (eqb b 35) [] (cond (is_blank b) X (words_from (p + 1) true s)) ≡ words_from (p + cond (not t) (1 + n) 0) false (drop (cond (not t) (1 + n) 0) (b ∷ s))
    go true e more = at_end (eqb b 35) (is_blank b) refl refl e ∙ ap (λ (k : ℕ). words_from k false (b ∷ s)) (sym (add-zero p))
    go false e more =
        let h = or_parts (is_blank b) (eqb b 35) e in
        cond-false (eqb b 35) _ _ h.1 ∙ cond-false (is_blank b) _ _ h.0 ∙ more ∙ one_byte p b s n

-- a line that begins with no blank begins with a word, or has none
pub first_word : (p : ℕ) (s : List ℕ) → prefix_len is_blank s ≡ 0 → words_from p false s ≡ cond (eqb (word_length s) 0) [] (part p (word_length s) ∷ words_from (p + word_length s) false (drop (word_length s) s))
first_word p [] h = refl
first_word p (b ∷ s) h = go (is_blank b) refl h
  where
    n : ℕ
    n = word_length s

    word : (t : Bool) → ends_word b ≡ t → is_blank b ≡ false → cond (eqb b 35) [] (part p (cond (not t) (1 + n) 0) ∷ words_from (p + 1) true s) ≡ cond (eqb (cond (not t) (1 + n) 0) 0) [] (part p (cond (not t) (1 + n) 0) ∷ words_from (p + cond (not t) (1 + n) 0) false (drop (cond (not t) (1 + n) 0) (b ∷ s)))
    word true e f = cond-true (eqb b 35) _ _ (⊎_elim (λ k. absurd (both_ways _ f k)) (λ k. k) (or_cases (is_blank b) (eqb b 35) e))
    word false e f =
        let h = or_parts (is_blank b) (eqb b 35) e in
        let some : eqb (1 + n) 0 ≡ false = ne_eqb (1 + n) 0 (λ z. omega arith) in
        cond-false (eqb b 35) _ _ h.1
        ∙ ap (λ (ws : List Part). part p (1 + n) ∷ ws) (skip_word (p + 1) s ∙ one_byte p b s n)
        ∙ sym (cond-false (eqb (1 + n) 0) _ _ some)

    go : (t : Bool) → is_blank b ≡ t → cond t (1 + prefix_len is_blank s) 0 ≡ 0 → words_from p false (b ∷ s) ≡ cond (eqb (word_length (b ∷ s)) 0) [] (part p (word_length (b ∷ s)) ∷ words_from (p + word_length (b ∷ s)) false (drop (word_length (b ∷ s)) (b ∷ s)))
    go true e z = absurd (omega (arith, z))
    go false e z = ap (λ (z : List Part). cond (eqb b 35) [] z) (cond-false (is_blank b) _ _ e) ∙ word (ends_word b) refl e

-- behind the blanks stands none
pub no_blank_left : (s : List ℕ) → prefix_len is_blank (drop (prefix_len is_blank s) s) ≡ 0
no_blank_left [] = refl
no_blank_left (b ∷ s) = go (is_blank b) refl (no_blank_left s)
  where
    n : ℕ
    n = prefix_len is_blank s

    go : (t : Bool) → is_blank b ≡ t → prefix_len is_blank (drop n s) ≡ 0 → prefix_len is_blank (drop (cond t (1 + n) 0) (b ∷ s)) ≡ 0
    go true e more = rw one-add more
    go false e more = cond-false (is_blank b) _ _ e

-- the rest of a part of the text
pub rest_of_part : (text : List ℕ) (at end n : ℕ) → at + n ≤ end → drop n (take (end - at) (drop at text)) ≡ take (end - (at + n)) (drop (at + n) text)
rest_of_part text at end n h =
    let e : end - at ≡ n + (end - (at + n)) = omega arith in
    ap (λ (k : ℕ). drop n (take k (drop at text))) e ∙ drop-take n (end - (at + n)) (drop at text) ∙ ap (take (end - (at + n))) (drop-drop n at text)

-- what is left of a line
abbrev rest_of_line : List ℕ → ℕ → ℕ → List ℕ
rest_of_line text at end = take (end - at) (drop at text)

module _ (text : List ℕ) (at end : ℕ) where
  -- the words that are left are those behind the blanks
  behind_blanks : (place : ℕ) → place ≡ at + prefix_len is_blank (rest_of_line text at end) → place ≤ end → words_left text at end ≡ words_from place false (take (end - place) (drop place text))
  behind_blanks place e h =
      skip_blanks at (rest_of_line text at end)
      ∙ ap (λ (k : ℕ). words_from k false (drop (prefix_len is_blank (rest_of_line text at end)) (rest_of_line text at end))) (sym e)
      ∙ ap (words_from place false) (rest_of_part text at end (prefix_len is_blank (rest_of_line text at end)) (omega (arith, e)) ∙ ap (λ (k : ℕ). take (end - k) (drop k text)) (sym e))

  -- the word that is found is the next one, and none is left where it has no bytes
  pub word_found : (place n : ℕ) → place ≡ at + prefix_len is_blank (rest_of_line text at end) → place ≤ end → n ≡ word_length (take (end - place) (drop place text)) → n ≤ end - place → words_left text at end ≡ cond (eqb n 0) [] (part place n ∷ words_left text (place + n) end)
  word_found place n e h f k =
      let rest : List ℕ = take (end - place) (drop place text) in
      let same : drop (prefix_len is_blank (rest_of_line text at end)) (rest_of_line text at end) ≡ rest = rest_of_part text at end (prefix_len is_blank (rest_of_line text at end)) (omega (arith, e)) ∙ ap (λ (j : ℕ). take (end - j) (drop j text)) (sym e) in
      behind_blanks place e h
      ∙ first_word place rest (ap (prefix_len is_blank) (sym same) ∙ no_blank_left (rest_of_line text at end))
      ∙ ap (λ (j : ℕ). cond (eqb j 0) [] (part place j ∷ words_from (place + j) false (drop j rest))) (sym f)
      ∙ ap (λ (t : List ℕ). cond (eqb n 0) [] (part place n ∷ words_from (place + n) false t)) (rest_of_part text place end n (omega arith))

-- a part of the text has its bytes
pub cut_length : (text : List ℕ) (p n : ℕ) → p + n ≤ length text → length (take (p + n - p) (drop p text)) ≡ n
cut_length text p n h = simp (length-take, length-drop) (omega arith)

-- blanks and then the bytes of a word: the next word, inside the text
pub next_found : (text : List ℕ) (at end g n : ℕ) → at ≤ end → end ≤ length text → g ≡ prefix_len is_blank (take (end - at) (drop at text)) → g ≤ length (take (end - at) (drop at text)) → n ≡ word_length (take (end - (at + g)) (drop (at + g) text)) → n ≤ length (take (end - (at + g)) (drop (at + g) text)) → (words_left text at end ≡ cond (eqb n 0) [] (part (at + g) n ∷ words_left text (at + g + n) end)) × (at + g + n ≤ length text)
next_found text at end g n ordered inside blanks few found short =
    let h : at + g ≤ end = omega (arith, length-take (end - at) (drop at text)) in
    let k : n ≤ end - (at + g) = omega (arith, length-take (end - (at + g)) (drop (at + g) text)) in
    (word_found text at end (at + g) n (ap (λ (i : ℕ). at + i) blanks) h found k, omega arith)
