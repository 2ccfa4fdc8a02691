-- What is true of the lines of a text once all are taken: each row is told, each row told is one, and without a clash they agree.
use Rattle.std.proofs.Common.{◌≡◌, ℕ, ◌+◌, ◌<◌, Bool, true, false, cond, ◌⊎◌, List, [], ◌∷◌, ◌++◌, length, Some, None, Ok, Err, Option, Result, sym, refl, ap, ◌∙◌, subst, inl, inr, arith}
use Rattle.std.specs.List.{ContainsAt as Has, AllByRecursion}
use Rattle.std.proofs.ByRecursion.{All-push, All-weaker, has_append_left, has_push}
use Rattle.std.proofs.lemmas.Bool.{and_parts}
use Rattle.machine.specs.Lists.{all}
use Rattle.machine.specs.declared.refusal.Refusal.{Refusal}
use Rattle.machine.specs.declared.refusal.Refusal.TheVariants.{BadLine}
use Rattle.kiss2.specs.Laws.{Among, Inside, RowOf, entry_at}
use Rattle.kiss2.specs.Lines.{Line, blank, directive, end, row, line_of}
use Rattle.kiss2.specs.Headings.{take_directive, with_end}
use Rattle.kiss2.specs.Readings.{Seen, headed, names_with, nothing_seen, on_from, or_else, refused, take_line, take_lines, take_said, transition, with_heading, with_row}
use Rattle.kiss2.specs.Rows.{Transition, fits_rows, is_bit, named, number_of, output_word}
use Rattle.kiss2.specs.Seeing.{Sound}
use Rattle.kiss2.specs.Texts.{bytes_of, lines, words}
use Rattle.kiss2.specs.declared.heading.Heading.{Heading}
use Rattle.kiss2.specs.declared.part.Part.{Part}
use Rattle.kiss2.proofs.Givens.{AllAgree, agree_more}
use Rattle.kiss2.proofs.Entries.{named_below, named_entry, named_grows, named_keeps}
use Rattle.kiss2.proofs.Soundness.{RowFits, RowTaken, no_value, ok_same, row_taken, sound_line, sound_nothing}
use Rattle.kiss2.proofs.Within.{line_inside, lines_inside}

-- the entry of number q has the name of the part w
abbrev pub HasName : List ℕ → List Part → ℕ → Part → Type 0
HasName text names q w = (q < length names) × (bytes_of text (entry_at names q) ≡ bytes_of text w)

-- the transition says what a row of these words says, its states numbered by these names
pub record Says (text : List ℕ) (names : List Part) (a b c d : Part) (t : Transition) : Type 0 where
  pub input : t.input ≡ bytes_of text a
  pub digits : all is_bit t.input ≡ true
  pub current : HasName text names t.current b
  pub next : HasName text names t.next c
  pub output : t.output ≡ output_word (bytes_of text d)

-- some row says it
pub record Came (text : List ℕ) (names : List Part) (t : Transition) : Type 0 where
  pub a : Part
  pub b : Part
  pub c : Part
  pub d : Part
  pub from : RowOf text a b c d
  pub says : Says text names a b c d t

-- a name keeps its number as names are added
name_kept : (text : List ℕ) (names : List Part) (p : Part) (q : ℕ) (w : Part) → HasName text names q w → HasName text (named text names p) q w
name_kept text names p q w h = (omega (arith, h.0, named_grows text names p), ap (bytes_of text) (named_keeps text names p q h.0) ∙ h.1)

-- so a row that is told stays told
says_kept : (text : List ℕ) (names : List Part) (p a b c d : Part) (t : Transition) → Says text names a b c d t → Says text (named text names p) a b c d t
says_kept text names p a b c d t h = record {
  input = h.input;
  digits = h.digits;
  current = name_kept text names p t.current b h.current;
  next = name_kept text names p t.next c h.next;
  output = h.output;
}

-- the row that is taken is told
says_here : (text : List ℕ) (s : Seen) (a b c d : Part) → RowFits s.heading (bytes_of text a) (bytes_of text b) (bytes_of text c) (bytes_of text d) → Says text (names_with text s.names b c) a b c d (transition text s.names a b c d)
says_here text s a b c d fits = record {
  input = refl;
  digits = (and_parts _ _ fits.input_wide).1;
  current = name_kept text (named text s.names b) c (number_of text s.names (bytes_of text b)) b (named_below text s.names b, named_entry text s.names b);
  next = (named_below text (named text s.names b) c, named_entry text (named text s.names b) c);
  output = refl;
}

-- the two have the same rows and names
record SameRows (s s' : Seen) : Type 0 where
  rows : s.rows ≡ s'.rows
  names : s.names ≡ s'.names
  clash : s.clash ≡ s'.clash

-- the line is a row, and is taken
record RowLine (text : List ℕ) (n : ℕ) (s : Seen) (l : Line) (s' : Seen) : Type 0 where
  a : Part
  b : Part
  c : Part
  d : Part
  is : l ≡ row a b c d
  taken : RowTaken text n s a b c d s'

-- another heading has the same rows
same_headed : (s s' : Seen) (h : Heading) → with_heading s h ≡ s' → SameRows s s'
same_headed s s' h e = record { rows = ap (λ (x : Seen). x.rows) e; names = ap (λ (x : Seen). x.names) e; clash = ap (λ (x : Seen). x.clash) e }

-- a line that is taken is a row, or changes no row
line_cases : (text : List ℕ) (n : ℕ) (s : Seen) (l : Line) (s' : Seen) → take_line text n s l ≡ Ok s' → SameRows s s' ⊎ RowLine text n s l s'
line_cases text n s blank s' e = inl (same_headed s s' s.heading (ok_same s s' e))
line_cases text n s (directive key w) s' e = go s.heading.ended (take_directive _ s.heading key w (bytes_of text w)) e
  where
    go : (t : Bool) (r : Result Heading Refusal) → cond t (Err BadLine) (headed s r) ≡ Ok s' → SameRows s s' ⊎ RowLine text n s (directive key w) s'
    go true r f = no_value BadLine s' f
    go false (Ok h) f = inl (same_headed s s' h (ok_same (with_heading s h) s' f))
    go false (Err r) f = no_value r s' f
line_cases text n s end s' e = go s.heading.ended e
  where
    go : (t : Bool) → cond t (Err BadLine) (Ok (with_heading s (with_end s.heading))) ≡ Ok s' → SameRows s s' ⊎ RowLine text n s end s'
    go true f = no_value BadLine s' f
    go false f = inl (same_headed s s' (with_end s.heading) (ok_same _ s' f))
line_cases text n s (row a b c d) s' e = inr (record { a = a; b = b; c = c; d = d; is = refl; taken = row_taken text n s a b c d s' e })

-- the first of some lines that are all taken, and the others
record FirstLine (text : List ℕ) (n : ℕ) (s : Seen) (l : Part) (ls : List Part) (s'' : Seen) : Type 0 where
  line : Line
  then : Seen
  says : line_of text (words text l) ≡ Ok line
  taken : take_line text n s line ≡ Ok then
  others : take_lines text (n + 1) then ls ≡ Ok s''

first_line : (text : List ℕ) (n : ℕ) (s : Seen) (l : Part) (ls : List Part) (s'' : Seen) → take_lines text n s (l ∷ ls) ≡ Ok s'' → FirstLine text n s l ls s''
first_line text n s l ls s'' e = go (line_of text (words text l)) refl e
  where
    at : (line : Line) (r : Result Seen Refusal) → line_of text (words text l) ≡ Ok line → take_line text n s line ≡ r → on_from r n (λ s'. take_lines text (n + 1) s' ls) ≡ Ok s'' → FirstLine text n s l ls s''
    at line (Ok s') f g h = record { line = line; then = s'; says = f; taken = g; others = h }
    at line (Err r) f g h = no_value (refused r n) s'' h

    go : (r : Result Line Refusal) → line_of text (words text l) ≡ r → on_from (take_said text n s r) n (λ s'. take_lines text (n + 1) s' ls) ≡ Ok s'' → FirstLine text n s l ls s''
    go (Ok line) f h = at line (take_line text n s line) f refl h
    go (Err r) f h = no_value (refused r n) s'' h

module _ (text : List ℕ) (P : Seen → Type 0) where
  -- what each line keeps all lines keep
  lines_keep : (ls : List Part) → ((n : ℕ) (s : Seen) (p : Part) (l : Line) (s' : Seen) → Among p ls → line_of text (words text p) ≡ Ok l → take_line text n s l ≡ Ok s' → P s → P s') → (n : ℕ) (s s' : Seen) → take_lines text n s ls ≡ Ok s' → P s → P s'
  lines_keep [] step n s s' e h = subst P (ok_same s s' e) h
  lines_keep (l ∷ ls) step n s s' e h =
      let x = first_line text n s l ls s' e in
      lines_keep ls (λ m r p k r' in'. step m r p k r' (inr in')) (n + 1) x.then s' x.others (step n s l x.line x.then (inl refl) x.says x.taken h)

  -- what one line makes true and each keeps is true behind all
  lines_reach : (p : Part) (l : Line) → line_of text (words text p) ≡ Ok l → ((n : ℕ) (s : Seen) (k : Line) (s' : Seen) → take_line text n s k ≡ Ok s' → P s → P s') → ((n : ℕ) (s s' : Seen) → take_line text n s l ≡ Ok s' → P s') → (ls : List Part) → Among p ls → (n : ℕ) (s s' : Seen) → take_lines text n s ls ≡ Ok s' → P s'
  lines_reach p l says keep enter [] in' n s s' e = absurd in'
  lines_reach p l says keep enter (o ∷ ls) (inl same) n s s' e =
      let x = first_line text n s o ls s' e in
      let one : l ≡ x.line = ok_same l x.line (sym says ∙ ap (λ (w : Part). line_of text (words text w)) same ∙ x.says) in
      lines_keep ls (λ m r w k r' in' f. keep m r k r') (n + 1) x.then s' x.others (enter n s x.then (ap (take_line text n s) one ∙ x.taken))
  lines_reach p l says keep enter (o ∷ ls) (inr in') n s s' e =
      let x = first_line text n s o ls s' e in
      lines_reach p l says keep enter ls in' (n + 1) x.then s' x.others

-- what holds of all parts holds of each
among_all : (P : Part → Type 0) (p : Part) (ps : List Part) → AllByRecursion P ps → Among p ps → P p
among_all P p [] h in' = absurd in'
among_all P p (q ∷ ps) h (inl e) = subst P (sym e) h.0
among_all P p (q ∷ ps) h (inr in') = among_all P p ps h.1 in'

-- each transition is told by some row
abbrev AllCame : List ℕ → Seen → Type 0
AllCame text s = AllByRecursion (Came text s.names) s.rows

-- a line of the text keeps that
came_step : (text : List ℕ) (n : ℕ) (s : Seen) (p : Part) (l : Line) (s' : Seen) → Among p (lines text) → line_of text (words text p) ≡ Ok l → take_line text n s l ≡ Ok s' → AllCame text s → AllCame text s'
came_step text n s p l s' in' says e h = go (line_cases text n s l s' e)
  where
    grown : (b c : Part) (t : Transition) → Came text s.names t → Came text (names_with text s.names b c) t
    grown b c t x = record { a = x.a; b = x.b; c = x.c; d = x.d; from = x.from; says = says_kept text (named text s.names b) c _ _ _ _ t (says_kept text s.names b _ _ _ _ t x.says) }

    go : SameRows s s' ⊎ RowLine text n s l s' → AllCame text s'
    go (inl x) = rw (sym x.names, sym x.rows) h
    go (inr x) =
        let more : List Part = names_with text s.names x.b x.c in
        let here : Came text more (transition text s.names x.a x.b x.c x.d) = record { a = x.a; b = x.b; c = x.c; d = x.d; from = (p, in', says ∙ ap Ok x.is); says = says_here text s x.a x.b x.c x.d x.taken.fits } in
        subst (AllCame text) x.taken.is (All-push (Came text more) s.rows _ (All-weaker (Came text s.names) (Came text more) (grown x.b x.c) s.rows h) here)

-- a transition that says what the row of these words says
pub record Told (text : List ℕ) (a b c d : Part) (s : Seen) : Type 0 where
  pub it : Transition
  pub among : Has s.rows it
  pub says : Says text s.names a b c d it

-- a line keeps it
told_step : (text : List ℕ) (a b c d : Part) (n : ℕ) (s : Seen) (l : Line) (s' : Seen) → take_line text n s l ≡ Ok s' → Told text a b c d s → Told text a b c d s'
told_step text a b c d n s l s' e h = go (line_cases text n s l s' e)
  where
    go : SameRows s s' ⊎ RowLine text n s l s' → Told text a b c d s'
    go (inl x) = record { it = h.it; among = subst (λ (ts : List Transition). Has ts h.it) x.rows h.among; says = subst (λ (ns : List Part). Says text ns a b c d h.it) x.names h.says }
    go (inr x) = subst (Told text a b c d) x.taken.is (record { it = h.it; among = has_append_left s.rows _ h.it h.among; says = says_kept text (named text s.names x.b) x.c a b c d h.it (says_kept text s.names x.b a b c d h.it h.says) })

-- the row makes it
told_here : (text : List ℕ) (a b c d : Part) (n : ℕ) (s s' : Seen) → take_line text n s (row a b c d) ≡ Ok s' → Told text a b c d s'
told_here text a b c d n s s' e =
    let x = row_taken text n s a b c d s' e in
    subst (Told text a b c d) x.is (record { it = transition text s.names a b c d; among = has_push s.rows (transition text s.names a b c d); says = says_here text s a b c d x.fits })

-- without a clash all agree
abbrev Agree : Seen → Type 0
Agree s = s.clash ≡ None → AllAgree s.rows

-- a line keeps that
agree_step : (text : List ℕ) (n : ℕ) (s : Seen) (l : Line) (s' : Seen) → take_line text n s l ≡ Ok s' → Agree s → Agree s'
agree_step text n s l s' e h = go (line_cases text n s l s' e)
  where
    more : (names : List Part) (t : Transition) → Agree (with_row n s names t)
    more names t none = at s.clash (fits_rows s.rows t) refl refl none
      where
        at : (o : Option ℕ) (u : Bool) → s.clash ≡ o → fits_rows s.rows t ≡ u → or_else o (cond u None (Some n)) ≡ None → AllAgree (s.rows ++ t ∷ [])
        at None true f g z = agree_more s.rows t (h f) g
        at None false f g z = absurd (let w : ◌≡◌ {A = ℕ} 0 1 = cc in omega arith)
        at (Some m) u f g z = absurd (let w : ◌≡◌ {A = ℕ} 0 1 = cc in omega arith)

    go : SameRows s s' ⊎ RowLine text n s l s' → Agree s'
    go (inl x) = λ none. subst AllAgree x.rows (h (x.clash ∙ none))
    go (inr x) = subst Agree x.taken.is (more (names_with text s.names x.b x.c) (transition text s.names x.a x.b x.c x.d))

module _ (text : List ℕ) (s : Seen) (taken : take_lines text 1 nothing_seen (lines text) ≡ Ok s) where
  -- all lines together are sound
  pub lines_sound : Sound text s
  lines_sound = lines_keep text (Sound text) (lines text) (λ n r p l r' in' says e h. sound_line text n r l r' h (line_inside text p l (among_all (Inside text) p (lines text) (lines_inside text) in') says) e) 1 nothing_seen s taken (sound_nothing text)

  -- each transition is told by some row
  pub lines_came : AllByRecursion (Came text s.names) s.rows
  lines_came = lines_keep text (AllCame text) (lines text) (came_step text) 1 nothing_seen s taken tt

  -- each row is told by some transition
  pub lines_told : (a b c d : Part) → RowOf text a b c d → Told text a b c d s
  lines_told a b c d x = lines_reach text (Told text a b c d) x.0 (row a b c d) x.2 (told_step text a b c d) (told_here text a b c d) (lines text) x.1 1 nothing_seen s taken

  -- without a clash all agree
  pub lines_agree : s.clash ≡ None → AllAgree s.rows
  lines_agree = lines_keep text Agree (lines text) (λ n r p l r' in' says. agree_step text n r l r') 1 nothing_seen s taken (λ none t has. absurd (omega (arith, has.1)))
