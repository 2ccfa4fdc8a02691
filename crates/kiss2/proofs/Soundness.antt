-- Every line that is taken keeps what the lines before it made true.
use Rattle.std.proofs.Common.{◌≡◌, ℕ, ◌≤◌, Bool, true, false, cond, ◌&&◌, ◌||◌, ltb, leb, List, length, is_some, Some, None, Ok, Err, Option, Result, unwrap_or, refl, subst, arith, length-drop, length-take}
use Rattle.std.proofs.ByRecursion.{All-push, All-weaker}
use Rattle.std.proofs.lemmas.List.{nil_from_length}
use Rattle.std.proofs.lemmas.Bool.{and_parts, eqb-true, leb-true, ltb-false, or_parts}
use Rattle.machine.specs.declared.refusal.Refusal.{Refusal}
use Rattle.machine.specs.declared.refusal.Refusal.TheVariants.{BadLine, BadName, BadDigits, RowBeforeWidths}
use Rattle.kiss2.specs.Headings.{count_of, decimal, is_count, read_with, reset_name, short_name, stated, take_directive, with_directive, with_end}
use Rattle.kiss2.specs.Laws.{Inside}
use Rattle.kiss2.specs.Lines.{Line, blank, directive, end, row, opens_with_stop}
use Rattle.kiss2.specs.Readings.{Seen, headed, names_with, nothing_seen, take_line, transition, unless, with_heading, with_row}
use Rattle.kiss2.specs.Rows.{Transition, has_width, named, row_refusal}
use Rattle.kiss2.specs.Seeing.{LineInside, NameInside, RowSound, Sound, WidthUpto}
use Rattle.kiss2.specs.Texts.{bytes_of}
use Rattle.kiss2.specs.declared.heading.Heading.{Heading}
use Rattle.kiss2.specs.declared.line.Key.{Key}
use Rattle.kiss2.specs.declared.line.Key.TheVariants.{Inputs, Outputs, Rows, States, Reset}
use Rattle.kiss2.specs.declared.part.Part.{Part}
use Rattle.kiss2.proofs.Entries.{named_apart, named_below, named_each, named_grows}

-- what was read is the value
pub ok_same : {X E : Type 0} (x y : X) → ◌≡◌ {A = Result X E} (Ok x) (Ok y) → x ≡ y
ok_same x y e = cc

-- a value is no refusal
pub no_value : {X E A : Type 0} (r : E) (y : X) → ◌≡◌ {A = Result X E} (Err r) (Ok y) → A
no_value r y e = absurd (let z : ◌≡◌ {A = ℕ} 0 1 = cc in omega arith)

-- a part that lies in the text has all its bytes
pub inside_length : (text : List ℕ) (p : Part) → Inside text p → length (bytes_of text p) ≡ p.length
inside_length text p h = simp (length-take, length-drop) (omega arith)

-- no line seen
pub sound_nothing : (text : List ℕ) → Sound text nothing_seen
sound_nothing text = record {
  inputs = tt;
  outputs = tt;
  reset = tt;
  few_names = omega arith;
  names_inside = λ q h. absurd (omega arith);
  short_names = λ q h. absurd (omega arith);
  names_apart = λ q p h k e. absurd (omega arith);
  widths_known = λ h. absurd (omega arith);
  rows = tt;
}

-- what holds of a heading
record HeadingSound (text : List ℕ) (h : Heading) : Type 0 where
  inputs : WidthUpto 6 h.inputs
  outputs : WidthUpto 32 h.outputs
  reset : NameInside text h.reset

-- a count that is read is in range
pub count_range : (least most : ℕ) (ds : List ℕ) (n : ℕ) → count_of least most ds ≡ Ok n → (least ≤ n) × (n ≤ most)
count_range least most ds n e = go (is_count ds && (leb least (decimal ds) && leb (decimal ds) most)) refl e
  where
    go : (t : Bool) → (is_count ds && (leb least (decimal ds) && leb (decimal ds) most)) ≡ t → cond t (Ok (decimal ds)) (Err BadLine) ≡ Ok n → (least ≤ n) × (n ≤ most)
    go true h f =
        let k = and_parts (leb least (decimal ds)) _ (and_parts (is_count ds) _ h).1 in
        let same = ok_same (decimal ds) n f in
        (omega (arith, leb-true least (decimal ds) k.0), omega (arith, leb-true (decimal ds) most k.1))
    go false h f = no_value BadLine n f

-- a reset name that is read is the word
reset_is : (w : Part) (s : List ℕ) (p : Part) → reset_name w s ≡ Ok p → w ≡ p
reset_is w s p e = go (opens_with_stop s) (short_name s) e
  where
    go : (t u : Bool) → cond t (Err BadLine) (cond u (Ok w) (Err BadName)) ≡ Ok p → w ≡ p
    go true u f = no_value BadLine p f
    go false true f = ok_same w p f
    go false false f = no_value BadName p f

-- a heading that is read has a value
read_parts : {X : Type 0} (r : Result X Refusal) (f : X → Heading) (h : Heading) → read_with r f ≡ Ok h → (x : X) × (r ≡ Ok x) × (f x ≡ h)
read_parts (Ok x) f h e = (x, refl, ok_same (f x) h e)
read_parts (Err r) f h e = no_value r h e

-- a directive keeps what holds of the heading
heading_with : (text : List ℕ) (h : Heading) (key : Key) (w : Part) (s : List ℕ) (h' : Heading) → HeadingSound text h → Inside text w → with_directive h key w s ≡ Ok h' → HeadingSound text h'
heading_with text h Inputs w s h' sound inside e =
    let x = read_parts (count_of 1 6 s) _ h' e in
    subst (HeadingSound text) x.2 (record { inputs = count_range 1 6 s x.0 x.1; outputs = sound.outputs; reset = sound.reset })
heading_with text h Outputs w s h' sound inside e =
    let x = read_parts (count_of 1 32 s) _ h' e in
    subst (HeadingSound text) x.2 (record { inputs = sound.inputs; outputs = count_range 1 32 s x.0 x.1; reset = sound.reset })
heading_with text h Rows w s h' sound inside e =
    let x = read_parts (count_of 0 99999 s) _ h' e in
    subst (HeadingSound text) x.2 (record { inputs = sound.inputs; outputs = sound.outputs; reset = sound.reset })
heading_with text h States w s h' sound inside e =
    let x = read_parts (count_of 0 99999 s) _ h' e in
    subst (HeadingSound text) x.2 (record { inputs = sound.inputs; outputs = sound.outputs; reset = sound.reset })
heading_with text h Reset w s h' sound inside e =
    let x = read_parts (reset_name w s) _ h' e in
    subst (HeadingSound text) x.2 (record { inputs = sound.inputs; outputs = sound.outputs; reset = subst (Inside text) (reset_is w s x.0 x.1) inside })

-- a directive that is taken stands before the first row
directive_parts : (started : Bool) (h : Heading) (key : Key) (w : Part) (s : List ℕ) (h' : Heading) → take_directive started h key w s ≡ Ok h' → (started ≡ false) × (with_directive h key w s ≡ Ok h')
directive_parts started h key w s h' e = go (started || stated h key) refl e
  where
    go : (t : Bool) → (started || stated h key) ≡ t → cond t (Err BadLine) (with_directive h key w s) ≡ Ok h' → (started ≡ false) × (with_directive h key w s ≡ Ok h')
    go true k f = no_value BadLine h' f
    go false k f = ((or_parts started (stated h key) k).0, f)

-- why a row is not refused by itself
pub record RowFits (h : Heading) (input current next output : List ℕ) : Type 0 where
  pub inputs_known : is_some h.inputs ≡ true
  pub outputs_known : is_some h.outputs ≡ true
  pub input_wide : has_width (unwrap_or h.inputs 0) input ≡ true
  pub output_wide : has_width (unwrap_or h.outputs 0) output ≡ true
  pub current_short : length current ≤ 16
  pub next_short : length next ≤ 16

-- a row that is not refused by itself fits
pub row_fits : (h : Heading) (input current next output : List ℕ) → row_refusal h input current next output ≡ None → RowFits h input current next output
row_fits h input current next output e =
    go (is_some h.inputs && is_some h.outputs) (has_width (unwrap_or h.inputs 0) input && has_width (unwrap_or h.outputs 0) output) (short_name current && short_name next) refl refl refl e
  where
    go : (t u v : Bool) → (is_some h.inputs && is_some h.outputs) ≡ t → (has_width (unwrap_or h.inputs 0) input && has_width (unwrap_or h.outputs 0) output) ≡ u → (short_name current && short_name next) ≡ v → cond t (cond u (cond v None (Some BadName)) (Some BadDigits)) (Some RowBeforeWidths) ≡ None → RowFits h input current next output
    go true true true i j k f =
        let x = and_parts (is_some h.inputs) (is_some h.outputs) i in
        let y = and_parts (has_width (unwrap_or h.inputs 0) input) (has_width (unwrap_or h.outputs 0) output) j in
        let z = and_parts (short_name current) (short_name next) k in
        record { inputs_known = x.0; outputs_known = x.1; input_wide = y.0; output_wide = y.1; current_short = leb-true (length current) 16 z.0; next_short = leb-true (length next) 16 z.1 }
    go true true false i j k f = absurd (let z : ◌≡◌ {A = ℕ} 0 1 = cc in omega arith)
    go true false v i j k f = absurd (let z : ◌≡◌ {A = ℕ} 0 1 = cc in omega arith)
    go false u v i j k f = absurd (let z : ◌≡◌ {A = ℕ} 0 1 = cc in omega arith)

-- a row that is taken: it fits, leaves few names, and gives these lines
pub record RowTaken (text : List ℕ) (n : ℕ) (s : Seen) (a b c d : Part) (s' : Seen) : Type 0 where
  pub fits : RowFits s.heading (bytes_of text a) (bytes_of text b) (bytes_of text c) (bytes_of text d)
  pub few : length (names_with text s.names b c) ≤ 256
  pub is : with_row n s (names_with text s.names b c) (transition text s.names a b c d) ≡ s'

-- a row that is taken is so
pub row_taken : (text : List ℕ) (n : ℕ) (s : Seen) (a b c d : Part) (s' : Seen) → take_line text n s (row a b c d) ≡ Ok s' → RowTaken text n s a b c d s'
row_taken text n s a b c d s' e = go s.heading.ended (row_refusal s.heading (bytes_of text a) (bytes_of text b) (bytes_of text c) (bytes_of text d)) (leb (length (names_with text s.names b c)) 256) refl refl e
  where
    go : (t : Bool) (o : Option Refusal) (u : Bool) → row_refusal s.heading (bytes_of text a) (bytes_of text b) (bytes_of text c) (bytes_of text d) ≡ o → leb (length (names_with text s.names b c)) 256 ≡ u → cond t (Err BadLine) (unless o (cond u (Ok (with_row n s (names_with text s.names b c) (transition text s.names a b c d))) (Err BadName))) ≡ Ok s' → RowTaken text n s a b c d s'
    go true o u i j f = no_value BadLine s' f
    go false (Some r) u i j f = no_value r s' f
    go false None false i j f = no_value BadName s' f
    go false None true i j f = record { fits = row_fits _ _ _ _ _ i; few = leb-true _ _ j; is = ok_same _ s' f }

-- a row keeps what holds
sound_row : (text : List ℕ) (n : ℕ) (s : Seen) (a b c d : Part) (s' : Seen) → Sound text s → LineInside text (row a b c d) → RowTaken text n s a b c d s' → Sound text s'
sound_row text n s a b c d s' sound inside taken = subst (Sound text) taken.is (record {
  inputs = sound.inputs;
  outputs = sound.outputs;
  reset = sound.reset;
  few_names = taken.few;
  names_inside = named_each text (named text s.names b) c (Inside text) (named_each text s.names b (Inside text) sound.names_inside inside.1) inside.2;
  short_names = named_each text (named text s.names b) c (λ p. p.length ≤ 16) (named_each text s.names b (λ p. p.length ≤ 16) sound.short_names (omega (arith, inside_length text b inside.1, taken.fits.current_short))) (omega (arith, inside_length text c inside.2, taken.fits.next_short));
  names_apart = named_apart text (named text s.names b) c (named_apart text s.names b sound.names_apart);
  widths_known = λ h. (taken.fits.inputs_known, taken.fits.outputs_known);
  rows = All-push (RowSound width states) s.rows t (All-weaker (RowSound width (length s.names)) (RowSound width states) (λ x h. record { current_inside = omega (arith, h.current_inside, more, even_more); next_inside = omega (arith, h.next_inside, more, even_more); wide = h.wide }) s.rows sound.rows) here;
})
  where
    width : ℕ
    width = unwrap_or s.heading.inputs 0

    states : ℕ
    states = length (names_with text s.names b c)

    t : Transition
    t = transition text s.names a b c d

    more : length s.names ≤ length (named text s.names b)
    more = named_grows text s.names b

    even_more : length (named text s.names b) ≤ states
    even_more = named_grows text (named text s.names b) c

    here : RowSound width states t
    here = record {
      current_inside = omega (arith, named_below text s.names b, even_more);
      next_inside = named_below text (named text s.names b) c;
      wide = eqb-true (length (bytes_of text a)) width (and_parts _ _ taken.fits.input_wide).0;
    }

-- a heading that is taken keeps what holds
sound_headed : (text : List ℕ) (s : Seen) (r : Result Heading Refusal) (s' : Seen) → ((h : Heading) → r ≡ Ok h → Sound text (with_heading s h)) → headed s r ≡ Ok s' → Sound text s'
sound_headed text s (Ok h) s' more e = subst (Sound text) (ok_same (with_heading s h) s' e) (more h refl)
sound_headed text s (Err r) s' more e = no_value r s' e

-- a directive that is taken keeps what holds
sound_directive : (text : List ℕ) (s : Seen) (key : Key) (w : Part) (h : Heading) → Sound text s → Inside text w → take_directive (ltb 0 (length s.rows)) s.heading key w (bytes_of text w) ≡ Ok h → Sound text (with_heading s h)
sound_directive text s key w h sound inside e = record {
  inputs = kept.inputs;
  outputs = kept.outputs;
  reset = kept.reset;
  few_names = sound.few_names;
  names_inside = sound.names_inside;
  short_names = sound.short_names;
  names_apart = sound.names_apart;
  widths_known = λ k. absurd (omega (arith, none));
  rows = rw (nil_from_length s.rows (omega (arith, none))) tt;
}
  where
    parts : (ltb 0 (length s.rows) ≡ false) × (with_directive s.heading key w (bytes_of text w) ≡ Ok h)
    parts = directive_parts (ltb 0 (length s.rows)) s.heading key w (bytes_of text w) h e

    none : length s.rows ≤ 0
    none = ltb-false 0 (length s.rows) parts.0

    kept : HeadingSound text h
    kept = heading_with text s.heading key w (bytes_of text w) h (record { inputs = sound.inputs; outputs = sound.outputs; reset = sound.reset }) inside parts.1

-- the end keeps what holds
sound_end : (text : List ℕ) (s : Seen) → Sound text s → Sound text (with_heading s (with_end s.heading))
sound_end text s sound = record {
  inputs = sound.inputs;
  outputs = sound.outputs;
  reset = sound.reset;
  few_names = sound.few_names;
  names_inside = sound.names_inside;
  short_names = sound.short_names;
  names_apart = sound.names_apart;
  widths_known = sound.widths_known;
  rows = sound.rows;
}

-- a line that is taken keeps what holds
pub sound_line : (text : List ℕ) (n : ℕ) (s : Seen) (l : Line) (s' : Seen) → Sound text s → LineInside text l → take_line text n s l ≡ Ok s' → Sound text s'
sound_line text n s blank s' sound inside e = subst (Sound text) (ok_same s s' e) sound
sound_line text n s (directive key w) s' sound inside e = go s.heading.ended e
  where
    go : (t : Bool) → cond t (Err BadLine) (headed s (take_directive (ltb 0 (length s.rows)) s.heading key w (bytes_of text w))) ≡ Ok s' → Sound text s'
    go true f = no_value BadLine s' f
    go false f = sound_headed text s _ s' (λ h. sound_directive text s key w h sound inside) f
sound_line text n s end s' sound inside e = go s.heading.ended e
  where
    go : (t : Bool) → cond t (Err BadLine) (Ok (with_heading s (with_end s.heading))) ≡ Ok s' → Sound text s'
    go true f = no_value BadLine s' f
    go false f = subst (Sound text) (ok_same (with_heading s (with_end s.heading)) s' f) (sound_end text s sound)
sound_line text n s (row a b c d) s' sound inside e = sound_row text n s a b c d s' sound inside (row_taken text n s a b c d s' e)
