-- What the directives of a text say.
use Rattle.std.specs.Prelude.{ℕ, ◌+◌, ◌-◌, ◌*◌, Bool, true, false, if◌then◌else◌, ◌&&◌, ◌||◌, List, length, is_some, Some, None, Ok, Err, fold, Result, nat_le, nat_lt}
use Rattle.machine.specs.Lists.{all}
use Rattle.machine.specs.declared.refusal.Refusal.{Refusal}
use Rattle.machine.specs.declared.refusal.Refusal.TheVariants.{BadLine, BadName}
use Rattle.kiss2.specs.Lines.{opens_with_stop}
use Rattle.kiss2.specs.declared.heading.Heading.{Heading}
use Rattle.kiss2.specs.declared.line.Key.{Key}
use Rattle.kiss2.specs.declared.line.Key.TheVariants.{Inputs, Outputs, Rows, States, Reset}
use Rattle.kiss2.specs.declared.part.Part.{Part}

-- nothing said yet
abbrev pub nothing_said : Heading
nothing_said = record { inputs = None; outputs = None; rows = None; states = None; reset = None; ended = false }

-- a decimal digit
abbrev pub is_digit : ℕ → Bool
is_digit b = nat_le 48 b && nat_le b 57

-- a count is written with one to five digits
abbrev pub is_count : List ℕ → Bool
is_count ds = nat_lt 0 (length ds) && (nat_le (length ds) 5 && all is_digit ds)

-- the number that decimal digits write
abbrev pub decimal : List ℕ → ℕ
decimal ds = fold (λ n d. n * 10 + (d - 48)) 0 ds

-- the count that a word writes, from least to most
abbrev pub count_of : ℕ → ℕ → List ℕ → Result ℕ Refusal
count_of least most ds = if is_count ds && (nat_le least (decimal ds) && nat_le (decimal ds) most) then Ok (decimal ds) else Err BadLine

-- a name that a text may give a state: at most 16 bytes
abbrev pub short_name : List ℕ → Bool
short_name s = nat_le (length s) 16

-- whether a directive has been given
abbrev pub stated : Heading → Key → Bool
stated h Inputs = is_some h.inputs
stated h Outputs = is_some h.outputs
stated h Rows = is_some h.rows
stated h States = is_some h.states
stated h Reset = is_some h.reset

-- the heading that a word's value gives, where it has one
abbrev pub read_with : {X : Type 0} → Result X Refusal → (X → Heading) → Result Heading Refusal
read_with (Ok x) f = Ok (f x)
read_with (Err r) f = Err r

-- the name of a reset state, the part w with these bytes
abbrev pub reset_name : Part → List ℕ → Result Part Refusal
reset_name w s = if opens_with_stop s then Err BadLine else (if short_name s then Ok w else Err BadName)

-- the heading with one directive more, whose word is the part w with these bytes
abbrev pub with_directive : Heading → Key → Part → List ℕ → Result Heading Refusal
with_directive h Inputs w s = read_with (count_of 1 6 s) (λ n. record { inputs = Some n; outputs = h.outputs; rows = h.rows; states = h.states; reset = h.reset; ended = h.ended })
with_directive h Outputs w s = read_with (count_of 1 32 s) (λ n. record { inputs = h.inputs; outputs = Some n; rows = h.rows; states = h.states; reset = h.reset; ended = h.ended })
with_directive h Rows w s = read_with (count_of 0 99999 s) (λ n. record { inputs = h.inputs; outputs = h.outputs; rows = Some n; states = h.states; reset = h.reset; ended = h.ended })
with_directive h States w s = read_with (count_of 0 99999 s) (λ n. record { inputs = h.inputs; outputs = h.outputs; rows = h.rows; states = Some n; reset = h.reset; ended = h.ended })
with_directive h Reset w s = read_with (reset_name w s) (λ p. record { inputs = h.inputs; outputs = h.outputs; rows = h.rows; states = h.states; reset = Some p; ended = h.ended })

-- the heading behind the end
abbrev pub with_end : Heading → Heading
with_end h = record { inputs = h.inputs; outputs = h.outputs; rows = h.rows; states = h.states; reset = h.reset; ended = true }

-- a directive is taken before the first row and once
abbrev pub take_directive : Bool → Heading → Key → Part → List ℕ → Result Heading Refusal
take_directive started h key w s = if started || stated h key then Err BadLine else with_directive h key w s
