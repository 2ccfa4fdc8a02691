-- Why a search gave no answer, and how its callers say so.
use Rattle.std.specs.Prelude.{ℕ, List, codes}
use Rattle.machine.specs.declared.refusal.Refusal.{Refusal}
use Rattle.machine.specs.declared.refusal.Refusal.TheVariants as refusal
use Rattle.search.specs.declared.search_error.SearchError.{SearchError}
use Rattle.search.specs.declared.search_error.SearchError.TheVariants.{WorkTooShort, AnswerTooShort}

-- the refusal of the same name
abbrev pub refusal_of : SearchError → Refusal
refusal_of WorkTooShort = refusal.WorkTooShort
refusal_of AnswerTooShort = refusal.AnswerTooShort

-- how it is printed
abbrev pub error_text : SearchError → List ℕ
error_text WorkTooShort = codes "a work slice is too short"
error_text AnswerTooShort = codes "the answer slice is too short"
