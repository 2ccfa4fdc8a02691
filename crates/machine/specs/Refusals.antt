-- The fixed number of each refusal.
use Rattle.std.specs.Prelude.{ℕ}
use Rattle.machine.specs.declared.refusal.Refusal.{Refusal}
use Rattle.machine.specs.declared.refusal.Refusal.TheVariants.{TextTooLong, BadLine, RowBeforeWidths, BadDigits, BadName, RowsDisagree, CellNotGiven, CountMismatch, OutsideDeviceRules, BadAlteredCell, NoSuchMember, OutOfRange, BadSequence, WorkTooShort, AnswerTooShort, WidthsDiffer, FaultNotOpen, SequencesFull, LettersFull, NoSuchSequence}

abbrev pub refusal_number : Refusal → ℕ
-- a text has more bytes than a text may have
refusal_number TextTooLong = 1
-- a line of the text is wrong in a way that no other case names
refusal_number BadLine = 2
-- a row stands before both widths are known
refusal_number RowBeforeWidths = 3
-- an input or output word of another length, or with a byte that is no digit
refusal_number BadDigits = 4
-- a name that is too long, or one state too many
refusal_number BadName = 5
-- two rows give one cell two contents
refusal_number RowsDisagree = 6
-- a cell that no row gives
refusal_number CellNotGiven = 7
-- a stated count is not the one found, or the reset is not among the states
refusal_number CountMismatch = 8
-- something handed in for a device that its rules do not allow
refusal_number OutsideDeviceRules = 9
-- an altered cell out of range, or too many of them
refusal_number BadAlteredCell = 10
-- the device has no such member, or 0 where a fault is meant
refusal_number NoSuchMember = 11
-- a state, a pair or a name entry that is not there
refusal_number OutOfRange = 12
-- a sequence without letters, with too many, or with one that the device lacks
refusal_number BadSequence = 13
-- a work slice, cell slice or names slice is too short
refusal_number WorkTooShort = 14
-- the slice that the answer belongs to is too short for it
refusal_number AnswerTooShort = 15
-- two tables with unequal input or output widths
refusal_number WidthsDiffer = 16
-- the fault has been settled already
refusal_number FaultNotOpen = 21
-- as many sequences are kept as can be
refusal_number SequencesFull = 22
-- the sequence has more letters than are left
refusal_number LettersFull = 23
-- no kept sequence has that number
refusal_number NoSuchSequence = 24
