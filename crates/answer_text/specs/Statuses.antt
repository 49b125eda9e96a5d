-- The number of each status, and the statuses that name a point.
use Rattle.std.specs.Prelude.{ℕ, ⊤}
use Rattle.surface_text.specs.Limits.{IsBasePoint}
use Rattle.answer_text.specs.declared.status.Status.{Status}
use Rattle.answer_text.specs.declared.status.Status.TheVariants.{Done, Words, File, NotStrict, FlipsEnded, TooWide, LimitPassed, ReadFault, WriteFault, Memory, No}

-- the number of each status
abbrev pub number_of : Status → ℕ
number_of Done = 0
number_of Words = 2
number_of (File cause line) = 3
number_of (NotStrict edge) = 4
number_of (FlipsEnded point) = 5
number_of (TooWide formula place) = 6
number_of (LimitPassed limit) = 7
number_of ReadFault = 8
number_of WriteFault = 9
number_of Memory = 10
number_of (No cause) = 11

-- a point that the status names is a base point
abbrev pub HasBasePoint : Status → Type 0
HasBasePoint (FlipsEnded point) = IsBasePoint point
HasBasePoint other = ⊤
