-- The ends in memory: what they hold, which of their calls fail, and what a call does.
use Rattle.std.specs.Prelude.{◌≡◌, ℕ, ◌⊎◌, ◌-◌, min, List, ◌++◌, length, drop, Contains}
use Rattle.io_ends.specs.Ends.{count_after}

-- a source in memory: the bytes that are left, the most that a call moves, the numbers of the calls that
-- fail, the number of the next call, and the count of failed calls
pub record MemoryBytes : Type 0 where
  pub bytes : List ℕ
  pub most : ℕ
  pub fails : List ℕ
  pub call : ℕ
  pub faults : ℕ

-- a sink in memory: the same of the bytes that it has taken, and the room that is left for more
pub record MemoryRoom : Type 0 where
  pub bytes : List ℕ
  pub room : ℕ
  pub most : ℕ
  pub fails : List ℕ
  pub call : ℕ
  pub faults : ℕ

-- the source's next call fails: its number is among those that do
abbrev pub SourceFails : MemoryBytes → Type 0
SourceFails s = Contains s.fails s.call

-- how many bytes a source's call moves into a buffer of this length, unless it fails
abbrev pub moved_count : MemoryBytes → ℕ → ℕ
moved_count s room = min (min s.most room) (length s.bytes)

-- a source after a call that moved n bytes
abbrev pub source_moved : MemoryBytes → ℕ → MemoryBytes
source_moved s n = record s { bytes = drop n s.bytes; call = count_after s.call }

-- a source after a call that failed
abbrev pub source_failed : MemoryBytes → MemoryBytes
source_failed s = record s { call = count_after s.call; faults = count_after s.faults }

-- the sink's next call fails: its number is among those that do, or no room is left
abbrev pub SinkFails : MemoryRoom → Type 0
SinkFails s = Contains s.fails s.call ⊎ (s.room ≡ 0)

-- how many bytes a sink's call takes of a piece of this length, unless it fails
abbrev pub taken_count : MemoryRoom → ℕ → ℕ
taken_count s len = min (min s.most len) s.room

-- a sink after a call that took these bytes
abbrev pub sink_taken : MemoryRoom → List ℕ → MemoryRoom
sink_taken s piece = record s { bytes = s.bytes ++ piece; room = s.room - length piece; call = count_after s.call }

-- a sink after a call that failed
abbrev pub sink_failed : MemoryRoom → MemoryRoom
sink_failed s = record s { call = count_after s.call; faults = count_after s.faults }
