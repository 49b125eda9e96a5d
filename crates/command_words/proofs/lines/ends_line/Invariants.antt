use Rattle.std.proofs.Common.{◌≤◌, ◌-◌, List, map, length, string_bytes}
use Rattle.command_words.specs.Lines.{Given}
use Rattle.command_words.specs.Rows.{row_of}
use Rattle.command_words.proofs.LineLemmas.{Begins}
use Rattle.command_words.proofs.lines.ends_line.Given as goal

-- the options that the words before this place give
abbrev pub invariant-loop-front : goal.invariant-loop-front
invariant-loop-front l = (l.at ≤ length l.words) × ((options : List Given) × Begins (row_of l.row) (map string_bytes l.words) l.at options)

abbrev pub decreases-loop-front : goal.decreases-loop-front
decreases-loop-front l = length l.words - l.at
