use Rattle.std.proofs.Common.{length}
use Rattle.surface_text.specs.Spelling.{content}
use Rattle.surface_text.specs.Lines.{behind_field}
use Rattle.surface_text.proofs.Outcomes.{BodySoFar}
use Rattle.surface_text.proofs.reader.body.Given as goal

abbrev pub invariant-lines : goal.invariant-lines
invariant-lines l = BodySoFar (behind_field l.field l.bytes) (length l.bytes) (content l.file) l.rest

abbrev pub decreases-lines : goal.decreases-lines
decreases-lines l = length l.rest
