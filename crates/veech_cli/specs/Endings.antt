-- How the flipping of a file's triangulation ends, and what is answered then.
use Rattle.std.specs.Prelude.{ℕ, List, [], ◌∷◌}
use Rattle.surface_text.specs.Spelling.{Content}
use Rattle.surface_text.specs.declared.file.Point.{Point}
use Rattle.delaunay_flip.specs.Points.{standard_points}
use Rattle.delaunay_flip.specs.Bases.{Ending}
use Rattle.answer_text.specs.declared.status.Status.{Status}
use Rattle.answer_text.specs.declared.status.Status.TheVariants.{Done, NotStrict, FlipsEnded, TooWide}
use Rattle.answer_text.specs.declared.place.Place.TheVariants.{Flips}
use Rattle.answer_text.specs.Lines.{status_line}
use Rattle.answer_text.specs.BaseTexts.{half_edges_text}

-- these points, or the standard points where there are none
abbrev pub or_standard : List Point → List Point
or_standard [] = standard_points
or_standard (at ∷ bases) = at ∷ bases

-- the points at which a file's base is looked for: its base lines, or the standard points where it has none
abbrev pub points_of : Content → List Point
points_of file = or_standard file.bases

-- the status that says an ending at a point
abbrev pub status_of_ending : Point → Ending → Status
status_of_ending at (Ending.strict later n) = Done
status_of_ending at (Ending.not_strict h) = NotStrict h
status_of_ending at Ending.flips_ended = FlipsEnded at
status_of_ending at (Ending.wide formula n h) = TooWide formula (Flips n h)

-- what `base` writes of it: the strict triangulation, or the line of the status
abbrev pub text_of_ending : Point → Ending → List ℕ
text_of_ending at (Ending.strict later n) = half_edges_text at n later
text_of_ending at other = status_line (status_of_ending at other)
