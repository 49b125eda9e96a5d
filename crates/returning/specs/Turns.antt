-- The turns of the classes that a graph lists.
use Rattle.std.specs.Prelude.{◌≡◌, ℕ, ℤ, List, length}
use Rattle.plane.specs.Matrices.{FieldMatrix}
use Rattle.terrain.specs.Places.{IsAt}
use Rattle.canon_code.specs.Canonical.{canonical}
use Rattle.class_node.specs.Leads.{AreFrames}

-- for each class of a list the frames of all starts of its canonical triangulation
pub record AreTurns (d : ℕ) (keys : List (List ℤ)) (turns : List (List FieldMatrix)) : Type 0 where
  pub as_many : length turns ≡ length keys
  pub each : (c : ℕ) (key : List ℤ) (frames : List FieldMatrix) → IsAt keys c key → IsAt turns c frames → AreFrames d (canonical d key) key frames
