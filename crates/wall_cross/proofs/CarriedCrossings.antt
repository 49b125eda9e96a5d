-- The crossing of a wall of an image: all flips of its edges leave the image of what all flips of the first wall's edges leave.
use Rattle.std.proofs.Common.{◌≡◌, ℕ, ◌<◌, List, length}
use Rattle.rings.specs.Matrices.{Matrix}
use Rattle.quad_field.specs.declared.quad.Quad.{Quad}
use Rattle.quad_field.specs.FieldNumber.{IsFieldNumber}
use Rattle.tri_core.specs.declared.half.Half.{Half}
use Rattle.tri_core.specs.Triangulation.{IsTriangulation}
use Rattle.tri_core.specs.SeveralFlips.{is_among}
use Rattle.tri_core.specs.Images.{IsImage}
use Rattle.tri_core.proofs.CallerLemmas.{bool_equal, forth_inside}
use Rattle.hinge_form.specs.Triples.{Triple}
use Rattle.hinge_form.specs.Walls.{IsWall}
use Rattle.wall_cross.specs.Edges.{AreMatching}
use Rattle.wall_cross.specs.Crossings.{AreAllFlipped}
use Rattle.wall_cross.proofs.Members.{on_line, from_line, wall_spread}
use Rattle.wall_cross.proofs.CarriedWalls.{halves_match}
use Rattle.wall_cross.proofs.CarriedFlips.{all_flipped_image}

module _ (d : ℕ) (field : IsFieldNumber d) (n : Matrix Quad) (m : ℕ) (from to : List Half) (forth back : ℕ → ℕ) (valid : IsTriangulation d from) (valid_to : IsTriangulation d to)
    (image : IsImage d n m from to forth back) (l r : Triple) (matching : AreMatching d n l r) (edges others : List ℕ) (wall : IsWall d from l edges) (wall_to : IsWall d to r others) where
  -- the half-edges of the image's wall are the images of the wall's
  same_set : (k : ℕ) → k < length from → is_among to others (length others) (forth k) ≡ is_among from edges (length edges) k
  same_set k below =
      let there = forth_inside d n m from to forth back image k below in
      let both = halves_match d field n m from to forth back valid valid_to image l r matching k below in
      bool_equal _ _
      (λ e. from_line d field from valid l edges wall k below (both.1 (on_line d field to valid_to r others wall_to (forth k) there e)))
      (λ e. from_line d field to valid_to r others wall_to (forth k) there (both.0 (on_line d field from valid l edges wall k below e)))

  pub crossing_image : (later later_to : List Half) → AreAllFlipped d from edges later → AreAllFlipped d to others later_to → IsImage d n m later later_to forth back
  crossing_image later later_to flips flips_to =
      all_flipped_image d n m from to forth back valid image (is_among from edges (length edges)) (is_among to others (length others)) same_set
      (wall_spread d field from valid l edges wall) later later_to flips flips_to
