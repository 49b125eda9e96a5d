-- The walls and the leads of a class are those of each image of its canonical triangulation.
use Rattle.std.proofs.Common.{ℕ, ◌*◌, ◌<◌, List, length, subst}
use Rattle.std.specs.Prelude.{ℤ}
use Rattle.rings.specs.Matrices.{Matrix, matrix_product}
use Rattle.quad_field.specs.declared.quad.Quad.{Quad}
use Rattle.quad_field.specs.Quads.{quad_ops}
use Rattle.quad_field.specs.FieldNumber.{IsFieldNumber}
use Rattle.plane.specs.Matrices.{FieldMatrix}
use Rattle.tri_core.specs.declared.half.Half.{Half}
use Rattle.tri_core.specs.Triangulation.{IsTriangulation}
use Rattle.tri_core.specs.Images.{IsImage, IsImageBy}
use Rattle.parabola_region.specs.WallLists.{PlainWall, form_of, edges_of, IsWallList}
use Rattle.wall_cross.specs.Crossings.{AreAllFlipped, Crosses}
use Rattle.wall_cross.specs.Correspondence.{AreWalls}
use Rattle.wall_cross.proofs.CallerLemmas.{crossing_of_wall}
use Rattle.wall_cross.proofs.CarriedCallers.{wall_to, wall_from, one_to, one_from, class_crossing}
use Rattle.canon_code.specs.Canonical.{canonical}
use Rattle.canon_code.proofs.CallerLemmas.{image_of_frame}
use Rattle.class_node.specs.Classes.{IsClassOver, AreWallsOf}
use Rattle.class_node.specs.Leads.{IsFrame, IsLead}
use Rattle.class_node.specs.Correspondence.{AreMatchingWalls, AreOneToOne}
use Rattle.class_node.specs.Once.{class_valid, one_list_of_walls, behind_valid}

-- the walls of a list by their numbers
pub listed_walls : (d : ℕ) (halves : List Half) (walls : List PlainWall) → IsWallList d halves walls → AreWalls d halves (length walls) (form_of walls) (edges_of walls)
listed_walls d halves walls list = record { ascends = list.ascends; each = list.each; every = list.every }

-- the walls of a triangulation and those of its image
pub one_to_one : (d : ℕ) (n : Matrix Quad) (m : ℕ) (from to : List Half) (forth back : ℕ → ℕ) (walls others : List PlainWall) → IsFieldNumber d → IsTriangulation d from → IsTriangulation d to
    → IsImage d n m from to forth back → IsWallList d from walls → IsWallList d to others → AreOneToOne d n from to forth walls others
one_to_one d n m from to forth back walls others field valid valid_to image list also =
    let first = listed_walls d from walls list in
    let second = listed_walls d to others also in
    record {
      each = wall_to d field n m from to forth back valid valid_to image (length walls) (length others) (form_of walls) (form_of others) (edges_of walls) (edges_of others) first second;
      every = wall_from d field n m from to forth back valid valid_to image (length walls) (length others) (form_of walls) (form_of others) (edges_of walls) (edges_of others) first second;
      one = one_to d field n m from to forth back valid valid_to image (length walls) (length others) (form_of walls) (form_of others) (edges_of walls) (edges_of others) first second;
      once = λ u w v. one_from d field n m from to forth back valid valid_to image (length walls) (length others) (form_of walls) (form_of others) (edges_of walls) (edges_of others) first second u w v;
    }

-- a frame takes the canonical triangulation to the one whose frame it is
pub frame_image : (d : ℕ) (halves : List Half) (code : List ℤ) (frame : FieldMatrix) → IsFieldNumber d → IsTriangulation d halves → IsFrame d halves code frame
    → IsImageBy d frame.rows frame.denominator (canonical d code) halves
frame_image d halves code frame field valid own =
    image_of_frame d field halves own.start code frame.rows frame.denominator valid own.is_start.0 own.is_start.1 own.frame_at.lowest.positive own.frame_at.carries

module _ (d : ℕ) (code : List ℤ) (own : IsClassOver d code) (walls : List PlainWall) (are : AreWallsOf d code walls) (w : ℕ) (to : List ℤ) (link : FieldMatrix) (lead : IsLead d code w to link) where
  -- what lies behind a wall with a lead is the crossing of the wall
  pub lead_crosses : w < length walls → Crosses d (canonical d code) (form_of walls w) (edges_of walls w) lead.later
  lead_crosses less =
      crossing_of_wall d (canonical d code) lead.later (form_of walls w) (edges_of walls w) (are.each w less)
      (subst (λ (list : List PlainWall). AreAllFlipped d (canonical d code) (edges_of list w) lead.later) (one_list_of_walls d code own lead.behind.0 walls lead.behind.1 are) lead.behind.3)

  -- and the frame takes the canonical triangulation of the class to which the wall leads to it
  pub lead_image : IsImageBy d link.rows link.denominator (canonical d to) lead.later
  lead_image = frame_image d lead.later to link own.0 (behind_valid d code own w lead.later lead.behind) lead.frame

  pub lead_carried : (a : Matrix Quad) (p : ℕ) (image later : List Half) (others : List PlainWall) (v : ℕ) → IsTriangulation d image → IsImageBy d a p (canonical d code) image
      → w < length walls → AreMatchingWalls d a walls w others v → Crosses d image (form_of others v) (edges_of others v) later
      → IsImageBy d (matrix_product (quad_ops d) a link.rows) (p * link.denominator) (canonical d to) later
  lead_carried a p image later others v valid is less matching crosses =
      class_crossing d own.0 a link.rows p link.denominator (canonical d code) image (canonical d to) lead.later later (form_of walls w) (form_of others v) (edges_of walls w) (edges_of others v)
      (class_valid d code own) valid is (lead_crosses less) lead_image crosses matching
