-- What a closed run of `plain`, `group` or `trial` has written.
use Rattle.std.specs.Prelude.{◌≡◌, ◌↔◌, ℕ, ℤ, List}
use Rattle.std.specs.List.{Contains}
use Rattle.surface_text.specs.Spelling.{Content}
use Rattle.surface_text.specs.declared.file.Point.{Point}
use Rattle.plane.specs.Matrices.{FieldMatrix}
use Rattle.tri_core.specs.declared.half.Half.{Half}
use Rattle.delaunay_flip.specs.Bases.{Ending, EndsListed}
use Rattle.returning.specs.Returning.{IsReturning, IsGenerated, HasDeterminantOne}
use Rattle.veech_cli.specs.SurfaceFiles.{IsTriangulationOf}
use Rattle.veech_cli.specs.Endings.{points_of}
use Rattle.veech_cli.specs.Classes.{AreClassesWithin}
use Rattle.veech_cli.specs.Groups.{AreMatricesOf}
use Rattle.veech_cli.specs.Writings.{Writing}

-- the base of a file, at a point: its triangulation is strictly Delaunay there after at most so many flips, at the first of the file's points that decides
pub record IsBaseOf (file : Content) (flips : ℕ) (point : Point) (base : List Half) : Type 0 where
  pub halves : List Half
  pub cut : IsTriangulationOf file halves
  pub made : ℕ
  pub strict : EndsListed file.field halves (points_of file) flips point (Ending.strict base made)

-- the file is a surface file with a base, and what was written is the text of the classes that crossings reach from the base, each by its code, ascending, and of
-- their matrices, which generate exactly the derivatives of the paths that return to an image of the base, and have determinant 1 each
pub record IsClosed (IsFile : Content → Type 0) (flips limit : ℕ) (writing : Writing) (written : List ℕ) : Type 0 where
  pub file : Content
  pub is_file : IsFile file
  pub point : Point
  pub base : List Half
  pub is_base : IsBaseOf file flips point base
  pub codes : List (List ℤ)
  pub matrices : List FieldMatrix
  pub report : written ≡ writing file.field point codes matrices
  pub classes : AreClassesWithin file.field base limit codes
  pub group : AreMatricesOf file.field base codes matrices
  pub generated : (a : FieldMatrix) → IsGenerated file.field matrices a ↔ IsReturning file.field base a
  pub determinants : (a : FieldMatrix) → Contains matrices a → HasDeterminantOne file.field a
