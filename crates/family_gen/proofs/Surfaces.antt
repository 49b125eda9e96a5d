-- The file of each number is within the limits of the text, short, and a surface.
use Rattle.std.proofs.Common.{◌≡◌, ℕ, zero, suc, ◌+◌, ◌/◌, ◌%◌, ◌<◌, ◌≤◌, List, [], length, refl, sym, subst, arith}
use Rattle.std.specs.List.{AllByRecursion}
use Rattle.std.proofs.lemmas.List.{length-replicate}
use Rattle.surface_text.specs.declared.file.Point.{Point}
use Rattle.surface_text.specs.Spelling.{Content, text}
use Rattle.surface_text.specs.Limits.{IsBasePoint, IsWithinLimits}
use Rattle.gluing.specs.Gluings.{no_glue, IsGluing, gluing_of}
use Rattle.family_gen.specs.Tilings.{Tiling, unit_square, row, ell, staircase, tiling_file}
use Rattle.family_gen.specs.Octagons.{octagon_file}
use Rattle.family_gen.specs.Families.{file_of, family_of}
use Rattle.family_gen.proofs.NamedSides.{all_from}
use Rattle.family_gen.proofs.SmallNumbers.{IsLittlePolygon, IsLittleGlue, small_square, short_text}
use Rattle.family_gen.proofs.SquaresLeft.{IsRegular, row_regular, ell_regular, staircase_regular}
use Rattle.family_gen.proofs.GluedSquares as squares
use Rattle.family_gen.proofs.Octagonal as octagonal

-- a file within the limits of the text, whose text is short and whose polygons make a surface
pub record IsSurface (file : Content) : Type 0 where
  pub limits : IsWithinLimits file
  pub short : length (text file) ≤ 1048576
  pub glued : IsGluing (gluing_of file)

-- what is glued is within the limits, where it has no base points and few polygons
glued_within : (file : Content) → file.bases ≡ [] → length file.polygons ≤ 256 → IsGluing (gluing_of file) → IsWithinLimits file
glued_within file none few valid = record {
  field = valid.field;
  bases = subst (AllByRecursion IsBasePoint) (sym none) tt;
  few_bases = subst (λ (points : List Point). length points ≤ 8) (sym none) (omega arith);
  polygons = valid.bounded;
  some_polygons = valid.some_polygons;
  few_polygons = few;
  glues = valid.there;
}

module _ (t : Tiling) (left down : ℕ → ℕ) (regular : IsRegular t left down) where
  many : length (tiling_file t).polygons ≤ 128
  many = omega (arith, length-replicate t.squares unit_square, regular.few)

  little_glues : AllByRecursion IsLittleGlue (tiling_file t).glues
  little_glues =
      all_from IsLittleGlue (tiling_file t).glues no_glue
      (λ k h. squares.each_line t left down regular (λ k g. IsLittleGlue g)
      (λ i less. (omega (arith, regular.few), omega arith, omega (arith, regular.few, regular.beside.there i less), omega arith))
      (λ i less. (omega (arith, regular.few), omega arith, omega (arith, regular.few, regular.above.there i less), omega arith)) k h)

  tiled : IsSurface (tiling_file t)
  tiled = record {
    limits = glued_within (tiling_file t) refl (omega (arith, many)) (squares.glued t left down regular);
    short =
        short_text (tiling_file t).polygons (tiling_file t).glues (squares.all_copies IsLittlePolygon t.squares unit_square small_square) little_glues many
        (omega (arith, squares.twice_as_many t left down regular, regular.few));
    glued = squares.glued t left down regular;
  }

octagons : (m : ℕ) → 0 < m → m ≤ 50 → IsSurface (octagon_file m)
octagons m some most = record {
  limits = glued_within (octagon_file m) refl (omega arith) (octagonal.glued m some most);
  short = short_text (octagon_file m).polygons (octagon_file m).glues (octagonal.little m some most, tt) (octagonal.little_glues m some most) (omega arith) (omega arith);
  glued = octagonal.glued m some most;
}

-- the file of each kind, up to the fiftieth
of_kind : (k j : ℕ) → j < 50 → IsSurface (file_of k j)
of_kind zero j h = tiled (row j) _ _ (row_regular j h)
of_kind (suc zero) j h = tiled (ell j) _ _ (ell_regular j h)
of_kind (suc (suc zero)) j h = tiled (staircase j) _ _ (staircase_regular j h)
of_kind (suc (suc (suc k))) j h = octagons (j + 1) (omega arith) (omega arith)

-- the file of each number
pub of_number : (n : ℕ) → n < 200 → IsSurface (family_of n)
of_number n h = of_kind (n % 4) (n / 4) (omega arith)
