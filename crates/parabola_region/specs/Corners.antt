-- The corners of the region whose walls are listed.
use Rattle.std.specs.Prelude.{◌≡◌, ◌↔◌, ℕ, ◌<◌, ◌⊎◌, IsTrue, false, List, length, slice_index_or}
use Rattle.rings.specs.Order.{IsNotNegative}
use Rattle.rings.specs.Forms.{inner_value}
use Rattle.rings.specs.Lines.{IsClosed}
use Rattle.quad_field.specs.Quads.{quad_ops, IsPositive, IsZero}
use Rattle.quad_field.specs.declared.quad.Quad.{Quad}
use Rattle.tri_core.specs.declared.half.Half.{Half}
use Rattle.tri_core.specs.Flips.{IsEdge}
use Rattle.hinge_form.specs.Triples.{Triple, of_place, zeros}
use Rattle.hinge_form.specs.Hinges.{hinge_value}
use Rattle.hinge_form.specs.Lines.{IsCrossing}
use Rattle.parabola_region.specs.declared.corner.Corner.{Corner}
use Rattle.parabola_region.specs.WallLists.{PlainWall, form_of}

-- zero or positive
abbrev pub NotNegative : ℕ → Quad → Type 0
NotNegative d x = IsNotNegative (quad_ops d) (IsPositive d) x

-- q is a corner of the lines of l and k: their crossing point, or that in the other order, its negative; inside the parabola or on it;
-- and no edge has a negative value there
pub record IsCornerPoint (d : ℕ) (halves : List Half) (l k q : Triple) : Type 0 where
  pub crossing : IsCrossing d l k q ⊎ IsCrossing d k l q
  pub closed : IsClosed (quad_ops d) (IsPositive d) q
  pub values : (h : ℕ) → IsEdge halves h → NotNegative d (hinge_value d halves h q)

-- c is the corner of the walls i and j: it has their one corner point, and is ideal exactly where that lies on the parabola
pub record IsCornerAt (d : ℕ) (halves : List Half) (walls : List PlainWall) (i j : ℕ) (c : Corner) : Type 0 where
  pub first : c.first ≡ i
  pub second : c.second ≡ j
  pub point : IsCornerPoint d halves (form_of walls i) (form_of walls j) (of_place c.at)
  pub only : (q : Triple) → IsCornerPoint d halves (form_of walls i) (form_of walls j) q → q ≡ of_place c.at
  pub ideal : IsTrue c.ideal ↔ IsZero (inner_value (quad_ops d) (of_place c.at))

-- corner number n; what is read past the end of the list no definition asks
abbrev pub no_corner : Corner
no_corner = record { first = 0; second = 0; at = record { w = zeros.0; x = zeros.1; y = zeros.2 }; ideal = false }

abbrev pub corner_at : List Corner → ℕ → Corner
corner_at corners n = slice_index_or corners n no_corner

-- the pair of walls of one corner comes before that of another
abbrev pub ComesBefore : Corner → Corner → Type 0
ComesBefore c e = (c.first < e.first) ⊎ ((c.first ≡ e.first) × (c.second < e.second))

-- the walls i and j have a listed corner
abbrev pub IsListed : List Corner → ℕ → ℕ → Type 0
IsListed corners i j = (n : ℕ) × (n < length corners) × ((corner_at corners n).first ≡ i) × ((corner_at corners n).second ≡ j)

-- exactly the corners of a list of walls, their pairs ascending: each is one, and every two walls with a corner point are listed
pub record IsCornerList (d : ℕ) (halves : List Half) (walls : List PlainWall) (corners : List Corner) : Type 0 where
  pub ascends : (m n : ℕ) → m < n → n < length corners → ComesBefore (corner_at corners m) (corner_at corners n)
  pub order : (n : ℕ) → n < length corners → (corner_at corners n).first < (corner_at corners n).second
  pub inside : (n : ℕ) → n < length corners → (corner_at corners n).second < length walls
  pub each : (n : ℕ) → n < length corners → IsCornerAt d halves walls (corner_at corners n).first (corner_at corners n).second (corner_at corners n)
  pub every : (i j : ℕ) → i < j → j < length walls → (q : Triple) → IsCornerPoint d halves (form_of walls i) (form_of walls j) q → IsListed corners i j
