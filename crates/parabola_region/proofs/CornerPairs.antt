-- The corner of two walls of a list, by the forms of the hinges.
use Rattle.std.proofs.Common.{◌≡◌, ◌↔◌, ℕ, ◌<◌, List, length, subst, sym, arith}
use mathlib.Core.Logic.{inl, inr}
use Rattle.std.specs.Prelude.{◌⊎◌, Option, IsTrue}
use Rattle.rings.specs.Forms.{inner_value}
use Rattle.quad_field.specs.FieldNumber.{IsFieldNumber}
use Rattle.quad_field.specs.Quads.{quad_ops, IsZero}
use Rattle.quad_field.specs.declared.formula.Formula.{Formula}
use Rattle.quad_field.specs.declared.formula.Formula.TheVariants.{F1, F2, F3, F4, F5, F6, F7, F8, F9, F10, F11, F12, F13}
use Rattle.tri_core.specs.declared.half.Half.{Half}
use Rattle.tri_core.specs.Triangulation.{IsTriangulation}
use Rattle.hinge_form.specs.Triples.{Triple, of_place}
use Rattle.hinge_form.specs.Lines.{AreParallel, IsCrossing}
use Rattle.parabola_region.specs.declared.hinge_list.Hinge.{Hinge}
use Rattle.parabola_region.specs.declared.corner.Corner.{Corner}
use Rattle.parabola_region.specs.declared.corner.Spot.{Spot}
use Rattle.parabola_region.specs.Instances.{AtTriple, AtCrossing, IsWideInstance}
use Rattle.parabola_region.specs.WallLists.{PlainWall, wall_at, form_of, least_edge, IsWallList}
use Rattle.parabola_region.specs.HingeLists.{form_at, edge_at, IsHingeList}
use Rattle.parabola_region.specs.Corners.{IsCornerPoint, IsCornerAt}
use Rattle.parabola_region.specs.Spots.{IsWideCorner, IsCornerOf, IsCornerFor}
use Rattle.parabola_region.proofs.Turned.{only_corner}
use Rattle.parabola_region.proofs.WallPairs.{least_is_edge, walls_apart}
use Rattle.parabola_region.proofs.CornerPoints.{corner_all}

-- what is wide at the corner of two walls is an instance of the triangulation
module _ (d : ℕ) (field : IsFieldNumber d) (halves : List Half) (valid : IsTriangulation d halves) (forms : List Hinge) (list : IsHingeList d halves (length halves) forms)
    (walls : List PlainWall) (are : IsWallList d halves walls) (i j : ℕ) (order : i < j) (inside : j < length walls) where
  abbrev l : Triple
  l = form_of walls i

  abbrev k : Triple
  k = form_of walls j

  at_first : (A : Triple → Type 0) → A (form_of walls i) → AtTriple d halves A
  at_first A a = (least_edge (wall_at walls i), l, least_is_edge d field halves valid walls are i (omega arith), (are.each i (omega arith)).least, a)

  at_second : (A : Triple → Type 0) → A (form_of walls j) → AtTriple d halves A
  at_second A a = (least_edge (wall_at walls j), k, least_is_edge d field halves valid walls are j inside, (are.each j inside).least, a)

  apart : ¬ (AreParallel d (form_of walls i) (form_of walls j))
  apart = walls_apart d field halves valid walls are i j order inside

  at_crossing : (A : Triple → Type 0) (x : Triple) → IsCrossing d (form_of walls i) (form_of walls j) x ⊎ IsCrossing d (form_of walls j) (form_of walls i) x → A x → AtCrossing d halves A
  at_crossing A x (inl r) a = at_first _ (at_second _ (x, r, a))
  at_crossing A x (inr r) a = at_second _ (at_first _ (x, r, a))

  at_form : (A : Triple → Type 0) (n : ℕ) → n < length forms → A (form_at forms n) → AtTriple d halves A
  at_form A n under a = let c = list.each n under in (edge_at forms n, form_at forms n, c.edge, c.triple, a)

  pub wide_corner : (formula : Formula) → IsWideCorner d (form_of walls i) (form_of walls j) forms formula → IsWideInstance d halves formula
  wide_corner F1 w = absurd w.2
  wide_corner F2 w = absurd w.2
  wide_corner F3 w = absurd w.2
  wide_corner F4 w = absurd w.2
  wide_corner F5 (inl w) = at_first _ (at_second _ w)
  wide_corner F5 (inr w) = at_second _ (at_first _ w)
  wide_corner F6 w = at_crossing _ w.0 w.1 w.2
  wide_corner F7 w = at_crossing _ w.0 w.1 (at_form _ w.2.0 w.2.1 w.2.2)
  wide_corner F8 w = absurd w.2
  wide_corner F9 w = absurd w.2
  wide_corner F10 w = absurd w.2
  wide_corner F11 w = absurd w.2
  wide_corner F12 w = absurd w.2
  wide_corner F13 w = absurd w.2

  -- the corner of two walls, where their forms and the answer have other names
  module _ (a b : Triple) (first : a ≡ form_of walls i) (second : b ≡ form_of walls j) where
    pub apart_named : ¬ (AreParallel d a b)
    apart_named = subst (λ (x : Triple). ¬ (AreParallel d x b)) (sym first) (subst (λ (x : Triple). ¬ (AreParallel d (form_of walls i) x)) (sym second) apart)

    pub corner_named : (o p : Option Spot) → o ≡ p → IsCornerOf d a b forms o → IsCornerOf d (form_of walls i) (form_of walls j) forms p
    corner_named o p e c =
        subst (IsCornerOf d (form_of walls i) (form_of walls j) forms) e
        (subst (λ (x : Triple). IsCornerOf d x (form_of walls j) forms o) first (subst (λ (x : Triple). IsCornerOf d a x forms o) second c))

    pub wide_named : (formula : Formula) → IsWideCorner d a b forms formula → IsWideInstance d halves formula
    wide_named formula w =
        wide_corner formula (subst (λ (x : Triple). IsWideCorner d x (form_of walls j) forms formula) first (subst (λ (x : Triple). IsWideCorner d a x forms formula) second w))

  point_of_spot : (q : Triple) → IsCornerFor d (form_of walls i) (form_of walls j) forms q → IsCornerPoint d halves (form_of walls i) (form_of walls j) q
  point_of_spot q = (corner_all d field halves valid forms list l k q).0

  pub spot_of_point : (q : Triple) → IsCornerPoint d halves (form_of walls i) (form_of walls j) q → IsCornerFor d (form_of walls i) (form_of walls j) forms q
  spot_of_point q = (corner_all d field halves valid forms list l k q).1

  -- the corner that is found, with the clause that it is the only one
  pub corner_found : (c : Corner) → c.first ≡ i → c.second ≡ j → IsCornerFor d (form_of walls i) (form_of walls j) forms (of_place c.at) → (IsTrue c.ideal ↔ IsZero (inner_value (quad_ops d) (of_place c.at)))
      → IsCornerAt d halves walls i j c
  corner_found c e f s ideal = record {
    first = e;
    second = f;
    point = point_of_spot (of_place c.at) s;
    only = λ q other. only_corner d field halves l k q (of_place c.at) other (point_of_spot (of_place c.at) s);
    ideal = ideal;
  }
