-- Each condition on a file is decided.
use Rattle.std.proofs.Common.{◌≡◌, ℕ, ◌+◌, ◌<◌, ◌≤◌, inl, inr, List, [], ◌∷◌, ◌++◌, length, take, get_or, ap, subst, arith}
use Rattle.std.specs.List.{Contains}
use Rattle.std.proofs.lemmas.Bool.{cases_eq, cases_lt}
use Rattle.quad_field.specs.declared.quad.Quad.{Quad}
use Rattle.quad_field.specs.Quads.{quad_ops, IsPositive}
use Rattle.quad_field.specs.FieldNumber.{IsFieldNumber}
use Rattle.quad_field.proofs.CallerLemmas.{quad_ring, quad_order}
use Rattle.rings.specs.Order.{Sign, is_zero, is_positive, is_negative}
use Rattle.rings.proofs.Ordered.{not_both_signs}
use Rattle.plane.specs.Halves.{IsUpper}
use Rattle.plane.specs.Vectors.{Vector, vector_sum}
use Rattle.plane.specs.declared.vec2.Vec2.{Vec2}
use Rattle.surface_text.specs.declared.file.Glue.{Glue}
use Rattle.surface_text.specs.Spelling.{Content}
use Rattle.gluing.specs.Polygons.{zero_of, no_vector, polygon_at, side_at, side_after, corner, sum_of, IsFlat, PointAlike, Rises, TurnsOnce, IsConvex}
use Rattle.gluing.specs.Gluings.{first_of, second_of, names, glue_at, NamesTwice, IsPaired, triangle_count}
use Rattle.gluing.specs.Bounds.{IsCornerProper, AreCornersProper, inner}
use Rattle.gluing.specs.Refusals.{polygon_conditions, glue_conditions, checks_of}
use Rattle.gluing.proofs.Refusing.{AreDecided, AllDecided}
use Rattle.gluing.proofs.Convex.{convex_from, convex_corners}
use Rattle.gluing.proofs.Decisions.{Decided, decide_not, decide_both, decide_either, decide_implied, decide_same, decide_all, decide_some, decide_contains}
use Rattle.gluing.proofs.Joining.{decide_joined}
use Rattle.gluing.proofs.Twins.{cases_name}

module _ (d : ℕ) (number : IsFieldNumber d) where
  -- whether a K-integer is zero
  decide_zero : (x : Quad) → Decided (x ≡ zero_of d)
  decide_zero x = elim (sign x) [
    | is_zero e ↦ inl e
    | is_positive p ↦ inr (λ e. nothing (subst (IsPositive d) e p))
    | is_negative n ↦ inr (λ e. nothing (subst (λ (y : Quad). IsPositive d ((quad_ops d).neg y)) e n))
  ]
    where
      sign : (x : Quad) → Sign (quad_ops d) (IsPositive d) x
      sign x = let order = quad_order d number.2 number.0 in order.sign x

      nothing : ¬ (IsPositive d (zero_of d))
      nothing = let order = quad_order d number.2 number.0 in order.zero_is_not

  -- whether it is positive
  decide_positive : (x : Quad) → Decided (IsPositive d x)
  decide_positive x =
      let order = quad_order d number.2 number.0 in
      elim (order.sign x) [
        | is_zero e ↦ inr (λ p. order.zero_is_not (subst (IsPositive d) e p))
        | is_positive p ↦ inl p
        | is_negative n ↦ inr (λ p. not_both_signs (quad_ops d) (quad_ring d) order x p n)
      ]

  -- whether a vector is zero
  decide_no_vector : (v : Vector Quad) → Decided (v ≡ no_vector d)
  decide_no_vector v =
      decide_same ((v.0 ≡ zero_of d) × (v.1 ≡ zero_of d)) (v ≡ no_vector d)
      ((λ h i. (h.0 i, h.1 i)), (λ e. (ap (λ (w : Vector Quad). w.0) e, ap (λ (w : Vector Quad). w.1) e)))
      (decide_both (v.0 ≡ zero_of d) (v.1 ≡ zero_of d) (decide_zero v.0) (decide_zero v.1))

  -- whether it is upper
  decide_upper : (v : Vector Quad) → Decided (IsUpper d v)
  decide_upper v =
      decide_either (IsPositive d v.1) ((v.1 ≡ zero_of d) × IsPositive d v.0) (decide_positive v.1)
      (decide_both (v.1 ≡ zero_of d) (IsPositive d v.0) (decide_zero v.1) (decide_positive v.0))

  decide_rise : (sides : List (Vector Quad)) (i : ℕ) → Decided (Rises d sides i)
  decide_rise sides i =
      decide_both (¬ (IsUpper d (side_at d sides i))) (IsUpper d (side_after d sides i))
      (decide_not (IsUpper d (side_at d sides i)) (decide_upper (side_at d sides i))) (decide_upper (side_after d sides i))

  decide_once : (sides : List (Vector Quad)) → Decided (TurnsOnce d sides)
  decide_once sides =
      decide_same ((i : ℕ) × (i < length sides) × (Rises d sides i × ((k : ℕ) → k < length sides → Rises d sides k → k ≡ i))) (TurnsOnce d sides)
      ((λ h. (h.0, h.1, h.2.0, h.2.1)), (λ h. (h.0, h.1, (h.2, h.3))))
      (decide_some (λ i. Rises d sides i × ((k : ℕ) → k < length sides → Rises d sides k → k ≡ i)) (length sides) (λ i inside.
      decide_both (Rises d sides i) ((k : ℕ) → k < length sides → Rises d sides k → k ≡ i) (decide_rise sides i)
      (decide_all (λ k. Rises d sides k → k ≡ i) (length sides) (λ k below. decide_implied (Rises d sides k) (k ≡ i) (decide_rise sides k) (cases_eq k i)))))

  decide_corner : (sides : List (Vector Quad)) (i : ℕ) → Decided (IsCornerProper d sides i)
  decide_corner sides i =
      elim (decide_no_vector (side_at d sides i)) [
        | inl zero ↦ inr (λ h. h.0 zero)
        | inr some ↦ elim (decide_positive ((quad_ops d).neg (corner d sides i))) [
          | inl right ↦ inr (λ h. h.1 right)
          | inr never ↦ elim (decide_implied (corner d sides i ≡ zero_of d) (PointAlike d (side_at d sides i) (side_after d sides i)) (decide_zero (corner d sides i)) (decide_positive (inner (quad_ops d) (side_at d sides i) (side_after d sides i)))) [
            | inl alike ↦ inl (some, never, alike)
            | inr back ↦ inr (λ h. back h.2)
          ]
        ]
      ]

  -- whether a polygon is convex
  decide_convex : (sides : List (Vector Quad)) → Decided (IsConvex d sides)
  decide_convex sides =
      decide_same (AreCornersProper d sides × TurnsOnce d sides) (IsConvex d sides)
      ((λ h. convex_from d sides h.0 h.1), (λ c. (convex_corners d sides c, c.once)))
      (decide_both (AreCornersProper d sides) (TurnsOnce d sides) (decide_all (IsCornerProper d sides) (length sides) (λ i _. decide_corner sides i)) (decide_once sides))

  decide_flat : (sides : List (Vector Quad)) → Decided (IsFlat d sides)
  decide_flat sides = decide_all (λ i. corner d sides i ≡ zero_of d) (length sides) (λ i _. decide_zero (corner d sides i))

  -- the conditions on a polygon
  decide_polygon : (sides : List (Vector Quad)) → AreDecided (polygon_conditions d sides)
  decide_polygon sides = (decide_no_vector (sum_of d sides), (decide_not (IsFlat d sides) (decide_flat sides), (decide_convex sides, tt)))

  -- the conditions on a glue line
  decide_glue : (polygons : List (List Vec2)) (glues : List Glue) (k : ℕ) → AreDecided (glue_conditions d polygons glues k)
  decide_glue polygons glues k =
      let g = glue_at glues k in (
        decide_not (NamesTwice glues k)
            (decide_either (Contains (names (take k glues)) (first_of g)) (Contains (names (take k glues) ++ first_of g ∷ []) (second_of g))
            (decide_contains cases_name (names (take k glues)) (first_of g)) (decide_contains cases_name (names (take k glues) ++ first_of g ∷ []) (second_of g))),
        (decide_no_vector (vector_sum (quad_ops d) (side_at d (polygon_at polygons g.p1) g.e1) (side_at d (polygon_at polygons g.p2) g.e2)), tt),
      )

decide_paired : (polygons : List (List Vec2)) (glues : List Glue) (p : ℕ) → p < length polygons → Decided (IsPaired polygons glues p)
decide_paired polygons glues p inside =
    decide_same ((e : ℕ) → e < length (get_or polygons p []) → Contains (names glues) (p, e)) (IsPaired polygons glues p)
    ((λ h e there. h e there.1), (λ h e below. h e (inside, below)))
    (decide_all (λ e. Contains (names glues) (p, e)) (length (get_or polygons p [])) (λ e _. decide_contains cases_name (names glues) (p, e)))

decide_few : (polygons : List (List Vec2)) → Decided (triangle_count polygons ≤ 256)
decide_few polygons = elim (cases_lt 256 (triangle_count polygons)) [ inl more ↦ inr (λ few. omega arith) | inr few ↦ inl few ]

-- each condition of each check of a file over a field
pub decide_file : (file : Content) → IsFieldNumber file.field → AllDecided (checks_of file)
decide_file file number = (
  (λ p _. decide_polygon file.field number (polygon_at file.polygons p)),
  (
    (λ k _. decide_glue file.field number file.polygons file.glues k),
    (
      (λ p inside. (decide_paired file.polygons file.glues p inside, tt)),
      ((λ p _. (decide_few (take (p + 1) file.polygons), tt)), ((λ p _. (decide_joined file.glues p, tt)), tt)),
    ),
  ),
)
