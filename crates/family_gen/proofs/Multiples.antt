-- Multiples of polygons.
use Rattle.std.proofs.Common.{◌≡◌, ℕ, zero, suc, ◌+◌, ◌%◌, ◌<◌, inl, inr, List, [], ◌∷◌, length, map, refl, sym, ap, ap₂, subst, ◌∙◌, arith}
use Rattle.std.specs.Prelude.{ℤ, pos, ◌+ℤ◌, ◌*ℤ◌, neg_ℤ}
use Rattle.quad_field.specs.Ring.{var, expr, whole_ops}
use Rattle.rings.proofs.Solver.{identity}
use Rattle.rings.proofs.WholeNumbers.{whole_ring}
use Rattle.quad_field.specs.declared.quad.Quad.{Quad}
use Rattle.quad_field.specs.FieldNumber.{IsFieldNumber}
use Rattle.quad_field.specs.Quads.{quad, quad_ops, scaled, IsPositive}
use Rattle.quad_field.proofs.CallerLemmas.{quad_ring, order_of, scaled_is, natural_positive}
use Rattle.plane.specs.declared.vec2.Vec2.{Vec2}
use Rattle.plane.specs.Vectors.{Vector, det, vector_sum, opposite_vector, scaled_vector}
use Rattle.plane.specs.Halves.{IsUpper}
use Rattle.gluing.specs.Polygons.{zero_of, no_vector, vectors, side_at, side_after, corner, sum_of}
use Rattle.family_gen.specs.Octagons.{multiple}
use Rattle.family_gen.proofs.Convex.{TurnsLeft}

-- ---- multiples of K-integers and of vectors
scaled_sum : (k : ℤ) (x y : Quad) → (quad_ops 0).add (scaled k x) (scaled k y) ≡ scaled k ((quad_ops 0).add x y)
scaled_sum k x y i = quad (part x.a y.a i) (part x.b y.b i)
  where
    part : (a b : ℤ) → (a *ℤ k) +ℤ (b *ℤ k) ≡ (a +ℤ b) *ℤ k
    part a b =
        identity whole_ops whole_ring (a ∷ b ∷ k ∷ []) (expr.add (expr.mul (var 0) (var 2)) (expr.mul (var 1) (var 2)))
        (expr.mul (expr.add (var 0) (var 1)) (var 2)) tt

scaled_neg : (k : ℤ) (x : Quad) → (quad_ops 0).neg (scaled k x) ≡ scaled k ((quad_ops 0).neg x)
scaled_neg k x i = quad (part x.a i) (part x.b i)
  where
    part : (a : ℤ) → neg_ℤ (a *ℤ k) ≡ neg_ℤ a *ℤ k
    part a = identity whole_ops whole_ring (a ∷ k ∷ []) (expr.neg (expr.mul (var 0) (var 1))) (expr.mul (expr.neg (var 0)) (var 1)) tt

scaled_zero : (d : ℕ) (k : ℤ) → scaled k (zero_of d) ≡ zero_of d
scaled_zero d k i = quad (part i) (part i)
  where
    part : pos 0 *ℤ k ≡ pos 0
    part = identity whole_ops whole_ring (k ∷ []) (expr.mul (expr.int (pos 0)) (var 0)) (expr.int (pos 0)) tt

pub scaled_vectors : (d : ℕ) (k : ℤ) (u v : Vector Quad) → vector_sum (quad_ops d) (scaled_vector k u) (scaled_vector k v) ≡ scaled_vector k (vector_sum (quad_ops d) u v)
scaled_vectors d k u v i = (scaled_sum k u.0 v.0 i, scaled_sum k u.1 v.1 i)

scaled_opposite : (d : ℕ) (k : ℤ) (v : Vector Quad) → opposite_vector (quad_ops d) (scaled_vector k v) ≡ scaled_vector k (opposite_vector (quad_ops d) v)
scaled_opposite d k v i = (scaled_neg k v.0 i, scaled_neg k v.1 i)

pub scaled_none : (d : ℕ) (k : ℤ) → scaled_vector k (no_vector d) ≡ no_vector d
scaled_none d k i = (scaled_zero d k i, scaled_zero d k i)

-- a multiple is a product by coordinates
scaled_product : (d : ℕ) (k : ℤ) (v : Vector Quad) → scaled_vector k v ≡ ((quad_ops d).mul ((quad_ops d).int k) v.0, (quad_ops d).mul ((quad_ops d).int k) v.1)
scaled_product d k v i = (scaled_is d k v.0 i, scaled_is d k v.1 i)

-- the determinant of two multiples
scaled_det : (d : ℕ) (k : ℤ) (u v : Vector Quad)
    → det (quad_ops d) (scaled_vector k u) (scaled_vector k v) ≡ (quad_ops d).mul ((quad_ops d).int k) ((quad_ops d).mul ((quad_ops d).int k) (det (quad_ops d) u v))
scaled_det d k u v =
    ap₂ (det (quad_ops d)) (scaled_product d k u) (scaled_product d k v)
    ∙ identity (quad_ops d) (quad_ring d) (u.0 ∷ u.1 ∷ v.0 ∷ v.1 ∷ (quad_ops d).int k ∷ [])
    (det expr (expr.mul (var 4) (var 0), expr.mul (var 4) (var 1)) (expr.mul (var 4) (var 2), expr.mul (var 4) (var 3)))
    (expr.mul (var 4) (expr.mul (var 4) (det expr (var 0, var 1) (var 2, var 3)))) tt

module _ (d m : ℕ) (field : IsFieldNumber d) (some : 0 < m) where
  -- positive multiples of positive numbers
  scaled_positive : (x : Quad) → IsPositive d x → IsPositive d (scaled (pos m) x)
  scaled_positive x p =
      subst (IsPositive d) (sym (scaled_is d (pos m) x)) ((order_of d field).product ((quad_ops d).int (pos m)) x (natural_positive d m some) p)

  scaled_upper : (v : Vector Quad) → IsUpper d v → IsUpper d (scaled_vector (pos m) v)
  scaled_upper v (inl p) = inl (scaled_positive v.1 p)
  scaled_upper v (inr level) = inr (ap (scaled (pos m)) level.0 ∙ scaled_zero d (pos m), scaled_positive v.0 level.1)

-- ---- multiples of polygons
pub multiple_side : (d m : ℕ) (sides : List Vec2) (i : ℕ) → side_at d (vectors (map (multiple m) sides)) i ≡ scaled_vector (pos m) (side_at d (vectors sides) i)
multiple_side d m [] i = sym (scaled_none d (pos m))
multiple_side d m (v ∷ sides) zero = refl
multiple_side d m (v ∷ sides) (suc i) = multiple_side d m sides i

multiple_length : (m : ℕ) (sides : List Vec2) → length (vectors (map (multiple m) sides)) ≡ length (vectors sides)
multiple_length m [] = refl
multiple_length m (v ∷ sides) = ap suc (multiple_length m sides)

multiple_sum : (d m : ℕ) (sides : List Vec2) → sum_of d (vectors (map (multiple m) sides)) ≡ scaled_vector (pos m) (sum_of d (vectors sides))
multiple_sum d m [] = sym (scaled_none d (pos m))
multiple_sum d m (v ∷ sides) =
    ap (vector_sum (quad_ops d) (scaled_vector (pos m) (v.s, v.t))) (multiple_sum d m sides)
    ∙ scaled_vectors d (pos m) (v.s, v.t) (sum_of d (vectors sides))

module _ (d m : ℕ) (field : IsFieldNumber d) (some : 0 < m) (sides : List Vec2) (h : ℕ) (round : TurnsLeft d (vectors sides) h) where
  multiple_after : (i : ℕ) → side_after d (vectors (map (multiple m) sides)) i ≡ scaled_vector (pos m) (side_after d (vectors sides) i)
  multiple_after i =
      ap (λ n. side_at d (vectors (map (multiple m) sides)) ((i + 1) % n)) (multiple_length m sides)
      ∙ multiple_side d m sides ((i + 1) % length (vectors sides))

  multiple_corner : (i : ℕ) → i < length (vectors (map (multiple m) sides)) → IsPositive d (corner d (vectors (map (multiple m) sides)) i)
  multiple_corner i less =
      let less' : i < length (vectors sides) = omega (arith, multiple_length m sides) in
      let O = quad_ops d in
      let positive = natural_positive d m some in
      let unit = round.lefts i less' in
      let equal : corner d (vectors (map (multiple m) sides)) i ≡ O.mul (O.int (pos m)) (O.mul (O.int (pos m)) (corner d (vectors sides) i)) =
      ap₂ (det O) (multiple_side d m sides i) (multiple_after i)
      ∙ scaled_det d (pos m) (side_at d (vectors sides) i) (side_after d (vectors sides) i) in
      subst (IsPositive d) (sym equal)
      ((order_of d field).product (O.int (pos m)) (O.mul (O.int (pos m)) (corner d (vectors sides) i)) positive
      ((order_of d field).product (O.int (pos m)) (corner d (vectors sides) i) positive unit))

  -- a multiple turns to the left as the polygon does
  pub multiple_turns : TurnsLeft d (vectors (map (multiple m) sides)) h
  multiple_turns = record {
    closed = multiple_sum d m sides ∙ ap (scaled_vector (pos m)) round.closed ∙ scaled_none d (pos m);
    lefts = multiple_corner;
    uppers = λ i less. subst (IsUpper d) (sym (multiple_side d m sides i)) (scaled_upper d m field some (side_at d (vectors sides) i) (round.uppers i less));
    lowers = λ i from less.
        let less' : i < length (vectors sides) = omega (arith, multiple_length m sides) in
        subst (λ (v : Vector Quad). IsUpper d (opposite_vector (quad_ops d) v)) (sym (multiple_side d m sides i))
        (subst (IsUpper d) (sym (scaled_opposite d (pos m) (side_at d (vectors sides) i)))
        (scaled_upper d m field some (opposite_vector (quad_ops d) (side_at d (vectors sides) i)) (round.lowers i from less')));
    some = round.some;
    others = omega (arith, multiple_length m sides, round.others);
  }
