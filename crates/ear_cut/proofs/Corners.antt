-- The corners of a polygon, wherever its list of sides begins.
use Rattle.std.proofs.Common.{◌≡◌, ℕ, ◌+◌, ◌%◌, ◌<◌, List, ◌∷◌, length, ap, ap₂, sym, ◌∙◌, subst, arith}
use Rattle.std.proofs.Math.Nat.{mod-lt, mod-eq_of_lt, add-mod-mod, mod-add-mod}
use Rattle.quad_field.specs.Quads.{quad_ops, IsPositive}
use Rattle.quad_field.specs.declared.quad.Quad.{Quad}
use Rattle.plane.specs.Vectors.{Vector, det}
use Rattle.gluing.specs.Polygons.{no_vector, side_at, side_after, corner}
use Rattle.ear_cut.specs.Cuttings.{HasPositiveCorner}
use Rattle.ear_cut.proofs.Rotations.{IsRotated, rotated_back, rotated-length, rotated_at}

-- two steps round the end, one after the other
pub two_steps : (i k n : ℕ) → (i + (k + 1) % n) % n ≡ ((i + k) % n + 1) % n
two_steps i k n =
    let same : i + (k + 1) ≡ i + k + 1 = omega arith in
    add-mod-mod i (k + 1) n ∙ ap (λ m. m % n) same ∙ sym (mod-add-mod (i + k) n 1)

module _ (d : ℕ) where
  abbrev Vec : Type 0
  Vec = Vector Quad

  -- side k of a polygon that is begun elsewhere, the side after it, and the corner between them
  pub side_rotated : (l m : List Vec) (r : IsRotated l m) (k : ℕ) → k < length l → side_at d m k ≡ side_at d l ((length r.front + k) % length l)
  side_rotated l m r k below = rotated_at l m r k (no_vector d) below

  pub after_rotated : (l m : List Vec) (r : IsRotated l m) (k : ℕ) → k < length l → side_after d m k ≡ side_after d l ((length r.front + k) % length l)
  after_rotated l m r k below =
      ap (λ n. side_at d m ((k + 1) % n)) (rotated-length l m r)
      ∙ side_rotated l m r ((k + 1) % length l) (mod-lt (k + 1) (omega arith))
      ∙ ap (side_at d l) (two_steps (length r.front) k (length l))

  pub corner_rotated : (l m : List Vec) (r : IsRotated l m) (k : ℕ) → k < length l → corner d m k ≡ corner d l ((length r.front + k) % length l)
  corner_rotated l m r k below = ap₂ (det (quad_ops d)) (side_rotated l m r k below) (after_rotated l m r k below)

  -- a positive corner is one wherever the list begins
  pub positive_rotated : (l m : List Vec) → IsRotated l m → HasPositiveCorner d l → HasPositiveCorner d m
  positive_rotated l m r (i, below, positive) =
      let back = rotated_back l m r in
      let inside : i < length m = omega (arith, rotated-length l m r) in (
        (length back.front + i) % length m,
        mod-lt (length back.front + i) (omega arith),
        subst (IsPositive d) (corner_rotated m l back i inside) positive,
      )

  -- the first corner, and the second
  pub first_corner : (u v : Vec) (rest : List Vec) → corner d (u ∷ v ∷ rest) 0 ≡ det (quad_ops d) u v
  first_corner u v rest =
      let place : (0 + 1) % length (u ∷ v ∷ rest) ≡ 1 = mod-eq_of_lt (omega arith) in
      ap (λ n. det (quad_ops d) u (side_at d (u ∷ v ∷ rest) n)) place

  pub positive_first : (u v : Vec) (rest : List Vec) → IsPositive d (det (quad_ops d) u v) → HasPositiveCorner d (u ∷ v ∷ rest)
  positive_first u v rest positive = (0, omega arith, subst (IsPositive d) (sym (first_corner u v rest)) positive)
