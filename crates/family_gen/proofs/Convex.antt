-- Polygons that turn to the left at every corner, the first sides upper and the others lower.
use Rattle.std.proofs.Common.{◌≡◌, ℕ, ◌+◌, ◌-◌, ◌%◌, ◌<◌, ◌≤◌, inl, inr, List, length, sym, ap, subst, ◌∙◌, arith}
use Rattle.std.proofs.lemmas.Bool.{cases_lt}
use Rattle.std.proofs.Math.Nat.{mod_self, mod-eq_of_lt}
use Rattle.quad_field.specs.declared.quad.Quad.{Quad}
use Rattle.quad_field.specs.FieldNumber.{IsFieldNumber}
use Rattle.quad_field.specs.Quads.{quad_ops, IsPositive}
use Rattle.quad_field.proofs.CallerLemmas.{quad_ring, order_of}
use Rattle.rings.proofs.Ordered.{not_both_signs}
use Rattle.rings.proofs.Turning.{upper_once, turning_some}
use Rattle.plane.specs.Vectors.{Vector, opposite_vector}
use Rattle.plane.specs.Halves.{IsUpper}
use Rattle.gluing.specs.Polygons.{side_at, side_after, corner, IsClosed, Rises, IsProper}

-- the sides sum to zero, every corner turns to the left, the first h sides are upper and the others lower
pub record TurnsLeft (d : ℕ) (sides : List (Vector Quad)) (h : ℕ) : Type 0 where
  pub closed : IsClosed d sides
  pub lefts : (i : ℕ) → i < length sides → IsPositive d (corner d sides i)
  pub uppers : (i : ℕ) → i < h → IsUpper d (side_at d sides i)
  pub lowers : (i : ℕ) → h ≤ i → i < length sides → IsUpper d (opposite_vector (quad_ops d) (side_at d sides i))
  pub some : 0 < h
  pub others : h < length sides

module _ (d : ℕ) (field : IsFieldNumber d) (sides : List (Vector Quad)) (h : ℕ) (round : TurnsLeft d sides h) where
  -- the side after the last is the first
  last_after : side_after d sides (length sides - 1) ≡ side_at d sides 0
  last_after =
      let whole : (length sides - 1) + 1 ≡ length sides = omega (arith, round.others) in
      ap (λ n. side_at d sides (n % length sides)) whole ∙ ap (side_at d sides) (mod_self (length sides))

  -- a side that isn't the last is followed by the next
  next_after : (i : ℕ) → i + 1 < length sides → side_after d sides i ≡ side_at d sides (i + 1)
  next_after i less = ap (side_at d sides) (mod-eq_of_lt less)

  -- a lower side isn't upper
  not_upper : (i : ℕ) → h ≤ i → i < length sides → ¬ (IsUpper d (side_at d sides i))
  not_upper i from less up =
      upper_once (quad_ops d) (quad_ring d) (order_of d field) (side_at d sides i) up (round.lowers i from less)

  -- it rises at the last corner
  rises_last : Rises d sides (length sides - 1)
  rises_last = (
    not_upper (length sides - 1) (omega (arith, round.others)) (omega (arith, round.others)),
    subst (IsUpper d) (sym last_after) (round.uppers 0 round.some),
  )

  -- and at no other
  rises_once : (k : ℕ) → k < length sides → Rises d sides k → k ≡ length sides - 1
  rises_once k less rises =
      elim (cases_lt (k + 1) (length sides)) [
        | inl before ↦
            let next : IsUpper d (side_at d sides (k + 1)) = subst (IsUpper d) (next_after k before) rises.1 in
            elim (cases_lt (k + 1) h) [
              | inl early ↦ absurd (rises.0 (round.uppers k (omega arith)))
              | inr late ↦ absurd (not_upper (k + 1) late before next)
            ]
        | inr past ↦ omega arith
      ]

  -- such a polygon is a polygon of a surface
  pub proper : IsProper d sides
  proper = record {
    closed = round.closed;
    not_flat = λ flat. (order_of d field).zero_is_not (subst (IsPositive d) (flat 0 first) (round.lefts 0 first));
    convex = record {
      sides_nonzero = λ i less. turning_some (quad_ops d) (quad_ring d) (order_of d field) (side_at d sides i) (side_after d sides i) (round.lefts i less);
      never_right = λ i less right. not_both_signs (quad_ops d) (quad_ring d) (order_of d field) (corner d sides i) (round.lefts i less) right;
      never_back = λ i less straight. absurd ((order_of d field).zero_is_not (subst (IsPositive d) straight (round.lefts i less)));
      once = (length sides - 1, (omega (arith, round.others)), rises_last, rises_once);
    };
  }
    where
      first : 0 < length sides
      first = omega (arith, round.others)
