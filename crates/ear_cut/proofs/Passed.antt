-- Corners that are passed over: after the least ear is cut off, none of the corners before the one before the chord is an ear.
use Rattle.std.proofs.Common.{◌≡◌, ℕ, ◌+◌, ◌-◌, ◌%◌, ◌<◌, ◌≤◌, List, length, ap, ap₂, sym, ◌∙◌, subst, arith}
use Rattle.std.proofs.Math.Nat.{mod-eq_of_lt}
use Rattle.quad_field.specs.Quads.{quad_ops, IsPositive}
use Rattle.quad_field.specs.declared.quad.Quad.{Quad}
use Rattle.plane.specs.Vectors.{Vector, det}
use Rattle.gluing.specs.Polygons.{no_vector, side_at, corner}
use Rattle.ear_cut.specs.Cuttings.{replaced, chord_at, IsEar, IsLeastEar}
use Rattle.ear_cut.proofs.Replaced.{replaced_cases, replaced-length, replaced_before, replaced_behind}

module _ (d : ℕ) (vs : List (Vector Quad)) where
  -- one side fewer
  shorter : (i : ℕ) (w : Vector Quad) → i < length vs → 2 ≤ length vs → length (replaced vs i w) + 1 ≡ length vs
  shorter i w below long = replaced-length vs _ _ w (replaced vs i w) (replaced_cases vs i (no_vector d) w below long)

  -- a corner before the chord and the side before it is as it was
  corner_before : (i k : ℕ) (w : Vector Quad) → i + 1 < length vs → k + 1 < i → corner d (replaced vs i w) k ≡ corner d vs k
  corner_before i k w inside below =
      let left = replaced vs i w in
      let long = shorter i w (omega arith) (omega arith) in
      let next : (k + 1) % length left ≡ k + 1 = mod-eq_of_lt (omega arith) in
      let next_too : (k + 1) % length vs ≡ k + 1 = mod-eq_of_lt (omega arith) in
      ap₂ (det (quad_ops d)) (replaced_before vs i w k (no_vector d) inside (omega arith))
      (ap (side_at d left) next ∙ replaced_before vs i w (k + 1) (no_vector d) inside below ∙ ap (side_at d vs) (sym next_too))

  -- and so is a corner behind it, one place before
  corner_behind : (k j : ℕ) (w : Vector Quad) → k < j → j + 2 < length vs → corner d (replaced vs k w) j ≡ corner d vs (j + 1)
  corner_behind k j w above inside =
      let left = replaced vs k w in
      let long = shorter k w (omega arith) (omega arith) in
      let next : (j + 1) % length left ≡ j + 1 = mod-eq_of_lt (omega arith) in
      let next_too : (j + 1 + 1) % length vs ≡ j + 1 + 1 = mod-eq_of_lt (omega arith) in
      ap₂ (det (quad_ops d)) (replaced_behind vs k w j (no_vector d) (omega arith) above)
      (ap (side_at d left) next ∙ replaced_behind vs k w (j + 1) (no_vector d) (omega arith) (omega arith) ∙ ap (side_at d vs) (sym next_too))

  -- such a corner that were an ear now would have been one before: where it is cut off, the least ear is left as a positive corner
  pub passed : (i : ℕ) → IsLeastEar d vs i → i + 1 < length vs → (k : ℕ) → k + 1 < i → ¬ (IsEar d (replaced vs i (chord_at d vs i)) k)
  passed i least inside k below ear =
      let positive : IsPositive d (corner d vs k) = subst (IsPositive d) (corner_before i k (chord_at d vs i) inside below) ear.1 in
      let j = i - 1 in
      let here : i ≡ j + 1 = omega arith in
      let left = replaced vs k (chord_at d vs k) in
      let long = shorter k (chord_at d vs k) (omega arith) (omega arith) in
      let other : IsPositive d (corner d left j) =
      subst (IsPositive d) (ap (corner d vs) here ∙ sym (corner_behind k j (chord_at d vs k) (omega arith) (omega arith))) least.0.1 in
      least.1 k (omega arith) (omega arith, positive, (j, omega arith, other))
