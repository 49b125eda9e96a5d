-- Base points as places: fractions X = xn/xd and Y = yn/yd with Y > X·X.
use Rattle.std.proofs.Common.{◌≡◌, ℕ, [], ◌∷◌, subst, ◌∙◌, arith, to_z, of_z}
use mathlib.Core.Logic.{inl}
use Rattle.std.specs.Prelude.{ℤ, pos, ◌+ℤ◌, ◌-ℤ◌, ◌*ℤ◌, ◌≤ℤ◌, ◌<ℤ◌, FitsSigned}
use Rattle.std.specs.Int.{w64}
use Rattle.std.proofs.lemmas.Int.{ints, to_z-of_z}
use Rattle.rings.specs.Ring.{var, expr, whole_ops}
use Rattle.rings.specs.Forms.{inner_value}
use Rattle.rings.proofs.Solver.{identity}
use Rattle.rings.proofs.WholeNumbers.{whole_ring, whole_order}
use Rattle.quad_field.specs.declared.quad.Quad.{Quad}
use Rattle.quad_field.specs.Quads.{quad, quad_ops, IsPositive}
use Rattle.surface_text.specs.declared.file.Point.{Point}
use Rattle.surface_text.specs.Limits.{IsBasePoint, IsBounded}
use Rattle.hinge_form.specs.Triples.{Triple}
use Rattle.hinge_form.specs.Hinges.{IsHalfPlanePoint, place_at}

-- a whole number above 0 is a positive K-integer
whole_positive : (d : ℕ) (n : ℤ) → pos 0 <ℤ n → IsPositive d (quad n (pos 0))
whole_positive d n h = inl (at_least n h, at_least_zero, λ z. not_zero n h z.0)
  where
    at_least : (n : ℤ) → pos 0 <ℤ n → pos 0 ≤ℤ n
    at_least n h = omega (arith, ints)

    at_least_zero : pos 0 ≤ℤ pos 0
    at_least_zero = omega (arith, ints)

    not_zero : (n : ℤ) → pos 0 <ℤ n → ¬ (n ≡ pos 0)
    not_zero n h e = omega (arith, ints)

-- a difference is above 0
difference_positive : (m n : ℤ) → m <ℤ n → pos 0 <ℤ (n -ℤ m)
difference_positive m n h = omega (arith, ints)

-- and so is a denominator
denominator_positive : (n : ℤ) → pos 1 ≤ℤ n → pos 0 <ℤ n
denominator_positive n h = omega (arith, ints)

-- w·y - x² for whole numbers
whole_inner : (d : ℕ) (w x y : ℤ) → quad ((w *ℤ y) -ℤ (x *ℤ x)) (pos 0) ≡ inner_value (quad_ops d) (quad w (pos 0), quad x (pos 0), quad y (pos 0))
whole_inner d w x y i = quad (first i) (second i)
  where
    first : (w *ℤ y) -ℤ (x *ℤ x) ≡ ((w *ℤ y) +ℤ (pos d *ℤ (pos 0 *ℤ pos 0))) -ℤ ((x *ℤ x) +ℤ (pos d *ℤ (pos 0 *ℤ pos 0)))
    first =
        let none = expr.mul (var 3) (expr.mul (expr.int (pos 0)) (expr.int (pos 0))) in
        identity whole_ops whole_ring (w ∷ x ∷ y ∷ pos d ∷ []) (expr.sub (expr.mul (var 0) (var 2)) (expr.mul (var 1) (var 1)))
        (expr.sub (expr.add (expr.mul (var 0) (var 2)) none) (expr.add (expr.mul (var 1) (var 1)) none)) tt

    second : pos 0 ≡ ((w *ℤ pos 0) +ℤ (pos 0 *ℤ y)) -ℤ ((x *ℤ pos 0) +ℤ (pos 0 *ℤ x))
    second =
        let o = expr.int (pos 0) in
        identity whole_ops whole_ring (w ∷ x ∷ y ∷ []) o
        (expr.sub (expr.add (expr.mul (var 0) o) (expr.mul o (var 2))) (expr.add (expr.mul (var 1) o) (expr.mul o (var 1)))) tt

-- the inner value of the place: yd·(xd²·yn - xn²·yd)
place_inner : (xn xd yn yd : ℤ) → yd *ℤ (((xd *ℤ xd) *ℤ yn) -ℤ ((xn *ℤ xn) *ℤ yd)) ≡ ((xd *ℤ yd) *ℤ (yn *ℤ xd)) -ℤ ((xn *ℤ yd) *ℤ (xn *ℤ yd))
place_inner xn xd yn yd =
    let a = var 0 in let b = var 1 in let c = var 2 in let e = var 3 in
    identity whole_ops whole_ring (xn ∷ xd ∷ yn ∷ yd ∷ [])
    (expr.mul e (expr.sub (expr.mul (expr.mul b b) c) (expr.mul (expr.mul a a) e)))
    (expr.sub (expr.mul (expr.mul b e) (expr.mul c b)) (expr.mul (expr.mul a e) (expr.mul a e))) tt

-- the place of a base point is a half-plane point
pub place_inside : (d : ℕ) (at : Point) → IsBasePoint at → IsHalfPlanePoint d (place_at at)
place_inside d at base =
    let xd = denominator_positive at.xd base.form.0.0 in
    let yd = denominator_positive at.yd base.form.1.0 in
    let w : ℤ = at.xd *ℤ at.yd in
    let x : ℤ = at.xn *ℤ at.yd in
    let y : ℤ = at.yn *ℤ at.xd in
    let above = difference_positive ((at.xn *ℤ at.xn) *ℤ at.yd) ((at.xd *ℤ at.xd) *ℤ at.yn) base.above in (
      whole_positive d w (whole_order.product at.xd at.yd xd yd),
      subst (IsPositive d) (whole_inner d w x y)
          (whole_positive d ((w *ℤ y) -ℤ (x *ℤ x)) (subst (λ n. pos 0 <ℤ n) (place_inner at.xn at.xd at.yn at.yd) (whole_order.product _ _ yd above))),
    )

-- a bounded number as an i64
abbrev read : ℤ → ℤ
read n = to_z w64 (of_z w64 n)

read_same : (n : ℤ) → IsBounded n → read n ≡ n
read_same n h = to_z-of_z w64 n fits
  where
    fits : FitsSigned w64 n
    fits = omega (arith, ints)

-- what equals the place part by part, as its numbers are read
pub place_from_parts : (at : Point) (w x y : Quad) → IsBasePoint at → w ≡ quad (read at.xd *ℤ read at.yd) (pos 0) → x ≡ quad (read at.xn *ℤ read at.yd) (pos 0) → y ≡ quad (read at.yn *ℤ read at.xd) (pos 0)
    → let A : Type 0 = Triple in ◌≡◌ {A = A} (w, x, y) (place_at at)
place_from_parts at w x y base e f g i =
    let xn = read_same at.xn base.bounded.0 in
    let xd = read_same at.xd base.bounded.1 in
    let yn = read_same at.yn base.bounded.2 in
    let yd = read_same at.yd base.bounded.3 in
    let part : (z : Quad) (m n p q : ℤ) → z ≡ quad (m *ℤ n) (pos 0) → m ≡ p → n ≡ q → z ≡ quad (p *ℤ q) (pos 0) = λ z m n p q e u v. e ∙ (λ i. quad (u i *ℤ v i) (pos 0)) in
    (part w _ _ _ _ e xd yd i, part x _ _ _ _ f xn yd i, part y _ _ _ _ g yn xd i)
