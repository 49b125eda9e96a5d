-- Forms along a line: where they are positive together, and where one of them vanishes.
use Rattle.std.specs.Prelude.{◌≡◌, ℕ, pos, ◌<◌, ◌⊎◌}
use Rattle.rings.specs.Ring.{Ops}
use Rattle.rings.specs.Order.{IsNotNegative}
use Rattle.rings.specs.Forms.{value_at}
use Rattle.rings.specs.Lines.{Triple, crossing_point, IsOn, IsInside, IsPositiveMultiple}

-- how fast a form k rises along the line l: its value at the line's direction (0, -γ, β)
abbrev pub rate : {R : Type 0} → Ops R → Triple R → Triple R → R
rate O l k = (crossing_point O l k).0

-- some place of the line l inside the parabola makes each of the first forms positive that isn't a positive multiple of l
abbrev pub HasPoint : {R : Type 0} → Ops R → (R → Type 0) → Triple R → (ℕ → Triple R) → ℕ → Type 0
HasPoint {R} O P l forms count =
    (q : Triple R) × IsInside O P q × IsOn O l q × ((i : ℕ) → i < count → ¬ (IsPositiveMultiple O P l (forms i)) → P (value_at O (forms i) q))

-- e is not positive at a start on the line l, and p is the point of the line where it vanishes
pub record IsBound {R : Type 0} (O : Ops R) (P : R → Type 0) (l start e p : Triple R) : Type 0 where
  pub on_line : IsOn O l p
  pub forward : P p.0
  pub vanishes : value_at O e p ≡ O.int (pos 0)
  pub moves : ¬ (rate O l e ≡ O.int (pos 0))
  pub behind : IsNotNegative O P (O.neg (value_at O e start))

-- a form is the line's own, or positive at the start
abbrev pub AtStart : {R : Type 0} → Ops R → (R → Type 0) → Triple R → Triple R → Triple R → Type 0
AtStart O P l start k = IsPositiveMultiple O P l k ⊎ P (value_at O k start)

-- a form is the line's own, or positive at the start, or it rises as the bound e does and is not negative where e vanishes
abbrev pub AtBound : {R : Type 0} → Ops R → (R → Type 0) → Triple R → Triple R → Triple R → Triple R → Triple R → Type 0
AtBound O P l start e p k =
    IsPositiveMultiple O P l k ⊎ (P (value_at O k start) ⊎ (P (O.mul (rate O l k) (rate O l e)) × IsNotNegative O P (value_at O k p)))

-- a form is the line's own, or positive right behind the point p where e vanishes
abbrev pub IsBehind : {R : Type 0} → Ops R → (R → Type 0) → Triple R → Triple R → Triple R → Triple R → Type 0
IsBehind O P l e p k =
    IsPositiveMultiple O P l k ⊎ (P (value_at O k p) ⊎ ((value_at O k p ≡ O.int (pos 0)) × P (O.mul (rate O l k) (rate O l e))))
