-- Lines of places (w, x, y): where they cross, when one form is a positive multiple of another, and places inside the parabola.
use Rattle.std.specs.Prelude.{◌≡◌, pos, ◌⊎◌}
use Rattle.rings.specs.Ring.{Ops}
use Rattle.rings.specs.Order.{IsNotNegative}
use Rattle.rings.specs.Forms.{inner_value, value_at}

-- three values: a place (w, x, y), or the form (α, β, γ) of a line
abbrev pub Triple : Type 0 → Type 0
Triple R = R × R × R

-- (0, 0, 0)
abbrev pub zero_triple : {R : Type 0} → Ops R → Triple R
zero_triple O = (O.int (pos 0), O.int (pos 0), O.int (pos 0))

-- -l
abbrev pub opposite_triple : {R : Type 0} → Ops R → Triple R → Triple R
opposite_triple O l = (O.neg l.0, O.neg l.1, O.neg l.2)

-- m·l
abbrev pub multiple : {R : Type 0} → Ops R → R → Triple R → Triple R
multiple O m l = (O.mul m l.0, O.mul m l.1, O.mul m l.2)

-- k is a positive multiple of l: m·k = n·l for some positive m and n
abbrev pub IsPositiveMultiple : {R : Type 0} → Ops R → (R → Type 0) → Triple R → Triple R → Type 0
IsPositiveMultiple {R} O P l k = (m : R) × (n : R) × P m × P n × (multiple O m k ≡ multiple O n l)

-- full = g·x for some positive g
pub record HasPositiveFactor {R : Type 0} (O : Ops R) (P : R → Type 0) (full x : Triple R) : Type 0 where
  pub factor : R
  pub positive : P factor
  pub out : full ≡ multiple O factor x

-- the crossing point of two lines: (β1·γ2 - γ1·β2, γ1·α2 - α1·γ2, α1·β2 - β1·α2)
abbrev pub crossing_point : {R : Type 0} → Ops R → Triple R → Triple R → Triple R
crossing_point O l k = (
  O.sub (O.mul l.1 k.2) (O.mul l.2 k.1),
  O.sub (O.mul l.2 k.0) (O.mul l.0 k.2),
  O.sub (O.mul l.0 k.1) (O.mul l.1 k.0),
)

-- a place lies on a line: the form is zero there
abbrev pub IsOn : {R : Type 0} → Ops R → Triple R → Triple R → Type 0
IsOn O l q = value_at O l q ≡ O.int (pos 0)

-- a place lies inside the parabola: w > 0 and w·y > x²
abbrev pub IsInside : {R : Type 0} → Ops R → (R → Type 0) → Triple R → Type 0
IsInside O P q = P q.0 × P (inner_value O q)

-- a place lies inside the parabola or on it, the place at infinity (0, 0, y) among them: w ≥ 0, y ≥ 0 and w·y ≥ x²
pub record IsClosed {R : Type 0} (O : Ops R) (P : R → Type 0) (q : Triple R) : Type 0 where
  pub first : IsNotNegative O P q.0
  pub third : IsNotNegative O P q.2
  pub inner : IsNotNegative O P (inner_value O q)

-- of a place and its negative, the one with w > 0, or w = 0 and y > 0
abbrev pub IsForward : {R : Type 0} → Ops R → (R → Type 0) → Triple R → Type 0
IsForward O P q = P q.0 ⊎ ((q.0 ≡ O.int (pos 0)) × P q.2)
