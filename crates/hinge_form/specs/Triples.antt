-- Triples of K-integers, their greatest common divisor taken out, and the width of three trees.
use Rattle.std.specs.Prelude.{◌≡◌, ℕ, pos, [], ◌∷◌}
use Rattle.quad_field.specs.Quads.{quad, scaled}
use Rattle.quad_field.specs.Content.{IsPrimitive}
use Rattle.quad_field.specs.Width.{Term, number, StepsFit}
use Rattle.quad_field.specs.declared.quad.Quad.{Quad}
use Rattle.hinge_form.specs.declared.form.Form.{Form}
use Rattle.hinge_form.specs.declared.place.Place3.{Place3}

-- three K-integers: a place (w, x, y), or the form (α, β, γ) of a line
abbrev pub Triple : Type 0
Triple = Quad × Quad × Quad

-- the triple of a form
abbrev pub of_form : Form → Triple
of_form form = (form.alpha, form.beta, form.gamma)

-- the triple of a place
abbrev pub of_place : Place3 → Triple
of_place at = (at.w, at.x, at.y)

-- (0, 0, 0)
abbrev pub zeros : Triple
zeros = (quad (pos 0) (pos 0), quad (pos 0) (pos 0), quad (pos 0) (pos 0))

-- g times a triple
abbrev pub times : ℕ → Triple → Triple
times g l = (scaled (pos g) l.0, scaled (pos g) l.1, scaled (pos g) l.2)

-- no whole number above 1 divides all six components
abbrev pub HasNoDivisor : Triple → Type 0
HasNoDivisor l = IsPrimitive (l.0 ∷ l.1 ∷ l.2 ∷ [])

-- x is a triple with the greatest common divisor of its six components taken out
pub record IsReduced (full x : Triple) : Type 0 where
  pub divisor : ℕ
  pub taken_out : full ≡ times divisor x
  pub reduced : HasNoDivisor x

-- the trees of a triple's numbers
abbrev pub leaves : Triple → Term × Term × Term
leaves l = (number l.0, number l.1, number l.2)

-- no step of three trees lies outside i128
abbrev pub AllThreeFit : ℕ → Term × Term × Term → Type 0
AllThreeFit d x = StepsFit d x.0 × StepsFit d x.1 × StepsFit d x.2
