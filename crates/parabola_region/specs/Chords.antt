-- The chord of a line inside the parabola: a point on it, and the width of its formulas.
use Rattle.std.specs.Prelude.{ℕ, ◌⊎◌}
use Rattle.rings.specs.Forms.{discriminant, inner_value, chord_point, upright_chord_point}
use Rattle.quad_field.specs.Quads.{quad_ops, IsZero}
use Rattle.quad_field.specs.Width.{term_ops, StepsFit}
use Rattle.hinge_form.specs.Triples.{Triple, leaves, IsReduced, AllThreeFit}

-- x is the chord point of the line of l: (2·(γγ), -(βγ), ββ - 2·(αγ)), or where γ = 0 (ββ, -(αβ), αα + ββ), with the common divisor taken out
abbrev pub IsChordPoint : ℕ → Triple → Triple → Type 0
IsChordPoint d l x =
    (IsZero l.2 × IsReduced (upright_chord_point (quad_ops d) l) x) ⊎ ((¬ (IsZero l.2)) × IsReduced (chord_point (quad_ops d) l) x)

-- no step of the chord test β·β - 4·(α·γ) lies outside i128
abbrev pub ChordTestFits : ℕ → Triple → Type 0
ChordTestFits d l = StepsFit d (discriminant term_ops (leaves l))

-- no step of the chord point does, by the formula that serves
abbrev pub ChordPointFits : ℕ → Triple → Type 0
ChordPointFits d l =
    (IsZero l.2 → AllThreeFit d (upright_chord_point term_ops (leaves l))) × (¬ (IsZero l.2) → AllThreeFit d (chord_point term_ops (leaves l)))

-- no step of the inner test w·y - x·x of a place does
abbrev pub InnerFits : ℕ → Triple → Type 0
InnerFits d q = StepsFit d (inner_value term_ops (leaves q))
