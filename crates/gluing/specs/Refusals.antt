-- Why the polygons of a file make no surface: the conditions on a file in the order in which they are tried, and the first that fails.
use Rattle.std.specs.Prelude.{◌≡◌, ℕ, ◌+◌, ◌<◌, ◌≤◌, ◌⊎◌, List, [], ◌∷◌, length, take, ⊤}
use Rattle.surface_text.specs.declared.file.Glue.{Glue}
use Rattle.surface_text.specs.Spelling.{Content}
use Rattle.plane.specs.declared.vec2.Vec2.{Vec2}
use Rattle.quad_field.specs.declared.quad.Quad.{Quad}
use Rattle.plane.specs.Vectors.{Vector}
use Rattle.gluing.specs.declared.fault.GlueFault.{GlueFault}
use Rattle.gluing.specs.declared.fault.GlueFault.TheVariants.{Bad, Memory}
use Rattle.gluing.specs.Polygons.{polygon_at, IsClosed, IsFlat, IsConvex}
use Rattle.gluing.specs.Gluings.{glue_at, NamesTwice, IsOpposite, IsPaired, triangle_count, IsJoined}

-- a condition, behind the number of the cause for which a file is refused where the condition fails
abbrev pub Condition : Type 1
Condition = ℕ × Type 0

-- a check: at each of its places conditions that are tried in this order, and the line of the place
pub record Check : Type 1 where
  pub places : ℕ
  pub conditions : ℕ → List Condition
  pub line : ℕ → ℕ

-- a polygon closes, it isn't flat, and it is convex
abbrev pub polygon_conditions : ℕ → List (Vector Quad) → List Condition
polygon_conditions d sides = (15, IsClosed d sides) ∷ (16, ¬ (IsFlat d sides)) ∷ (17, IsConvex d sides) ∷ []

-- glue line k names no side that was named before, and two sides with opposite vectors
abbrev pub glue_conditions : ℕ → List (List Vec2) → List Glue → ℕ → List Condition
glue_conditions d polygons glues k = (18, ¬ (NamesTwice glues k)) ∷ (19, IsOpposite d polygons (glue_at glues k)) ∷ []

-- a check that looks at the polygons, whose lines stand behind `flat`, `field` and the base lines
abbrev pub at_polygons : Content → (ℕ → List Condition) → Check
at_polygons file conditions = record { places = length file.polygons; conditions = conditions; line = λ p. 3 + length file.bases + p }

-- a check that looks at the glue lines, which stand behind the polygon lines
abbrev pub at_glues : Content → (ℕ → List Condition) → Check
at_glues file conditions =
    record { places = length file.glues; conditions = conditions; line = λ k. 3 + length file.bases + length file.polygons + k }

-- each polygon closes, isn't flat, and is convex
abbrev pub shape_check : Content → Check
shape_check file = at_polygons file (λ p. polygon_conditions file.field (polygon_at file.polygons p))

-- each glue line pairs two opposite sides that no line before has named
abbrev pub glue_check : Content → Check
glue_check file = at_glues file (λ k. glue_conditions file.field file.polygons file.glues k)

-- each side of each polygon is in a glue line
abbrev pub pairing_check : Content → Check
pairing_check file = at_polygons file (λ p. (20, IsPaired file.polygons file.glues p) ∷ [])

-- the polygons up to each one, with it, are cut into at most 256 triangles
abbrev pub triangle_check : Content → Check
triangle_check file = at_polygons file (λ p. (21, triangle_count (take (p + 1) file.polygons) ≤ 256) ∷ [])

-- glue lines join each polygon to polygon 0
abbrev pub joining_check : Content → Check
joining_check file = at_polygons file (λ p. (22, IsJoined file.glues p) ∷ [])

-- the checks of a file, in the order in which they are made
abbrev pub checks_of : Content → List Check
checks_of file = shape_check file ∷ glue_check file ∷ pairing_check file ∷ triangle_check file ∷ joining_check file ∷ []

-- all conditions hold
abbrev pub AllHold : List Condition → Type 0
AllHold [] = ⊤
AllHold (condition ∷ conditions) = condition.1 × AllHold conditions

-- the first condition that fails has the cause of this number
abbrev pub FailsFor : ℕ → List Condition → Type 0
FailsFor cause [] = ⊥
FailsFor cause (condition ∷ conditions) =
    (¬ (condition.1) × (cause ≡ condition.0)) ⊎ (condition.1 × FailsFor cause conditions)

-- at each of the first n places all conditions hold
abbrev pub HoldBefore : (ℕ → List Condition) → ℕ → Type 0
HoldBefore conditions n = (k : ℕ) → k < n → AllHold (conditions k)

-- of the first n places, this is the first where a condition fails, and the first that fails there has this cause
pub record IsFirstFailure (conditions : ℕ → List Condition) (n cause place : ℕ) : Type 0 where
  pub inside : place < n
  pub before : HoldBefore conditions place
  pub fails : FailsFor cause (conditions place)

-- no condition of the check fails anywhere
abbrev pub Passes : Check → Type 0
Passes check = HoldBefore check.conditions check.places

-- the first place where a condition of the check fails is in this line, and the first that fails there has this cause
pub record IsRefusedBy (check : Check) (cause line : ℕ) : Type 0 where
  pub place : ℕ
  pub first : IsFirstFailure check.conditions check.places cause place
  pub line_is : line ≡ check.line place

-- the first of the checks that doesn't pass refuses for this cause in this line
abbrev pub IsRefusedByFirst : List Check → ℕ → ℕ → Type 0
IsRefusedByFirst [] cause line = ⊥
IsRefusedByFirst (check ∷ checks) cause line = IsRefusedBy check cause line ⊎ (Passes check × IsRefusedByFirst checks cause line)

-- the file is refused for the cause of this number, in this line
abbrev pub IsRefused : Content → ℕ → ℕ → Type 0
IsRefused file cause line = IsRefusedByFirst (checks_of file) cause line

-- a refusal says why the file isn't glued; want of memory says nothing
abbrev pub IsFaultOf : Content → GlueFault → Type 0
IsFaultOf file (Bad cause line) = IsRefused file cause line
IsFaultOf file Memory = ⊤
