-- What the checks of a file say together.
use Rattle.std.proofs.Common.{◌≡◌, ℕ, zero, suc, ◌+◌, ◌-◌, ◌<◌, ◌≤◌, inl, List, [], ◌∷◌, ◌++◌, Some, length, map, take, refl, sym, ap, subst, ◌∙◌, arith}
use Rattle.std.proofs.lemmas.List.{take_all, length-append, length-map}
use Rattle.plane.specs.declared.vec2.Vec2.{Vec2}
use Rattle.surface_text.specs.Spelling.{Content, Line, line_text, lines_then, lines_of, lines_before_end, text}
use Rattle.surface_text.specs.Limits.{IsWithinLimits}
use Rattle.gluing.specs.declared.fault.GlueFault.{GlueFault}
use Rattle.gluing.specs.declared.fault.GlueFault.TheVariants.{Bad}
use Rattle.surface_text.specs.declared.file.Glue.{Glue}
use Rattle.gluing.specs.Polygons.{polygon_at}
use Rattle.gluing.specs.Gluings.{IsGluing, gluing_of, triangle_count}
use Rattle.gluing.specs.Parts.{IsFaultBy}
use Rattle.gluing.specs.Tables.{IsFirstWithout}
use Rattle.gluing.specs.Refusals.{Check, polygon_conditions, glue_conditions, HoldBefore, IsFirstFailure, Passes, shape_check, glue_check, pairing_check, triangle_check, joining_check, checks_of}
use Rattle.gluing.proofs.Refusing.{AllPass}

-- the triangles of some polygons are no more than those of all
count-take : (n : ℕ) (polygons : List (List Vec2)) → triangle_count (take n polygons) ≤ triangle_count polygons
count-take zero polygons = omega arith
count-take (suc n) [] = omega arith
count-take (suc n) (sides ∷ polygons) = omega (arith, count-take n polygons)

-- a file whose polygons make a surface passes all checks
pub all_pass : (file : Content) → IsGluing (gluing_of file) → AllPass (checks_of file)
all_pass file valid = (
  (λ p h. let proper = valid.proper p h in (proper.closed, (proper.not_flat, (proper.convex, tt)))),
  (
    (λ k h. (valid.once k h, (valid.opposite k h, tt))),
    (
      (λ p h. (valid.paired p h, tt)),
      ((λ p h. ((omega (arith, count-take (p + 1) file.polygons, valid.few_triangles)), tt)), ((λ p h. (valid.joined p h, tt)), tt)),
    ),
  ),
)

-- and a file within the limits that passes all checks makes a surface
pub surface_from : (file : Content) → IsWithinLimits file → Passes (shape_check file) → Passes (glue_check file) → Passes (pairing_check file) → Passes (triangle_check file) → Passes (joining_check file)
    → IsGluing (gluing_of file)
surface_from file limits shapes glues pairing triangles joining =
    let last : length file.polygons - 1 < length file.polygons = omega (arith, limits.some_polygons) in
    let past : length file.polygons ≤ (length file.polygons - 1) + 1 = omega (arith, limits.some_polygons) in
    record {
      field = limits.field;
      some_polygons = limits.some_polygons;
      bounded = limits.polygons;
      proper = λ p h. record { closed = (shapes p h).0; not_flat = (shapes p h).1.0; convex = (shapes p h).1.1.0 };
      there = limits.glues;
      once = λ k h. (glues k h).0;
      opposite = λ k h. (glues k h).1.0;
      paired = λ p h. (pairing p h).0;
      few_triangles = subst (λ (x : List (List Vec2)). triangle_count x ≤ 256) (take_all ((length file.polygons - 1) + 1) file.polygons past) (triangles (length file.polygons - 1) last).0;
      joined = λ p h. (joining p h).0;
    }

-- the refusal by a check at the first place where a condition fails
pub refused_at : (check : Check) (fault : GlueFault) (number cause place : ℕ) → fault ≡ Bad number (check.line place) → number ≡ cause
    → IsFirstFailure check.conditions check.places cause place → IsFaultBy check fault
refused_at check fault number cause place is same first =
    subst (IsFaultBy check) (sym (is ∙ ap (λ (n : ℕ). Bad n (check.line place)) same)) (record { place = place; first = first; line_is = refl })

-- what is found at the polygons of a file, and at its glue lines
module _ (file : Content) (d : ℕ) (polygons : List (List Vec2)) (field : d ≡ file.field) (same : polygons ≡ file.polygons) where
  pub shapes_pass : HoldBefore (λ p. polygon_conditions d (polygon_at polygons p)) (length polygons) → Passes (shape_check file)
  shapes_pass h =
      let at_field : HoldBefore (λ p. polygon_conditions file.field (polygon_at polygons p)) (length polygons) =
      subst (λ (x : ℕ). HoldBefore (λ p. polygon_conditions x (polygon_at polygons p)) (length polygons)) field h in
      subst (λ (x : List (List Vec2)). HoldBefore (λ p. polygon_conditions file.field (polygon_at x p)) (length x)) same at_field

  pub shape_found : (cause place : ℕ) → IsFirstFailure (λ p. polygon_conditions d (polygon_at polygons p)) (length polygons) cause place
      → IsFirstFailure (shape_check file).conditions (shape_check file).places cause place
  shape_found cause place h =
      let at_field : IsFirstFailure (λ p. polygon_conditions file.field (polygon_at polygons p)) (length polygons) cause place =
      subst (λ (x : ℕ). IsFirstFailure (λ p. polygon_conditions x (polygon_at polygons p)) (length polygons) cause place) field h in
      subst (λ (x : List (List Vec2)). IsFirstFailure (λ p. polygon_conditions file.field (polygon_at x p)) (length x) cause place) same at_field

  module _ (glues : List Glue) (lines : glues ≡ file.glues) where
    pub glues_pass : HoldBefore (glue_conditions d polygons glues) (length glues) → Passes (glue_check file)
    glues_pass h =
        let at_field : HoldBefore (glue_conditions file.field polygons glues) (length glues) =
        subst (λ (x : ℕ). HoldBefore (glue_conditions x polygons glues) (length glues)) field h in
        let at_polygons : HoldBefore (glue_conditions file.field file.polygons glues) (length glues) =
        subst (λ (x : List (List Vec2)). HoldBefore (glue_conditions file.field x glues) (length glues)) same at_field in
        subst (λ (x : List Glue). HoldBefore (glue_conditions file.field file.polygons x) (length x)) lines at_polygons

    pub glue_found : (cause place : ℕ) → IsFirstFailure (glue_conditions d polygons glues) (length glues) cause place
        → IsFirstFailure (glue_check file).conditions (glue_check file).places cause place
    glue_found cause place h =
        let at_field : IsFirstFailure (glue_conditions file.field polygons glues) (length glues) cause place =
        subst (λ (x : ℕ). IsFirstFailure (glue_conditions x polygons glues) (length glues) cause place) field h in
        let at_polygons : IsFirstFailure (glue_conditions file.field file.polygons glues) (length glues) cause place =
        subst (λ (x : List (List Vec2)). IsFirstFailure (glue_conditions file.field x glues) (length glues) cause place) same at_field in
        subst (λ (x : List Glue). IsFirstFailure (glue_conditions file.field file.polygons x) (length x) cause place) lines at_polygons

-- a check of one condition passes, or refuses at the first place without it
pub one_passes : (P : ℕ → Type 0) (n cause : ℕ) → ((k : ℕ) → k < n → P k) → HoldBefore (λ k. (cause, P k) ∷ []) n
one_passes P n cause all = λ k h. (all k h, tt)

pub one_found : (P : ℕ → Type 0) (n cause place : ℕ) → IsFirstWithout P n (Some place) → IsFirstFailure (λ k. (cause, P k) ∷ []) n cause place
one_found P n cause place h = record { inside = h.0; before = λ k below. (h.1 k below, tt); fails = inl (h.2, refl) }

-- a text has at least as many bytes as lines
lines_long : (lines : List Line) → length lines ≤ length (lines_then lines [])
lines_long [] = omega arith
lines_long (line ∷ lines) = omega (arith, length-append (line_text line) (10 ∷ lines_then lines []), lines_long lines)

lines_many : (file : Content) → length file.glues ≤ length (lines_of file)
lines_many file =
    omega (
      arith,
      length-append (lines_before_end file) (Line.end ∷ []),
      length-append (map Line.base file.bases) (map Line.polygon file.polygons ++ map Line.glue file.glues),
      length-append (map Line.polygon file.polygons) (map Line.glue file.glues),
      length-map file.glues Line.glue,
    )

-- so a short text has few glue lines
pub few_glues : (file : Content) → length (text file) ≤ 1048576 → length file.glues ≤ 1048576
few_glues file short = omega (arith, lines_long (lines_of file), lines_many file, short)
