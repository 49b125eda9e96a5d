-- Files and lists as they are made.
use Rattle.std.proofs.Common.{◌≡◌, ◌∙◌, ℕ, ◌+◌, List, [], ◌∷◌, ◌++◌, map, replicate, ap, ap₂, sym, arith, append_assoc}
use Rattle.std.specs.Prelude.{ℤ, pos, negsuc, ◌*ℤ◌}
use Rattle.std.specs.List.{range_with_len}
use Rattle.std.proofs.lemmas.List.{map-append, replicate_more}
use Rattle.std.proofs.lemmas.List.FromFn.{map-range_with_len_more}
use Rattle.quad_field.specs.declared.quad.Quad.{Quad}
use Rattle.quad_field.specs.Quads.{quad, scaled}
use Rattle.plane.specs.declared.vec2.Vec2.{Vec2}
use Rattle.surface_text.specs.declared.file.Point.{Point}
use Rattle.surface_text.specs.declared.file.Glue.{Glue}
use Rattle.surface_text.specs.declared.file.Polygon.{Polygon}
use Rattle.family_gen.specs.Tilings.{Tiling, whole_vector, unit_square, right_glue, upper_glue}
use Rattle.family_gen.specs.Octagons.{octagon, multiple}
use Rattle.family_gen.proofs.SmallNumbers.{small_file}

-- one more of the values of a function behind a list
pub listed_more : {X : Type 0} (f : ℕ → X) (before now more : List X) (i : ℕ) (x : X) → now ≡ before ++ map f (range_with_len 0 i) → x ≡ f i → more ≡ now ++ x ∷ []
    → more ≡ before ++ map f (range_with_len 0 (i + 1))
listed_more {X} f before now more i x so_far is pushed =
    pushed ∙ ap (λ (list : List X). list ++ x ∷ []) so_far ∙ append_assoc before (map f (range_with_len 0 i)) (x ∷ [])
    ∙ ap (λ (y : X). before ++ (map f (range_with_len 0 i) ++ y ∷ [])) is ∙ ap (λ (list : List X). before ++ list) (sym (map-range_with_len_more f 0 i i (omega arith)))

-- a file of these polygons and glue lines
pub file_is : (bases : List Point) (made polygons : List (List Vec2)) (put glues : List Glue) → bases ≡ [] → made ≡ polygons → put ≡ glues
    → record (small_file made put) { bases = bases } ≡ small_file polygons glues
file_is bases made polygons put glues none same lines i = record { field = 2; bases = none i; polygons = same i; glues = lines i }

-- ---- squares
pub four_sides : (a b c d : Vec2) → a ≡ whole_vector (pos 1) (pos 0) → b ≡ whole_vector (pos 0) (pos 1) → c ≡ whole_vector (negsuc 0) (pos 0) → d ≡ whole_vector (pos 0) (negsuc 0)
    → ◌≡◌ {A = List Vec2} (a ∷ b ∷ c ∷ d ∷ []) unit_square
four_sides a b c d lower right upper left i = lower i ∷ right i ∷ upper i ∷ left i ∷ []

-- one more square
pub squares_more : (now more : List Polygon) (n : ℕ) (p : Polygon) → map (λ (polygon : Polygon). polygon.sides.items) now ≡ replicate n unit_square → p.sides.items ≡ unit_square
    → more ≡ now ++ p ∷ [] → map (λ (polygon : Polygon). polygon.sides.items) more ≡ replicate (n + 1) unit_square
squares_more now more n p so_far is pushed =
    ap (map (λ (polygon : Polygon). polygon.sides.items)) pushed ∙ map-append (λ (polygon : Polygon). polygon.sides.items) now (p ∷ [])
    ∙ ap₂ (λ (front : List (List Vec2)) (last : List Vec2). front ++ last ∷ []) so_far is ∙ replicate_more n unit_square

-- one more glue line
pub right_more : (t : Tiling) (before now more : List Glue) (i r : ℕ) → now ≡ before ++ map (right_glue t) (range_with_len 0 i) → r ≡ t.right i
    → more ≡ now ++ record { p1 = i; e1 = 1; p2 = r; e2 = 3 } ∷ [] → more ≡ before ++ map (right_glue t) (range_with_len 0 (i + 1))
right_more t before now more i r so_far is pushed =
    listed_more (right_glue t) before now more i (record { p1 = i; e1 = 1; p2 = r; e2 = 3 }) so_far (λ j. record { p1 = i; e1 = 1; p2 = is j; e2 = 3 }) pushed

pub upper_more : (t : Tiling) (before now more : List Glue) (i u : ℕ) → now ≡ before ++ map (upper_glue t) (range_with_len 0 i) → u ≡ t.up i
    → more ≡ now ++ record { p1 = i; e1 = 2; p2 = u; e2 = 0 } ∷ [] → more ≡ before ++ map (upper_glue t) (range_with_len 0 (i + 1))
upper_more t before now more i u so_far is pushed =
    listed_more (upper_glue t) before now more i (record { p1 = i; e1 = 2; p2 = u; e2 = 0 }) so_far (λ j. record { p1 = i; e1 = 2; p2 = is j; e2 = 0 }) pushed

-- ---- octagons
pub quad_is : (k : ℤ) (x : Quad) (a b : ℤ) → a ≡ x.a *ℤ k → b ≡ x.b *ℤ k → quad a b ≡ scaled k x
quad_is k x a b first second i = quad (first i) (second i)

pub eight_sides : (m : ℕ) (level right left rise fall : Quad) → level ≡ scaled (pos m) (quad (pos 0) (pos 0)) → right ≡ scaled (pos m) (quad (pos 2) (pos 0)) → left ≡ scaled (pos m) (quad (negsuc 1) (pos 0))
    → rise ≡ scaled (pos m) (quad (pos 0) (pos 1)) → fall ≡ scaled (pos m) (quad (pos 0) (negsuc 0))
    → ◌≡◌ {A = List Vec2} (record { s = right; t = level } ∷ record { s = rise; t = rise } ∷ record { s = level; t = right } ∷ record { s = fall; t = rise }
    ∷ record { s = left; t = level } ∷ record { s = fall; t = fall } ∷ record { s = level; t = left } ∷ record { s = rise; t = fall } ∷ [])
    (map (multiple m) octagon)
eight_sides m level right left rise fall z r l u f i =
    record { s = r i; t = z i } ∷ record { s = u i; t = u i } ∷ record { s = z i; t = r i } ∷ record { s = f i; t = u i }
    ∷ record { s = l i; t = z i } ∷ record { s = f i; t = f i } ∷ record { s = z i; t = l i } ∷ record { s = u i; t = f i } ∷ []
