-- The vector of a side follows from where it comes from.
use Rattle.std.proofs.Common.{◌≡◌, ℕ, suc, ◌+◌, ◌<◌, List, [], ◌∷◌, ◌++◌, length, get_or, map, refl, ap, sym, ◌∙◌, subst, subst₂, arith}
use Rattle.std.specs.List.{AllByRecursion}
use Rattle.std.proofs.lemmas.List.{length-append, length-map, append_assoc, get_or_at, get_or-append-add, get_or-map}
use Rattle.quad_field.specs.declared.quad.Quad.{Quad}
use Rattle.quad_field.specs.Quads.{quad_ops}
use Rattle.plane.specs.Vectors.{Vector, vector, vector_sum, opposite_vector}
use Rattle.plane.specs.declared.vec2.Vec2.{Vec2}
use Rattle.gluing.specs.Polygons.{polygon_at, side_at, no_vector}
use Rattle.ear_cut.specs.Cuttings.{Side, Piece, Origin, left_over, outer_sides, sides_of, vectors_of, chord_at, IsCut, AreCut}
use Rattle.ear_cut.proofs.Replaced.{each-append, each-replaced}
use Rattle.ear_cut.proofs.Sided.{left_is, chord_is}
use Rattle.ear_cut.proofs.Origins.{sides-append}

-- the side has the vector that goes with its origin
abbrev pub Fits : (Origin → Vector Quad) → Side → Type 0
Fits value side = side.vec ≡ value side.origin

-- the chords of pieces, numbered from t on, and their backs have the values that the pieces say
abbrev pub GiveValues : ℕ → (Origin → Vector Quad) → ℕ → List Piece → Type 0
GiveValues d value t [] = Unit {0}
GiveValues d value t (p ∷ pieces) =
    (value (Origin.chord t) ≡ vector_sum (quad_ops d) p.first.vec p.second.vec)
    × (value (Origin.back t) ≡ opposite_vector (quad_ops d) (vector_sum (quad_ops d) p.first.vec p.second.vec))
    × GiveValues d value (t + 1) pieces

values_left : (d : ℕ) (value : Origin → Vector Quad) (t : ℕ) (ps qs : List Piece) → GiveValues d value t (ps ++ qs) → GiveValues d value t ps
values_left d value t [] qs give = tt
values_left d value t (p ∷ ps) qs give = (give.0, give.1, values_left d value (t + 1) ps qs give.2)

values_right : (d : ℕ) (value : Origin → Vector Quad) (t : ℕ) (ps qs : List Piece) → GiveValues d value t (ps ++ qs) → GiveValues d value (t + length ps) qs
values_right d value t [] qs give = let e : t ≡ t + 0 = omega arith in subst (λ n. GiveValues d value n qs) e give
values_right d value t (p ∷ ps) qs give =
    let e : t + 1 + length ps ≡ t + suc (length ps) = omega arith in
    subst (λ n. GiveValues d value n qs) e (values_right d value (t + 1) ps qs give.2)

pub fits_cut : (value : Origin → Vector Quad) (d t : ℕ) (sides : List Side) (pieces : List Piece) → IsCut d t sides pieces → GiveValues d value t pieces
    → AllByRecursion (Fits value) sides → AllByRecursion (Fits value) (sides_of pieces)
fits_cut value d t sides [] cut give fit = absurd cut
fits_cut value d t sides (p ∷ []) cut give fit = subst (AllByRecursion (Fits value)) cut fit
fits_cut value d t sides (p ∷ q ∷ pieces) (long, (i, least, e, rest)) give fit =
    let inside : i < length sides = omega (arith, least.0.0, length-map sides (λ (side : Side). side.vec)) in
    let chord : chord_at d (vectors_of sides) i ≡ vector_sum (quad_ops d) p.first.vec p.second.vec =
    chord_is d sides i inside ∙ ap (λ (piece : Piece). vector_sum (quad_ops d) piece.first.vec piece.second.vec) (sym e) in
    let parts = each-replaced (Fits value) sides _ _ _ _ (left_is d t sides i inside (omega arith)) fit (chord ∙ sym give.0) in
    let third : Fits value p.third =
    ap (λ (piece : Piece). piece.third.vec) e ∙ ap (opposite_vector (quad_ops d)) chord ∙ sym give.1 ∙ ap (λ (piece : Piece). value piece.third.origin) (sym e) in
    let first = subst (λ (piece : Piece). Fits value piece.first) (sym e) parts.first in
    let second = subst (λ (piece : Piece). Fits value piece.second) (sym e) parts.second in
    (first, (second, (third, fits_cut value d (t + 1) (left_over d t sides i) (q ∷ pieces) rest give.2 parts.left)))

-- the values of the sides of a polygon
abbrev pub FitPolygons : ℕ → (Origin → Vector Quad) → ℕ → List (List Vec2) → Type 0
FitPolygons d value p [] = Unit {0}
FitPolygons d value p (sides ∷ polygons) = AllByRecursion (Fits value) (outer_sides p 0 sides) × FitPolygons d value (p + 1) polygons

pub fits_cutting : (value : Origin → Vector Quad) (d p t : ℕ) (polygons : List (List Vec2)) (pieces : List Piece) → AreCut d p t polygons pieces → GiveValues d value t pieces
    → FitPolygons d value p polygons → AllByRecursion (Fits value) (sides_of pieces)
fits_cutting value d p t [] pieces cut give fit = subst (λ ps. AllByRecursion (Fits value) (sides_of ps)) (sym cut) tt
fits_cutting value d p t (sides ∷ polygons) pieces (own, more, e, here, rest) give fit =
    let split = subst (GiveValues d value t) e give in
    let mine = fits_cut value d t (outer_sides p 0 sides) own here (values_left d value t own more split) fit.0 in
    let others = fits_cutting value d (p + 1) (t + length own) polygons more rest (values_right d value t own more split) fit.1 in
    subst (λ ps. AllByRecursion (Fits value) (sides_of ps)) (sym e)
    (subst (AllByRecursion (Fits value)) (sym (sides-append own more)) (each-append (Fits value) (sides_of own) (sides_of more) mine others))

-- the value of each origin
abbrev pub no_piece : ℕ → Piece
no_piece d = let none : Side = record { vec = no_vector d; origin = Origin.outer 0 0 } in record { first = none; second = none; third = none }

abbrev pub value_of : ℕ → List (List Vec2) → List Piece → Origin → Vector Quad
value_of d polygons pieces (Origin.outer p e) = side_at d (polygon_at polygons p) e
value_of d polygons pieces (Origin.chord t) = let piece = get_or pieces t (no_piece d) in vector_sum (quad_ops d) piece.first.vec piece.second.vec
value_of d polygons pieces (Origin.back t) =
    let piece = get_or pieces t (no_piece d) in opposite_vector (quad_ops d) (vector_sum (quad_ops d) piece.first.vec piece.second.vec)

give_from : (d : ℕ) (polygons : List (List Vec2)) (front pieces : List Piece) → GiveValues d (value_of d polygons (front ++ pieces)) (length front) pieces
give_from d polygons front [] = tt
give_from d polygons front (p ∷ pieces) =
    let zeroth : length front + 0 ≡ length front = omega arith in
    let here : get_or (front ++ p ∷ pieces) (length front) (no_piece d) ≡ p =
    ap (λ n. get_or (front ++ p ∷ pieces) n (no_piece d)) (sym zeroth) ∙ get_or-append-add front (p ∷ pieces) 0 (no_piece d) in
    let whole : (front ++ p ∷ []) ++ pieces ≡ front ++ p ∷ pieces = append_assoc front (p ∷ []) pieces in
    let long : length (front ++ p ∷ []) ≡ length front + 1 = length-append front (p ∷ []) in
    let rest = subst₂ (λ ps n. GiveValues d (value_of d polygons ps) n pieces) whole long (give_from d polygons (front ++ p ∷ []) pieces) in (
      ap (λ (piece : Piece). vector_sum (quad_ops d) piece.first.vec piece.second.vec) here,
      ap (λ (piece : Piece). opposite_vector (quad_ops d) (vector_sum (quad_ops d) piece.first.vec piece.second.vec)) here,
      rest,
    )

fit_sides : (value : Origin → Vector Quad) (p e : ℕ) (front sides : List Vec2) (whole : List Vec2) (d : ℕ) → whole ≡ front ++ sides → length front ≡ e
    → ((f : ℕ) → f < length whole → value (Origin.outer p f) ≡ side_at d (map vector whole) f) → AllByRecursion (Fits value) (outer_sides p e sides)
fit_sides value p e front [] whole d same long values = tt
fit_sides value p e front (v ∷ sides) whole d same long values =
    let total : length whole ≡ length front + suc (length sides) = ap length same ∙ length-append front (v ∷ sides) in
    let inside : e < length whole = omega arith in
    let none : Vec2 = v in
    let here : get_or whole e none ≡ v = ap (λ vs. get_or vs e none) same ∙ get_or_at front v sides none e long in
    let first : vector v ≡ value (Origin.outer p e) = sym (values e inside ∙ get_or-map vector whole e none (no_vector d) inside ∙ ap vector here) in
    let longer : length (front ++ v ∷ []) ≡ e + 1 = length-append front (v ∷ []) ∙ ap (λ n. n + 1) long in
    (first, fit_sides value p (e + 1) (front ++ v ∷ []) sides whole d (same ∙ sym (append_assoc front (v ∷ []) sides)) longer values)

fit_from : (d : ℕ) (all : List (List Vec2)) (pieces : List Piece) (front polygons : List (List Vec2)) → all ≡ front ++ polygons → FitPolygons d (value_of d all pieces) (length front) polygons
fit_from d all pieces front [] same = tt
fit_from d all pieces front (sides ∷ polygons) same =
    let here : get_or all (length front) [] ≡ sides = ap (λ ps. get_or ps (length front) []) same ∙ get_or_at front sides polygons [] (length front) refl in
    let whole = same ∙ sym (append_assoc front (sides ∷ []) polygons) in
    let long : length (front ++ sides ∷ []) ≡ length front + 1 = length-append front (sides ∷ []) in (
      fit_sides (value_of d all pieces) (length front) 0 [] sides sides d refl refl (λ f below. ap (λ vs. side_at d (map vector vs) f) here),
      subst (λ n. FitPolygons d (value_of d all pieces) n polygons) long (fit_from d all pieces (front ++ sides ∷ []) polygons whole),
    )

-- the vectors of the sides of the triangles
pub each_value : (d : ℕ) (polygons : List (List Vec2)) (pieces : List Piece) → AreCut d 0 0 polygons pieces → AllByRecursion (Fits (value_of d polygons pieces)) (sides_of pieces)
each_value d polygons pieces cut =
    fits_cutting (value_of d polygons pieces) d 0 0 polygons pieces cut (give_from d polygons [] pieces) (fit_from d polygons pieces [] polygons refl)
