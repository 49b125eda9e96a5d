-- What edges are seen as.
use Rattle.std.proofs.Common.{◌≡◌, ℕ, zero, suc, ◌+◌, ◌%◌, ◌<◌, ◌≤◌, List, [], ◌∷◌, ◌++◌, length, get_or, take, ap, ap₂, sym, ◌∙◌, subst, arith}
use Rattle.std.proofs.lemmas.List.{length-map, get_or-map, map-append, length-take-le, take_more}
use Rattle.std.proofs.Math.Nat.{mod-lt}
use Rattle.quad_field.specs.declared.quad.Quad.{Quad}
use Rattle.quad_field.specs.Quads.{quad_ops}
use Rattle.plane.specs.Vectors.{Vector, vector, vector_sum, det}
use Rattle.plane.specs.declared.vec2.Vec2.{Vec2}
use Rattle.gluing.specs.Polygons.{no_vector, side_at, side_after, corner}
use Rattle.ear_cut.specs.Cuttings.{Side, Origin, replaced, vectors_of, chord_at, no_one, outer_sides}
use Rattle.ear_cut.specs.Steps.{chord_corner, size_of, total_size, IsSmall, AreSmall, side_of, seen, origin_of, source_at}
use Rattle.ear_cut.specs.declared.side.Edge.{Edge}
use Rattle.ear_cut.specs.declared.side.Source.TheVariants.{Outer}
use Rattle.ear_cut.proofs.Replaced.{replaced-map, replaced_cases, replaced-total, new_kept}
use Rattle.ear_cut.proofs.Rotations.{IsReplaced}
use Rattle.ear_cut.proofs.Widths.{size_sum}

pub seen_length : (xs : List Edge) → length (vectors_of (seen xs)) ≡ length xs
seen_length xs = length-map (seen xs) (λ (side : Side). side.vec) ∙ length-map xs side_of

pub seen_side : (d : ℕ) (xs : List Edge) (i : ℕ) (e : Edge) → i < length xs → side_at d (vectors_of (seen xs)) i ≡ vector (get_or xs i e).vec
seen_side d xs i e below =
    let long = length-map xs side_of in
    let inside : i < length (seen xs) = omega arith in
    get_or-map (λ (side : Side). side.vec) (seen xs) i (side_of e) (no_vector d) inside
    ∙ ap (λ (side : Side). side.vec) (get_or-map side_of xs i e (side_of e) below)

-- the place of the side after side i
pub place_after : (i n : ℕ) → i < n → (i + 1) % n < n
place_after i n below = mod-lt (i + 1) (omega arith)

pub seen_after : (d : ℕ) (xs : List Edge) (i k : ℕ) (e : Edge) → i < length xs → k ≡ (i + 1) % length xs → side_after d (vectors_of (seen xs)) i ≡ vector (get_or xs k e).vec
seen_after d xs i k e below same =
    let long : (i + 1) % length (vectors_of (seen xs)) ≡ k = ap (λ n. (i + 1) % n) (seen_length xs) ∙ sym same in
    ap (side_at d (vectors_of (seen xs))) long ∙ seen_side d xs k e (subst (λ n. n < length xs) (sym same) (place_after i (length xs) below))

pub seen_chord : (d : ℕ) (xs : List Edge) (i k : ℕ) (e : Edge) → i < length xs → k ≡ (i + 1) % length xs
    → chord_at d (vectors_of (seen xs)) i ≡ vector_sum (quad_ops d) (vector (get_or xs i e).vec) (vector (get_or xs k e).vec)
seen_chord d xs i k e below same = ap₂ (vector_sum (quad_ops d)) (seen_side d xs i e below) (seen_after d xs i k e below same)

pub seen_corner : (d : ℕ) (xs : List Edge) (i k : ℕ) (e : Edge) → i < length xs → k ≡ (i + 1) % length xs
    → corner d (vectors_of (seen xs)) i ≡ det (quad_ops d) (vector (get_or xs i e).vec) (vector (get_or xs k e).vec)
seen_corner d xs i k e below same = ap₂ (det (quad_ops d)) (seen_side d xs i e below) (seen_after d xs i k e below same)

-- and the chord and the side behind it
pub seen_behind : (d : ℕ) (xs : List Edge) (i k m : ℕ) (e : Edge) (w : Vector Quad) → i < length xs → k ≡ (i + 1) % length xs → m ≡ (k + 1) % length xs → w ≡ chord_at d (vectors_of (seen xs)) i
    → chord_corner d (vectors_of (seen xs)) i ≡ det (quad_ops d) w (vector (get_or xs m e).vec)
seen_behind d xs i k m e w below same next chord =
    let place : (i + 1) % length (vectors_of (seen xs)) ≡ k = ap (λ n. (i + 1) % n) (seen_length xs) ∙ sym same in
    let inside : k < length xs = subst (λ n. n < length xs) (sym same) (place_after i (length xs) below) in
    ap₂ (det (quad_ops d)) (sym chord) (ap (side_after d (vectors_of (seen xs))) place ∙ seen_after d xs k m e inside next)

one_small : (vs : List (Vector Quad)) (i : ℕ) (v : Vector Quad) → i < length vs → size_of (get_or vs i v) ≤ total_size vs
one_small [] i v below = absurd (omega arith)
one_small (w ∷ vs) zero v below = omega arith
one_small (w ∷ vs) (suc i) v below = omega (arith, one_small vs i v (omega arith))

pub seen_small : (xs : List Edge) (i : ℕ) (e : Edge) → i < length xs → AreSmall (vectors_of (seen xs)) → IsSmall (vector (get_or xs i e).vec)
seen_small xs i e below small =
    let inside : i < length (vectors_of (seen xs)) = omega (arith, seen_length xs) in
    omega (arith, ap size_of (seen_side 2 xs i e below), one_small (vectors_of (seen xs)) i (no_vector 2) inside)

-- the sum of two small vectors of a list is small
pub seen_replaced : (d : ℕ) (xs : List Edge) (i : ℕ) (new : Edge) → vector new.vec ≡ chord_at d (vectors_of (seen xs)) i
    → vectors_of (seen (replaced xs i new)) ≡ replaced (vectors_of (seen xs)) i (chord_at d (vectors_of (seen xs)) i)
seen_replaced d xs i new e =
    ap vectors_of (replaced-map side_of xs i new) ∙ replaced-map (λ (side : Side). side.vec) (seen xs) i (side_of new) ∙ ap (replaced (vectors_of (seen xs)) i) e

-- one side more of a polygon
pub outer-more : (p e : ℕ) (sides : List Vec2) (v : Vec2) → outer_sides p e (sides ++ v ∷ []) ≡ outer_sides p e sides ++ (record { vec = vector v; origin = Origin.outer p (e + length sides) }) ∷ []
outer-more p e [] v = let same : e ≡ e + 0 = omega arith in ap (λ n. let side : Side = record { vec = vector v; origin = Origin.outer p n } in side ∷ []) same
outer-more p e (w ∷ sides) v =
    let same : e + 1 + length sides ≡ e + suc (length sides) = omega arith in
    ap (λ rest. let side : Side = record { vec = vector w; origin = Origin.outer p e } in side ∷ rest)
    (outer-more p (e + 1) sides v ∙ ap (λ n. let side : Side = record { vec = vector v; origin = Origin.outer p n } in outer_sides p (e + 1) sides ++ side ∷ []) same)

swap_is : (d : ℕ) (vs : List (Vector Quad)) (i : ℕ) → i < length vs → 2 ≤ length vs → IsReplaced vs (side_at d vs i) (side_after d vs i) (chord_at d vs i) (replaced vs i (chord_at d vs i))
swap_is d vs i below long = replaced_cases vs i (no_vector d) (chord_at d vs i) below long

-- a list is no larger after two vectors are added
pub replaced_small : (d : ℕ) (vs : List (Vector Quad)) (i : ℕ) → i < length vs → 2 ≤ length vs → total_size (replaced vs i (chord_at d vs i)) ≤ total_size vs
replaced_small d vs i below long =
    omega (arith, replaced-total size_of vs _ _ _ _ (swap_is d vs i below long), size_sum d (side_at d vs i) (side_after d vs i))

-- nor is the sum
pub chord_small : (d : ℕ) (vs : List (Vector Quad)) (i : ℕ) → i < length vs → 2 ≤ length vs → size_of (chord_at d vs i) ≤ total_size vs
chord_small d vs i below long = omega (arith, new_kept size_of vs _ _ _ _ (swap_is d vs i below long), replaced_small d vs i below long)

-- the sides of a polygon, one step on
pub sides_step : (p e : ℕ) (vectors : List Vec2) (d : Vec2) (xs ys : List Edge) → e < length vectors → seen xs ≡ outer_sides p 0 (take e vectors)
    → ys ≡ xs ++ (record { vec = get_or vectors e d; source = Outer p e }) ∷ [] → seen ys ≡ outer_sides p 0 (take (e + 1) vectors)
sides_step p e vectors d xs ys below so_far more =
    let new : Edge = record { vec = get_or vectors e d; source = Outer p e } in
    let size : length (take e vectors) ≡ e = length-take-le e vectors (omega arith) in
    let zeroth : 0 + length (take e vectors) ≡ e = omega arith in
    ap seen more ∙ map-append side_of xs (new ∷ []) ∙ ap (λ sides. sides ++ side_of new ∷ []) so_far
    ∙ ap (λ n. let side : Side = record { vec = vector (get_or vectors e d); origin = Origin.outer p n } in outer_sides p 0 (take e vectors) ++ side ∷ []) (sym zeroth)
    ∙ sym (outer-more p 0 (take e vectors) (get_or vectors e d))
    ∙ ap (outer_sides p 0) (sym (take_more vectors e d below))

-- where the edge at place h comes from
pub seen_source : (xs : List Edge) (h : ℕ) (e : Edge) → h < length xs → source_at (seen xs) h ≡ origin_of (get_or xs h e).source
seen_source xs h e below = ap (λ (side : Side). side.origin) (get_or-map side_of xs h e (no_one 2) below)
