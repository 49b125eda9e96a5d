-- The sides of a polygon, and the two sides that an ear cuts off.
use Rattle.std.proofs.Common.{◌≡◌, ℕ, ◌+◌, ◌%◌, ◌<◌, ◌≤◌, List, [], ◌∷◌, length, ap, ap₂, ◌∙◌, arith}
use Rattle.std.proofs.lemmas.List.{get_or-map, length-map}
use Rattle.std.proofs.Math.Nat.{mod-lt}
use Rattle.quad_field.specs.Quads.{quad_ops}
use Rattle.plane.specs.Vectors.{vector_sum}
use Rattle.gluing.specs.Polygons.{no_vector, side_at, side_after}
use Rattle.ear_cut.specs.Cuttings.{Side, Piece, Origin, replaced, vectors_of, chord_at, at, after, no_one, left_over, IsCut}
use Rattle.ear_cut.proofs.Rotations.{IsReplaced}
use Rattle.ear_cut.proofs.Replaced.{replaced_cases, replaced-map, replaced-length}

-- the vectors of side i, and of the side after it
pub vector_at : (d : ℕ) (sides : List Side) (i : ℕ) → i < length sides → side_at d (vectors_of sides) i ≡ (at d sides i).vec
vector_at d sides i below = get_or-map (λ (side : Side). side.vec) sides i (no_one d) (no_vector d) below

pub vector_after : (d : ℕ) (sides : List Side) (i : ℕ) → i < length sides → side_after d (vectors_of sides) i ≡ (after d sides i).vec
vector_after d sides i below =
    ap (λ n. side_at d (vectors_of sides) ((i + 1) % n)) (length-map sides (λ (side : Side). side.vec))
    ∙ vector_at d sides ((i + 1) % length sides) (mod-lt (i + 1) (omega arith))

-- the chord is the sum of the two
pub chord_is : (d : ℕ) (sides : List Side) (i : ℕ) → i < length sides → chord_at d (vectors_of sides) i ≡ vector_sum (quad_ops d) (at d sides i).vec (after d sides i).vec
chord_is d sides i below = ap₂ (vector_sum (quad_ops d)) (vector_at d sides i below) (vector_after d sides i below)

-- what is left
pub left_vectors : (d t : ℕ) (sides : List Side) (i : ℕ) → vectors_of (left_over d t sides i) ≡ replaced (vectors_of sides) i (chord_at d (vectors_of sides) i)
left_vectors d t sides i = replaced-map (λ (side : Side). side.vec) sides i (record { vec = chord_at d (vectors_of sides) i; origin = Origin.chord t })

-- the chord that triangle t leaves
abbrev pub chord_side : ℕ → ℕ → List Side → ℕ → Side
chord_side d t sides i = record { vec = chord_at d (vectors_of sides) i; origin = Origin.chord t }

pub left_is : (d t : ℕ) (sides : List Side) (i : ℕ) → i < length sides → 2 ≤ length sides → IsReplaced sides (at d sides i) (after d sides i) (chord_side d t sides i) (left_over d t sides i)
left_is d t sides i below long = replaced_cases sides i (no_one d) (chord_side d t sides i) below long

-- a polygon is cut into two triangles fewer than it has sides
pub cut_length : (d t : ℕ) (sides : List Side) (pieces : List Piece) → IsCut d t sides pieces → length sides ≡ length pieces + 2
cut_length d t sides [] cut = absurd cut
cut_length d t sides (p ∷ []) cut = ap length cut
cut_length d t sides (p ∷ q ∷ pieces) cut =
    let i = cut.1.0 in
    let long = cut_length d (t + 1) (left_over d t sides i) (q ∷ pieces) cut.1.3 in
    let below : i < length (vectors_of sides) = cut.1.1.0.0 in
    let inside : i < length sides = omega (arith, length-map sides (λ (side : Side). side.vec)) in
    omega (arith, replaced-length sides _ _ _ _ (left_is d t sides i inside (omega (arith, cut.0))), cut.0)
