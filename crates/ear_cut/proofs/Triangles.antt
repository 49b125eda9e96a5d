-- The triangles that polygons are cut into are closed and turn to the left.
use Rattle.std.proofs.Common.{◌≡◌, ℕ, ◌+◌, ◌<◌, pos, List, [], ◌∷◌, length, map, refl, ap, ap₂, sym, ◌∙◌, subst, subst₂, arith}
use Rattle.std.specs.List.{AllByRecursion}
use Rattle.std.proofs.lemmas.List.{length-map}
use Rattle.rings.specs.Ring.{var, expr}
use Rattle.rings.proofs.Solver.{identity}
use Rattle.quad_field.specs.declared.quad.Quad.{Quad}
use Rattle.quad_field.specs.Quads.{quad_ops, IsPositive}
use Rattle.quad_field.specs.FieldNumber.{IsFieldNumber}
use Rattle.quad_field.proofs.CallerLemmas.{quad_ring}
use Rattle.plane.specs.Vectors.{Vector, vector, vector_sum, opposite_vector, det}
use Rattle.plane.specs.declared.vec2.Vec2.{Vec2}
use Rattle.tri_core.proofs.CallerLemmas.{IsTriple}
use Rattle.gluing.specs.Polygons.{no_vector, side_at, side_after}
use Rattle.ear_cut.specs.Cuttings.{Side, Piece, at, after, ear, left_over, outer_sides, vectors_of, IsCut, AreCut}
use Rattle.ear_cut.specs.Cuttable.{IsCuttable}
use Rattle.ear_cut.specs.Steps.{AreCuttable}
use Rattle.ear_cut.proofs.Replaced.{each-append}
use Rattle.ear_cut.proofs.Sided.{left_vectors, chord_is, vector_at, vector_after}
use Rattle.ear_cut.proofs.Ears.{cuttable_left, last_turns, last_closed}

-- the vectors of a triangle: they sum to zero, and the first turns to the left into the second
abbrev pub IsGood : ℕ → Piece → Type 0
IsGood d piece = IsTriple d piece.first.vec piece.second.vec piece.third.vec

-- w - w = 0
closed_ear : (d : ℕ) (w : Vector Quad) → vector_sum (quad_ops d) w (opposite_vector (quad_ops d) w) ≡ no_vector d
closed_ear d w =
    let none = λ (x : Quad). identity (quad_ops d) (quad_ring d) (x ∷ []) (expr.add (var 0) (expr.neg (var 0))) (expr.int (pos 0)) tt in
    ap₂ (λ (x y : Quad). (x, y)) (none w.0) (none w.1)

-- the ear that is cut off
good_ear : (d t : ℕ) (sides : List Side) (i : ℕ) → i < length sides → IsPositive d (det (quad_ops d) (side_at d (vectors_of sides) i) (side_after d (vectors_of sides) i)) → IsGood d (ear d t sides i)
good_ear d t sides i below turns =
    let O = quad_ops d in
    record {
      closed = ap (λ w. vector_sum O (vector_sum O (at d sides i).vec (after d sides i).vec) (opposite_vector O w)) (chord_is d sides i below) ∙ closed_ear d (vector_sum O (at d sides i).vec (after d sides i).vec);
      turns = subst₂ (λ u v. IsPositive d (det O u v)) (vector_at d sides i below) (vector_after d sides i below) turns;
    }

good_cut : (d : ℕ) → IsFieldNumber d → (t : ℕ) (sides : List Side) (pieces : List Piece) → IsCut d t sides pieces → IsCuttable d (vectors_of sides) → AllByRecursion (IsGood d) pieces
good_cut d field t sides [] cut cuttable = absurd cut
good_cut d field t sides (p ∷ []) cut cuttable =
    let last : IsCuttable d (p.first.vec ∷ p.second.vec ∷ p.third.vec ∷ []) = subst (λ ss. IsCuttable d (vectors_of ss)) cut cuttable in
    let good : IsGood d p = record {
      closed = last_closed d field p.first.vec p.second.vec p.third.vec last;
      turns = last_turns d field p.first.vec p.second.vec p.third.vec last;
    } in
    (good, tt)
good_cut d field t sides (p ∷ q ∷ pieces) (long, (i, least, e, rest)) cuttable =
    let count = length-map sides (λ (side : Side). side.vec) in
    let good = good_ear d t sides i (omega (arith, least.0.0)) least.0.1 in
    let left : IsCuttable d (vectors_of (left_over d t sides i)) =
    subst (IsCuttable d) (sym (left_vectors d t sides i)) (cuttable_left d field (vectors_of sides) (omega arith) cuttable i least.0) in
    (subst (IsGood d) (sym e) good, good_cut d field (t + 1) (left_over d t sides i) (q ∷ pieces) rest left)

-- the sides of polygons that can be cut
pub outer_vectors : (p e : ℕ) (sides : List Vec2) → vectors_of (outer_sides p e sides) ≡ map vector sides
outer_vectors p e [] = refl
outer_vectors p e (v ∷ sides) = ap (λ vs. vector v ∷ vs) (outer_vectors p (e + 1) sides)

pub good_cutting : (d : ℕ) → IsFieldNumber d → (p t : ℕ) (polygons : List (List Vec2)) (pieces : List Piece) → AreCut d p t polygons pieces → AreCuttable d polygons → AllByRecursion (IsGood d) pieces
good_cutting d field p t [] pieces cut ready = subst (AllByRecursion (IsGood d)) (sym cut) tt
good_cutting d field p t (sides ∷ polygons) pieces (own, more, e, here, rest) ready =
    let mine = good_cut d field t (outer_sides p 0 sides) own here (subst (IsCuttable d) (sym (outer_vectors p 0 sides)) ready.0.cuttable) in
    let others = good_cutting d field (p + 1) (t + length own) polygons more rest ready.1 in
    subst (AllByRecursion (IsGood d)) (sym e) (each-append (IsGood d) own more mine others)
