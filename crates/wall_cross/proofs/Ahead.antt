-- While the edges of a wall are flipped, one after another: the next one still is a strictly convex edge, and its diagonal fits where it did at first.
use Rattle.std.proofs.Common.{◌≡◌, ℕ, suc, ◌+◌, ◌<◌, ◌≤◌, true, false, List, length, sym, ap, ◌∙◌, subst, arith}
use Rattle.std.specs.Prelude.{slice_index}
use Rattle.std.proofs.lemmas.Bool.{true≢false, false_from_ne_true}
use Rattle.std.proofs.lemmas.List.Elements.{Contains-get_or}
use Rattle.quad_field.specs.FieldNumber.{IsFieldNumber}
use Rattle.quad_field.specs.Quads.{quad_ops, IsPositive}
use Rattle.quad_field.specs.Width.{term_ops}
use Rattle.plane.specs.declared.vec2.Vec2.{Vec2}
use Rattle.plane.specs.Vectors.{Vector, det, vector, vector_sum, vector_term, opposite_vector, VectorFits}
use Rattle.quad_field.specs.declared.quad.Quad.{Quad}
use Rattle.tri_core.specs.declared.half.Half.{Half}
use Rattle.tri_core.specs.HalfEdges.{half_at, vector_at, twin_at, next_of, previous_of}
use Rattle.tri_core.specs.Triangulation.{IsTriangulation}
use Rattle.tri_core.specs.Flips.{IsEdge, IsStrictlyConvex, IsFlip, DiagonalFits}
use Rattle.tri_core.specs.SeveralFlips.{AfterFirst, is_among, IsSpread, AreFlipped}
use Rattle.tri_core.proofs.CallerLemmas.{twin_inside, among_more, among_from, all_first}
use Rattle.hinge_form.specs.Triples.{Triple}
use Rattle.hinge_form.specs.Walls.{IsWall}
use Rattle.wall_cross.specs.Crossings.{AreAllFlipped, DiagonalsFit}
use Rattle.wall_cross.proofs.AtOnce.{IsClear, clear_next_vector, clear_previous_vector, clear_twin}
use Rattle.wall_cross.proofs.Members.{place_of, listed, listed_inside, listed_fresh, wall_spread, first_spread, member_convex}
use mathlib.Core.Logic.{inl, inr}

-- the diagonals of all edges, by their places
pub fits_at : (d : ℕ) (halves : List Half) (edges : List ℕ) → DiagonalsFit d halves edges → (i : ℕ) → i < length edges → DiagonalFits d halves (slice_index edges i)
fits_at d halves edges fits i less = fits (slice_index edges i) (Contains-get_or edges i 0 less)

pub fits_from : (d : ℕ) (halves : List Half) (edges : List ℕ) → ((i : ℕ) → i < length edges → DiagonalFits d halves (slice_index edges i)) → DiagonalsFit d halves edges
fits_from d halves edges each h c = let at = place_of edges h c in subst (DiagonalFits d halves) at.2 (each at.0 at.1)

-- the same vectors are the same numbers
same_vec : (u v : Vec2) → vector u ≡ vector v → u ≡ v
same_vec u v e i = record { s = (e i).0; t = (e i).1 }

-- one flip more
pub after_more : (d x n : ℕ) (edges : List ℕ) (halves between later : List Half) → AfterFirst d edges n halves between → x ≡ d → IsFlip x between (slice_index edges n) later
    → AfterFirst d edges (n + 1) halves later
after_more d x n edges halves between later first e flip =
    let one : suc n ≡ n + 1 = omega arith in
    let both : AfterFirst d edges (suc n) halves later = (between, first, subst (λ (y : ℕ). IsFlip y between (slice_index edges n) later) e flip) in
    subst (λ (k : ℕ). AfterFirst d edges k halves later) one both

module _ (d : ℕ) (field : IsFieldNumber d) (halves : List Half) (valid : IsTriangulation d halves) (form : Triple) (edges : List ℕ) (wall : IsWall d halves form edges) where
  -- flips at the wall's edges, one after another, are flips at all of them
  pub first_flipped : (n : ℕ) (later : List Half) → n ≤ length edges → AfterFirst d edges n halves later → AreFlipped d halves (is_among halves edges n) later
  first_flipped n later few after =
      all_first d halves valid edges (listed_inside d field halves valid form edges wall) (listed_fresh d field halves valid form edges wall)
      (wall_spread d field halves valid form edges wall) n later few after

  module _ (n : ℕ) (later : List Half) (less : n < length edges) (after : AfterFirst d edges n halves later) where
    abbrev h : ℕ
    h = slice_index edges n

    abbrev g : ℕ
    g = twin_at halves h

    h_below : slice_index edges n < length halves
    h_below = listed_inside d field halves valid form edges wall n less

    g_below : twin_at halves (slice_index edges n) < length halves
    g_below = twin_inside d halves h valid h_below

    spread : IsSpread halves (is_among halves edges n)
    spread = first_spread d field halves valid form edges wall n (omega arith)

    flips : AreFlipped d halves (is_among halves edges n) later
    flips = first_flipped n later (omega arith) after

    -- no half-edge flipped before lies in its two triangles
    not_yet : (k : ℕ) → is_among halves edges (length edges) k ≡ false → is_among halves edges n k ≡ false
    not_yet k none = false_from_ne_true _ (λ x. true≢false (sym (among_more halves edges n (length edges) k (omega arith) x) ∙ none))

    clear_h : IsClear d halves valid (is_among halves edges n) spread later flips (slice_index edges n)
    clear_h =
        let member : is_among halves edges (length edges) h ≡ true = among_from halves edges (length edges) h n less (inl (λ i. h)) in
        let whole = wall_spread d field halves valid form edges wall in
        record {
          own = listed_fresh d field halves valid form edges wall n less;
          after = not_yet (next_of h) (whole.after h h_below member);
          before = not_yet (previous_of h) (whole.before h h_below member);
        }

    clear_g : IsClear d halves valid (is_among halves edges n) spread later flips (twin_at halves (slice_index edges n))
    clear_g =
        let member : is_among halves edges (length edges) g ≡ true = among_from halves edges (length edges) g n less (inr (λ i. g)) in
        let whole = wall_spread d field halves valid form edges wall in
        record {
          own = spread.twin h h_below ∙ listed_fresh d field halves valid form edges wall n less;
          after = not_yet (next_of g) (whole.after g g_below member);
          before = not_yet (previous_of g) (whole.before g g_below member);
        }

    -- so these keep their vectors, and the edge its twin
    twin : twin_at later (slice_index edges n) ≡ twin_at halves (slice_index edges n)
    twin = clear_twin d halves valid (is_among halves edges n) spread later flips h h_below clear_h clear_g

    at_next : vector_at later (next_of (slice_index edges n)) ≡ vector_at halves (next_of (slice_index edges n))
    at_next = clear_next_vector d halves valid (is_among halves edges n) spread later flips h h_below clear_h

    at_previous : vector_at later (previous_of (slice_index edges n)) ≡ vector_at halves (previous_of (slice_index edges n))
    at_previous = clear_previous_vector d halves valid (is_among halves edges n) spread later flips h h_below clear_h

    at_next_of_twin : vector_at later (next_of (twin_at later (slice_index edges n))) ≡ vector_at halves (next_of (twin_at halves (slice_index edges n)))
    at_next_of_twin =
        ap (λ (i : ℕ). vector_at later (next_of i)) twin ∙ clear_next_vector d halves valid (is_among halves edges n) spread later flips g g_below clear_g

    at_previous_of_twin : vector_at later (previous_of (twin_at later (slice_index edges n))) ≡ vector_at halves (previous_of (twin_at halves (slice_index edges n)))
    at_previous_of_twin =
        ap (λ (i : ℕ). vector_at later (previous_of i)) twin ∙ clear_previous_vector d halves valid (is_among halves edges n) spread later flips g g_below clear_g

    pub next_edge : IsEdge later (slice_index edges n)
    next_edge =
        let named = (listed d field halves valid form edges wall n less).0 in
        (subst (λ (l : ℕ). h < l) (sym flips.count) named.0, subst (λ (k : ℕ). h < k) (sym twin) named.1)

    pub next_convex : IsStrictlyConvex d later (slice_index edges n)
    next_convex =
        let own = member_convex d field halves valid form edges wall h h_below (among_from halves edges (length edges) h n less (inl (λ i. h))) in
        record {
          first = transport_turn at_next at_previous own.first;
          second = transport_turn at_previous at_next_of_twin own.second;
          third = transport_turn at_next_of_twin at_previous_of_twin own.third;
          fourth = transport_turn at_previous_of_twin at_next own.fourth;
        }
      where
        transport_turn : {u v x y : Vector Quad} → u ≡ x → v ≡ y → IsPositive d (det (quad_ops d) x y) → IsPositive d (det (quad_ops d) u v)
        transport_turn {u} {v} {x} {y} e f p =
            subst (λ (w : Vector Quad). IsPositive d (det (quad_ops d) w v)) (sym e) (subst (λ (w : Vector Quad). IsPositive d (det (quad_ops d) x w)) (sym f) p)

    pub next_fits : DiagonalsFit d halves edges → DiagonalFits d later (slice_index edges n)
    next_fits fits =
        let before : (half_at later (previous_of (twin_at later h))).vec ≡ (half_at halves (previous_of g)).vec = same_vec _ _ at_previous_of_twin in
        let behind : (half_at later (next_of h)).vec ≡ (half_at halves (next_of h)).vec = same_vec _ _ at_next in
        let A : Vec2 → Vec2 → Type 0 = λ u v.
        let diagonal = vector_sum term_ops (vector_term u) (vector_term v) in
        VectorFits d diagonal × VectorFits d (opposite_vector term_ops diagonal) in
        subst (λ (u : Vec2). A u (half_at later (next_of h)).vec) (sym before) (subst (λ (v : Vec2). A (half_at halves (previous_of g)).vec v) (sym behind) (fits_at d halves edges fits n less))

  -- all flips
  pub all_flipped : (later : List Half) → AfterFirst d edges (length edges) halves later → AreAllFlipped d halves edges later
  all_flipped later after = first_flipped (length edges) later (omega arith) after
