-- What glued polygons are cut into is a triangulation.
use Rattle.std.proofs.Common.{◌≡◌, ℕ, zero, suc, ◌+◌, ◌*◌, ◌/◌, ◌<◌, ◌≤◌, pos, ◌↔◌, IsTrue, Bool, true, false, List, [], ◌∷◌, length, get_or, refl, ap, ap₂, sym, ◌∙◌, subst, subst₂, arith, inl, inr}
use Rattle.std.specs.List.{AllByRecursion}
use Rattle.std.proofs.lemmas.Bool.{cases_eq}
use Rattle.std.proofs.lemmas.List.{length-map, get_or-map, get_or_default}
use Rattle.rings.specs.Ring.{var, expr}
use Rattle.rings.proofs.Solver.{identity}
use Rattle.rings.proofs.Ordered.{not_both_signs}
use Rattle.rings.proofs.Turning.{opposite_twice}
use Rattle.quad_field.specs.declared.quad.Quad.{Quad}
use Rattle.quad_field.specs.Quads.{quad_ops, IsPositive}
use Rattle.quad_field.specs.FieldNumber.{IsFieldNumber}
use Rattle.quad_field.proofs.CallerLemmas.{quad_ring, order_of}
use Rattle.plane.specs.Vectors.{Vector, vector, vector_sum, opposite_vector, det}
use Rattle.surface_text.specs.declared.file.Glue.{Glue}
use Rattle.surface_text.specs.Limits.{IsThere, NamesSides}
use Rattle.tri_core.specs.declared.half.Half.{Half}
use Rattle.tri_core.specs.HalfEdges.{no_half, vector_at, twin_at}
use Rattle.tri_core.specs.Triangulation.{HasTriangles, IsTriangle, IsClosed, TurnsInto, IsPaired, IsClosedUnderTwins, IsJoined, IsTriangulation}
use Rattle.tri_core.proofs.CallerLemmas.{IsTriple, triple_turned, opposite_does_not_turn, from_opposite}
use Rattle.gluing.specs.Polygons.{no_vector, polygon_at, side_at}
use Rattle.gluing.specs.Gluings.{Gluing, IsGluing, no_glue, glue_at, IsClosedUnderGlues, AreTwins}
use Rattle.ear_cut.specs.Cuttings.{Side, Piece, Origin, at, no_one, sides_of, ArePartners, IsEarCutting}
use Rattle.ear_cut.specs.Steps.{source_at}
use Rattle.ear_cut.proofs.Replaced.{each_at, each_from}
use Rattle.ear_cut.proofs.Origins.{count, count_at, count_some, count_one, most_one, as_many, some_outer}
use Rattle.ear_cut.proofs.Values.{Fits, value_of, no_piece, each_value}
use Rattle.ear_cut.proofs.Triangles.{IsGood, good_cutting}
use Rattle.ear_cut.proofs.Partners.{one_partner, partner_back}
use Rattle.ear_cut.proofs.Labels.{IsUniform, JoinsChords, HasMark, mark_of, sides_marked, pieces_marked, first_marked, place, place_some, place_none}
use Rattle.ear_cut.proofs.Ready.{gluing_ready, piece_count}

-- ---- vectors
-- where u + v = 0, v is the opposite of u
sum_opposite : (d : ℕ) (u v : Vector Quad) → vector_sum (quad_ops d) u v ≡ no_vector d → v ≡ opposite_vector (quad_ops d) u
sum_opposite d u v none =
    let one = λ (x y : Quad). identity (quad_ops d) (quad_ring d) (x ∷ y ∷ []) (var 1) (expr.add (expr.neg (var 0)) (expr.add (var 0) (var 1))) tt in
    let two = λ (x : Quad). identity (quad_ops d) (quad_ring d) (x ∷ []) (expr.add (expr.neg (var 0)) (expr.int (pos 0))) (expr.neg (var 0)) tt in
    let O = quad_ops d in
    ap₂ (λ (x y : Quad). (x, y))
    (one u.0 v.0 ∙ ap (λ (w : Vector Quad). O.add (O.neg u.0) w.0) none ∙ two u.0)
    (one u.1 v.1 ∙ ap (λ (w : Vector Quad). O.add (O.neg u.1) w.1) none ∙ two u.1)

sum_turned : (d : ℕ) (u v : Vector Quad) → vector_sum (quad_ops d) u v ≡ vector_sum (quad_ops d) v u
sum_turned d u v =
    let one = λ (x y : Quad). identity (quad_ops d) (quad_ring d) (x ∷ y ∷ []) (expr.add (var 0) (var 1)) (expr.add (var 1) (var 0)) tt in
    ap₂ (λ (x y : Quad). (x, y)) (one u.0 v.0) (one u.1 v.1)

-- no side of a triangle is opposite to its first
not_first : (d : ℕ) → IsFieldNumber d → (u v w : Vector Quad) → IsTriple d u v w → ¬ (u ≡ opposite_vector (quad_ops d) u)
not_first d field u v w triple e =
    let O = quad_ops d in
    let back = identity O (quad_ring d) (u.0 ∷ u.1 ∷ v.0 ∷ v.1 ∷ []) (det expr (expr.neg (var 0), expr.neg (var 1)) (var 2, var 3)) (expr.neg (det expr (var 0, var 1) (var 2, var 3))) tt in
    not_both_signs O (quad_ring d) (order_of d field) (det O u v) triple.turns (subst (IsPositive d) (ap (λ w. det O w v) e ∙ back) triple.turns)

not_third : (d : ℕ) (u v w : Vector Quad) → IsTriple d u v w → ¬ (w ≡ opposite_vector (quad_ops d) u)
not_third d u v w triple e = opposite_does_not_turn d w u v (from_opposite d u w e) (triple_turned d v w u (triple_turned d u v w triple))

-- ---- places
pub sides_length : (pieces : List Piece) → length (sides_of pieces) ≡ 3 * length pieces
sides_length [] = refl
sides_length (p ∷ pieces) = omega (arith, sides_length pieces)

record AreSidesAt (d : ℕ) (sides : List Side) (t : ℕ) (piece : Piece) : Type 0 where
  first : at d sides (3 * t) ≡ piece.first
  second : at d sides (3 * t + 1) ≡ piece.second
  third : at d sides (3 * t + 2) ≡ piece.third

sides_at : (d : ℕ) (pieces : List Piece) (t : ℕ) (none : Piece) → t < length pieces → AreSidesAt d (sides_of pieces) t (get_or pieces t none)
sides_at d [] t none below = absurd (omega arith)
sides_at d (p ∷ pieces) zero none below = record { first = refl; second = refl; third = refl }
sides_at d (p ∷ pieces) (suc t) none below =
    let rest = sides_at d pieces t none (omega arith) in
    let a : 3 * suc t ≡ suc (suc (suc (3 * t))) = omega arith in
    let b : 3 * suc t + 1 ≡ suc (suc (suc (3 * t + 1))) = omega arith in
    let c : 3 * suc t + 2 ≡ suc (suc (suc (3 * t + 2))) = omega arith in
    record {
      first = ap (at d (sides_of (p ∷ pieces))) a ∙ rest.first;
      second = ap (at d (sides_of (p ∷ pieces))) b ∙ rest.second;
      third = ap (at d (sides_of (p ∷ pieces))) c ∙ rest.third;
    }

-- ---- glues
pub opposite_value : (g : Gluing) → IsGluing g → (pieces : List Piece) (o r : Origin) → ArePartners g.glues o r
    → value_of g.field g.polygons pieces r ≡ opposite_vector (quad_ops g.field) (value_of g.field g.polygons pieces o)
opposite_value g valid pieces (Origin.outer p e) (Origin.outer q f) (k, below, inl (first, second)) =
    let d = g.field in
    let V = λ (name : ℕ × ℕ). side_at d (polygon_at g.polygons name.0) name.1 in
    sum_opposite d (V (p, e)) (V (q, f)) (ap₂ (vector_sum (quad_ops d)) (ap V (sym first)) (ap V (sym second)) ∙ valid.opposite k below)
opposite_value g valid pieces (Origin.outer p e) (Origin.outer q f) (k, below, inr (first, second)) =
    let d = g.field in
    let V = λ (name : ℕ × ℕ). side_at d (polygon_at g.polygons name.0) name.1 in
    sum_opposite d (V (p, e)) (V (q, f)) (sum_turned d (V (p, e)) (V (q, f)) ∙ ap₂ (vector_sum (quad_ops d)) (ap V (sym first)) (ap V (sym second)) ∙ valid.opposite k below)
opposite_value g valid pieces (Origin.outer p e) (Origin.chord u) pair = absurd pair
opposite_value g valid pieces (Origin.outer p e) (Origin.back u) pair = absurd pair
opposite_value g valid pieces (Origin.chord t) (Origin.outer q f) pair = absurd pair
opposite_value g valid pieces (Origin.chord t) (Origin.chord u) pair = absurd pair
opposite_value g valid pieces (Origin.chord t) (Origin.back u) pair = ap (λ n. value_of g.field g.polygons pieces (Origin.back n)) (sym pair)
opposite_value g valid pieces (Origin.back t) (Origin.outer q f) pair = absurd pair
opposite_value g valid pieces (Origin.back t) (Origin.chord u) pair =
    ap (λ n. value_of g.field g.polygons pieces (Origin.chord n)) (sym pair) ∙ sym (opposite_twice (quad_ops g.field) (quad_ring g.field) (value_of g.field g.polygons pieces (Origin.chord t)))
opposite_value g valid pieces (Origin.back t) (Origin.back u) pair = absurd pair

same_bool : (a b : Bool) → (a ≡ true → b ≡ true) → (b ≡ true → a ≡ true) → a ≡ b
same_bool true b there back = sym (there refl)
same_bool false true there back = back refl
same_bool false false there back = refl

-- ---- the half-edges
module _ (g : Gluing) (valid : IsGluing g) (halves : List Half) (cutting : IsEarCutting g halves) where
  abbrev d : ℕ
  d = g.field

  abbrev pieces : List Piece
  pieces = cutting.pieces

  abbrev sides : List Side
  sides = sides_of pieces

  abbrev none : Piece
  none = no_piece d

  pub long : length halves ≡ length sides
  long = sym (length-map halves (λ (half : Half). vector half.vec)) ∙ ap length cutting.vectors ∙ length-map sides (λ (side : Side). side.vec)

  three_each : length sides ≡ 3 * length pieces
  three_each = sides_length pieces

  pub vector_is : (h : ℕ) → h < length halves → vector_at halves h ≡ (at d sides h).vec
  vector_is h below =
      sym (get_or-map (λ (half : Half). vector half.vec) halves h no_half (no_vector d) below)
      ∙ ap (λ vs. get_or vs h (no_vector d)) cutting.vectors
      ∙ get_or-map (λ (side : Side). side.vec) sides h (no_one d) (no_vector d) (subst (λ n. h < n) long below)

  source_is : (h : ℕ) → h < length sides → (at d sides h).origin ≡ source_at sides h
  source_is h below = ap (λ (side : Side). side.origin) (get_or_default sides h (no_one d) (no_one 2) below)

  pub once : (o : Origin) (h k : ℕ) → h < length sides → k < length sides → source_at sides h ≡ o → source_at sides k ≡ o → h ≡ k
  once o h k p q e f = count_one o sides h k (most_one o d 0 0 g.polygons pieces cutting.cut) p q e f

  pub twin_below : (h : ℕ) → h < length sides → twin_at halves h < length sides
  twin_below h below = subst (λ n. twin_at halves h < n) long (cutting.twins h (subst (λ n. h < n) (sym long) below)).0

  pub twin_partner : (h : ℕ) → h < length sides → ArePartners g.glues (source_at sides h) (source_at sides (twin_at halves h))
  twin_partner h below =
      subst₂ (ArePartners g.glues) (source_is h below) (source_is (twin_at halves h) (twin_below h below))
      (cutting.twins h (subst (λ n. h < n) (sym long) below)).1

  twin_twin : (h : ℕ) → h < length sides → twin_at halves (twin_at halves h) ≡ h
  twin_twin h below =
      let k = twin_at halves h in
      let under = twin_below h below in
      let same = one_partner g.glues (source_at sides k) (source_at sides (twin_at halves k)) (source_at sides h) valid.once (twin_partner k under) (partner_back g.glues (source_at sides h) (source_at sides k) (twin_partner h below)) in
      once (source_at sides h) (twin_at halves k) h (twin_below k under) below same refl

  good : (t : ℕ) → t < length pieces → IsGood d (get_or pieces t none)
  good t below = each_at (IsGood d) pieces t none (good_cutting d valid.field 0 0 g.polygons pieces cutting.cut (gluing_ready g valid)) below

  value_is : (h : ℕ) → h < length sides → (at d sides h).vec ≡ value_of d g.polygons pieces (source_at sides h)
  value_is h below =
      each_at (Fits (value_of d g.polygons pieces)) sides h (no_one d) (each_value d g.polygons pieces cutting.cut) below
      ∙ ap (value_of d g.polygons pieces) (source_is h below)

  record AreVectors (t : ℕ) : Type 0 where
    first : vector_at halves (3 * t) ≡ (get_or pieces t none).first.vec
    second : vector_at halves (3 * t + 1) ≡ (get_or pieces t none).second.vec
    third : vector_at halves (3 * t + 2) ≡ (get_or pieces t none).third.vec

  vectors_at : (t : ℕ) → t < length pieces → AreVectors t
  vectors_at t below =
      let here = sides_at d pieces t none below in
      record {
        first = vector_is (3 * t) (omega (arith, long, three_each)) ∙ ap (λ (side : Side). side.vec) here.first;
        second = vector_is (3 * t + 1) (omega (arith, long, three_each)) ∙ ap (λ (side : Side). side.vec) here.second;
        third = vector_is (3 * t + 2) (omega (arith, long, three_each)) ∙ ap (λ (side : Side). side.vec) here.third;
      }

  triangle_below : (t : ℕ) → IsTriangle halves t → t < length pieces
  triangle_below t triangle = omega (arith, triangle, long, three_each)

  closed : (t : ℕ) → IsTriangle halves t → IsClosed d halves t
  closed t triangle =
      let below = triangle_below t triangle in
      let vs = vectors_at t below in
      let O = quad_ops d in
      ap₂ (vector_sum O) (ap₂ (vector_sum O) vs.first vs.second) vs.third ∙ (good t below).closed

  turns : (t : ℕ) → IsTriangle halves t → TurnsInto d halves (3 * t) (3 * t + 1)
  turns t triangle =
      let below = triangle_below t triangle in
      let vs = vectors_at t below in
      subst₂ (λ u v. IsPositive d (det (quad_ops d) u v)) (sym vs.first) (sym vs.second) (good t below).turns

  paired : (h : ℕ) → h < length halves → IsPaired d halves h
  paired h below =
      let here : h < length sides = subst (λ n. h < n) long below in
      let k = twin_at halves h in
      let there = twin_below h here in
      let under : k < length halves = subst (λ n. k < n) (sym long) there in
      let vector_there = vector_is k under ∙ value_is k there in
      let vector_here = vector_is h below ∙ value_is h here in (
        under,
        twin_twin h here,
        vector_there ∙ opposite_value g valid pieces (source_at sides h) (source_at sides k) (twin_partner h here) ∙ ap (opposite_vector (quad_ops d)) (sym vector_here),
      )

  -- a set of triangles that is closed under twins, as a mark of origins
  module _ (set : ℕ → Bool) (start : set 0 ≡ true) (under_twins : IsClosedUnderTwins halves set) where
    abbrev label : Origin → Bool
    label o = set (place o sides / 3)

    label_at : (h : ℕ) → h < length sides → label (source_at sides h) ≡ set (h / 3)
    label_at h below =
        let found = place_some (source_at sides h) sides (count_at (source_at sides h) sides h below refl) in
        ap (λ n. set (n / 3)) (once (source_at sides h) (place (source_at sides h) sides) h found.0 below found.1 refl)

    over_twin : (h : ℕ) → h < length sides → set (h / 3) ≡ true → set (twin_at halves h / 3) ≡ true
    over_twin h below is = under_twins h (subst (λ n. h < n) (sym long) below) is

    twins_marked : (h : ℕ) → h < length sides → set (h / 3) ≡ set (twin_at halves h / 3)
    twins_marked h below =
        same_bool (set (h / 3)) (set (twin_at halves h / 3)) (over_twin h below)
        (λ is. subst (λ n. set (n / 3) ≡ true) (twin_twin h below) (over_twin (twin_at halves h) (twin_below h below) is))

    partners_marked : (o r : Origin) → 1 ≤ count o sides → ArePartners g.glues o r → label o ≡ label r
    partners_marked o r some pair =
        let found = count_some o sides some in
        let h = found.0 in
        let mine = subst (λ x. ArePartners g.glues x (source_at sides (twin_at halves h))) found.2 (twin_partner h found.1) in
        let same : source_at sides (twin_at halves h) ≡ r = one_partner g.glues o (source_at sides (twin_at halves h)) r valid.once mine pair in
        ap label (sym found.2) ∙ label_at h found.1 ∙ twins_marked h found.1 ∙ sym (label_at (twin_at halves h) (twin_below h found.1)) ∙ ap label same

    joins : JoinsChords label
    joins u =
        elim (cases_eq (count (Origin.chord u) sides) 0) [
          | inl absent ↦
              let alike = as_many u d 0 0 g.polygons pieces cutting.cut in
              ap (λ n. set (n / 3)) (place_none (Origin.chord u) sides absent ∙ sym (place_none (Origin.back u) sides (sym alike ∙ absent)))
          | inr some ↦ partners_marked (Origin.chord u) (Origin.back u) (omega arith) refl
        ]

    uniform : AllByRecursion (IsUniform label) pieces
    uniform = each_from (IsUniform label) pieces none (λ t below.
        let here = sides_at d pieces t none below in
        let at_first : label (get_or pieces t none).first.origin ≡ set t = marked_at t (3 * t) (get_or pieces t none).first (omega (arith, three_each)) here.first (omega arith) in
        let at_second : label (get_or pieces t none).second.origin ≡ set t = marked_at t (3 * t + 1) (get_or pieces t none).second (omega (arith, three_each)) here.second (omega arith) in
        let at_third : label (get_or pieces t none).third.origin ≡ set t = marked_at t (3 * t + 2) (get_or pieces t none).third (omega (arith, three_each)) here.third (omega arith) in
        (at_first ∙ sym at_third, at_second ∙ sym at_third))
      where
        marked_at : (t h : ℕ) (side : Side) → h < length sides → at d sides h ≡ side → h / 3 ≡ t → label side.origin ≡ set t
        marked_at t h side below same e =
            ap (λ (side : Side). label side.origin) (sym same) ∙ ap label (source_is h below) ∙ label_at h below ∙ ap set e

    third_marked : (t : ℕ) → t < length pieces → label (get_or pieces t none).third.origin ≡ set t
    third_marked t below =
        let here = sides_at d pieces t none below in
        let inside : 3 * t + 2 < length sides = omega (arith, three_each) in
        let e : (3 * t + 2) / 3 ≡ t = omega arith in
        ap (λ (side : Side). label side.origin) (sym here.third) ∙ ap label (source_is (3 * t + 2) inside) ∙ label_at (3 * t + 2) inside ∙ ap set e

    -- the polygons whose triangles are in the set
    abbrev marked : ℕ → Bool
    marked p = mark_of label p

    side_marked : (p e : ℕ) → IsThere g.polygons p e → label (Origin.outer p e) ≡ marked p
    side_marked p e there =
        let zeroth : 0 + p ≡ p = omega arith in
        subst (λ n. label (Origin.outer n e) ≡ marked n) zeroth (sides_marked label joins d 0 0 g.polygons pieces cutting.cut uniform p e there)

    side_some : (p e : ℕ) → IsThere g.polygons p e → 1 ≤ count (Origin.outer p e) sides
    side_some p e there =
        let zeroth : 0 + p ≡ p = omega arith in
        subst (λ n. 1 ≤ count (Origin.outer n e) sides) zeroth (some_outer p e d 0 0 g.polygons pieces cutting.cut there)

    glued_marked : (k : ℕ) → k < length g.glues → marked (glue_at g.glues k).p1 ≡ marked (glue_at g.glues k).p2
    glued_marked k below =
        let line = glue_at g.glues k in
        let there = each_at (NamesSides g.polygons) g.glues k no_glue valid.there below in
        let pair : AreTwins g.glues (line.p1, line.e1) (line.p2, line.e2) = (k, below, inl (refl, refl)) in
        sym (side_marked line.p1 line.e1 there.0)
        ∙ partners_marked (Origin.outer line.p1 line.e1) (Origin.outer line.p2 line.e2) (side_some line.p1 line.e1 there.0) pair
        ∙ side_marked line.p2 line.e2 there.1

    under_glues : IsClosedUnderGlues g.glues marked
    under_glues = each_from (λ (line : Glue). IsTrue (marked line.p1) ↔ IsTrue (marked line.p2)) g.glues no_glue (λ k below.
        let same = glued_marked k below in
        (λ is. sym same ∙ is, λ is. same ∙ is))

    first_polygon : marked 0 ≡ true
    first_polygon =
        let first = first_marked label joins d 0 0 g.polygons pieces none valid.some_polygons cutting.cut uniform in
        sym first.1 ∙ third_marked 0 first.0 ∙ start

    in_set : (t : ℕ) → t < length pieces → set t ≡ true
    in_set t below =
        let has = each_at (HasMark label 0 g.polygons) pieces t none (pieces_marked label joins d 0 0 g.polygons pieces cutting.cut uniform) below in
        let zeroth : 0 + has.0 ≡ has.0 = omega arith in
        sym (third_marked t below) ∙ has.2 ∙ ap marked zeroth ∙ valid.joined has.0 has.1 marked first_polygon under_glues

  joined : (t : ℕ) → IsTriangle halves t → IsJoined halves t
  joined t triangle = λ set start under. in_set set start under t (triangle_below t triangle)

  -- ---- how many
  few : length pieces ≤ 256
  few = omega (arith, piece_count d 0 0 g.polygons pieces cutting.cut, valid.few_triangles)

  not_single : ¬ (length pieces ≡ 1)
  not_single single =
      let all : length halves ≡ 3 = omega (arith, long, three_each) in
      let zeroth : 0 < length pieces = omega arith in
      let vs = vectors_at 0 zeroth in
      let is_good = good 0 zeroth in
      let pair = paired 0 (omega arith) in
      let u = (get_or pieces 0 none).first.vec in
      let v = (get_or pieces 0 none).second.vec in
      let w = (get_or pieces 0 none).third.vec in
      let back : vector_at halves (twin_at halves 0) ≡ opposite_vector (quad_ops d) u = pair.2 ∙ ap (opposite_vector (quad_ops d)) vs.first in
      elim (cases_eq (twin_at halves 0) 0) [
        | inl is ↦ not_first d valid.field u v w is_good (sym vs.first ∙ ap (vector_at halves) (sym is) ∙ back)
        | inr not_zero ↦
            elim (cases_eq (twin_at halves 0) 1) [
              | inl is ↦ opposite_does_not_turn d u v w (sym vs.second ∙ ap (vector_at halves) (sym is) ∙ back) is_good
              | inr not_one ↦
                  let is : twin_at halves 0 ≡ 2 = omega (arith, pair.0) in
                  not_third d u v w is_good (sym vs.third ∙ ap (vector_at halves) (sym is) ∙ back)
            ]
      ]

  some : 1 ≤ length pieces
  some = (first_marked (λ o. true) (λ u. refl) d 0 0 g.polygons pieces none valid.some_polygons cutting.cut (each_from (IsUniform (λ o. true)) pieces none (λ t below. (refl, refl)))).0

  count_is : HasTriangles halves
  count_is =
      let two : 2 ≤ length pieces = elim (cases_eq (length pieces) 1) [ inl single ↦ absurd (not_single single) | inr more ↦ omega (arith, some) ] in
      (omega (arith, long, three_each), omega (arith, long, three_each), omega (arith, long, three_each, few))

  pub triangulation : IsTriangulation g.field halves
  triangulation = record { count = count_is; closed = closed; turns = turns; paired = paired; joined = joined }
