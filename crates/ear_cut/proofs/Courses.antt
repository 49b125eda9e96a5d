-- The steps over all polygons, and over all sides of their triangles.
use Rattle.std.proofs.Common.{◌≡◌, ℕ, zero, suc, ◌+◌, ◌-◌, ◌*◌, ◌/◌, ◌<◌, ◌≤◌, List, [], ◌∷◌, ◌++◌, length, get_or, take, map, refl, ap, sym, ◌∙◌, subst, subst₂, arith, inl, inr}
use Rattle.std.proofs.lemmas.Bool.{cases_lt}
use Rattle.std.proofs.lemmas.List.{length-map, length-take-le, get_or-map, map_more, take_more, map-append, map_push, get_or_append_left, get_or_push, get_or_default}
use Rattle.plane.specs.Vectors.{vector}
use Rattle.plane.specs.declared.vec2.Vec2.{Vec2}
use Rattle.surface_text.specs.declared.file.Glue.{Glue}
use Rattle.surface_text.specs.declared.file.Polygon.{Polygon}
use Rattle.surface_text.specs.Limits.{IsThere, NamesSides}
use Rattle.tri_core.specs.declared.half.Half.{Half}
use Rattle.tri_core.specs.HalfEdges.{no_half, twin_at}
use Rattle.gluing.specs.Gluings.{Gluing, IsGluing, triangle_count, no_glue}
use Rattle.ear_cut.specs.Cuttings.{Side, Piece, Origin, IsCut, AreCut, vectors_of, at, no_one, outer_sides, sides_of, ArePartners, IsEarCutting}
use Rattle.ear_cut.specs.Cuttable.{IsCuttable}
use Rattle.ear_cut.specs.Steps.{AreSmall, IsReady, AreCuttable, side_of, seen, origin_of, source_at, IsPolygonCut, ArePolygonsCut, IsSourceThere}
use Rattle.ear_cut.specs.declared.side.Edge.{Edge}
use Rattle.ear_cut.proofs.Replaced.{each_at}
use Rattle.ear_cut.proofs.Unique.{cut-more}
use Rattle.ear_cut.proofs.Origins.{count, count_some, count_at, as_many, some_outer, outer_is_there, sides-append}
use Rattle.ear_cut.proofs.Triangles.{outer_vectors}
use Rattle.ear_cut.proofs.Labels.{outer_length}
use Rattle.ear_cut.proofs.Ready.{piece_count}
use Rattle.ear_cut.proofs.Triangulated.{sides_length}
use Rattle.ear_cut.proofs.Seen.{seen_source}

-- the sides of a polygon
abbrev pub of : Polygon → List Vec2
of polygon = polygon.sides.items

-- ---- over polygons
ready_at : (d : ℕ) (polygons : List Polygon) (p : ℕ) (x : Polygon) → p < length polygons → AreCuttable d (map of polygons) → IsReady d (of (get_or polygons p x))
ready_at d polygons p x below ready =
    let inside : p < length (map of polygons) = omega (arith, length-map polygons of) in
    subst (IsReady d) (get_or-map of polygons p x [] below) (each_at (IsReady d) (map of polygons) p [] ready inside)

pub few_at : (polygons : List Polygon) (p : ℕ) (x : Polygon) → p < length polygons → triangle_count (map of (take p polygons)) + (length (of (get_or polygons p x)) - 2) ≤ triangle_count (map of polygons)
few_at [] p x below = absurd (omega arith)
few_at (a ∷ polygons) zero x below = omega arith
few_at (a ∷ polygons) (suc p) x below = omega (arith, few_at polygons p x (omega arith))

many_triangles : (d : ℕ) (polygons : List (List Vec2)) → AreCuttable d polygons → length polygons ≤ triangle_count polygons
many_triangles d [] ready = omega arith
many_triangles d (sides ∷ polygons) ready = omega (arith, many_triangles d polygons ready.1, ready.0.long)

pub few_polygons : (d : ℕ) (polygons : List Polygon) → AreCuttable d (map of polygons) → triangle_count (map of polygons) ≤ 256 → length polygons ≤ 256
few_polygons d polygons ready few = omega (arith, many_triangles d (map of polygons) ready, length-map polygons of)

pub polygons_count : (d : ℕ) (polygons : List (List Vec2)) (sides : List Side) → ArePolygonsCut d polygons sides → length sides ≡ 3 * triangle_count polygons
polygons_count d polygons sides cut = omega (arith, ap length cut.all, sides_length cut.pieces, piece_count d 0 0 polygons cut.pieces cut.cut)

-- what the sides of a polygon are
pub record IsOuter (d : ℕ) (sides : List Side) : Type 0 where
  pub long : 3 ≤ length sides
  pub small : AreSmall (vectors_of sides)
  pub cuttable : IsCuttable d (vectors_of sides)

outer_ready : (d p : ℕ) (vs : List Vec2) (sides : List Side) → sides ≡ outer_sides p 0 vs → IsReady d vs → IsOuter d sides
outer_ready d p vs sides e ready =
    let same : vectors_of sides ≡ map vector vs = ap vectors_of e ∙ outer_vectors p 0 vs in
    record {
      long = omega (arith, ap length e, outer_length p 0 vs, ready.long);
      small = subst AreSmall (sym same) ready.small;
      cuttable = subst (IsCuttable d) (sym same) ready.cuttable;
    }

-- the sides of polygon p
pub outer_at : (d p : ℕ) (polygons : List Polygon) (x : Polygon) (vs : List Vec2) (sides : List Side) → p < length polygons → AreCuttable d (map of polygons)
    → x ≡ get_or polygons p x → vs ≡ of x → sides ≡ outer_sides p 0 vs → IsOuter d sides
outer_at d p polygons x vs sides below ready is_x is_vs is_sides =
    outer_ready d p vs sides is_sides (subst (IsReady d) (sym (is_vs ∙ ap of is_x)) (ready_at d polygons p x below ready))

pub polygons_more : (d p n : ℕ) (polygons : List Polygon) (x : Polygon) (vs : List Vec2) (sides before behind : List Side) → p < length polygons → vs ≡ of (get_or polygons p x) → sides ≡ outer_sides p 0 vs
    → ArePolygonsCut d (map of (take p polygons)) before → length before ≡ n → IsPolygonCut d (n / 3) sides before behind → ArePolygonsCut d (map of (take (p + 1) polygons)) behind
polygons_more d p n polygons x vs sides before behind below is_vs is_sides so_far long cut =
    let front = map of (take p polygons) in
    let number : p ≡ 0 + length front = omega (arith, length-map (take p polygons) of, length-take-le p polygons (omega arith)) in
    let count : n / 3 ≡ 0 + length so_far.pieces = omega (arith, ap length so_far.all, sides_length so_far.pieces) in
    let own : IsCut d (n / 3) (outer_sides p 0 vs) cut.own = subst (λ ss. IsCut d (n / 3) ss cut.own) is_sides cut.cut in
    let here = subst₂ (λ t q. IsCut d t (outer_sides q 0 vs) cut.own) count number own in
    let all = cut-more d 0 0 front so_far.pieces vs cut.own so_far.cut here in
    let same : front ++ vs ∷ [] ≡ map of (take (p + 1) polygons) = ap (λ ss. front ++ ss ∷ []) is_vs ∙ sym (map_more of polygons p x below) in
    record {
      pieces = so_far.pieces ++ cut.own;
      cut = subst (λ ps. AreCut d 0 0 ps (so_far.pieces ++ cut.own)) same all;
      all = cut.appended ∙ ap (λ ss. ss ++ sides_of cut.own) so_far.all ∙ sym (sides-append so_far.pieces cut.own);
    }

-- ---- over sides
abbrev pub half : Vec2 → ℕ → Half
half v n = record { vec = v; twin = n }

-- the half-edges of the first sides
pub record AreHalvesOf (glues : List Glue) (edges : List Edge) (k : ℕ) (halves : List Half) : Type 0 where
  pub vectors : map (λ (h : Half). vector h.vec) halves ≡ vectors_of (seen (take k edges))
  pub twins : (h : ℕ) → h < k → (twin_at halves h < length edges) × ArePartners glues (source_at (seen edges) h) (source_at (seen edges) (twin_at halves h))

pub halves_length : (glues : List Glue) (edges : List Edge) (k : ℕ) (halves : List Half) → k ≤ length edges → AreHalvesOf glues edges k halves → length halves ≡ k
halves_length glues edges k halves few so_far =
    omega (arith, length-map halves (λ (h : Half). vector h.vec), ap length so_far.vectors, length-map (seen (take k edges)) (λ (side : Side). side.vec), length-map (take k edges) side_of, length-take-le k edges few)

pub halves_more : (glues : List Glue) (edges : List Edge) (k : ℕ) (e : Edge) (n : ℕ) (halves more : List Half) (o : Origin) → k < length edges → AreHalvesOf glues edges k halves
    → more ≡ halves ++ half (get_or edges k e).vec n ∷ [] → n < length edges → ArePartners glues (origin_of (get_or edges k e).source) o → source_at (seen edges) n ≡ o → AreHalvesOf glues edges (k + 1) more
halves_more glues edges k e n halves more o below so_far pushed inside pair found =
    let new = half (get_or edges k e).vec n in
    let size = halves_length glues edges k halves (omega arith) so_far in
    record {
      vectors = ap (map (λ (h : Half). vector h.vec)) pushed ∙ map_push (λ (h : Half). vector h.vec) halves new ∙ ap (λ vs. vs ++ vector new.vec ∷ []) so_far.vectors
          ∙ sym (ap (λ xs. vectors_of (seen xs)) (take_more edges k e below) ∙ ap vectors_of (map-append side_of (take k edges) (get_or edges k e ∷ [])) ∙ map-append (λ (side : Side). side.vec) (seen (take k edges)) (side_of (get_or edges k e) ∷ []));
      twins = λ h under. elim (cases_lt h k) [
        | inl before ↦
            let same : twin_at more h ≡ twin_at halves h = ap (λ hs. twin_at hs h) pushed ∙ ap (λ (x : Half). x.twin) (get_or_append_left halves (new ∷ []) no_half h (omega arith)) in
            subst (λ m. (m < length edges) × ArePartners glues (source_at (seen edges) h) (source_at (seen edges) m)) (sym same) (so_far.twins h before)
        | inr after ↦
            let here : h ≡ k = omega arith in
            let size_is : length halves ≡ h = omega arith in
            let same : twin_at more h ≡ n = ap (λ hs. twin_at hs h) pushed ∙ ap (λ (x : Half). x.twin) (get_or_push halves new no_half h size_is) in
            let mine : ArePartners glues (source_at (seen edges) h) (source_at (seen edges) n) =
            subst₂ (ArePartners glues) (sym (ap (source_at (seen edges)) here ∙ seen_source edges k e below)) (sym found) pair in
            subst (λ m. (m < length edges) × ArePartners glues (source_at (seen edges) h) (source_at (seen edges) m)) (sym same) (inside, mine)
      ];
    }

-- ---- partners
-- some side comes from there
abbrev pub HasSource : List Side → Origin → Type 0
HasSource sides origin = (h : ℕ) × (h < length sides) × (source_at sides h ≡ origin)

-- each side is there, and its partners come from sides as well
abbrev pub HasPartners : Gluing → List Side → Type 0
HasPartners g sides =
    (h : ℕ) → h < length sides
    → IsSourceThere g.polygons (source_at sides h) × ((other : Origin) → ArePartners g.glues (source_at sides h) other → HasSource sides other)

-- the twin of each half-edge comes from its partner
abbrev pub AreTwinsOf : List Glue → List Side → List Half → Type 0
AreTwinsOf glues sides halves =
    (h : ℕ) → h < length sides → (twin_at halves h < length sides) × ArePartners glues (source_at sides h) (source_at sides (twin_at halves h))

some_source : (o : Origin) (sides : List Side) → 1 ≤ count o sides → HasSource sides o
some_source o sides some = count_some o sides some

pub side_is_there : (g : Gluing) (sides : List Side) (cut : ArePolygonsCut g.field g.polygons sides) (o : Origin) → 1 ≤ count o (sides_of cut.pieces) → IsSourceThere g.polygons o
side_is_there g sides cut (Origin.outer r f) some =
    let found = outer_is_there r f g.field 0 0 g.polygons cut.pieces cut.cut some in
    let same : found.0 ≡ r = omega (arith, found.1) in
    subst (λ q. IsThere g.polygons q f) same found.2
side_is_there g sides cut (Origin.chord t) some = tt
side_is_there g sides cut (Origin.back t) some = tt

partner_some : (g : Gluing) → IsGluing g → (pieces : List Piece) → AreCut g.field 0 0 g.polygons pieces → (o r : Origin) → 1 ≤ count o (sides_of pieces) → ArePartners g.glues o r → 1 ≤ count r (sides_of pieces)
partner_some g valid pieces cut (Origin.outer p e) (Origin.outer q f) some (k, below, ends) =
    let there = each_at (NamesSides g.polygons) g.glues k no_glue valid.there below in
    let named : IsThere g.polygons q f = elim ends [
      | inl e ↦ subst (λ (n : ℕ × ℕ). IsThere g.polygons n.0 n.1) e.1 there.1
      | inr e ↦ subst (λ (n : ℕ × ℕ). IsThere g.polygons n.0 n.1) e.0 there.0
    ] in
    let zeroth : 0 + q ≡ q = omega arith in
    subst (λ n. 1 ≤ count (Origin.outer n f) (sides_of pieces)) zeroth (some_outer q f g.field 0 0 g.polygons pieces cut named)
partner_some g valid pieces cut (Origin.outer p e) (Origin.chord u) some pair = absurd pair
partner_some g valid pieces cut (Origin.outer p e) (Origin.back u) some pair = absurd pair
partner_some g valid pieces cut (Origin.chord t) (Origin.outer q f) some pair = absurd pair
partner_some g valid pieces cut (Origin.chord t) (Origin.chord u) some pair = absurd pair
partner_some g valid pieces cut (Origin.chord t) (Origin.back u) some pair =
    subst (λ n. 1 ≤ count (Origin.back n) (sides_of pieces)) pair (omega (arith, some, as_many t g.field 0 0 g.polygons pieces cut))
partner_some g valid pieces cut (Origin.back t) (Origin.outer q f) some pair = absurd pair
partner_some g valid pieces cut (Origin.back t) (Origin.chord u) some pair =
    subst (λ n. 1 ≤ count (Origin.chord n) (sides_of pieces)) pair (omega (arith, some, as_many t g.field 0 0 g.polygons pieces cut))
partner_some g valid pieces cut (Origin.back t) (Origin.back u) some pair = absurd pair

pub has_partners : (g : Gluing) → IsGluing g → (sides : List Side) → ArePolygonsCut g.field g.polygons sides → HasPartners g sides
has_partners g valid sides cut = λ h below.
    let o = source_at sides h in
    let some : 1 ≤ count o (sides_of cut.pieces) = subst (λ ss. 1 ≤ count o ss) cut.all (count_at o sides h below refl) in (
      side_is_there g sides cut o some,
      λ other pair. some_source other sides (subst (λ ss. 1 ≤ count other ss) (sym cut.all) (partner_some g valid cut.pieces cut.cut o other some pair)),
    )

-- the half-edges are a cutting
pub cutting_from : (g : Gluing) (sides : List Side) (halves : List Half) → ArePolygonsCut g.field g.polygons sides → map (λ (h : Half). vector h.vec) halves ≡ vectors_of sides → AreTwinsOf g.glues sides halves → IsEarCutting g halves
cutting_from g sides halves cut vectors twins =
    let long : length halves ≡ length sides = sym (length-map halves (λ (h : Half). vector h.vec)) ∙ ap length vectors ∙ length-map sides (λ (side : Side). side.vec) in
    record {
      pieces = cut.pieces;
      cut = cut.cut;
      vectors = vectors ∙ ap vectors_of cut.all;
      twins = λ h below.
          let here : h < length sides = subst (λ n. h < n) long below in
          let pair = twins h here in
          let source = λ (n : ℕ) (inside : n < length sides).
          let e : source_at sides n ≡ (at g.field sides n).origin = ap (λ (side : Side). side.origin) (get_or_default sides n (no_one 2) (no_one g.field) inside) in
          e ∙ ap (λ ss. (at g.field ss n).origin) cut.all in
          (subst (λ n. twin_at halves h < n) (sym long) pair.0, subst₂ (ArePartners g.glues) (source h here) (source (twin_at halves h) pair.0) pair.1);
    }
