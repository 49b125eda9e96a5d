-- Glued polygons are cut into some list of half-edges.
use Rattle.std.proofs.Common.{◌≡◌, ℕ, zero, suc, ◌+◌, ◌-◌, ◌<◌, List, [], ◌∷◌, ◌++◌, length, get_or, map, refl, sym, ◌∙◌, subst, arith, inl, inr}
use Rattle.std.specs.Prelude.{Contains}
use Rattle.std.proofs.lemmas.Bool.{cases_lt}
use Rattle.std.proofs.lemmas.List.{length-map, length-append, get_or-map, get_or_append_left, get_or_push, ext_get_or}
use Rattle.quad_field.specs.FieldNumber.{IsFieldNumber}
use Rattle.plane.specs.Vectors.{vector}
use Rattle.plane.specs.declared.vec2.Vec2.{Vec2}
use Rattle.surface_text.specs.declared.file.Glue.{Glue}
use Rattle.tri_core.specs.declared.half.Half.{Half}
use Rattle.tri_core.specs.HalfEdges.{no_half}
use Rattle.gluing.specs.Polygons.{no_vector}
use Rattle.gluing.specs.Gluings.{Name, Gluing, IsGluing, first_of, second_of, names, AreTwins}
use Rattle.ear_cut.specs.Cuttings.{Side, Piece, Origin, IsLeastEar, IsCut, AreCut, ArePartners, IsEarCutting, vectors_of, at, no_one, ear, left_over, outer_sides, sides_of}
use Rattle.ear_cut.specs.Cuttable.{IsCuttable}
use Rattle.ear_cut.specs.Steps.{AreCuttable, IsSourceThere, ArePolygonsCut, source_at}
use Rattle.ear_cut.proofs.Replaced.{replaced-length}
use Rattle.ear_cut.proofs.Ears.{some_least_ear, cuttable_left}
use Rattle.ear_cut.proofs.Sided.{left_is, left_vectors}
use Rattle.ear_cut.proofs.Labels.{outer_length}
use Rattle.ear_cut.proofs.Triangles.{outer_vectors}
use Rattle.ear_cut.proofs.Ready.{gluing_ready}
use Rattle.ear_cut.proofs.Courses.{AreTwinsOf, has_partners, cutting_from}

-- ---- polygons
-- a polygon of n + 3 sides is cut into some triangles
some_cut : (d : ℕ) → IsFieldNumber d → (n t : ℕ) (sides : List Side) → length sides ≡ n + 3 → IsCuttable d (vectors_of sides) → (pieces : List Piece) × IsCut d t sides pieces
some_cut d field zero t [] long cuttable = absurd (omega arith)
some_cut d field zero t (a ∷ []) long cuttable = absurd (omega arith)
some_cut d field zero t (a ∷ b ∷ []) long cuttable = absurd (omega arith)
some_cut d field zero t (a ∷ b ∷ c ∷ []) long cuttable = let piece : Piece = record { first = a; second = b; third = c } in (piece ∷ [], refl)
some_cut d field zero t (a ∷ b ∷ c ∷ e ∷ sides) long cuttable = absurd (omega arith)
some_cut d field (suc n) t sides long cuttable = go (some_cut d field n (t + 1) (left_over d t sides i) left_long left_cuttable)
  where
    count : length (vectors_of sides) ≡ length sides
    count = length-map sides (λ (side : Side). side.vec)

    least : (i : ℕ) × IsLeastEar d (vectors_of sides) i
    least = some_least_ear d field (vectors_of sides) (omega (arith, count, long)) cuttable

    i : ℕ
    i = least.0

    left_long : length (left_over d t sides i) ≡ n + 3
    left_long = omega (arith, replaced-length sides _ _ _ _ (left_is d t sides i (omega (arith, least.1.0.0, count)) (omega (arith, long))), long)

    left_cuttable : IsCuttable d (vectors_of (left_over d t sides i))
    left_cuttable = subst (IsCuttable d) (sym (left_vectors d t sides i)) (cuttable_left d field (vectors_of sides) (omega (arith, count, long)) cuttable i least.1.0)

    go : (later : List Piece) × IsCut d (t + 1) (left_over d t sides i) later → (pieces : List Piece) × IsCut d t sides pieces
    go ([], cut) = absurd cut
    go (next ∷ later, cut) = (ear d t sides i ∷ next ∷ later, (omega (arith, long), (i, least.1, refl, cut)))

some_cutting_from : (d : ℕ) → IsFieldNumber d → (p t : ℕ) (polygons : List (List Vec2)) → AreCuttable d polygons → (pieces : List Piece) × AreCut d p t polygons pieces
some_cutting_from d field p t [] ready = ([], refl)
some_cutting_from d field p t (sides ∷ polygons) ready =
    let n = length sides - 3 in
    let long : length (outer_sides p 0 sides) ≡ n + 3 = omega (arith, outer_length p 0 sides, ready.0.long) in
    let own = some_cut d field n t (outer_sides p 0 sides) long (subst (IsCuttable d) (sym (outer_vectors p 0 sides)) ready.0.cuttable) in
    let more = some_cutting_from d field (p + 1) (t + length own.0) polygons ready.1 in
    (own.0 ++ more.0, (own.0, more.0, refl, own.1, more.1))

-- ---- twins
-- a side that glue lines name has a twin
later_twin : (glue : Glue) (glues : List Glue) (one other : Name) → AreTwins glues one other → AreTwins (glue ∷ glues) one other
later_twin glue glues one other (k, below, ends) = (suc k, omega arith, ends)

named_twin : (glues : List Glue) (name : Name) → Contains (names glues) name → (other : Name) × AreTwins glues name other
named_twin [] name (k, below, e) = absurd (omega (arith, below))
named_twin (g ∷ glues) name (zero, below, e) = (second_of g, (0, omega arith, inl (e, refl)))
named_twin (g ∷ glues) name (suc zero, below, e) = (first_of g, (0, omega arith, inr (refl, e)))
named_twin (g ∷ glues) name (suc (suc k), below, e) =
    let rest = named_twin glues name (k, omega (arith, below), e) in
    (rest.0, later_twin g glues name rest.0 rest.1)

some_partner : (g : Gluing) → IsGluing g → (o : Origin) → IsSourceThere g.polygons o → (r : Origin) × ArePartners g.glues o r
some_partner g valid (Origin.outer p e) there =
    let twin = named_twin g.glues (p, e) (valid.paired p there.0 e there) in
    (Origin.outer twin.0.0 twin.0.1, twin.1)
some_partner g valid (Origin.chord t) there = (Origin.back t, refl)
some_partner g valid (Origin.back t) there = (Origin.chord t, refl)

-- ---- half-edges
-- a list of what there is at each place
some_list : {X : Type 0} (F : ℕ → X → Type 0) (none : X) (n : ℕ) → ((h : ℕ) → h < n → (x : X) × F h x) → (xs : List X) × (length xs ≡ n) × ((h : ℕ) → h < n → F h (get_or xs h none))
some_list F none zero some = ([], refl, λ h below. absurd (omega (arith, below)))
some_list F none (suc n) some =
    let rest = some_list F none n (λ h below. some h (omega arith)) in
    let last = some n (omega arith) in (
      rest.0 ++ last.0 ∷ [],
      omega (arith, length-append rest.0 (last.0 ∷ []), rest.1),
      λ h below. elim (cases_lt h n) [
        | inl before ↦ subst (F h) (sym (get_or_append_left rest.0 (last.0 ∷ []) none h (omega (arith, rest.1)))) (rest.2 h before)
        | inr after ↦
            let here : n ≡ h = omega arith in
            subst (F h) (sym (get_or_push rest.0 last.0 none h (rest.1 ∙ here))) (subst (λ k. F k last.0) here last.1)
      ],
    )

-- the half-edge of side h: its vector, and its twin's number
record IsHalfOf (g : Gluing) (sides : List Side) (h : ℕ) (half : Half) : Type 0 where
  vec : vector half.vec ≡ (at g.field sides h).vec
  inside : half.twin < length sides
  partner : ArePartners g.glues (source_at sides h) (source_at sides half.twin)

some_half : (g : Gluing) → IsGluing g → (sides : List Side) → ArePolygonsCut g.field g.polygons sides → (h : ℕ) → h < length sides → (half : Half) × IsHalfOf g sides h half
some_half g valid sides cut h below =
    let partners = has_partners g valid sides cut h below in
    let other = some_partner g valid (source_at sides h) partners.0 in
    let k = partners.1 other.0 other.1 in
    let v = (at g.field sides h).vec in
    let half : Half = record { vec = record { s = v.0; t = v.1 }; twin = k.0 } in
    (half, record { vec = refl; inside = k.1; partner = subst (ArePartners g.glues (source_at sides h)) (sym k.2) other.1 })

pub some_cutting : (g : Gluing) → IsGluing g → (halves : List Half) × IsEarCutting g halves
some_cutting g valid =
    let d = g.field in
    let made = some_cutting_from d valid.field 0 0 g.polygons (gluing_ready g valid) in
    let sides = sides_of made.0 in
    let cut : ArePolygonsCut d g.polygons sides = record { pieces = made.0; cut = made.1; all = refl } in
    let found = some_list (IsHalfOf g sides) no_half (length sides) (some_half g valid sides cut) in
    let halves = found.0 in
    let long = length-map halves (λ (half : Half). vector half.vec) in
    let vectors : map (λ (half : Half). vector half.vec) halves ≡ vectors_of sides =
    ext_get_or (no_vector d) (map (λ (half : Half). vector half.vec) halves) (vectors_of sides) (long ∙ found.1 ∙ sym (length-map sides (λ (side : Side). side.vec)))
    (λ h below.
    let inside : h < length sides = omega (arith, long, found.1) in
    get_or-map (λ (half : Half). vector half.vec) halves h no_half (no_vector d) (omega (arith, found.1)) ∙ (found.2 h inside).vec
    ∙ sym (get_or-map (λ (side : Side). side.vec) sides h (no_one d) (no_vector d) inside)) in
    let twins : AreTwinsOf g.glues sides halves = λ h below. ((found.2 h below).inside, (found.2 h below).partner) in
    (halves, cutting_from g sides halves cut vectors twins)
