-- The slots of sides in a table of places, and what is found there.
use Rattle.std.proofs.Common.{◌≡◌, ℕ, zero, suc, ◌+◌, ◌-◌, ◌*◌, ◌/◌, ◌<◌, ◌≤◌, List, [], ◌∷◌, ◌++◌, length, get_or, set, take, refl, ap, sym, ◌∙◌, subst, arith, inl, inr}
use Rattle.std.proofs.lemmas.Bool.{cases_lt, cases_eq}
use Rattle.std.proofs.lemmas.List.{length-map, length-append, get_or_append_left, get_or_push, take-append-le, take_all, get_or-set_other, get_or-set_same}
use Rattle.plane.specs.declared.vec2.Vec2.{Vec2}
use Rattle.surface_text.specs.Limits.{IsThere}
use Rattle.gluing.specs.Gluings.{Gluing, IsGluing, triangle_count}
use Rattle.ear_cut.specs.Cuttings.{Origin, Side, ArePartners, sides_of}
use Rattle.ear_cut.specs.Steps.{seen, side_of, origin_of, source_at, AreCuttable, ArePolygonsCut}
use Rattle.ear_cut.specs.declared.side.Edge.{Edge}
use Rattle.ear_cut.specs.Slots.{side_count, slot_count, slot_in, AreFirstSlots, HasFirstSlot, AreSlots, ArePlaces}
use Rattle.ear_cut.proofs.Replaced.{total-append}
use Rattle.ear_cut.proofs.Origins.{count, count_at, count_one, most_one, as_many, chord_below}
use Rattle.ear_cut.proofs.Ready.{gluing_ready, piece_count}
use Rattle.ear_cut.proofs.Triangulated.{sides_length}
use Rattle.ear_cut.proofs.Seen.{seen_source}
use Rattle.ear_cut.proofs.Courses.{HasSource, has_partners, side_is_there}

-- ---- how many sides polygons have
pub part_most : (polygons : List (List Vec2)) (p : ℕ) → side_count (take p polygons) ≤ side_count polygons
part_most [] zero = omega arith
part_most [] (suc p) = omega arith
part_most (sides ∷ polygons) zero = omega arith
part_most (sides ∷ polygons) (suc p) = omega (arith, part_most polygons p)

pub one_more : (polygons : List (List Vec2)) (sides : List Vec2) → side_count (polygons ++ sides ∷ []) ≡ side_count polygons + length sides
one_more polygons sides = omega (arith, total-append (λ (vs : List Vec2). length vs) polygons (sides ∷ []))

sides_are : (d : ℕ) (polygons : List (List Vec2)) → AreCuttable d polygons → side_count polygons ≡ triangle_count polygons + 2 * length polygons
sides_are d [] ready = omega arith
sides_are d (sides ∷ polygons) ready = omega (arith, sides_are d polygons ready.1, ready.0.long)

triangles_are : (d : ℕ) (polygons : List (List Vec2)) → AreCuttable d polygons → length polygons ≤ triangle_count polygons
triangles_are d [] ready = omega arith
triangles_are d (sides ∷ polygons) ready = omega (arith, triangles_are d polygons ready.1, ready.0.long)

-- there are not too many slots
pub few_slots : (g : Gluing) → IsGluing g → (triangles : ℕ) → triangles ≡ triangle_count g.polygons → 2 * triangles + side_count g.polygons ≤ 1280
few_slots g valid triangles same =
    omega (arith, sides_are g.field g.polygons (gluing_ready g valid), triangles_are g.field g.polygons (gluing_ready g valid), valid.few_triangles)

-- ---- the first slots
pub more_slots : (triangles : ℕ) (polygons : List (List Vec2)) (sides : List Vec2) (first : List ℕ) (slot : ℕ) → AreFirstSlots triangles polygons first → slot ≡ 2 * triangles + side_count (polygons ++ sides ∷ [])
    → AreFirstSlots triangles (polygons ++ sides ∷ []) (first ++ slot ∷ [])
more_slots triangles polygons sides first slot so_far same = record {
  count = omega (arith, length-append first (slot ∷ []), length-append polygons (sides ∷ []), so_far.count);
  each = λ p below.
      elim (cases_lt p (length first)) [
        | inl before ↦
            get_or_append_left first (slot ∷ []) 0 p before ∙ so_far.each p (omega (arith, so_far.count))
            ∙ ap (λ ps. 2 * triangles + side_count ps) (sym (take-append-le p polygons (sides ∷ []) (omega (arith, so_far.count))))
        | inr after ↦
            let last : length first ≡ p = omega (arith, length-append polygons (sides ∷ []), so_far.count) in
            get_or_push first slot 0 p last ∙ same
            ∙ ap (λ ps. 2 * triangles + side_count ps) (sym (take_all p (polygons ++ sides ∷ []) (omega (arith, length-append polygons (sides ∷ []), so_far.count))))
      ];
}

pub slots_are : (triangles : ℕ) (polygons : List (List Vec2)) (first : List ℕ) → AreFirstSlots triangles polygons first → slot_count first ≡ 2 * triangles + side_count polygons
slots_are triangles polygons first slots =
    let last : length first - 1 ≡ length polygons = omega (arith, slots.count) in
    ap (λ n. get_or first n 0) last ∙ slots.each (length polygons) (omega arith) ∙ ap (λ ps. 2 * triangles + side_count ps) (take_all (length polygons) polygons (omega arith))

-- ---- the slots of sides
offset_below : (polygons : List (List Vec2)) (p e : ℕ) → IsThere polygons p e → side_count (take p polygons) + e < side_count polygons
offset_below [] p e there = absurd (omega (arith, there.0))
offset_below (sides ∷ polygons) zero e there = omega (arith, there.1)
offset_below (sides ∷ polygons) (suc p) e there = omega (arith, offset_below polygons p e (omega (arith, there.0), there.1))

-- two sides at one offset are one
record IsOneName (p q e f : ℕ) : Type 0 where
  polygon : p ≡ q
  side : e ≡ f

offset_once : (polygons : List (List Vec2)) (p q e f : ℕ) → IsThere polygons p e → IsThere polygons q f → side_count (take p polygons) + e ≡ side_count (take q polygons) + f → IsOneName p q e f
offset_once [] p q e f there here same = absurd (omega (arith, there.0))
offset_once (sides ∷ polygons) zero zero e f there here same = record { polygon = refl; side = omega arith }
offset_once (sides ∷ polygons) zero (suc q) e f there here same = absurd (omega (arith, there.1))
offset_once (sides ∷ polygons) (suc p) zero e f there here same = absurd (omega (arith, here.1))
offset_once (sides ∷ polygons) (suc p) (suc q) e f there here same =
    let rest = offset_once polygons p q e f (omega (arith, there.0), there.1) (omega (arith, here.0), here.1) (omega arith) in
    record { polygon = ap suc rest.polygon; side = rest.side }

-- the origin is a side of the polygons, or a chord of so many triangles, or its opposite
abbrev IsOrigin : ℕ → List (List Vec2) → Origin → Type 0
IsOrigin triangles polygons (Origin.outer p e) = IsThere polygons p e
IsOrigin triangles polygons (Origin.chord t) = t < triangles
IsOrigin triangles polygons (Origin.back t) = t < triangles

module _ (triangles : ℕ) (polygons : List (List Vec2)) (first : List ℕ) (slots : AreFirstSlots triangles polygons first) where
  has_slot : (o : Origin) → IsOrigin triangles polygons o → HasFirstSlot first o
  has_slot (Origin.outer p e) there = omega (arith, there.0, slots.count)
  has_slot (Origin.chord t) there = tt
  has_slot (Origin.back t) there = tt

  slot_below : (o : Origin) → IsOrigin triangles polygons o → slot_in first o < slot_count first
  slot_below (Origin.outer p e) there = omega (arith, slots_are triangles polygons first slots, slots.each p (omega (arith, there.0)), offset_below polygons p e there)
  slot_below (Origin.chord t) there = omega (arith, slots_are triangles polygons first slots)
  slot_below (Origin.back t) there = omega (arith, slots_are triangles polygons first slots)

  slot_once : (o r : Origin) → IsOrigin triangles polygons o → IsOrigin triangles polygons r → slot_in first o ≡ slot_in first r → o ≡ r
  slot_once (Origin.outer p e) (Origin.outer q f) there here same =
      let one = offset_once polygons p q e f there here (omega (arith, slots.each p (omega (arith, there.0)), slots.each q (omega (arith, here.0)))) in
      ap (λ n. Origin.outer n e) one.polygon ∙ ap (Origin.outer q) one.side
  slot_once (Origin.outer p e) (Origin.chord u) there here same = absurd (omega (arith, slots.each p (omega (arith, there.0))))
  slot_once (Origin.outer p e) (Origin.back u) there here same = absurd (omega (arith, slots.each p (omega (arith, there.0))))
  slot_once (Origin.chord t) (Origin.outer q f) there here same = absurd (omega (arith, slots.each q (omega (arith, here.0))))
  slot_once (Origin.chord t) (Origin.chord u) there here same = let one : t ≡ u = omega arith in ap Origin.chord one
  slot_once (Origin.chord t) (Origin.back u) there here same = absurd (omega arith)
  slot_once (Origin.back t) (Origin.outer q f) there here same = absurd (omega (arith, slots.each q (omega (arith, here.0))))
  slot_once (Origin.back t) (Origin.chord u) there here same = absurd (omega arith)
  slot_once (Origin.back t) (Origin.back u) there here same = let one : t ≡ u = omega arith in ap Origin.back one

-- ---- the table of places
-- one place more
pub more_places : (first : List ℕ) (sides : List Side) (slots : AreSlots first sides) (h : ℕ) (places : List ℕ) → h < length sides → length places ≡ slot_count first → ArePlaces first sides h places
    → ArePlaces first sides (h + 1) (set places (slot_in first (source_at sides h)) h)
more_places first sides slots h places below long so_far = λ k under.
    elim (cases_eq k h) [
      | inl same ↦
          ap (λ n. get_or (set places (slot_in first (source_at sides h)) h) (slot_in first (source_at sides n)) 0) same
          ∙ get_or-set_same places (slot_in first (source_at sides h)) h 0 (omega (arith, slots.inside h below)) ∙ sym same
      | inr other ↦
          let apart : ¬ (slot_in first (source_at sides k) ≡ slot_in first (source_at sides h)) = λ e. other (slots.once k h (omega arith) below e) in
          get_or-set_other places (slot_in first (source_at sides h)) (slot_in first (source_at sides k)) h 0 apart ∙ so_far k (omega arith)
    ]

-- a side of this origin has a slot, and its number stands there
pub record IsFound (sides : List Side) (first places : List ℕ) (o : Origin) : Type 0 where
  pub there : HasFirstSlot first o
  pub inside : slot_in first o < slot_count first
  pub below : get_or places (slot_in first o) 0 < length sides
  pub source : source_at sides (get_or places (slot_in first o) 0) ≡ o

module _ (g : Gluing) (valid : IsGluing g) (sides : List Side) (cut : ArePolygonsCut g.field g.polygons sides) where
  pub third_part : length sides / 3 ≡ triangle_count g.polygons
  third_part =
      omega (arith, ap length cut.all, sides_length cut.pieces, piece_count g.field 0 0 g.polygons cut.pieces cut.cut)

  origin_there : (o : Origin) → 1 ≤ count o (sides_of cut.pieces) → IsOrigin (length sides / 3) g.polygons o
  origin_there (Origin.outer p e) some = side_is_there g sides cut (Origin.outer p e) some
  origin_there (Origin.chord t) some = omega (arith, chord_below t g.field g.polygons cut.pieces cut.cut some, ap length cut.all, sides_length cut.pieces)
  origin_there (Origin.back t) some =
      omega (arith, chord_below t g.field g.polygons cut.pieces cut.cut (omega (arith, as_many t g.field 0 0 g.polygons cut.pieces cut.cut)), ap length cut.all, sides_length cut.pieces)

  side_there : (h : ℕ) → h < length sides → IsOrigin (length sides / 3) g.polygons (source_at sides h)
  side_there h below = origin_there (source_at sides h) (subst (λ ss. 1 ≤ count (source_at sides h) ss) cut.all (count_at (source_at sides h) sides h below refl))

  pub are_slots : (first : List ℕ) → AreFirstSlots (length sides / 3) g.polygons first → AreSlots first sides
  are_slots first slots = record {
    there = λ h below. has_slot (length sides / 3) g.polygons first slots (source_at sides h) (side_there h below);
    inside = λ h below. slot_below (length sides / 3) g.polygons first slots (source_at sides h) (side_there h below);
    once = λ h k below under same.
        let one = slot_once (length sides / 3) g.polygons first slots (source_at sides h) (source_at sides k) (side_there h below) (side_there k under) same in
        let most : count (source_at sides k) sides ≤ 1 =
        subst (λ ss. count (source_at sides k) ss ≤ 1) (sym cut.all) (most_one (source_at sides k) g.field 0 0 g.polygons cut.pieces cut.cut) in
        count_one (source_at sides k) sides h k most below under one refl;
  }

  -- so the partner of a side is found
  pub partner_found : (first places : List ℕ) → AreFirstSlots (length sides / 3) g.polygons first → ArePlaces first sides (length sides) places → (h : ℕ) → h < length sides → (o : Origin) → ArePartners g.glues (source_at sides h) o → IsFound sides first places o
  partner_found first places slots all h below o pair = go ((has_partners g valid sides cut h below).1 o pair)
    where
      go : HasSource sides o → IsFound sides first places o
      go (k, under, same) =
          let found : get_or places (slot_in first o) 0 ≡ k = ap (λ r. get_or places (slot_in first r) 0) (sym same) ∙ all k under in
          let own = are_slots first slots in
          record {
            there = subst (HasFirstSlot first) same (own.there k under);
            inside = subst (λ r. slot_in first r < slot_count first) same (own.inside k under);
            below = omega arith;
            source = ap (source_at sides) found ∙ same;
          }

-- the same of edges
pub edge_found : (g : Gluing) → IsGluing g → (edges : List Edge) → ArePolygonsCut g.field g.polygons (seen edges) → (first places : List ℕ) → AreFirstSlots (length edges / 3) g.polygons first → ArePlaces first (seen edges) (length edges) places
    → (h : ℕ) (e : Edge) → h < length edges → (o : Origin) → ArePartners g.glues (origin_of (get_or edges h e).source) o → IsFound (seen edges) first places o
edge_found g valid edges cut first places slots all h e below o pair =
    let long = length-map edges side_of in
    partner_found g valid (seen edges) cut first places
    (subst (λ n. AreFirstSlots (n / 3) g.polygons first) (sym long) slots)
    (subst (λ n. ArePlaces first (seen edges) n places) (sym long) all)
    h (omega arith) o (subst (λ r. ArePartners g.glues r o) (sym (seen_source edges h e below)) pair)
