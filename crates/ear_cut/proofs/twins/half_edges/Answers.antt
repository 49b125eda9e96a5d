use Rattle.std.proofs.Common.{◌≡◌, ℕ, ◌+◌, ◌*◌, ◌/◌, ◌<◌, ◌≤◌, length, get_or, ap, sym, ◌∙◌, subst, subst₂, arith}
use Rattle.std.proofs.lemmas.List.{length-map, take_all}
use Rattle.tri_core.specs.HalfEdges.{twin_at}
use Rattle.ear_cut.specs.Cuttings.{ArePartners, vectors_of}
use Rattle.ear_cut.specs.Steps.{seen, side_of, source_at, origin_of, IsSourceThere}
use Rattle.gluing.specs.Gluings.{triangle_count}
use Rattle.ear_cut.specs.Slots.{side_count, slot_count, slot_in, AreFirstSlots, HasFirstSlot, AreSlots, ArePlaces}
use Rattle.ear_cut.proofs.Seen.{seen_source}
use Rattle.ear_cut.proofs.Courses.{AreHalvesOf, polygons_count, has_partners, halves_more, cutting_from}
use Rattle.ear_cut.proofs.Slots.{few_slots, third_part, are_slots, IsFound, edge_found}
use Rattle.ear_cut.proofs.twins.half_edges.Goals as goal

pub first_slots-requires : goal.first_slots-requires
first_slots-requires c =
    let g = c.args.glued.now in
    let long = length-map c.args.edges.now side_of in
    let third : length c.args.edges.now / 3 ≡ triangle_count g.polygons = ap (λ n. n / 3) (sym long) ∙ third_part g c.polygons.ensures.valid (seen c.args.edges.now) c.requires in
    subst (λ ps. 2 * (length c.args.edges.now / 3) + side_count ps ≤ 1280) (sym c.polygons.ensures.polygons)
    (few_slots g c.polygons.ensures.valid (length c.args.edges.now / 3) third)

pub places_of-requires-clause-some : goal.places_of-requires-clause-some
places_of-requires-clause-some c = omega (arith, c.in_ok-first.ensures.count, ap length c.deref.ensures.value)

pub places_of-requires-clause-few : goal.places_of-requires-clause-few
places_of-requires-clause-few c =
    let g = c.args.glued.now in
    omega (arith, length-map c.args.edges.now side_of, polygons_count g.field g.polygons (seen c.args.edges.now) c.requires, c.polygons.ensures.valid.few_triangles)

pub places_of-requires-clause-slots : goal.places_of-requires-clause-slots
places_of-requires-clause-slots c =
    let g = c.args.glued.now in
    let sides = seen c.args.edges.now in
    let slots = subst₂ (λ n ps. AreFirstSlots (n / 3) ps c.in_ok-first.first.items) (sym (length-map c.args.edges.now side_of)) c.polygons.ensures.polygons c.in_ok-first.ensures in
    subst (λ xs. AreSlots xs sides) (sym c.deref.ensures.value) (are_slots g c.polygons.ensures.valid sides c.requires c.in_ok-first.first.items slots)

pub partner-other-requires : goal.partner-other-requires
partner-other-requires c =
    let g = c.args.glued.now in
    let h = c.loop-edge.edge-index in
    let sides = seen c.args.edges.now in
    let below : h < length sides = omega (arith, length-map c.args.edges.now side_of) in
    subst (IsSourceThere g.polygons) (seen_source c.args.edges.now h _ c.loop-edge-test.true) (has_partners g c.polygons.ensures.valid sides c.requires h below).0

pub place_of-requires-clause-there : goal.place_of-requires-clause-there
place_of-requires-clause-there c =
    let g = c.args.glued.now in
    let edges = c.args.edges.now in
    let first = c.in_ok-first.first.items in
    let places = c.in_ok-places.places.items in
    let slots = subst (λ ps. AreFirstSlots (length edges / 3) ps first) c.polygons.ensures.polygons c.in_ok-first.ensures in
    let all = subst (λ xs. ArePlaces xs (seen edges) (length edges) places) c.deref.ensures.value c.in_ok-places.ensures.places in
    let found : IsFound (seen edges) first places (origin_of c.partner-other.result) =
    edge_found g c.polygons.ensures.valid edges c.requires first places slots all c.loop-edge.edge-index _ c.loop-edge-test.true (origin_of c.partner-other.result) c.partner-other.ensures in
    subst (λ xs. HasFirstSlot xs (origin_of c.partner-other.result)) (sym c.deref-in-loop-edge.ensures.value) found.there

pub place_of-requires-clause-inside : goal.place_of-requires-clause-inside
place_of-requires-clause-inside c =
    let g = c.args.glued.now in
    let edges = c.args.edges.now in
    let first = c.in_ok-first.first.items in
    let places = c.in_ok-places.places.items in
    let slots = subst (λ ps. AreFirstSlots (length edges / 3) ps first) c.polygons.ensures.polygons c.in_ok-first.ensures in
    let all = subst (λ xs. ArePlaces xs (seen edges) (length edges) places) c.deref.ensures.value c.in_ok-places.ensures.places in
    let found : IsFound (seen edges) first places (origin_of c.partner-other.result) =
    edge_found g c.polygons.ensures.valid edges c.requires first places slots all c.loop-edge.edge-index _ c.loop-edge-test.true (origin_of c.partner-other.result) c.partner-other.ensures in
    subst₂ (λ xs ys. slot_in xs (origin_of c.partner-other.result) < length ys) (sym c.deref-in-loop-edge.ensures.value) (sym c.deref-in-loop-edge-2.ensures.value)
    (omega (arith, found.inside, c.in_ok-places.ensures.long, ap slot_count c.deref.ensures.value))

pub loop-edge-preserved : goal.loop-edge-preserved
loop-edge-preserved c =
    let g = c.args.glued.now in
    let edges = c.args.edges.now in
    let first = c.in_ok-first.first.items in
    let places = c.in_ok-places.places.items in
    let slots = subst (λ ps. AreFirstSlots (length edges / 3) ps first) c.polygons.ensures.polygons c.in_ok-first.ensures in
    let all = subst (λ xs. ArePlaces xs (seen edges) (length edges) places) c.deref.ensures.value c.in_ok-places.ensures.places in
    let found : IsFound (seen edges) first places (origin_of c.partner-other.result) =
    edge_found g c.polygons.ensures.valid edges c.requires first places slots all c.loop-edge.edge-index _ c.loop-edge-test.true (origin_of c.partner-other.result) c.partner-other.ensures in
    let twin : c.place_of.result ≡ get_or places (slot_in first (origin_of c.partner-other.result)) 0 =
    c.place_of.ensures ∙ ap (λ xs. get_or c.deref-in-loop-edge-2.result.now (slot_in xs (origin_of c.partner-other.result)) 0) c.deref-in-loop-edge.ensures.value
    ∙ ap (λ ys. get_or ys (slot_in first (origin_of c.partner-other.result)) 0) c.deref-in-loop-edge-2.ensures.value in
    halves_more g.glues edges c.loop-edge.edge-index _ c.place_of.result c.loop-edge.halves.items c.push.new.self.items (origin_of c.partner-other.result) c.loop-edge-test.true c.loop-edge.invariant
    c.in_ok-push.ensures.items (omega (arith, found.below, length-map edges side_of, twin)) c.partner-other.ensures (ap (source_at (seen edges)) twin ∙ found.source)

pub returns : goal.returns
returns c =
    let g = c.args.glued.now in
    let edges = c.args.edges.now in
    let whole : c.loop-edge.edge-index ≡ length edges = omega arith in
    let so_far = subst (λ n. AreHalvesOf g.glues edges n c.loop-edge.halves.items) whole c.loop-edge.invariant in
    let all = take_all (length edges) edges (omega arith) in
    cutting_from g (seen edges) c.loop-edge.halves.items c.requires (so_far.vectors ∙ ap (λ xs. vectors_of (seen xs)) all)
    (subst (λ n. (h : ℕ) → h < n → (twin_at c.loop-edge.halves.items h < n) × ArePartners g.glues (source_at (seen edges) h) (source_at (seen edges) (twin_at c.loop-edge.halves.items h))) (sym (length-map edges side_of)) so_far.twins)
