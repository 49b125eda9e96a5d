use Rattle.std.proofs.Common.{◌≡◌, ◌+◌, ◌*◌, [], ◌∷◌, ◌++◌, length, get_or, map, take, ap, sym, ◌∙◌, subst₂, arith}
use Rattle.std.proofs.lemmas.List.{map_more, take-map}
use Rattle.ear_cut.specs.Slots.{side_count, AreFirstSlots}
use Rattle.ear_cut.proofs.Courses.{of}
use Rattle.ear_cut.proofs.Slots.{more_slots, part_most, one_more}
use Rattle.ear_cut.proofs.twins.first_slots.Goals as goal

pub overflow_add-slot : goal.overflow_add-slot
overflow_add-slot c =
    let k = c.loop-polygon.polygon-index in
    let all = map of c.args.polygons.now in
    let item = ap (λ p. length (of p)) c.polygon-item.is in
    let more = map_more of c.args.polygons.now k c.polygon-item.result c.loop-polygon-test.true in
    let part = part_most all (k + 1) in
    let same = ap side_count (take-map of (k + 1) c.args.polygons.now) in
    omega (arith, c.requires, c.loop-polygon.invariant.last, item, one_more (map of (take k c.args.polygons.now)) (of (get_or c.args.polygons.now k c.polygon-item.result)), ap side_count more, part, same)

pub loop-polygon-preserved : goal.loop-polygon-preserved
loop-polygon-preserved c =
    let k = c.loop-polygon.polygon-index in
    let so_far = map of (take k c.args.polygons.now) in
    let sides = of (get_or c.args.polygons.now k c.polygon-item.result) in
    let item = ap (λ p. length (of p)) c.polygon-item.is in
    let more = map_more of c.args.polygons.now k c.polygon-item.result c.loop-polygon-test.true in
    let slot : c.loop-polygon.slot + c.len-slot.result ≡ 2 * c.args.triangles + side_count (so_far ++ sides ∷ []) =
    omega (arith, c.loop-polygon.invariant.last, item, one_more so_far sides) in
    record {
      slots = subst₂ (AreFirstSlots c.args.triangles) (sym more) (sym c.in_ok-push-2.ensures.items)
          (more_slots c.args.triangles so_far sides c.loop-polygon.first.items (c.loop-polygon.slot + c.len-slot.result) c.loop-polygon.invariant.slots slot);
      last = slot ∙ ap (λ ps. 2 * c.args.triangles + side_count ps) (sym more);
    }
