use Rattle.std.proofs.Common.{◌≡◌, ◌+◌, ◌-◌, ◌<◌, ◌^◌, length, set, ap, sym, ◌∙◌, subst, arith}
use Rattle.std.proofs.lemmas.List.{length-map}
use Rattle.ear_cut.specs.Steps.{seen, side_of, source_at}
use Rattle.ear_cut.specs.Slots.{slot_in, HasFirstSlot, ArePlaces}
use Rattle.ear_cut.proofs.Seen.{seen_source}
use Rattle.ear_cut.proofs.Slots.{more_places}
use Rattle.ear_cut.proofs.twins.places_of.Goals as goal

pub slot_of-requires-clause-there : goal.slot_of-requires-clause-there
slot_of-requires-clause-there c =
    let h = c.loop-h.h in
    let below : h < length (seen c.args.edges.now) = omega (arith, length-map c.args.edges.now side_of) in
    subst (HasFirstSlot c.args.first.now) (seen_source c.args.edges.now h _ c.loop-h-test.true) (c.requires.slots.there h below)

pub slot_of-requires-clause-fits : goal.slot_of-requires-clause-fits
slot_of-requires-clause-fits c =
    let h = c.loop-h.h in
    let below : h < length (seen c.args.edges.now) = omega (arith, length-map c.args.edges.now side_of) in
    subst (λ o. slot_in c.args.first.now o < 2 ^ 64) (seen_source c.args.edges.now h _ c.loop-h-test.true)
    (omega (arith, c.requires.slots.inside h below, c.type_inv.first (length c.args.first.now - 1)))

pub index_mut-requires : goal.index_mut-requires
index_mut-requires c =
    let h = c.loop-h.h in
    let below : h < length (seen c.args.edges.now) = omega (arith, length-map c.args.edges.now side_of) in
    let slot : c.slot_of.result ≡ slot_in c.args.first.now (source_at (seen c.args.edges.now) h) =
    c.slot_of.ensures ∙ ap (slot_in c.args.first.now) (sym (seen_source c.args.edges.now h _ c.loop-h-test.true)) in
    omega (arith, slot, c.requires.slots.inside h below, c.loop-h.invariant.long)

pub loop-h-preserved : goal.loop-h-preserved
loop-h-preserved c =
    let h = c.loop-h.h in
    let sides = seen c.args.edges.now in
    let below : h < length sides = omega (arith, length-map c.args.edges.now side_of) in
    let slot = c.slot_of.ensures ∙ ap (slot_in c.args.first.now) (sym (seen_source c.args.edges.now h _ c.loop-h-test.true)) in
    record {
      long = c.loop-h.invariant.long;
      so_far = subst (λ n. ArePlaces c.args.first.now sides (h + 1) (set c.loop-h.places.items n h)) (sym slot)
          (more_places c.args.first.now sides c.requires.slots h c.loop-h.places.items below (omega (arith, c.loop-h.invariant.long)) c.loop-h.invariant.so_far);
    }
