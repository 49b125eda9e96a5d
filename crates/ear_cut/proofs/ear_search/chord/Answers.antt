use Rattle.std.proofs.Common.{◌<◌, length, sym, ◌∙◌, subst}
use Rattle.ear_cut.proofs.Seen.{place_after, seen_small, seen_chord}
use Rattle.ear_cut.proofs.ear_search.chord.Goals as goal

pub joined-requires-clause-first : goal.joined-requires-clause-first
joined-requires-clause-first c = seen_small c.args.sides.now c.args.i _ c.requires.place c.requires.small

pub joined-requires-clause-second : goal.joined-requires-clause-second
joined-requires-clause-second c =
    seen_small c.args.sides.now c.next_place-after.result _ (subst (λ n. n < length c.args.sides.now) (sym c.next_place-after.ensures) (place_after c.args.i (length c.args.sides.now) c.requires.place)) c.requires.small

pub returns : goal.returns
returns c = c.joined.ensures ∙ sym (seen_chord c.args.f.now c.args.sides.now c.args.i c.next_place-after.result _ c.requires.place c.next_place-after.ensures)
