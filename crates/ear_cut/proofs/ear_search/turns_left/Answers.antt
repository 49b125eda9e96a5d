use Rattle.std.proofs.Common.{◌<◌, length, sym, subst, ◌↔◌, IsTrue}
use Rattle.quad_field.specs.Quads.{IsPositive}
use Rattle.ear_cut.proofs.Seen.{place_after, seen_small, seen_corner}
use Rattle.ear_cut.proofs.ear_search.turns_left.Goals as goal

pub is_left-requires-clause-first : goal.is_left-requires-clause-first
is_left-requires-clause-first c = seen_small c.args.sides.now c.args.i _ c.requires.place c.requires.small

pub is_left-requires-clause-second : goal.is_left-requires-clause-second
is_left-requires-clause-second c =
    seen_small c.args.sides.now c.next_place-after.result _ (subst (λ n. n < length c.args.sides.now) (sym c.next_place-after.ensures) (place_after c.args.i (length c.args.sides.now) c.requires.place)) c.requires.small

pub returns : goal.returns
returns c =
    subst (λ x. IsTrue c.is_left.result ↔ IsPositive c.args.f.now x) (sym (seen_corner c.args.f.now c.args.sides.now c.args.i c.next_place-after.result _ c.requires.place c.next_place-after.ensures)) c.is_left.ensures
