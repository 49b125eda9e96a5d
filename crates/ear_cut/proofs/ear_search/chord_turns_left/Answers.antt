use Rattle.std.proofs.Common.{◌<◌, length, ap, subst, sym, arith, ◌↔◌, IsTrue}
use Rattle.quad_field.specs.Quads.{IsPositive}
use Rattle.ear_cut.specs.Cuttings.{vectors_of}
use Rattle.ear_cut.specs.Steps.{seen, size_of}
use Rattle.ear_cut.proofs.Seen.{seen_length, place_after, seen_small, seen_behind, chord_small}
use Rattle.ear_cut.proofs.ear_search.chord_turns_left.Goals as goal

pub next_place-behind-requires : goal.next_place-behind-requires
next_place-behind-requires c =
    subst (λ n. n < length c.args.sides.now) (sym c.next_place-after.ensures) (place_after c.args.i (length c.args.sides.now) c.requires.place)

pub is_left-requires-clause-first : goal.is_left-requires-clause-first
is_left-requires-clause-first c =
    let vs = vectors_of (seen c.args.sides.now) in
    omega (arith, ap size_of c.chord.ensures, chord_small c.args.f.now vs c.args.i (omega (arith, seen_length c.args.sides.now, c.requires.place)) (omega (arith, seen_length c.args.sides.now, c.requires.long)), c.requires.small)

pub is_left-requires-clause-second : goal.is_left-requires-clause-second
is_left-requires-clause-second c =
    let n = length c.args.sides.now in
    let after : c.next_place-after.result < n = subst (λ k. k < n) (sym c.next_place-after.ensures) (place_after c.args.i n c.requires.place) in
    let behind : c.next_place-behind.result < n = subst (λ k. k < n) (sym c.next_place-behind.ensures) (place_after c.next_place-after.result n after) in
    seen_small c.args.sides.now _ _ (omega arith) c.requires.small

pub returns : goal.returns
returns c =
    subst (λ x. IsTrue c.is_left.result ↔ IsPositive c.args.f.now x)
    (sym (seen_behind c.args.f.now c.args.sides.now c.args.i c.next_place-after.result c.next_place-behind.result _ _ c.requires.place c.next_place-after.ensures c.next_place-behind.ensures c.chord.ensures)) c.is_left.ensures
