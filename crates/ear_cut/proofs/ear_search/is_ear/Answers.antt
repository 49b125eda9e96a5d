use Rattle.std.proofs.Common.{◌<◌, length, arith}
use Rattle.ear_cut.specs.Cuttings.{vectors_of}
use Rattle.ear_cut.specs.Steps.{seen}
use Rattle.ear_cut.proofs.Seen.{seen_length}
use Rattle.ear_cut.proofs.Ears.{ear_exactly}
use Rattle.ear_cut.proofs.ear_search.is_ear.Goals as goal

pub returns-then-turns_left : goal.returns-then-turns_left
returns-then-turns_left c =
    let vs = vectors_of (seen c.args.sides.now) in
    let below : c.args.i < length vs = omega (arith, seen_length c.args.sides.now, c.requires.place) in
    let turns = c.turns_left.ensures.0 c.if-turns_left.true in
    let exactly = ear_exactly c.args.f.now c.requires.field vs (omega (arith, seen_length c.args.sides.now, c.requires.long)) c.requires.cuttable c.args.i below turns in (
      λ is. (below, turns, exactly.1 (c.chord_turns_left.ensures.0 is)),
      λ ear. c.chord_turns_left.ensures.1 (exactly.0 ear.2),
    )
