use Rattle.std.proofs.Common.{arith, below_more}
use Rattle.std.proofs.lemmas.Bool.{iff_false}
use Rattle.ear_cut.specs.Cuttings.{vectors_of}
use Rattle.ear_cut.specs.Steps.{seen}
use Rattle.ear_cut.proofs.Seen.{seen_length}
use Rattle.ear_cut.proofs.Ears.{some_ear}
use Rattle.ear_cut.proofs.ear_search.least_ear.Goals as goal

pub loop-i-preserved : goal.loop-i-preserved
loop-i-preserved c = below_more _ _ c.loop-i.invariant (iff_false c.is_ear.ensures c.if-is_ear.false)

pub unreachable-requires : goal.unreachable-requires
unreachable-requires c =
    let vs = vectors_of (seen c.args.sides.now) in
    let ear = some_ear c.args.f.now c.requires.field vs (omega (arith, seen_length c.args.sides.now, c.requires.long)) c.requires.cuttable in
    c.loop-i.invariant ear.0 (omega (arith, ear.1.0, seen_length c.args.sides.now)) ear.1
