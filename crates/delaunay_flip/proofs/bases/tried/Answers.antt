use Rattle.std.proofs.Common.{◌-◌, length, refl, arith}
use Rattle.std.specs.Prelude.{pos}
use Rattle.std.proofs.lemmas.Bool.{false≢true}
use Rattle.surface_text.specs.declared.file.Point.{Point}
use Rattle.delaunay_flip.specs.Points.{point}
use Rattle.delaunay_flip.proofs.Listing.{weak_at, decisive_at, last_at}
use Rattle.delaunay_flip.proofs.bases.tried.Goals as goal

-- what is read past the end of the list
abbrev none : Point
none = point (pos 0) (pos 0) (pos 0) (pos 0)

pub returns-then-not-is_not_strict : goal.returns-then-not-is_not_strict
returns-then-not-is_not_strict c =
    decisive_at c.args.tri.now c.args.flips c.args.points.now c.loop-i.i none c.base_of-answer.result c.loop-i-test.true c.loop-i.invariant
    c.base_of-answer.ensures.right (λ weak. false≢true (c.if-not-is_not_strict.ensures.1 weak))

pub loop-i-preserved : goal.loop-i-preserved
loop-i-preserved c =
    weak_at c.args.tri.now c.args.flips c.args.points.now c.loop-i.i none c.base_of-answer.result c.loop-i-test.true c.loop-i.invariant
    c.base_of-answer.ensures.right (c.if-not-is_not_strict.ensures.0 refl)

pub returns : goal.returns
returns c =
    last_at c.args.tri.now c.args.flips c.args.points.now c.loop-i.i (length c.args.points.now - 1) none c.base_of.result
    (omega (arith, c.loop-i-test.false, c.loop-i.auto.i-end)) (omega (arith, c.loop-i-test.false, c.loop-i.auto.i-end)) c.loop-i.invariant c.base_of.ensures.right
