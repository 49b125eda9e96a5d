use Rattle.std.proofs.Common.{sym, ap, subst, List, ℕ, OnOk, OnErr}
use Rattle.parabola_region.specs.WallLists.{PlainWall}
use Rattle.wall_cross.specs.Crossings.{DiagonalsFit, AreAllFlipped}
use Rattle.class_node.proofs.Counts.{wall_is, wall_listed, on_error}
use Rattle.class_node.proofs.classes.cross_wall.Goals as goal

pub cross_in_place-requires-clause-wall : goal.cross_in_place-requires-clause-wall
cross_in_place-requires-clause-wall c =
    wall_listed c.args.walls.now c.args.w c.in-Some.wall.now _ c.requires.inside c.in-Some.ensures.lookup.1 c.args.tri.now.field c.args.tri.now.halves c.requires.walls

pub returns-clause-flipped : goal.returns-clause-flipped
returns-clause-flipped c =
    subst (λ (edges : List ℕ). OnOk c.cross_in_place.result (AreAllFlipped c.args.tri.now.field c.args.tri.now.halves edges c.cross_in_place.new.tri.halves))
    (sym (ap (λ (p : PlainWall). p.1) (wall_is c.args.walls.now c.args.w c.in-Some.wall.now _ c.requires.inside c.in-Some.ensures.lookup.1))) c.cross_in_place.ensures.flipped

pub returns-clause-wide : goal.returns-clause-wide
returns-clause-wide c =
    subst (λ (edges : List ℕ). OnErr c.cross_in_place.result (¬ (DiagonalsFit c.args.tri.now.field c.args.tri.now.halves edges)))
    (sym (ap (λ (p : PlainWall). p.1) (wall_is c.args.walls.now c.args.w c.in-Some.wall.now _ c.requires.inside c.in-Some.ensures.lookup.1)))
    (on_error c.cross_in_place.result c.cross_in_place.ensures.fits)
