use Rattle.std.proofs.Common.{◌∙◌, ◌<◌, length, refl, sym, subst, List, inr}
use Rattle.tri_core.specs.Triangulation.{Triangulation}
use Rattle.hinge_form.specs.declared.wall.Wall.{Wall}
use Rattle.parabola_region.specs.WallLists.{plain_walls, edges_of}
use Rattle.wall_cross.specs.Crossings.{AreAllFlipped, DiagonalsFit}
use Rattle.class_node.proofs.Counts.{below_count, below_length}
use Rattle.class_node.proofs.classes.behind_wall.Goals as goal

pub cross_wall-requires-clause-inside : goal.cross_wall-requires-clause-inside
cross_wall-requires-clause-inside c =
    let wall = c.requires.wall in
    subst (λ (walls : List Wall). c.args.wall < length walls) (sym c.as_slice.ensures.value)
    (below_length c.args.f.now c.args.code.now wall.0 c.args.wall c.args.walled.now.walls.items wall.1 c.requires.found.1 wall.2)

pub returns-in-Ok-clause-behind : goal.returns-in-Ok-clause-behind
returns-in-Ok-clause-behind c =
    let wall = c.requires.wall in
    let there = below_count c.args.f.now c.args.code.now wall.0 c.args.wall c.args.walled.now.walls.items wall.1 c.requires.found.1 wall.2 in (
      plain_walls c.args.walled.now.walls.items,
      c.requires.found.1,
      there,
      subst (λ (t : Triangulation). AreAllFlipped t.field t.halves (edges_of (plain_walls c.args.walled.now.walls.items) c.args.wall) c.cross_wall.new.tri.halves) (c.in_ok-tri.ensures ∙ c.requires.found.0)
          (subst (λ (walls : List Wall). AreAllFlipped c.in_ok-tri.tri.field c.in_ok-tri.tri.halves (edges_of (plain_walls walls) c.args.wall) c.cross_wall.new.tri.halves) c.as_slice.ensures.value
          c.in-Ok.ensures.flipped),
    )

pub returns-in-Err-clause-fault : goal.returns-in-Err-clause-fault
returns-in-Err-clause-fault c =
    let wall = c.requires.wall in
    let there = below_count c.args.f.now c.args.code.now wall.0 c.args.wall c.args.walled.now.walls.items wall.1 c.requires.found.1 wall.2 in
    inr (
      refl,
      (
        plain_walls c.args.walled.now.walls.items,
        c.requires.found.1,
        there,
        subst (λ (t : Triangulation). ¬ (DiagonalsFit t.field t.halves (edges_of (plain_walls c.args.walled.now.walls.items) c.args.wall))) (c.in_ok-tri.ensures ∙ c.requires.found.0)
            (subst (λ (walls : List Wall). ¬ (DiagonalsFit c.in_ok-tri.tri.field c.in_ok-tri.tri.halves (edges_of (plain_walls walls) c.args.wall))) c.as_slice.ensures.value
            c.in-Err.ensures.wide),
      ),
    )
