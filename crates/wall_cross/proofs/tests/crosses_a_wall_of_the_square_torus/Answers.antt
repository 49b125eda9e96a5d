use Rattle.std.proofs.Common.{ℕ, List, sym, subst}
use Rattle.tri_core.specs.declared.half.Half.{Half}
use Rattle.hinge_form.specs.declared.form.Form.{Form}
use Rattle.hinge_form.specs.Triples.{of_form}
use Rattle.hinge_form.specs.Walls.{IsWall}
use Rattle.tri_core.specs.Triangulation.{IsTriangulation}
use Rattle.wall_cross.specs.Crossings.{AreAllFlipped}
use Rattle.wall_cross.proofs.tests.crosses_a_wall_of_the_square_torus.Goals as goal

pub cross-requires-clause-wall : goal.cross-requires-clause-wall
cross-requires-clause-wall g c =
    let tri = c.in_ok-tri.tri in
    let wall = c.in_ok-wall.wall in
    subst (λ (form : Form). IsWall tri.field tri.halves (of_form form) wall.edges.items) (sym c.in_ok-wall.ensures.form)
    (subst (λ (edges : List ℕ). IsWall tri.field tri.halves _ edges) (sym c.in_ok-wall.ensures.edges) c.in_ok-tri.ensures.wall)

pub cross_back-requires-clause-crossed : goal.cross_back-requires-clause-crossed
cross_back-requires-clause-crossed g c =
    let tri = c.in_ok-tri.tri in
    let wall = c.in_ok-wall.wall in
    let own : IsWall tri.field tri.halves (of_form wall.form) wall.edges.items =
    subst (λ (form : Form). IsWall tri.field tri.halves (of_form form) wall.edges.items) (sym c.in_ok-wall.ensures.form)
    (subst (λ (edges : List ℕ). IsWall tri.field tri.halves _ edges) (sym c.in_ok-wall.ensures.edges) c.in_ok-tri.ensures.wall) in
    subst (λ (d : ℕ). (from : List Half) × IsTriangulation d from × IsWall d from (of_form wall.form) wall.edges.items × AreAllFlipped d from wall.edges.items c.in_ok-crossed.crossed.halves)
    (sym c.in_ok-crossed.ensures.field)
    (tri.halves, c.in_ok-tri.ensures.valid, own, c.in_ok-crossed.ensures.flipped)
