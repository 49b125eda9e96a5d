use Rattle.std.proofs.Common.{◌≡◌, ◌∙◌, ◌+◌, ℕ, List, length, sym, subst, ap, arith}
use Rattle.parabola_region.specs.declared.corner.Corner.{Corner}
use Rattle.parabola_region.specs.WallLists.{plain_walls}
use Rattle.parabola_region.specs.Spots.{IsCornersTo, IsPair}
use Rattle.parabola_region.proofs.WallLists.{plain_length}
use Rattle.parabola_region.proofs.CornerLists.{pair_none, pair_some, row_end}
use Rattle.parabola_region.proofs.corner_list.row.Goals as goal
use Rattle.parabola_region.proofs.corner_list.row.Goals.{in-Some+in_ok-push, in_default}

pub loop-j-preserved : goal.loop-j-preserved
loop-j-preserved c = elim c.match-branch-2.branch [
  | in-Some+in_ok-push w ↦
      subst (λ (xs : List Corner). IsCornersTo c.args.f.now c.args.tri.now.halves (plain_walls c.args.walls.now) c.args.i (c.loop-j.j + 1) xs) (sym (ap (λ v. v.items) w.corners-is ∙ w.in_ok-push.ensures.items))
      (pair_some c.args.f.now c.args.tri.now.halves (plain_walls c.args.walls.now) c.args.i c.loop-j.j c.loop-j.corners.items c.loop-j.invariant (omega (arith, c.loop-j.auto.j)) (omega (arith, plain_length c.args.walls.now, c.loop-j-test.true)) w.in-Some.corner
      (subst (IsPair c.args.f.now c.args.tri.now.halves (plain_walls c.args.walls.now) c.args.i c.loop-j.j) w.in-Some.is c.in_ok-corner.ensures.pair))
  | in_default w ↦
      subst (λ (xs : List Corner). IsCornersTo c.args.f.now c.args.tri.now.halves (plain_walls c.args.walls.now) c.args.i (c.loop-j.j + 1) xs) (sym (ap (λ v. v.items) w.corners-is))
      (pair_none c.args.f.now c.args.tri.now.halves (plain_walls c.args.walls.now) c.args.i c.loop-j.j c.loop-j.corners.items c.loop-j.invariant
      (subst (IsPair c.args.f.now c.args.tri.now.halves (plain_walls c.args.walls.now) c.args.i c.loop-j.j) w.in_default.is c.in_ok-corner.ensures.pair))
]

pub returns-clause-corners : goal.returns-clause-corners
returns-clause-corners c =
    let e : c.loop-j.j ≡ length (plain_walls c.args.walls.now) = omega (arith, plain_length c.args.walls.now, c.loop-j.auto.j-end, c.loop-j-test.false, c.requires.inside) in
    row_end c.args.f.now c.args.tri.now.halves (plain_walls c.args.walls.now) c.args.i c.loop-j.corners.items
    (subst (λ (n : ℕ). IsCornersTo c.args.f.now c.args.tri.now.halves (plain_walls c.args.walls.now) c.args.i n c.loop-j.corners.items) e c.loop-j.invariant)
