use Rattle.std.proofs.Common.{◌≡◌, ◌∙◌, ◌+◌, ℕ, List, length, sym, subst, ap, arith}
use Rattle.hinge_form.specs.declared.wall.Wall.{Wall}
use Rattle.parabola_region.specs.WallLists.{plain_walls}
use Rattle.parabola_region.specs.Found.{AreWalls, IsFound}
use Rattle.parabola_region.proofs.WallLists.{none_yet, adds_none, found_wall, all_walls}
use Rattle.parabola_region.proofs.wall_list.walls_among.Goals as goal
use Rattle.parabola_region.proofs.wall_list.walls_among.Goals.{in-Some+in_ok-push, in_default}

pub loop-i-init : goal.loop-i-init
loop-i-init c =
    subst (λ (xs : List Wall). AreWalls c.args.f.now c.args.tri.now.halves c.args.forms.now 0 (plain_walls xs)) (sym c.new-walls.ensures.items)
    (none_yet c.args.f.now c.is_field.ensures c.args.tri.now.halves c.requires.valid c.args.forms.now c.requires.list)

pub loop-i-preserved : goal.loop-i-preserved
loop-i-preserved c = elim c.match-branch-2.branch [
  | in-Some+in_ok-push w ↦
      subst (λ (xs : List Wall). AreWalls c.args.f.now c.args.tri.now.halves c.args.forms.now (c.loop-i.i + 1) (plain_walls xs)) (sym (ap (λ v. v.items) w.walls-is ∙ w.in_ok-push.ensures.items))
      (found_wall c.args.f.now c.is_field.ensures c.args.tri.now.halves c.requires.valid c.args.forms.now c.requires.list c.loop-i.i c.loop-i.walls.items c.loop-i.invariant c.loop-i-test.true w.in-Some.wall
      (subst (IsFound c.args.f.now c.args.tri.now.halves c.args.forms.now c.loop-i.i (plain_walls c.loop-i.walls.items)) w.in-Some.is (subst (λ (xs : List Wall). IsFound c.args.f.now c.args.tri.now.halves c.args.forms.now c.loop-i.i (plain_walls xs) c.in_ok-wall.field-0) c.as_slice.ensures.value c.in_ok-wall.ensures.found)))
  | in_default w ↦
      subst (λ (xs : List Wall). AreWalls c.args.f.now c.args.tri.now.halves c.args.forms.now (c.loop-i.i + 1) (plain_walls xs)) (sym (ap (λ v. v.items) w.walls-is))
      (adds_none c.args.f.now c.is_field.ensures c.args.tri.now.halves c.requires.valid c.args.forms.now c.requires.list c.loop-i.i (plain_walls c.loop-i.walls.items) c.loop-i.invariant c.loop-i-test.true
      (subst (IsFound c.args.f.now c.args.tri.now.halves c.args.forms.now c.loop-i.i (plain_walls c.loop-i.walls.items)) w.in_default.is (subst (λ (xs : List Wall). IsFound c.args.f.now c.args.tri.now.halves c.args.forms.now c.loop-i.i (plain_walls xs) c.in_ok-wall.field-0) c.as_slice.ensures.value c.in_ok-wall.ensures.found)))
]

pub returns-clause-walls : goal.returns-clause-walls
returns-clause-walls c =
    let e : c.loop-i.i ≡ length c.args.forms.now = omega (arith, c.loop-i.auto.i-end, c.loop-i-test.false) in
    all_walls c.args.f.now c.is_field.ensures c.args.tri.now.halves c.requires.valid c.args.forms.now c.requires.list (plain_walls c.loop-i.walls.items)
    (subst (λ (n : ℕ). AreWalls c.args.f.now c.args.tri.now.halves c.args.forms.now n (plain_walls c.loop-i.walls.items)) e c.loop-i.invariant)
