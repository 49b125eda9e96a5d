use Rattle.std.proofs.Common.{◌+◌, ◌<◌, true, false, not, ◌&&◌, length, get_or, set, sym, ap, subst, ◌∙◌, arith}
use Rattle.cone_points.specs.Vertices.{turned}
use Rattle.cone_points.proofs.Numbers.{bit}
use Rattle.cone_points.proofs.Walking.{IsWalk, walk_step, walk_end, risen_most, unmarked_less}
use Rattle.cone_points.proofs.walks.walk.Goals as goal

step : (c : goal.After-rise-rises) → IsWalk c.args.tri.now.halves c.args.uppers.now c.args.h c.args.marks.now (set c.loop-marks.marks c.loop-marks.place true) (turned c.args.tri.now.halves c.loop-marks.place) (c.loop-marks.rises + c.rise-rises.result)
step c =
    let e = c.turn-next.ensures.turned in
    walk_step c.args.tri.now.halves c.args.uppers.now c.args.h c.args.marks.now c.loop-marks.marks c.loop-marks.place c.loop-marks.rises c.loop-marks.invariant c.loop-marks-test.true
    (subst (λ x. x < length c.args.tri.now.halves) e c.turn-next.ensures.place) c.rise-rises.result
    (c.rise-rises.ensures ∙ ap (λ n. bit (not (get_or c.args.uppers.now c.loop-marks.place false) && get_or c.args.uppers.now n false)) e)

pub overflow_add-rises : goal.overflow_add-rises
overflow_add-rises c =
    let most = risen_most c.args.tri.now.halves c.args.uppers.now (set c.loop-marks.marks c.loop-marks.place true) in
    omega (arith, (step c).count, most, c.requires.valid.count)

pub loop-marks-smaller : goal.loop-marks-smaller
loop-marks-smaller c =
    let w = c.loop-marks.invariant in
    unmarked_less c.loop-marks.marks c.loop-marks.place (omega (arith, w.as_many, w.inside)) c.loop-marks-test.true

pub loop-marks-preserved : goal.loop-marks-preserved
loop-marks-preserved c =
    subst (λ p. IsWalk c.args.tri.now.halves c.args.uppers.now c.args.h c.args.marks.now (set c.loop-marks.marks c.loop-marks.place true) p (c.loop-marks.rises + c.rise-rises.result))
    (sym c.turn-next.ensures.turned) (step c)

pub returns-clause-turned_on : goal.returns-clause-turned_on
returns-clause-turned_on c =
    (walk_end c.args.tri.now.halves c.args.uppers.now c.args.h c.args.marks.now c.loop-marks.marks c.loop-marks.place c.loop-marks.rises c.loop-marks.invariant c.loop-marks-test.false).0

pub returns-clause-start : goal.returns-clause-start
returns-clause-start c =
    (walk_end c.args.tri.now.halves c.args.uppers.now c.args.h c.args.marks.now c.loop-marks.marks c.loop-marks.place c.loop-marks.rises c.loop-marks.invariant c.loop-marks-test.false).1
