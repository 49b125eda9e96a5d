use Rattle.std.proofs.Common.{◌≡◌, ◌+◌, ◌<◌, ◌∙◌, length, map, take, sym, ap, subst, arith}
use Rattle.wall_steal.specs.Deques.{without, own_deque, deque_behind}
use Rattle.wall_steal.proofs.Each.{at_read}
use Rattle.wall_steal.proofs.Others.{others_more, others_same, others_whole}
use Rattle.wall_steal.proofs.deques.others_of.Goals.{then-i-own+in_ok-other+in_ok-push, else-i-own}
use Rattle.wall_steal.proofs.deques.others_of.Goals as goal

pub loop-i-preserved : goal.loop-i-preserved
loop-i-preserved g c =
    let all = c.args.all.now in
    let within : c.loop-i.i < length all = omega (arith, c.loop-i-test.true, c.loop-i.auto.i-end) in
    let at = at_read all c.loop-i.i c.index-all-i.result within c.index-all-i.is in
    elim c.if-i-own.branch [
      | then-i-own+in_ok-other+in_ok-push w ↦
          subst (λ os. map deque_behind os ≡ without c.args.own (take (c.loop-i.i + 1) (map own_deque all))) (sym (ap (λ v. v.items) w.others-is ∙ w.in_ok-push.ensures.items))
          (others_more own_deque deque_behind all c.loop-i.i c.args.own c.index-all-i.result c.loop-i.others.items w.in_ok-other.other at w.if-i-own.true w.in_ok-other.ensures c.loop-i.invariant)
      | else-i-own w ↦
          subst (λ os. map deque_behind os ≡ without c.args.own (take (c.loop-i.i + 1) (map own_deque all))) (sym (ap (λ v. v.items) w.others-is))
          (others_same own_deque deque_behind all c.loop-i.i c.args.own c.index-all-i.result c.loop-i.others.items at (omega (arith, w.if-i-own.false)) c.loop-i.invariant)
    ]

pub returns : goal.returns
returns g c = others_whole own_deque deque_behind c.args.all.now c.loop-i.i c.args.own c.loop-i.others.items (omega (arith, c.loop-i-test.false, c.loop-i.auto.i-end)) c.loop-i.invariant
