use Rattle.std.proofs.Common.{◌<◌, ◌∙◌, length, map, refl, ap, arith}
use Rattle.wall_steal.specs.Deques.{without, own_deque, other_deques, HasRoom}
use Rattle.wall_steal.proofs.Each.{at_read}
use Rattle.wall_steal.proofs.Others.{each_set, told_more, told_all}
use Rattle.wall_steal.proofs.deques.hands_of.Goals as goal

pub loop-i-preserved : goal.loop-i-preserved
loop-i-preserved g c =
    let inv = c.loop-i.invariant in
    let all = c.loop-i.all.items in
    let i = c.loop-i.i in
    let within : i < length all = (let t = c.loop-i-test.true in let v = c.loop-i.all.ok.0 in let l = inv.len in let m = c.in_ok-all.ensures.len in let e = c.len-i-end.ensures in omega arith) in
    let at = at_read all i c.index_mut.result.now within c.index_mut.ensures.value in
    record {
      len = inv.len;
      room = each_set HasRoom all i _ (inv.room i c.index_mut.result.now at) inv.room;
      told = told_more own_deque other_deques all i c.index_mut.result.now _ at refl (c.in_ok-others.ensures ∙ ap (λ l. without i (map own_deque l)) c.as_slice.ensures.value) inv.told;
    }

pub returns-clause-others : goal.returns-clause-others
returns-clause-others g c =
    let inv = c.loop-i.invariant in
    told_all own_deque other_deques c.loop-i.all.items c.loop-i.i (let t = c.loop-i-test.false in let v = c.loop-i.all.ok.0 in let l = inv.len in let m = c.in_ok-all.ensures.len in let e = c.len-i-end.ensures in omega arith) inv.told
