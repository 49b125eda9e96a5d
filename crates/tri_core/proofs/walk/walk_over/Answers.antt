use Rattle.std.proofs.Common.{rules, ◌≡◌, ◌<◌, ◌≤◌, ◌/◌, ◌∙◌, ap, sym, [], ◌∷◌, ◌++◌, false, length, get_or, replicate, arith}
use Rattle.std.proofs.lemmas.List.{get_or_default}
use Rattle.tri_core.proofs.Walks.{walk_start, start_marked, start_room, across_none, across_more, walk_whole}
use Rattle.tri_core.proofs.walk.walk_over.Goals as goal

pub loop-next-init : goal.loop-next-init
loop-next-init c =
    let n = length c.args.halves.now / 3 in
    let marks : c.as_mut_slice-entered.result.now ≡ replicate n false = search rules in
    let items : c.push_reserved.new.self.items ≡ 0 ∷ [] = c.push_reserved.ensures.items ∙ ap (λ l. l ++ 0 ∷ []) c.in_ok-walk.ensures.items in
    let some = c.requires.count.1 in
    record {
      walk = rw (items, marks) (walk_start c.args.halves.now n c.requires (λ i. n));
      start = rw marks (start_marked n (omega arith));
      across = across_none c.args.halves.now _ c.push_reserved.new.self.items;
      within = omega arith;
      room = let rest = start_room n (omega arith) in rw marks (omega (arith, c.push_reserved.ensures.len, c.push_reserved.ensures.capacity, c.in_ok-walk.ensures.len, c.in_ok-walk.ensures.capacity, rest));
    }

pub loop-next-preserved : goal.loop-next-preserved
loop-next-preserved c =
    let old = c.loop-next.invariant in
    let beside = c.come_beside.ensures in
    let inside : c.loop-next.next < length c.loop-next.walk.items = search rules in
    let is : get_or c.loop-next.walk.items c.loop-next.next 0 ≡ c.index-h.result.now =
    get_or_default c.loop-next.walk.items c.loop-next.next 0 c.index-h.result.now inside ∙ sym c.index-h.ensures in
    record {
      walk = beside.walk;
      start = beside.later.marked 0 old.start;
      across =
          across_more c.args.halves.now c.loop-next.entered c.come_beside.new.entered c.loop-next.walk.items c.come_beside.new.walk.items c.loop-next.next c.index-h.result.now
          inside is beside.later beside.across beside.across_next beside.across_previous old.across;
      within = search rules;
      room = beside.room;
    }

pub returns : goal.returns
returns c =
    let old = c.loop-next.invariant in
    let all : length c.loop-next.walk.items ≤ c.loop-next.next = search rules in
    walk_whole c.args.halves.now c.loop-next.entered c.loop-next.walk.items c.loop-next.next c.requires all old.start old.walk old.across
