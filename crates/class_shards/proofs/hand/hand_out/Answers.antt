use Rattle.walls_out.specs.Seats.{view_of}
use Rattle.receipt_log.specs.Logs.{list_of}
use Rattle.std.proofs.Common.{◌≡◌, [], ◌+◌, ◌-◌, ◌∙◌, suc, length, vec_len, sym, ap, subst, arith, ⊎_elim}
use Rattle.std.specs.Prelude.{slice_index_or}
use Rattle.std.specs.Arc.{arc_value}
use Rattle.walls_out.specs.Views.{last_of}
use Rattle.class_shards.specs.Entries.{index_in}
use Rattle.terrain.specs.Places.{IsAt}
use Rattle.terrain.proofs.CallerLemmas.{snoc_end, snoc_left, at_snoc}
use Rattle.class_shards.proofs.Fresh.{front_fresh, last_fresh, one_wall_owed, slot_as}
use Rattle.class_shards.proofs.hand.hand_out.Goals as goal

pub hand_one-ticket-requires-clause-owes : goal.hand_one-ticket-requires-clause-owes
hand_one-ticket-requires-clause-owes g c κs within =
    let inv = c.loop-key.invariant in
    let list = (list_of c.args.log.now) in
    let at = slice_index_or list c.args.place [] in
    let e = c.requires.owes.0 in
    let n : vec_len c.loop-key.keys ≡ suc c.len-wall.result = (let p = c.in-Some.ensures.len in let l = c.len-wall.ensures in omega arith) in
    let key = inv.keys (length c.pop.new.self.items) c.in-Some.key (subst (λ l. IsAt l (length c.pop.new.self.items) c.in-Some.key) (sym c.in-Some.ensures.items) (snoc_end c.pop.new.self.items c.in-Some.key)) in
    one_wall_owed (last_of (view_of c.loop-key.keeper).owed) (g.T.Terrain.shard at) (((view_of c.args.keeper.now).made - vec_len c.args.keys) + c.len-wall.result) (g.T.Terrain.shard (g.T.Key.Numbers.numbers (arc_value c.in-Some.key))) (last_fresh (view_of c.loop-key.keeper).owed e (g.T.Terrain.shard at) ((view_of c.args.keeper.now).made - vec_len c.args.keys) c.len-wall.result (vec_len c.loop-key.keys) n (inv.owes e c.requires.owes.1)) (ap g.T.Terrain.shard key)

pub hand_one-ticket-requires-clause-slot : goal.hand_one-ticket-requires-clause-slot
hand_one-ticket-requires-clause-slot g c κs within =
    let inv = c.loop-key.invariant in
    let list = (list_of c.args.log.now) in
    let at = slice_index_or list c.args.place [] in
    let e = c.requires.owes.0 in
    let n : vec_len c.loop-key.keys ≡ suc c.len-wall.result = (let p = c.in-Some.ensures.len in let l = c.len-wall.ensures in omega arith) in
    let key = inv.keys (length c.pop.new.self.items) c.in-Some.key (subst (λ l. IsAt l (length c.pop.new.self.items) c.in-Some.key) (sym c.in-Some.ensures.items) (snoc_end c.pop.new.self.items c.in-Some.key)) in
    let last = last_fresh (view_of c.loop-key.keeper).owed e (g.T.Terrain.shard at) ((view_of c.args.keeper.now).made - vec_len c.args.keys) c.len-wall.result (vec_len c.loop-key.keys) n (inv.owes e c.requires.owes.1) in
    slot_as (g.T.Terrain.has_walls g.N.Naming.terrain) at _ list _ c.args.place c.len-wall.result (((view_of c.args.keeper.now).made - vec_len c.args.keys) + c.len-wall.result) _ key inv.list (ap index_in last) (c.requires.slots c.len-wall.result (let s = inv.short in omega arith))

pub loop-key-preserved : goal.loop-key-preserved
loop-key-preserved g c =
    let inv = c.loop-key.invariant in
    let list = (list_of c.args.log.now) in
    let at = slice_index_or list c.args.place [] in
    let n : vec_len c.loop-key.keys ≡ suc (vec_len c.pop.new.self) = (let p = c.in-Some.ensures.len in omega arith) in
    let view = c.hand_one-ticket.ensures.keeper.1 in
    record {
      table = c.hand_one-ticket.ensures.keeper.0;
      keeps = ap (λ v. v.keeper) view ∙ inv.keeps;
      made = ap (λ v. v.made) view ∙ inv.made;
      done = ap (λ v. v.done) view ∙ inv.done;
      owes = λ e h. ap (λ v. v.owed) view ∙ front_fresh (view_of c.loop-key.keeper).owed e (g.T.Terrain.shard at) ((view_of c.args.keeper.now).made - vec_len c.args.keys) (vec_len c.pop.new.self) (vec_len c.loop-key.keys) n (inv.owes e h);
      list = c.hand_one-ticket.ensures.log.0 ∙ inv.list;
      log = c.hand_one-ticket.ensures.log.1 ∙ inv.log;
      keys = λ i a there. inv.keys i a (subst (λ l. IsAt l i a) (sym c.in-Some.ensures.items) (snoc_left c.pop.new.self.items i c.in-Some.key a there));
      short = (let s = inv.short in omega arith);
      room = (let r = inv.room in let p = c.in-Ok.ensures.len in let q = c.in-Ok.ensures.capacity in omega arith);
      len = (let r = inv.len in let p = c.in-Ok.ensures.len in omega arith);
      each = λ i t there. ⊎_elim
          (λ (was : IsAt c.loop-key.tickets.items i t). inv.each i t was)
          (λ (e : (i ≡ length c.loop-key.tickets.items) × (c.hand_one-ticket.result ≡ t)).
          let ticket = c.hand_one-ticket.ensures.ticket in
          let of = inv.keys (length c.pop.new.self.items) c.in-Some.key (subst (λ l. IsAt l (length c.pop.new.self.items) c.in-Some.key) (sym c.in-Some.ensures.items) (snoc_end c.pop.new.self.items c.in-Some.key)) in
          subst (λ x. (g.T.Key.Numbers.numbers (arc_value x.key) ≡ at) × (x.wall + i + 1 ≡ vec_len c.args.keys)) e.1 (ap g.T.Key.Numbers.numbers ticket.0 ∙ of, let w = ticket.1 in let l = c.len-wall.ensures in let h = e.0 in let len = inv.len in let ok = c.loop-key.tickets.ok.0 in omega arith))
          (at_snoc c.loop-key.tickets.items i c.hand_one-ticket.result t (subst (λ l. IsAt l i t) c.in-Ok.ensures.items there));
    }
