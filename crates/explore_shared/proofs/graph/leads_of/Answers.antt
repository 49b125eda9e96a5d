use Rattle.std.proofs.Common.{◌≡◌, ◌<◌, ◌∙◌, ◌++◌, ◌∷◌, [], ℕ, List, Option, Some, length, map, refl, sym, ap, subst, arith}
use Rattle.std.specs.Prelude.{option_map}
use Rattle.std.specs.declared.vec.Vec.{Vec}
use Rattle.std.specs.declared.alloc.Global.{Global}
use Rattle.std.proofs.lemmas.List.{length-map, map-append, map-id}
use Rattle.std.proofs.lemmas.Iterator.Adapters.{YieldsList-from_vec}
use Rattle.std.proofs.lemmas.Iterator.Consumers.{YieldsList-turn, YieldsList-end}
use Rattle.terrain.specs.declared.graph.Lead.{Lead}
use Rattle.receipt_log.specs.Logs.{list_of}
use Rattle.explore_core.specs.Books.{Slot}
use Rattle.class_shards.specs.Stored.{slot_of}
use Rattle.class_shards.specs.Targets.{target_of}
use Rattle.explore_shared.specs.Ranks.{AreLeadsOf}
use Rattle.explore_shared.proofs.Leads.{leads_push, is_filled, at_turn, finds_same}
use Rattle.explore_shared.proofs.graph.leads_of.Goals as goal

pub unreachable-requires : goal.unreachable-requires
unreachable-requires g c =
    let inv = c.loop-slot.invariant in
    let slots = c.args.row.slots in
    let gives = c.into_iter-slot-iterator.ensures.into_iter_gives in
    let t = YieldsList-turn (YieldsList-from_vec {s = c.into_iter-slot-iterator.result} slots.items gives.0 (gives.1 ∙ slots.ok.0)) c.loop-slot.yielded c.loop-slot.slot-iterator c.loop-slot.yielded_by c.next.result c.next.new.self c.in-Some.slot c.in-Some.is c.next.ensures.steps in
    let at = at_turn slots.items (length c.loop-slot.yielded) c.in-Some.slot t in
    let f = c.requires.filled (length c.loop-slot.yielded) (let w : length c.loop-slot.yielded < length slots.items = t.0 in let l = length-map slots.items (option_map slot_of) in omega arith) in
    is_filled slot_of slots.items (length c.loop-slot.yielded) c.in-Some.slot f.0 at f.1 c.in_default.is

pub rank_of-to-requires-clause-within : goal.rank_of-to-requires-clause-within
rank_of-to-requires-clause-within g c =
    let inv = c.loop-slot.invariant in
    let laws = g.met.T.Terrain g.world.𝓛 g.world.𝓜 g.world.𝓡 ((λ s x. x), (λ x. x), (λ x. x), λ x. x) in
    let low = laws.shard_low (target_of c.in-Some-slot.field-0.target) in
    let belongs = c.in-Some-slot.field-0.belongs in
    let a = length-map c.loop-slot.places.logs.items list_of in
    let b = length-map c.args.places.now.logs.items list_of in
    let same = ap length inv.lists in
    let v = c.loop-slot.places.logs.ok.0 in
    let u = c.args.places.now.logs.ok.0 in
    let r = c.requires.names.0 in
    omega arith

pub rank_of-to-requires-clause-finds : goal.rank_of-to-requires-clause-finds
rank_of-to-requires-clause-finds g c =
    let inv = c.loop-slot.invariant in
    (c.requires.finds.0, finds_same (map list_of c.args.places.now.logs.items) (map list_of c.loop-slot.places.logs.items) c.args.places.now.starts.items c.loop-slot.places.starts.items c.args.places.now.ranks.items c.loop-slot.places.ranks.items c.requires.finds.0 inv.lists (ap (λ (v : Vec ℕ Global). v.items) inv.starts) (ap (λ (v : Vec ℕ Global). v.items) inv.ranks) c.requires.finds.1)

pub loop-slot-preserved : goal.loop-slot-preserved
loop-slot-preserved g c =
    let inv = c.loop-slot.invariant in
    let s = slot_of c.in-Some-slot.field-0 in
    let more : map (option_map slot_of) (c.loop-slot.yielded ++ c.in-Some.slot ∷ []) ≡ map (option_map slot_of) c.loop-slot.yielded ++ Some s ∷ [] = map-append (option_map slot_of) c.loop-slot.yielded (c.in-Some.slot ∷ []) ∙ ap (λ (o : Option _). map (option_map slot_of) c.loop-slot.yielded ++ option_map slot_of o ∷ []) c.in-Some-slot.is in
    record {
      names = c.rank_of-to.ensures.names;
      lists = c.rank_of-to.ensures.same.0 ∙ inv.lists;
      starts = c.rank_of-to.ensures.same.1 ∙ inv.starts;
      ranks = c.rank_of-to.ensures.same.2 ∙ inv.ranks;
      leads = λ keys finds. subst (λ (l : List (Option (Slot _))). AreLeadsOf keys l c.push.new.self.items) (sym more) (subst (λ (l : List (Lead _)). AreLeadsOf keys (map (option_map slot_of) c.loop-slot.yielded ++ Some s ∷ []) l) (sym c.in_ok-push.ensures.items) (leads_push keys (map (option_map slot_of) c.loop-slot.yielded) c.loop-slot.leads.items s _ (inv.leads keys finds) (c.rank_of-to.ensures.rank keys (finds_same (map list_of c.args.places.now.logs.items) (map list_of c.loop-slot.places.logs.items) c.args.places.now.starts.items c.loop-slot.places.starts.items c.args.places.now.ranks.items c.loop-slot.places.ranks.items keys inv.lists (ap (λ (v : Vec ℕ Global). v.items) inv.starts) (ap (λ (v : Vec ℕ Global). v.items) inv.ranks) finds)) refl));
    }

pub returns-clause-leads : goal.returns-clause-leads
returns-clause-leads g c keys finds =
    let inv = c.loop-slot.invariant in
    let slots = c.args.row.slots in
    let gives = c.into_iter-slot-iterator.ensures.into_iter_gives in
    let e = YieldsList-end (YieldsList-from_vec {s = c.into_iter-slot-iterator.result} slots.items gives.0 (gives.1 ∙ slots.ok.0)) c.loop-slot.yielded c.loop-slot.slot-iterator c.loop-slot.yielded_by c.next.result c.next.new.self c.in-None.is c.next.ensures.steps in
    subst (λ (l : List (Option _)). AreLeadsOf keys (map (option_map slot_of) l) c.loop-slot.leads.items) (sym (map-id c.loop-slot.yielded) ∙ e.0) (inv.leads keys finds)
