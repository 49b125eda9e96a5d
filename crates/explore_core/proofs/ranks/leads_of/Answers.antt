use Rattle.std.proofs.Common.{◌≡◌, ◌<◌, ◌∙◌, List, length, Some, None, Option, sym, subst, arith}
use Rattle.terrain.specs.Places.{IsAt}
use Rattle.terrain.specs.declared.graph.Lead.{Lead}
use Rattle.explore_core.specs.declared.record.Filled.{Filled}
use Rattle.terrain.proofs.CallerLemmas.{at_within}
use Rattle.explore_core.proofs.TakenLeads.{stands, kept_on, each_on}
use Rattle.explore_core.specs.Ranks.{ranked}
use Rattle.explore_core.proofs.ranks.leads_of.Goals as goal

same_some : {A : Type 0} (x y : A) (o : Option A) → o ≡ Some x → o ≡ Some y → x ≡ y
same_some x y o a b = cc

clash : {A : Type 0} (x : A) (o : Option A) → o ≡ Some x → o ≡ None → ⊥
clash x o a b = cc

pub unreachable-requires : goal.unreachable-requires
unreachable-requires g c =
    let inv = c.loop-wall.invariant in
    let all = c.args.slots.now in
    let within : c.loop-wall.wall < length all.items = (let t = c.loop-wall-test.true in let v = all.ok.0 in let l = c.len-wall-end.ensures in omega arith) in
    let size : length c.loop-wall.leads.items ≡ c.loop-wall.wall = (let o = inv.out in let v = c.loop-wall.leads.ok.0 in omega arith) in
    let s = stands c.args.ranks.now all.items c.loop-wall.slots.items c.loop-wall.leads.items c.loop-wall.wall c.requires within size inv.kept inv.each c.index_mut.result.now c.index_mut.ensures.value in
    clash s.0 c.index_mut.result.now s.3 (sym c.take.ensures.value ∙ c.in_default.is)

pub bounds-ranks-place : goal.bounds-ranks-place
bounds-ranks-place g c =
    let inv = c.loop-wall.invariant in
    let all = c.args.slots.now in
    let within : c.loop-wall.wall < length all.items = (let t = c.loop-wall-test.true in let v = all.ok.0 in let l = c.len-wall-end.ensures in omega arith) in
    let size : length c.loop-wall.leads.items ≡ c.loop-wall.wall = (let o = inv.out in let v = c.loop-wall.leads.ok.0 in omega arith) in
    let s = stands c.args.ranks.now all.items c.loop-wall.slots.items c.loop-wall.leads.items c.loop-wall.wall c.requires within size inv.kept inv.each c.index_mut.result.now c.index_mut.ensures.value in
    let l = same_some s.0 c.in-Some.field-0 c.index_mut.result.now s.3 (sym c.take.ensures.value ∙ c.in-Some.is) in
    subst (λ (x : Filled _ _). x.place < length c.args.ranks.now) l s.2

pub loop-wall-preserved : goal.loop-wall-preserved
loop-wall-preserved g c =
    let inv = c.loop-wall.invariant in
    let all = c.args.slots.now in
    let within : c.loop-wall.wall < length all.items = (let t = c.loop-wall-test.true in let v = all.ok.0 in let l = c.len-wall-end.ensures in omega arith) in
    let size : length c.loop-wall.leads.items ≡ c.loop-wall.wall = (let o = inv.out in let v = c.loop-wall.leads.ok.0 in omega arith) in
    let s = stands c.args.ranks.now all.items c.loop-wall.slots.items c.loop-wall.leads.items c.loop-wall.wall c.requires within size inv.kept inv.each c.index_mut.result.now c.index_mut.ensures.value in
    let l = same_some s.0 c.in-Some.field-0 c.index_mut.result.now s.3 (sym c.take.ensures.value ∙ c.in-Some.is) in
    record {
      len = inv.len;
      out = (let o = inv.out in let p = c.in_ok-push.ensures.len in omega arith);
      kept = λ w o h at. kept_on c.args.ranks.now all.items c.loop-wall.slots.items c.loop-wall.leads.items c.loop-wall.wall c.requires within size inv.kept inv.each c.take.new.self w o h at;
      each = λ w x h at. subst (λ (q : List (Lead _)). IsAt q w (ranked c.args.ranks.now x)) (sym c.in_ok-push.ensures.items) (each_on c.args.ranks.now all.items c.loop-wall.slots.items c.loop-wall.leads.items c.loop-wall.wall c.requires within size inv.kept inv.each c.in-Some.field-0 (subst (λ (q : Filled _ _). IsAt all.items c.loop-wall.wall (Some q)) l s.1) w x h at);
    }

pub returns : goal.returns
returns g c =
    let inv = c.loop-wall.invariant in
    let all = c.args.slots.now in
    record {
      long = (let o = inv.out in let t = c.loop-wall-test.false in let a = c.loop-wall.auto.wall-end in let v = all.ok.0 in let u = c.loop-wall.leads.ok.0 in let e = c.len-wall-end.ensures in omega arith);
      each = λ w x at. inv.each w x (let h = at_within all.items w (Some x) at in let t = c.loop-wall-test.false in let v = all.ok.0 in let e = c.len-wall-end.ensures in omega arith) at;
    }
