use Rattle.std.proofs.Common.{◌≡◌, ◌≢◌, ◌<◌, ◌∙◌, ℕ, length, map, vec_len, refl, sym, subst, arith}
use Rattle.terrain.specs.Places.{IsAt}
use mathlib.Core.Logic.{dite}
use native.Mathlib.Decide.{ℕ_discrete}
use Rattle.explore_core.specs.declared.record.Record.{Record}
use Rattle.explore_core.specs.Ranks.{AreRanked}
use Rattle.terrain.proofs.CallerLemmas.{at_within, at_one, set_else}
use Rattle.explore_core.proofs.TakenLeads.{now_at, keys_kept, map_push, map_push_end}
use Rattle.explore_core.proofs.ranks.all_leads.Goals as goal

pub leads_of-requires : goal.leads_of-requires
leads_of-requires g c =
    let inv = c.loop-rank.invariant in
    let all = c.args.records.now in
    let row = c.index_mut-record.result.now in
    let within : c.loop-rank.rank < length all.items = (let t = c.loop-rank-test.true in let v = all.ok.0 in let l = c.len-rank-end.ensures in omega arith) in
    let same : length c.loop-rank.records.items ≡ length all.items = (let l = inv.len in let v = all.ok.0 in let u = c.loop-rank.records.ok.0 in omega arith) in
    let at = now_at all.items c.loop-rank.records.items c.loop-rank.rank row within same inv.kept c.index_mut-record.ensures.value in
    c.requires c.loop-rank.rank row at

pub loop-rank-preserved : goal.loop-rank-preserved
loop-rank-preserved g c =
    let inv = c.loop-rank.invariant in
    let all = c.args.records.now in
    let row = c.index_mut-record.result.now in
    let within : c.loop-rank.rank < length all.items = (let t = c.loop-rank-test.true in let v = all.ok.0 in let l = c.len-rank-end.ensures in omega arith) in
    let same : length c.loop-rank.records.items ≡ length all.items = (let l = inv.len in let v = all.ok.0 in let u = c.loop-rank.records.ok.0 in omega arith) in
    let at = now_at all.items c.loop-rank.records.items c.loop-rank.rank row within same inv.kept c.index_mut-record.ensures.value in
    let size : length c.loop-rank.leads.items ≡ c.loop-rank.rank = (let o = inv.out in let v = c.loop-rank.leads.ok.0 in omega arith) in
    record {
      len = inv.len;
      out = (let o = inv.out in let p = c.in_ok-push.ensures.len in omega arith);
      kept = λ i r h there. set_else c.loop-rank.records.items c.loop-rank.rank i _ r (λ e. absurd (omega arith)) (inv.kept i r (omega arith) there);
      each = λ i r h there. dite (ℕ_discrete i c.loop-rank.rank)
          (λ (e : i ≡ c.loop-rank.rank). (
            c.in_ok-found.found.items,
            subst (λ (j : ℕ). IsAt (map (λ x. x.items) c.push.new.self.items) j c.in_ok-found.found.items) (sym e) (map_push_end (λ x. x.items) c.push.new.self.items c.loop-rank.leads.items c.in_ok-found.found c.loop-rank.rank c.in_ok-push.ensures.items size),
            subst (λ (y : Record _ _). AreRanked c.args.ranks.now y.slots.items c.in_ok-found.found.items) (at_one all.items c.loop-rank.rank row r at (subst (λ (j : ℕ). IsAt all.items j r) e there)) c.in_ok-found.ensures,
          ))
          (λ (ne : i ≢ c.loop-rank.rank). let q = inv.each i r (omega arith) there in (q.0, map_push (λ x. x.items) c.push.new.self.items c.loop-rank.leads.items c.in_ok-found.found i q.0 c.in_ok-push.ensures.items q.1, q.2));
      keys = keys_kept c.loop-rank.records.items c.loop-rank.rank row _ (inv.kept c.loop-rank.rank row (omega arith) at) refl ∙ inv.keys;
    }

pub returns-clause-leads : goal.returns-clause-leads
returns-clause-leads g c =
    let inv = c.loop-rank.invariant in
    let all = c.args.records.now in
    let done : vec_len c.loop-rank.leads ≡ vec_len all = (let o = inv.out in let t = c.loop-rank-test.false in let a = c.loop-rank.auto.rank-end in let e = c.len-rank-end.ensures in omega arith) in
    (done, λ i r there. inv.each i r (let h = at_within all.items i r there in let t = c.loop-rank-test.false in let v = all.ok.0 in let e = c.len-rank-end.ensures in omega arith) there)
