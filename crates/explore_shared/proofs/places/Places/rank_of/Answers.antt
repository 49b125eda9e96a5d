use Rattle.std.proofs.Common.{◌≡◌, ◌+◌, ◌∙◌, ℕ, [], length, refl, sym, ap, subst, arith, ⊎_elim}
use Rattle.std.proofs.lemmas.Option.{get_or_from_slice_get, slice_get_read}
use Rattle.terrain.specs.Places.{IsAt}
use Rattle.terrain.proofs.CallerLemmas.{at_map, at_within, at_set}
use Rattle.receipt_log.specs.Logs.{name_of_log, list_of, seen_by}
use Rattle.class_shards.specs.Targets.{target_of}
use Rattle.explore_shared.proofs.Leads.{map_set_same}
use Rattle.explore_shared.proofs.places.Places.rank_of.Goals as goal

pub index-requires : goal.index-requires
index-requires g c =
    let all = c.args.self.now in
    let target = c.args.target in
    let log = c.index_mut.result.now in
    let at : IsAt all.logs.items c.args.shard log = slice_get_read all.logs.items (length all.logs.items) c.args.shard log refl (let w = c.requires.within in let v = all.logs.ok.0 in omega arith) c.index_mut.ensures.value in
    let e = c.meet.ensures.entry in
    let f = c.requires.finds.1 c.args.shard target.place (list_of log) e.0 (at_map list_of all.logs.items c.args.shard log at) e.2 in
    let w = at_within all.starts.items c.args.shard f.0 f.2 in
    let v = all.starts.ok.0 in
    omega arith

pub overflow_add-number : goal.overflow_add-number
overflow_add-number g c =
    let all = c.args.self.now in
    let target = c.args.target in
    let log = c.index_mut.result.now in
    let at : IsAt all.logs.items c.args.shard log = slice_get_read all.logs.items (length all.logs.items) c.args.shard log refl (let w = c.requires.within in let v = all.logs.ok.0 in omega arith) c.index_mut.ensures.value in
    let e = c.meet.ensures.entry in
    let f = c.requires.finds.1 c.args.shard target.place (list_of log) e.0 (at_map list_of all.logs.items c.args.shard log at) e.2 in
    let start : c.index.result.now ≡ f.0 = c.index.ensures ∙ get_or_from_slice_get all.starts.items c.args.shard f.0 c.index.result.now f.2 in
    let place : c.place.result ≡ target.place = c.place.ensures.place ∙ c.meet.ensures.receipt.1 in
    let w = at_within all.ranks.items (f.0 + target.place) f.1 f.3 in
    let v = all.ranks.ok in
    let s = all.ranks.small in
    omega arith

pub index-requires-2 : goal.index-requires-2
index-requires-2 g c =
    let all = c.args.self.now in
    let target = c.args.target in
    let log = c.index_mut.result.now in
    let at : IsAt all.logs.items c.args.shard log = slice_get_read all.logs.items (length all.logs.items) c.args.shard log refl (let w = c.requires.within in let v = all.logs.ok.0 in omega arith) c.index_mut.ensures.value in
    let e = c.meet.ensures.entry in
    let f = c.requires.finds.1 c.args.shard target.place (list_of log) e.0 (at_map list_of all.logs.items c.args.shard log at) e.2 in
    let start : c.index.result.now ≡ f.0 = c.index.ensures ∙ get_or_from_slice_get all.starts.items c.args.shard f.0 c.index.result.now f.2 in
    let place : c.place.result ≡ target.place = c.place.ensures.place ∙ c.meet.ensures.receipt.1 in
    let w = at_within all.ranks.items (f.0 + target.place) f.1 f.3 in
    let v = all.ranks.ok.0 in
    omega arith

pub returns-clause-rank : goal.returns-clause-rank
returns-clause-rank g c keys finds =
    let all = c.args.self.now in
    let target = c.args.target in
    let log = c.index_mut.result.now in
    let at : IsAt all.logs.items c.args.shard log = slice_get_read all.logs.items (length all.logs.items) c.args.shard log refl (let w = c.requires.within in let v = all.logs.ok.0 in omega arith) c.index_mut.ensures.value in
    let e = c.meet.ensures.entry in
    let f = finds c.args.shard target.place (list_of log) e.0 (at_map list_of all.logs.items c.args.shard log at) e.2 in
    let start : c.index.result.now ≡ f.0 = c.index.ensures ∙ get_or_from_slice_get all.starts.items c.args.shard f.0 c.index.result.now f.2 in
    let place : c.place.result ≡ target.place = c.place.ensures.place ∙ c.meet.ensures.receipt.1 in
    let number : f.0 + target.place ≡ c.index.result.now + c.place.result = omega arith in
    let rank : c.index-2.result.now ≡ f.1 = c.index-2.ensures ∙ get_or_from_slice_get all.ranks.items (c.index.result.now + c.place.result) f.1 c.index-2.result.now (subst (λ (n : ℕ). IsAt all.ranks.items n f.1) number f.3) in
    let key : target_of target ≡ e.0 = get_or_from_slice_get (seen_by target) target.place e.0 [] e.1 in
    subst (λ (n : ℕ). IsAt keys n (target_of target)) (sym rank) (subst (IsAt keys f.1) (sym key) f.4)

pub returns-clause-names : goal.returns-clause-names
returns-clause-names g c i l there =
    let all = c.args.self.now in
    let log = c.index_mut.result.now in
    let at : IsAt all.logs.items c.args.shard log = slice_get_read all.logs.items (length all.logs.items) c.args.shard log refl (let w = c.requires.within in let v = all.logs.ok.0 in omega arith) c.index_mut.ensures.value in
    ⊎_elim
    (λ (h : (i ≡ c.args.shard) × (c.meet.new.self ≡ l)). ap name_of_log (sym h.1) ∙ c.meet.ensures.same.0 ∙ c.requires.names c.args.shard log at ∙ ap g.N.Naming.logs (sym h.0))
    (λ (h : (i ≡ c.args.shard → ⊥) × IsAt all.logs.items i l). c.requires.names i l h.1)
    (at_set all.logs.items c.args.shard i c.meet.new.self l there)

pub returns-clause-same : goal.returns-clause-same
returns-clause-same g c =
    let all = c.args.self.now in
    let log = c.index_mut.result.now in
    let at : IsAt all.logs.items c.args.shard log = slice_get_read all.logs.items (length all.logs.items) c.args.shard log refl (let w = c.requires.within in let v = all.logs.ok.0 in omega arith) c.index_mut.ensures.value in
    (map_set_same list_of all.logs.items c.args.shard log c.meet.new.self at c.meet.ensures.same.1, refl, refl)
