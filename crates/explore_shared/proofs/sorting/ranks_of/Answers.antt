use Rattle.std.proofs.Common.{◌≡◌, get_or, sym, ap, ◌∙◌, arith}
use Rattle.std.proofs.lemmas.List.{length-set}
use Rattle.std.proofs.lemmas.Option.{get_or_from_slice_get}
use Rattle.terrain.proofs.CallerLemmas.{at_within, read}
use Rattle.explore_shared.specs.declared.gathered.Gathered.{Gathered}
use Rattle.explore_shared.proofs.Ranked.{ranked_on}
use Rattle.explore_shared.proofs.sorting.ranks_of.Goals as goal

pub loop-rank-preserved : goal.loop-rank-preserved
loop-rank-preserved g c =
    let inv = c.loop-rank.invariant in
    let all = c.args.records.now in
    let i = c.loop-rank.rank in
    let x = read all i (let t = c.loop-rank-test.true in omega arith) in
    let same = get_or_from_slice_get all i x.0 c.index-records-rank.result x.1 in
    let number : (get_or all i c.index-records-rank.result).number ≡ x.0.number = ap (λ (r : Gathered g.row.K.Denot g.row.R.Denot). r.number) same in
    record {
      long = length-set c.loop-rank.ranks.items _ i ∙ inv.long;
      ranked = ranked_on (λ (r : Gathered g.row.K.Denot g.row.R.Denot). r.number) all c.loop-rank.ranks.items i (get_or all i c.index-records-rank.result).number x.0 x.1 (sym number) (let w = c.requires.within i x.0 x.1 in let l = inv.long in omega arith) inv.ranked;
    }

pub returns : goal.returns
returns g c i x at = c.loop-rank.invariant.ranked i x (let w = at_within c.args.records.now i x at in let t = c.loop-rank-test.false in omega arith) at
