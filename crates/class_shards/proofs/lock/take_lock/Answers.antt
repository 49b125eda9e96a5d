use Rattle.std.proofs.Common.{◌≡◌, ◌∙◌, Some, length, sym, ap, subst, arith}
use Rattle.terrain.specs.Places.{IsAt}
use Rattle.terrain.proofs.CallerLemmas.{snoc_left, snoc_end}
use Rattle.walls_out.specs.declared.view.View.{View}
use Rattle.walls_out.specs.Views.{keeper_of}
use Rattle.class_shards.specs.Keepers.{number_or_0, keeper_number}
use Rattle.class_shards.proofs.lock.take_lock.Goals as goal

pub start-shard-requires-clause-keeper : goal.start-shard-requires-clause-keeper
start-shard-requires-clause-keeper g c κs within =
    let b = length c.pop.new.self.items in
    let keeper = c.in-Some.keeper in
    let kept = c.requires.keepers b keeper (subst (λ l. IsAt l b keeper) (sym c.in-Some.ensures.items) (snoc_end c.pop.new.self.items keeper)) in
    let number : keeper_number keeper ≡ b = ap (λ (x : View). number_or_0 x.keeper) kept.1 in
    let ok = c.pop.new.self.ok.0 in
    let len = c.in-Some.ensures.len in
    let long = c.requires.len.0 in
    (kept.0, kept.1 ∙ ap (λ (x : View). keeper_of (Some (number_or_0 x.keeper))) (sym kept.1))

pub start-shard-requires-clause-log : goal.start-shard-requires-clause-log
start-shard-requires-clause-log g c κs within =
    let b = length c.pop.new.self.items in
    let keeper = c.in-Some.keeper in
    let kept = c.requires.keepers b keeper (subst (λ l. IsAt l b keeper) (sym c.in-Some.ensures.items) (snoc_end c.pop.new.self.items keeper)) in
    let number : keeper_number keeper ≡ b = ap (λ (x : View). number_or_0 x.keeper) kept.1 in
    let ok = c.pop.new.self.ok.0 in
    let len = c.in-Some.ensures.len in
    let long = c.requires.len.0 in
    let d = length c.pop-2.new.self.items in
    let log = c.in-Some-pop.log in
    let named = c.requires.logs d log (subst (λ l. IsAt l d log) (sym c.in-Some-pop.ensures.items) (snoc_end c.pop-2.new.self.items log)) in
    let ok_log = c.pop-2.new.self.ok.0 in
    let len_log = c.in-Some-pop.ensures.len in
    let long_log = c.requires.len.1 in
    (named.0 ∙ ap g.N.Naming.logs (let same : d ≡ keeper_number keeper = omega arith in same), named.1)

pub invariant_of-new : goal.invariant_of-new
invariant_of-new g c =
    let b = length c.pop.new.self.items in
    let keeper = c.in-Some.keeper in
    let kept = c.requires.keepers b keeper (subst (λ l. IsAt l b keeper) (sym c.in-Some.ensures.items) (snoc_end c.pop.new.self.items keeper)) in
    let number : keeper_number keeper ≡ b = ap (λ (x : View). number_or_0 x.keeper) kept.1 in
    let ok = c.pop.new.self.ok.0 in
    let len = c.in-Some.ensures.len in
    let long = c.requires.len.0 in
    record { is = c.start-shard.ensures.number ∙ number ∙ (omega arith) }

pub returns-clause-keepers : goal.returns-clause-keepers
returns-clause-keepers g c = λ b s at. c.requires.keepers b s (subst (λ l. IsAt l b s) (sym c.in-Some.ensures.items) (snoc_left c.pop.new.self.items b c.in-Some.keeper s at))

pub returns-clause-logs : goal.returns-clause-logs
returns-clause-logs g c = λ b s at. c.requires.logs b s (subst (λ l. IsAt l b s) (sym c.in-Some-pop.ensures.items) (snoc_left c.pop-2.new.self.items b c.in-Some-pop.log s at))
