use Rattle.std.proofs.Common.{◌≡◌, ◌∙◌, ◌+◌, ◌++◌, ◌∷◌, [], length, subst, arith}
use Rattle.std.specs.Fork.{slice_chunk}
use Rattle.std.proofs.lemmas.List.{length-append}
use Rattle.std.proofs.lemmas.Result.{err_from_is_err_and}
use Rattle.std.proofs.lemmas.Iterator.Adapters.{YieldsList-from_vec}
use Rattle.std.proofs.lemmas.Iterator.Consumers.{YieldsList-turn, YieldsList-end}
use Rattle.veech_cli.specs.Turns.{AreTurnsFound}
use Rattle.veech_cli.proofs.JoinedTurns.{lists_none, lists_joined, chunk_found, chunk_refuses, turns_all}
use Rattle.veech_cli.proofs.turns.joined.Goals as goal

pub loop-part-init : goal.loop-part-init
loop-part-init c = λ d codes size all. lists_none (λ v. v.items) d codes size c.new-turns.result.items c.new-turns.ensures.items

pub returns-in_err-found : goal.returns-in_err-found
returns-in_err-found c = λ d codes size all.
    let yielded = c.loop-part.yielded in
    let parts = c.args.parts in
    let gives = c.into_iter-part-iterator.ensures.into_iter_gives in
    let t = YieldsList-turn (YieldsList-from_vec {s = c.into_iter-part-iterator.result} parts.items gives.0 (gives.1 ∙ parts.ok.0)) yielded c.loop-part.part-iterator c.loop-part.yielded_by c.next.result c.next.new.self c.in-Some.part c.in-Some.is c.next.ensures.steps in
    let found = subst (AreTurnsFound d (slice_chunk codes size (length yielded))) c.in_err-found.was (chunk_found d codes size parts.items all (length yielded) c.in-Some.part t) in
    let p = err_from_is_err_and c.from_residual.result c.from_residual.ensures.1 in
    rw (p.1, p.2) (tt, chunk_refuses d codes size (length yielded) c.in_err-found.field-0.0.status found.1)

pub loop-part-preserved : goal.loop-part-preserved
loop-part-preserved c = λ d codes size all.
    let yielded = c.loop-part.yielded in
    let parts = c.args.parts in
    let gives = c.into_iter-part-iterator.ensures.into_iter_gives in
    let t = YieldsList-turn (YieldsList-from_vec {s = c.into_iter-part-iterator.result} parts.items gives.0 (gives.1 ∙ parts.ok.0)) yielded c.loop-part.part-iterator c.loop-part.yielded_by c.next.result c.next.new.self c.in-Some.part c.in-Some.is c.next.ensures.steps in
    let next : length (yielded ++ c.in-Some.part ∷ []) ≡ length yielded + 1 = (let l = length-append yielded (c.in-Some.part ∷ []) in omega arith) in
    let found = subst (AreTurnsFound d (slice_chunk codes size (length yielded))) c.in_ok-found.was (chunk_found d codes size parts.items all (length yielded) c.in-Some.part t) in
    lists_joined (λ v. v.items) d codes size (length yielded) (length (yielded ++ c.in-Some.part ∷ [])) next all.some (all.inside (length yielded) t.0) c.loop-part.turns.items c.in_ok-found.found.items c.append.new.self.items c.in_ok-append.ensures.items
    (c.loop-part.invariant d codes size all) found.0

pub returns : goal.returns
returns c = λ d codes size all.
    let yielded = c.loop-part.yielded in
    let parts = c.args.parts in
    let gives = c.into_iter-part-iterator.ensures.into_iter_gives in
    let e = YieldsList-end (YieldsList-from_vec {s = c.into_iter-part-iterator.result} parts.items gives.0 (gives.1 ∙ parts.ok.0)) yielded c.loop-part.part-iterator c.loop-part.yielded_by c.next.result c.next.new.self c.in-None.is c.next.ensures.steps in
    (turns_all d codes size (length yielded) all.some (e.1 ∙ all.count) _ (c.loop-part.invariant d codes size all), tt)
