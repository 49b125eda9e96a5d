use Rattle.std.proofs.Common.{◌≡◌, ◌∙◌, [], List, Err, sym, ap, subst, inl, arith}
use Rattle.std.specs.Prelude.{ℤ}
use Rattle.std.specs.Arc.{arc_value}
use Rattle.std.proofs.lemmas.Option.{get_or_from_slice_get}
use Rattle.std.proofs.lemmas.Result.{err_from_is_err_and}
use Rattle.terrain.specs.declared.graph.ExploreFault.TheVariants.{Fault}
use Rattle.terrain.specs.Reach.{IsReached}
use Rattle.terrain.proofs.CallerLemmas.{root_reached}
use Rattle.receipt_log.specs.Logs.{seen_by, place_of}
use Rattle.explore_shared.proofs.Ends.{err_is}
use Rattle.explore_shared.proofs.root.enter_root.Goals as goal

pub returns-in_err-key-clause-fault : goal.returns-in_err-key-clause-fault
returns-in_err-key-clause-fault g c key fault e =
    let t = g.N.Naming.terrain in
    let numbers = g.T.Key.Numbers.numbers in
    let root = g.N.Naming.root in
    let Walls = g.T.Terrain.has_walls t in
    let Leads = g.T.Terrain.leads t in
    let p = err_from_is_err_and c.from_residual.result c.from_residual.ensures.1 in
    let f = err_is c.from_residual.result p.0 c.in_err-key.field-0.0 (Fault key fault) p.1 p.2 e in
    let s = c.in_err-key.ensures.fault key fault (ap (λ x. Err x) f) in
    let same : numbers key ≡ root = ap numbers s.0 ∙ c.requires.root in
    let stuck : g.T.Terrain.is_stuck t (numbers key) fault = subst (λ (x : List ℤ). g.T.Terrain.is_stuck x (numbers key) fault) c.requires.terrain (subst (λ (x : List ℤ). g.T.Terrain.is_stuck (g.T.Numbers.numbers c.args.terrain.now) x fault) (c.requires.root ∙ sym same) s.1) in
    (subst (IsReached Walls Leads root) (sym same) (root_reached Walls Leads root), ∣ inl stuck ∣₁)

pub meet-requires-clause-reached : goal.meet-requires-clause-reached
meet-requires-clause-reached g c κs within =
    let t = g.N.Naming.terrain in
    let numbers = g.T.Key.Numbers.numbers in
    let root = g.N.Naming.root in
    let Walls = g.T.Terrain.has_walls t in
    let Leads = g.T.Terrain.leads t in
    subst (IsReached Walls Leads root) (sym (ap numbers c.in_ok-key.ensures.key ∙ c.requires.root)) (root_reached Walls Leads root)

pub returns-in-Ok-clause-receipt : goal.returns-in-Ok-clause-receipt
returns-in-Ok-clause-receipt g c =
    let numbers = g.T.Key.Numbers.numbers in
    let same : numbers (arc_value c.in_ok-key.key) ≡ g.N.Naming.root = ap numbers c.in_ok-key.ensures.key ∙ c.requires.root in
    let r = c.in-Ok.ensures.receipt in
    let receipt = c.in-Ok.met.receipt in
    (r.0 ∙ ap (λ (k : List ℤ). g.N.Naming.logs (g.T.Terrain.shard k)) same, get_or_from_slice_get (seen_by receipt) (place_of receipt) (numbers (arc_value c.in_ok-key.key)) [] r.1 ∙ same)

pub returns-in-Err-Full-default-default-clause-limit : goal.returns-in-Err-Full-default-default-clause-limit
returns-in-Err-Full-default-default-clause-limit g c e =
    let no = c.in-Err-Full-default-default in
    let is = no.is in
    let full = no.field-0-0-is in
    let f = c.meet.ensures.full no.field-0-0-0 no._key no._seat (cc) in
    let limit = c.requires.limit in
    (seen_by no.field-0-0-0, (let l = f.1 in omega arith), f.2)
