use Rattle.std.proofs.Common.{◌≡◌, ◌∷◌, [], List, sym, ap, subst}
use Rattle.std.specs.Prelude.{ℤ, pos}
use Rattle.std.specs.Arc.{arc_value}
use Rattle.receipt_log.specs.Logs.{place_of}
use Rattle.terrain.specs.Places.{IsAt}
use Rattle.terrain.specs.Rings.{ring_shard}
use Rattle.class_shards.specs.Targets.{target_of}
use Rattle.class_shards.proofs.Ringed.{read_at, one_leads}
use Rattle.class_shards.proofs.tests.fill_back.Goals as goal

pub fill-requires-clause-shard : goal.fill-requires-clause-shard
fill-requires-clause-shard g c κs within =
    let target = c.in-Some.target in
    let found = c.in-Some.ensures.receipt in
    let key : target_of target ≡ pos 0 ∷ [] = read_at _ (place_of target) (pos 0 ∷ []) (subst (λ (l : List (List ℤ)). IsAt l (place_of target) (pos 0 ∷ [])) (sym found.1) found.2) in
    ap ring_shard key

pub fill-requires-clause-leads : goal.fill-requires-clause-leads
fill-requires-clause-leads g c κs within =
    let target = c.in-Some.target in
    let found = c.in-Some.ensures.receipt in
    let key : target_of target ≡ pos 0 ∷ [] = read_at _ (place_of target) (pos 0 ∷ []) (subst (λ (l : List (List ℤ)). IsAt l (place_of target) (pos 0 ∷ [])) (sym found.1) found.2) in
    one_leads _ (pos (arc_value c.args.ticket.key) ∷ []) _ c.args.ticket.wall c.requires.names key
