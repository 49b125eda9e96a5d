use Rattle.std.proofs.Common.{◌<◌, Err, length, sym, ap, subst, arith}
use Rattle.receipt_log.specs.Logs.{seen_by}
use Rattle.terrain.specs.Reach.{AreReachedOnce}
use Rattle.wall_steal.proofs.walls.meet_key.Goals as goal

pub returns-in-Full-clause-cause : goal.returns-in-Full-clause-cause
returns-in-Full-clause-cause g c =
    let t = g.N.Naming.terrain in
    let full = c.in-Err.ensures.full c.in-Full.receipt c.in-Err._key c.in-Err._seat (ap (λ n. Err (n, c.in-Err._key, c.in-Err._seat)) c.in-Full.is) in
    subst (λ r. (g.N.Naming.limit < length (seen_by r)) × AreReachedOnce (g.T.Terrain.has_walls t) (g.T.Terrain.leads t) g.N.Naming.root (seen_by r)) (sym c.of-in-Full.ensures) ((let l = full.1 in omega arith), full.2)
