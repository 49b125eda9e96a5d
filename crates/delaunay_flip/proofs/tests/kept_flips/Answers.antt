use Rattle.delaunay_flip.proofs.tests.kept_flips.Goals as goal

pub flip-requires-clause-some : goal.flip-requires-clause-some
flip-requires-clause-some c = (c.in-Some._edge, c.in-Some.ensures.0)
