use Rattle.std.proofs.Common.{◌≤◌, refl, subst}
use Rattle.plane.specs.Vectors.{vector}
use Rattle.hinge_form.proofs.SmallHinges.{small_fits}
use Rattle.hinge_form.proofs.RootHinges.{rooted_fits}
use Rattle.hinge_form.proofs.triples.triple_of.Goals as goal

pub returns-then-have_small-clause-fits : goal.returns-then-have_small-clause-fits
returns-then-have_small-clause-fits c =
    let small = c.if-have_small.ensures.0 refl in
    ((λ _. small_fits c.args.f.now (vector c.args.a.now) (vector c.args.c.now) (vector c.args.d.now) small.0 small.1 small.2), λ _. refl)

pub returns-then-have_small_parts-clause-fits : goal.returns-then-have_small_parts-clause-fits
returns-then-have_small_parts-clause-fits c =
    let small = c.if-have_small_parts.ensures.0 refl in
    let field = subst (λ n. n ≤ 1000) c.number.ensures.number small.0 in
    ((λ _. rooted_fits c.args.f.now (vector c.args.a.now) (vector c.args.c.now) (vector c.args.d.now) field small.1 small.2 small.3), λ _. refl)
