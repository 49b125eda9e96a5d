use Rattle.std.proofs.Common.{◌≡◌, ap, subst}
use Rattle.std.specs.Prelude.{IfOk, IfSome, IfNone}
use Rattle.quad_field.specs.declared.quad.Quad.{Quad}
use Rattle.plane.specs.Vectors.{Vector, vector}
use Rattle.tri_core.specs.HalfEdges.{vector_at}
use Rattle.canon_code.specs.WholeFrames.{IsWhole, IsNotWhole}
use Rattle.canon_code.proofs.Coordinated.{vec_read}
use Rattle.canon_code.proofs.whole.pair_of.Goals as goal

pub returns-in-Some-clause-whole : goal.returns-in-Some-clause-whole
returns-in-Some-clause-whole c =
    let halves = c.args.tri.now.halves in
    let start = c.args.start.now in
    subst (IsWhole c.args.f.now start.frame start.divisor (vector_at halves c.args.half)) c.in-Some.ensures.value (c.requires.listed.whole c.args.half c.requires.half c.in-Some.ensures.inside)

pub returns-in-None-clause-whole : goal.returns-in-None-clause-whole
returns-in-None-clause-whole c =
    let halves = c.args.tri.now.halves in
    let start = c.args.start.now in
    let read : vector c.half.result.now.vec ≡ vector_at halves c.args.half = ap vector (vec_read halves c.args.half c.half.result.now c.half.ensures) in
    subst (λ (v : Vector Quad). IfOk c.pair_over.result (λ o. IfSome o (λ w. IsWhole c.args.f.now start.frame start.divisor v (w.0, w.1)))) read c.pair_over.ensures.whole

pub returns-in-None-clause-none : goal.returns-in-None-clause-none
returns-in-None-clause-none c =
    let halves = c.args.tri.now.halves in
    let start = c.args.start.now in
    let read : vector c.half.result.now.vec ≡ vector_at halves c.args.half = ap vector (vec_read halves c.args.half c.half.result.now c.half.ensures) in
    subst (λ (v : Vector Quad). IfOk c.pair_over.result (λ o. IfNone o (IsNotWhole c.args.f.now start.frame start.divisor v))) read c.pair_over.ensures.none
