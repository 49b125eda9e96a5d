use Rattle.std.specs.Prelude.{ℤ, unsigned_abs, FitsSigned}
use Prim.Native.Nat.{◌∣◌}
use Rattle.std.specs.Int.{w128}
use Rattle.std.proofs.lemmas.Int.{to_z-of_z}
use Rattle.std.proofs.Common.{rules, to_z, ◌≡◌, ℕ, sym, ap, ◌∙◌, subst, arith}
use Rattle.quad_field.specs.declared.quad.Quad.{Quad}
use Rattle.plane.specs.Vectors.{Vector, vector}
use Rattle.tri_core.specs.HalfEdges.{vector_at}
use Rattle.tri_core.specs.Triangulation.{IsTriangulation}
use Rattle.canon_code.specs.WholeFrames.{numbers_at, IsDivisorOf}
use Rattle.canon_code.proofs.Coordinated.{vec_read}
use Rattle.canon_code.proofs.WholeFrames.{divisor_first, divisor_more}
use Rattle.canon_code.proofs.whole.divisor_of.Goals as goal

pub loop-k-init : goal.loop-k-init
loop-k-init c =
    let fits : FitsSigned w128 c.args.frame.now.norm = search rules in
    subst (IsDivisorOf c.args.f.now c.args.tri.now.halves c.args.h c.args.frame.now.norm) (sym (to_z-of_z w128 c.args.frame.now.norm fits))
    (divisor_first c.args.f.now c.args.tri.now.halves c.args.h c.args.frame.now.norm c.requires.positive)

pub loop-k-preserved : goal.loop-k-preserved
loop-k-preserved c =
    let halves = c.args.tri.now.halves in
    let d : ℕ = c.args.f.now in
    let valid : IsTriangulation d halves = subst (λ n. IsTriangulation n halves) (sym c.requires.field) c.triangles-count.ensures.valid in
    let read : vector c.half.result.now.vec ≡ vector_at halves c.loop-k.k = ap vector (vec_read halves c.loop-k.k c.half.result.now c.half.ensures) in
    let now : ℤ = to_z w128 c.loop-k.divisor-bits in
    let later : ℤ = c.common-divisor.result in
    let later_fits : FitsSigned w128 later = search rules in
    subst (IsDivisorOf d halves c.args.h c.args.frame.now.norm) (sym (to_z-of_z w128 later later_fits))
    (divisor_more d c.number-number.ensures.valid halves c.args.h valid c.requires.half c.args.frame.now c.requires.frame c.loop-k.k (omega arith) c.in-Ok.x c.in-Ok.y
    (c.in-Ok.ensures.first ∙ ap (λ (v : Vector Quad). (numbers_at d c.args.frame.now v).0) read)
    (c.in-Ok.ensures.second ∙ ap (λ (v : Vector Quad). (numbers_at d c.args.frame.now v).1) read)
    now later c.loop-k.invariant c.common-divisor.ensures.positive c.common-divisor.ensures.divides c.common-divisor.ensures.within)

pub quotient-requires-clause-divides : goal.quotient-requires-clause-divides
quotient-requires-clause-divides c =
    let fits : FitsSigned w128 c.args.frame.now.norm = search rules in
    subst (λ n. unsigned_abs (to_z w128 c.loop-k.divisor-bits) ∣ unsigned_abs n) (sym (to_z-of_z w128 c.args.frame.now.norm fits)) c.loop-k.invariant.divides
