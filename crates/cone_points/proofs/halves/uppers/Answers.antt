use Rattle.std.proofs.Common.{◌≡◌, ℕ, ◌+◌, ◌<◌, ◌∷◌, [], ◌++◌, false, get_or, length, sym, subst, ap, ◌∙◌, arith}
use Rattle.std.specs.Prelude.{◌↔◌, IsTrue}
use Rattle.std.proofs.lemmas.Option.{get_or_from_slice_get}
use Rattle.std.proofs.lemmas.List.{length-append}
use Rattle.plane.specs.Vectors.{vector}
use Rattle.tri_core.specs.HalfEdges.{half_at, vector_at, no_half}
use Rattle.plane.specs.Halves.{IsUpper}
use Rattle.cone_points.specs.Walks.{TellsUpper}
use Rattle.cone_points.proofs.Uppers.{tells_more}
use Rattle.cone_points.proofs.halves.uppers.Goals as goal

pub loop-h-preserved : goal.loop-h-preserved
loop-h-preserved c =
    let w = c.loop-h.invariant in
    let items : c.push.new.self.items ≡ c.loop-h.uppers.items ++ c.is_upper.result ∷ [] = c.in_ok-push.ensures.items in
    let half : half_at c.args.tri.now.halves c.loop-h.h ≡ c.half-half.result.now = get_or_from_slice_get c.args.tri.now.halves c.loop-h.h c.half-half.result.now no_half c.half-half.ensures in
    let upper : IsTrue c.is_upper.result ↔ IsUpper c.args.f.now (vector_at c.args.tri.now.halves c.loop-h.h) =
    subst (λ x. IsTrue c.is_upper.result ↔ IsUpper c.args.f.now (vector x.vec)) (sym half) c.is_upper.ensures in
    record {
      as_many = ap length items ∙ length-append c.loop-h.uppers.items (c.is_upper.result ∷ []) ∙ omega (arith, w.as_many);
      tells = subst (λ list. (k : ℕ) → k < c.loop-h.h + 1 → IsTrue (get_or list k false) ↔ IsUpper c.args.f.now (vector_at c.args.tri.now.halves k)) (sym items)
          (tells_more (λ k. IsUpper c.args.f.now (vector_at c.args.tri.now.halves k)) c.loop-h.uppers.items c.loop-h.h c.is_upper.result w.as_many w.tells upper);
    }

pub returns : goal.returns
returns c =
    let w = c.loop-h.invariant in
    let count : c.loop-h.h ≡ length c.args.tri.now.halves = omega (arith, c.loop-h.auto.h-end, c.loop-h-test.false, c.triangles-h-end.ensures.count) in
    subst (λ d. TellsUpper d c.args.tri.now.halves c.loop-h.uppers.items) c.requires
    (record { as_many = w.as_many ∙ count; tells = λ k below. w.tells k (omega (arith, below, count)) })
