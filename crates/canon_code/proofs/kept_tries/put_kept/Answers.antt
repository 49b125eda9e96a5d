use Rattle.std.proofs.Common.{rules, ◌≡◌, ◌*◌, ℕ, List, length, sym, ◌∙◌, subst, arith}
use mathlib.Core.Path.{subst₂}
use Rattle.std.specs.Prelude.{ℤ, unsigned_abs, FitsSigned}
use Rattle.std.specs.Int.{w128}
use Rattle.std.proofs.lemmas.Int.{to_z-of_z}
use Rattle.std.proofs.lemmas.List.{with_items_is}
use Rattle.quad_field.specs.declared.quad.Quad.{Quad}
use Rattle.tri_core.specs.Triangulation.{IsTriangulation}
use Rattle.canon_code.specs.declared.kept_frames.KeptFrame.{KeptFrame}
use Rattle.canon_code.specs.declared.kept_frames.KeptFrames.{KeptFrames}
use Rattle.canon_code.specs.Coordinates.{AreCoordinates}
use Rattle.canon_code.specs.Distinct.{AreTaken}
use Rattle.canon_code.specs.KeptFrames.{HaveOneFrame, IsKeptFrame}
use Rattle.canon_code.proofs.KeptFrames.{kept_at, kept_coordinates}
use Rattle.canon_code.proofs.kept_tries.put_kept.Goals as goal

pub returns-in-Some-clause-coordinates : goal.returns-in-Some-clause-coordinates
returns-in-Some-clause-coordinates c =
    let d : ℕ = c.args.f.now in
    let halves = c.args.tri.now.halves in
    let valid : IsTriangulation d halves = subst (λ n. IsTriangulation n halves) (sym c.requires.field) c.triangles-count.ensures.valid in
    let kept : KeptFrames = c.args.kept.now in
    let frame : KeptFrame = c.index.result.now in
    let own : IsKeptFrame d halves kept.distinct.firsts.items kept.scale frame = kept_at d halves kept c.requires.kept c.in-Some.place frame c.in-Some.ensures.within c.index.ensures in
    let same : HaveOneFrame halves frame.start.h c.args.h = subst (λ (k : KeptFrame). HaveOneFrame halves k.start.h c.args.h) (sym c.index.ensures) (c.in-Some.ensures.same frame) in
    let fits : FitsSigned w128 kept.scale = search rules in
    let taken : List Quad = c.take_listed.new.taken in
    let written : length taken ≡ c.args.coordinates.now.list.len = c.take_listed.auto.taken ∙ c.deref_mut.ensures.len in
    let count : 3 * c.triangles-count.result ≡ length halves = omega arith in
    let long : length taken ≡ 2 * length halves = omega arith in
    λ all.
    let found : AreTaken kept.distinct.places.items frame.list.items taken (length halves) =
    subst₂ (λ (p : List ℕ) (l : List Quad). AreTaken p l taken (length halves)) c.as_slice-places.ensures.value c.as_slice-list.ensures.value
    (subst (AreTaken c.as_slice-places.result.now c.as_slice-list.result.now taken) count (c.take_listed.ensures all)) in
    subst₂ (λ (m : ℤ) (l : List Quad). AreCoordinates d halves c.args.h (unsigned_abs m) l) (sym (to_z-of_z w128 kept.scale fits)) (sym (with_items_is c.args.coordinates.now.list taken written))
    (kept_coordinates d c.number-number.ensures.valid halves valid kept c.requires.kept frame own c.args.h c.requires.half same taken long found)
