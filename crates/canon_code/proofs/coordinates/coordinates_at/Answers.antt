use Rattle.std.proofs.Common.{rules, ◌≡◌, ℕ, List, length, subst, sym, ◌∙◌}
use mathlib.Core.Path.{ap₂, subst₂}
use Rattle.std.specs.Prelude.{ℤ, pos, neg_ℤ, ◌<ℤ◌, ◌⊎◌, unsigned_abs, FitsSigned}
use Rattle.std.specs.Int.{w128}
use Rattle.std.proofs.lemmas.Int.{to_z-of_z}
use Rattle.std.proofs.lemmas.List.{with_items_is}
use Rattle.quad_field.specs.declared.quad.Quad.{Quad}
use Rattle.quad_field.specs.Quads.{quad, quad_ops, conjugate_of}
use Rattle.tri_core.specs.HalfEdges.{half_at, next_of}
use Rattle.plane.specs.declared.vec2.Vec2.{Vec2}
use Rattle.plane.specs.Vectors.{vector, det}
use Rattle.canon_code.specs.Coordinates.{AreCoordinates, IsReduced, HasWideNegative}
use Rattle.quad_field.specs.Width.{FitsI128}
use Rattle.tri_core.specs.Triangulation.{IsTriangulation}
use Rattle.canon_code.specs.FrameWidth.{FrameFits}
use Rattle.canon_code.specs.declared.fault.CanonFault.TheVariants.{Wide}
use Rattle.canon_code.proofs.Results.{if_err, not_ok}
use Rattle.canon_code.proofs.Coordinated.{vec_read, wide_norm, wide_number, wide_negative, norm_positive, are_coordinates}
use Rattle.canon_code.proofs.coordinates.coordinates_at.Goals as goal

pub returns-in_err-frame-clause-wide : goal.returns-in_err-frame-clause-wide
returns-in_err-frame-clause-wide c =
    let halves = c.args.tri.now.halves in
    let is_e : c.half.result.now.vec ≡ (half_at halves c.args.h).vec = vec_read halves c.args.h c.half.result.now c.half.ensures in
    let is_g : c.half-2.result.now.vec ≡ (half_at halves (next_of c.args.h)).vec =
    subst (λ n. c.half-2.result.now.vec ≡ (half_at halves n).vec) c.next.ensures (vec_read halves c.next.result c.half-2.result.now c.half-2.ensures) in
    if_err c.from_residual.result (λ fault. fault ≡ Wide → ¬ (FrameFits c.args.f.now halves c.args.h))
    (λ fault _. wide_norm c.args.f.now halves c.args.h c.half.result.now.vec c.half-2.result.now.vec is_e is_g
    (λ fits. not_ok c.frame_of.result c.in_err-frame.was (c.frame_of.ensures.fits.1 fits)))

pub returns-in-Err-clause-wide : goal.returns-in-Err-clause-wide
returns-in-Err-clause-wide c =
    let halves = c.args.tri.now.halves in
    let d : ℕ = c.args.f.now in
    let frame = c.in_ok-frame.frame in
    let is_e : frame.e ≡ (half_at halves c.args.h).vec = c.in_ok-frame.ensures.e ∙ vec_read halves c.args.h c.half.result.now c.half.ensures in
    let is_g : frame.g ≡ (half_at halves (next_of c.args.h)).vec =
    c.in_ok-frame.ensures.g ∙ subst (λ n. c.half-2.result.now.vec ≡ (half_at halves n).vec) c.next.ensures (vec_read halves c.next.result c.half-2.result.now c.half-2.ensures) in
    let valid : IsTriangulation d halves = subst (λ n. IsTriangulation n halves) (sym c.requires.field) c.triangles-count.ensures.valid in
    let field = c.number-number.ensures.valid in
    let is_conj : frame.conjugate ≡ conjugate_of (det (quad_ops d) (vector frame.e) (vector frame.g)) =
    c.in_ok-frame.ensures.conjugate ∙ ap₂ (λ (x y : Vec2). conjugate_of (det (quad_ops d) (vector x) (vector y))) (sym c.in_ok-frame.ensures.e) (sym c.in_ok-frame.ensures.g) in
    let is_norm : quad frame.norm (pos 0) ≡ (quad_ops d).mul (det (quad_ops d) (vector frame.e) (vector frame.g)) frame.conjugate =
    c.in_ok-frame.ensures.norm ∙ ap₂ (λ (x y : Vec2). (quad_ops d).mul (det (quad_ops d) (vector x) (vector y)) frame.conjugate) (sym c.in_ok-frame.ensures.e) (sym c.in_ok-frame.ensures.g) in
    λ wide. wide_number d field halves c.args.h valid c.requires.half frame.e frame.g is_e is_g frame.conjugate frame.norm is_conj is_norm (c.in-Err.ensures.wide wide)

pub reduced-requires : goal.reduced-requires
reduced-requires c =
    let halves = c.args.tri.now.halves in
    let d : ℕ = c.args.f.now in
    let frame = c.in_ok-frame.frame in
    let is_e : frame.e ≡ (half_at halves c.args.h).vec = c.in_ok-frame.ensures.e ∙ vec_read halves c.args.h c.half.result.now c.half.ensures in
    let is_g : frame.g ≡ (half_at halves (next_of c.args.h)).vec =
    c.in_ok-frame.ensures.g ∙ subst (λ n. c.half-2.result.now.vec ≡ (half_at halves n).vec) c.next.ensures (vec_read halves c.next.result c.half-2.result.now c.half-2.ensures) in
    let valid : IsTriangulation d halves = subst (λ n. IsTriangulation n halves) (sym c.requires.field) c.triangles-count.ensures.valid in
    let field = c.number-number.ensures.valid in
    let is_conj : frame.conjugate ≡ conjugate_of (det (quad_ops d) (vector frame.e) (vector frame.g)) =
    c.in_ok-frame.ensures.conjugate ∙ ap₂ (λ (x y : Vec2). conjugate_of (det (quad_ops d) (vector x) (vector y))) (sym c.in_ok-frame.ensures.e) (sym c.in_ok-frame.ensures.g) in
    let is_norm : quad frame.norm (pos 0) ≡ (quad_ops d).mul (det (quad_ops d) (vector frame.e) (vector frame.g)) frame.conjugate =
    c.in_ok-frame.ensures.norm ∙ ap₂ (λ (x y : Vec2). (quad_ops d).mul (det (quad_ops d) (vector x) (vector y)) frame.conjugate) (sym c.in_ok-frame.ensures.e) (sym c.in_ok-frame.ensures.g) in
    let norm_fits : FitsSigned w128 frame.norm = search rules in
    subst (λ n. pos 0 <ℤ pos (unsigned_abs n)) (sym (to_z-of_z w128 frame.norm norm_fits))
    (norm_positive d field halves c.args.h valid c.requires.half frame.e frame.g is_e is_g frame.conjugate frame.norm is_conj is_norm)

pub returns-in_err-scale-clause-wide : goal.returns-in_err-scale-clause-wide
returns-in_err-scale-clause-wide c =
    let halves = c.args.tri.now.halves in
    let d : ℕ = c.args.f.now in
    let frame = c.in_ok-frame.frame in
    let is_e : frame.e ≡ (half_at halves c.args.h).vec = c.in_ok-frame.ensures.e ∙ vec_read halves c.args.h c.half.result.now c.half.ensures in
    let is_g : frame.g ≡ (half_at halves (next_of c.args.h)).vec =
    c.in_ok-frame.ensures.g ∙ subst (λ n. c.half-2.result.now.vec ≡ (half_at halves n).vec) c.next.ensures (vec_read halves c.next.result c.half-2.result.now c.half-2.ensures) in
    let valid : IsTriangulation d halves = subst (λ n. IsTriangulation n halves) (sym c.requires.field) c.triangles-count.ensures.valid in
    let field = c.number-number.ensures.valid in
    let is_conj : frame.conjugate ≡ conjugate_of (det (quad_ops d) (vector frame.e) (vector frame.g)) =
    c.in_ok-frame.ensures.conjugate ∙ ap₂ (λ (x y : Vec2). conjugate_of (det (quad_ops d) (vector x) (vector y))) (sym c.in_ok-frame.ensures.e) (sym c.in_ok-frame.ensures.g) in
    let is_norm : quad frame.norm (pos 0) ≡ (quad_ops d).mul (det (quad_ops d) (vector frame.e) (vector frame.g)) frame.conjugate =
    c.in_ok-frame.ensures.norm ∙ ap₂ (λ (x y : Vec2). (quad_ops d).mul (det (quad_ops d) (vector x) (vector y)) frame.conjugate) (sym c.in_ok-frame.ensures.e) (sym c.in_ok-frame.ensures.g) in
    if_err c.from_residual-in_err-scale.result (λ fault. fault ≡ Wide → ¬ (FrameFits d halves c.args.h))
    (λ fault _. wide_negative d field halves c.args.h valid c.requires.half frame.e frame.g is_e is_g frame.conjugate frame.norm is_conj is_norm c.in-Ok.list.items c.in-Ok.ensures.numbers
    (subst₂ (λ (n : ℤ) (l : List Quad). (n <ℤ pos 0) × (¬ (FitsI128 (neg_ℤ n)) ⊎ HasWideNegative d l)) (to_z-of_z w128 frame.norm (let k : FitsSigned w128 frame.norm = search rules in k)) c.deref_mut.ensures.value c.in_err-scale.ensures.wide))

pub returns-clause-coordinates : goal.returns-clause-coordinates
returns-clause-coordinates c =
    let halves = c.args.tri.now.halves in
    let d : ℕ = c.args.f.now in
    let frame = c.in_ok-frame.frame in
    let is_e : frame.e ≡ (half_at halves c.args.h).vec = c.in_ok-frame.ensures.e ∙ vec_read halves c.args.h c.half.result.now c.half.ensures in
    let is_g : frame.g ≡ (half_at halves (next_of c.args.h)).vec =
    c.in_ok-frame.ensures.g ∙ subst (λ n. c.half-2.result.now.vec ≡ (half_at halves n).vec) c.next.ensures (vec_read halves c.next.result c.half-2.result.now c.half-2.ensures) in
    let valid : IsTriangulation d halves = subst (λ n. IsTriangulation n halves) (sym c.requires.field) c.triangles-count.ensures.valid in
    let field = c.number-number.ensures.valid in
    let is_conj : frame.conjugate ≡ conjugate_of (det (quad_ops d) (vector frame.e) (vector frame.g)) =
    c.in_ok-frame.ensures.conjugate ∙ ap₂ (λ (x y : Vec2). conjugate_of (det (quad_ops d) (vector x) (vector y))) (sym c.in_ok-frame.ensures.e) (sym c.in_ok-frame.ensures.g) in
    let is_norm : quad frame.norm (pos 0) ≡ (quad_ops d).mul (det (quad_ops d) (vector frame.e) (vector frame.g)) frame.conjugate =
    c.in_ok-frame.ensures.norm ∙ ap₂ (λ (x y : Vec2). (quad_ops d).mul (det (quad_ops d) (vector x) (vector y)) frame.conjugate) (sym c.in_ok-frame.ensures.e) (sym c.in_ok-frame.ensures.g) in
    let norm_fits : FitsSigned w128 frame.norm = search rules in
    let scale_fits : FitsSigned w128 c.in_ok-scale.scale = search rules in
    let r : IsReduced d frame.norm c.in-Ok.list.items c.in_ok-scale.scale c.reduced.new.list =
    subst₂ (λ (n : ℤ) (l : List Quad). IsReduced d n l c.in_ok-scale.scale c.reduced.new.list) (to_z-of_z w128 frame.norm norm_fits) c.deref_mut.ensures.value c.in_ok-scale.ensures.reduced in
    let long : length c.reduced.new.list ≡ c.in-Ok.list.len = c.reduced.auto.list ∙ c.deref_mut.ensures.len in
    subst₂ (λ (m : ℤ) (l : List Quad). AreCoordinates d halves c.args.h (unsigned_abs m) l) (sym (to_z-of_z w128 c.in_ok-scale.scale scale_fits)) (sym (with_items_is c.in-Ok.list c.reduced.new.list long))
    (are_coordinates d field halves c.args.h valid c.requires.half frame.e frame.g is_e is_g frame.conjugate frame.norm is_conj is_norm c.in-Ok.list.items c.reduced.new.list c.in_ok-scale.scale c.in-Ok.ensures.numbers r)
