use Rattle.std.proofs.Common.{rules, ◌≡◌, ◌<◌, ℕ, List, length, get_or, sym, ap, ◌∙◌, subst, arith}
use Rattle.std.specs.Prelude.{ℤ, pos, FitsSigned}
use Rattle.std.specs.Int.{w128}
use Rattle.std.proofs.lemmas.Int.{to_z-of_z}
use Rattle.tri_core.specs.Triangulation.{IsTriangulation}
use Rattle.tri_core.specs.declared.half.Half.{Half}
use Rattle.plane.specs.Matrices.{IsReducedTo}
use Rattle.canon_code.specs.Serials.{IsSerial}
use Rattle.canon_code.specs.Canonical.{frame as frame_at_start}
use Rattle.canon_code.proofs.Framed.{frame_is}
use Rattle.canon_code.proofs.canon.frame_of.Goals as goal

pub scale_number-scale-requires : goal.scale_number-scale-requires
scale_number-scale-requires c =
    let own = c.requires.start.1 in
    subst (λ (l : List ℤ). 1 < length l) (sym c.numbers-numbers.ensures) (omega (arith, ap length own.numbers))

pub returns-clause-frame : goal.returns-clause-frame
returns-clause-frame c =
    let halves : List Half = c.args.tri.now.halves in
    let d : ℕ = c.args.f.now in
    let valid : IsTriangulation d halves = subst (λ n. IsTriangulation n halves) (sym c.requires.field) c.triangles-count.ensures.valid in
    let code : List ℤ = c.args.code.now in
    let own : IsSerial d halves c.args.start code = c.requires.start.1 in
    let scale : c.scale_number-scale.result ≡ pos own.scale =
    c.scale_number-scale.ensures ∙ ap (λ (l : List ℤ). get_or l 1 (pos 0)) (c.numbers-numbers.ensures ∙ own.numbers) in
    let fits : FitsSigned w128 c.scale_number-scale.result = search rules in
    let frame : IsReducedTo (frame_at_start halves c.args.start) (pos own.scale) c.frame_at-frame.result =
    subst (λ (m : ℤ). IsReducedTo (frame_at_start halves c.args.start) m c.frame_at-frame.result) (to_z-of_z w128 c.scale_number-scale.result fits ∙ scale) c.frame_at-frame.ensures in
    frame_is d c.number-number.ensures.valid halves c.args.start code valid c.requires.start.0 own c.frame_at-frame.result frame
