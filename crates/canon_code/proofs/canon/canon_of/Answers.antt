use Rattle.std.proofs.Common.{rules, ◌≡◌, ◌<◌, ℕ, List, length, get_or, sym, ap, ◌∙◌, subst, arith}
use Rattle.std.specs.Prelude.{ℤ, pos, FitsSigned, Some}
use Rattle.std.specs.Int.{w128}
use Rattle.std.proofs.lemmas.Int.{to_z-of_z}
use Rattle.std.proofs.lemmas.List.{get_or_read}
use Rattle.std.proofs.lemmas.Option.{slice_get-get_or}
use Rattle.tri_core.specs.Images.{IsImageBy, CarriesFrame}
use Rattle.canon_code.specs.Canonical.{canonical, frame as frame_of, IsMade}
use Rattle.plane.specs.Matrices.{IsReducedTo}
use Rattle.canon_code.proofs.Framed.{frame_is, image_is}
use Rattle.tri_core.specs.Triangulation.{IsTriangulation}
use Rattle.canon_code.specs.Serials.{IsSerial}
use Rattle.canon_code.specs.Codes.{IsCode}
use Rattle.canon_code.proofs.canon.canon_of.Goals as goal

pub index-start-requires : goal.index-start-requires
index-start-requires c =
    let code : IsCode c.args.f.now c.args.tri.now.halves c.in-Ok.best.serial.items = c.in-Ok.ensures.code in
    let some = c.in-Ok.ensures.starts.all code.start (code.inside, code.serial) in
    omega (arith, some.1)

pub frame_at-frame-requires-clause-half : goal.frame_at-frame-requires-clause-half
frame_at-frame-requires-clause-half c =
    let starts : List ℕ = c.in-Ok.best.starts.items in
    let code : IsCode c.args.f.now c.args.tri.now.halves c.in-Ok.best.serial.items = c.in-Ok.ensures.code in
    let some = c.in-Ok.ensures.starts.all code.start (code.inside, code.serial) in
    let is : c.index-start.result.now ≡ get_or starts 0 0 = get_or_read starts 0 c.index-start.result.now (omega (arith, some.1)) c.index-start.ensures 0 in
    subst (λ n. n < length c.args.tri.now.halves) (sym is) (c.in-Ok.ensures.starts.each 0 (omega (arith, some.1))).0

pub returns-clause-start : goal.returns-clause-start
returns-clause-start c =
    let starts : List ℕ = c.in-Ok.best.starts.items in
    let code : IsCode c.args.f.now c.args.tri.now.halves c.in-Ok.best.serial.items = c.in-Ok.ensures.code in
    let some = c.in-Ok.ensures.starts.all code.start (code.inside, code.serial) in
    let positive : 0 < length starts = omega (arith, some.1) in
    slice_get-get_or starts 0 0 positive ∙ ap Some (sym (get_or_read starts 0 c.index-start.result.now positive c.index-start.ensures 0))

pub returns-clause-frame : goal.returns-clause-frame
returns-clause-frame c =
    let halves = c.args.tri.now.halves in
    let d : ℕ = c.args.f.now in
    let valid : IsTriangulation d halves = subst (λ n. IsTriangulation n halves) (sym c.requires) c.triangles-count.ensures.valid in
    let field = c.number-number.ensures.valid in
    let serial : List ℤ = c.in-Ok.best.serial.items in
    let starts : List ℕ = c.in-Ok.best.starts.items in
    let code : IsCode d halves serial = c.in-Ok.ensures.code in
    let some = c.in-Ok.ensures.starts.all code.start (code.inside, code.serial) in
    let positive : 0 < length starts = omega (arith, some.1) in
    let is : c.index-start.result.now ≡ get_or starts 0 0 = get_or_read starts 0 c.index-start.result.now positive c.index-start.ensures 0 in
    let first = c.in-Ok.ensures.starts.each 0 positive in
    let inside : c.index-start.result.now < length halves = subst (λ n. n < length halves) (sym is) first.0 in
    let own : IsSerial d halves c.index-start.result.now serial = subst (λ n. IsSerial d halves n serial) (sym is) first.1 in
    let long : 1 < length serial = omega (arith, ap length own.numbers) in
    let scale : c.index.result.now ≡ pos own.scale = get_or_read serial 1 c.index.result.now long c.index.ensures (pos 0) ∙ ap (λ l. get_or l 1 (pos 0)) own.numbers in
    let fits : FitsSigned w128 c.index.result.now = search rules in
    let frame : IsReducedTo (frame_of halves c.index-start.result.now) (pos own.scale) c.frame_at-frame.result =
    subst (λ m. IsReducedTo (frame_of halves c.index-start.result.now) m c.frame_at-frame.result) (to_z-of_z w128 c.index.result.now fits ∙ scale) c.frame_at-frame.ensures in
    subst (λ (l : List ℤ). CarriesFrame d c.frame_at-frame.result.rows c.frame_at-frame.result.denominator (canonical d l) 0 halves c.index-start.result.now) (sym c.new.ensures)
    (frame_is d field halves c.index-start.result.now serial valid inside own c.frame_at-frame.result frame)

pub returns-clause-image : goal.returns-clause-image
returns-clause-image c =
    let halves = c.args.tri.now.halves in
    let d : ℕ = c.args.f.now in
    let valid : IsTriangulation d halves = subst (λ n. IsTriangulation n halves) (sym c.requires) c.triangles-count.ensures.valid in
    let field = c.number-number.ensures.valid in
    let serial : List ℤ = c.in-Ok.best.serial.items in
    let starts : List ℕ = c.in-Ok.best.starts.items in
    let code : IsCode d halves serial = c.in-Ok.ensures.code in
    let some = c.in-Ok.ensures.starts.all code.start (code.inside, code.serial) in
    let positive : 0 < length starts = omega (arith, some.1) in
    let is : c.index-start.result.now ≡ get_or starts 0 0 = get_or_read starts 0 c.index-start.result.now positive c.index-start.ensures 0 in
    let first = c.in-Ok.ensures.starts.each 0 positive in
    let inside : c.index-start.result.now < length halves = subst (λ n. n < length halves) (sym is) first.0 in
    let own : IsSerial d halves c.index-start.result.now serial = subst (λ n. IsSerial d halves n serial) (sym is) first.1 in
    let long : 1 < length serial = omega (arith, ap length own.numbers) in
    let scale : c.index.result.now ≡ pos own.scale = get_or_read serial 1 c.index.result.now long c.index.ensures (pos 0) ∙ ap (λ l. get_or l 1 (pos 0)) own.numbers in
    let fits : FitsSigned w128 c.index.result.now = search rules in
    let frame : IsReducedTo (frame_of halves c.index-start.result.now) (pos own.scale) c.frame_at-frame.result =
    subst (λ m. IsReducedTo (frame_of halves c.index-start.result.now) m c.frame_at-frame.result) (to_z-of_z w128 c.index.result.now fits ∙ scale) c.frame_at-frame.ensures in
    subst (λ (l : List ℤ). IsImageBy d c.frame_at-frame.result.rows c.frame_at-frame.result.denominator (canonical d l) halves) (sym c.new.ensures)
    (image_is d field halves c.index-start.result.now serial valid inside own c.frame_at-frame.result frame)

pub returns-clause-made : goal.returns-clause-made
returns-clause-made c =
    let halves = c.args.tri.now.halves in
    let d : ℕ = c.args.f.now in
    let valid : IsTriangulation d halves = subst (λ n. IsTriangulation n halves) (sym c.requires) c.triangles-count.ensures.valid in
    subst (IsMade d) (sym c.new.ensures) (halves, valid, c.in-Ok.ensures.code, c.in-Ok.ensures.thirds)
