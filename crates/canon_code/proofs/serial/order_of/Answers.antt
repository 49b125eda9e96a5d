use Rattle.std.proofs.Common.{◌≡◌, ◌+◌, ◌*◌, ◌/◌, ℕ, List, length, take, drop, sym, ap, ◌∙◌, subst, arith}
use mathlib.Core.Path.{ap₂}
use Rattle.std.specs.Prelude.{unsigned_abs}
use Rattle.std.specs.Ordering.{int_cmp}
use Rattle.std.specs.Cmp.Lexicographic.{slice_cmp}
use Rattle.std.specs.declared.cmp.Ordering.TheVariants.{Less, Equal, Greater}
use Rattle.quad_field.specs.declared.quad.Quad.{Quad}
use Rattle.plane.specs.Vectors.{Vector}
use Rattle.canon_code.specs.Serials.{row}
use Rattle.canon_code.specs.Listed.{written_by, twin_by}
use Rattle.canon_code.proofs.Compared.{BeginsWith, begins_more, differs, none_differs, eleven}
use Rattle.canon_code.proofs.serial.order_of.Goals as goal

pub returns-in-Less : goal.returns-in-Less
returns-in-Less c =
    let halves = c.args.tri.now.halves in
    let places : List ℕ = c.args.tried.now.numbering.places.items in
    let numbers : List ℕ = c.args.tried.now.numbering.numbers.items in
    let list : List Quad = c.args.tried.now.coordinates.list.items in
    let t : ℕ = c.loop-t.t in
    let row_is : c.as_slice.result.now ≡ row (written_by list places) (twin_by halves places numbers) t =
    c.as_slice.ensures ∙ c.row_of-row.ensures ∙ ap (λ (l : List Quad). row (written_by l places) (twin_by halves places numbers) t) c.as_slice-list.ensures.value in
    let is : slice_cmp int_cmp (row (written_by list places) (twin_by halves places numbers) t) (take 11 (drop (2 + 11 * t) c.args.best.now)) ≡ Less =
    ap₂ (slice_cmp int_cmp) (sym row_is) (sym c.row_in.ensures) ∙ sym c.cmp.ensures ∙ c.in-Less.is in
    differs (written_by list places) (twin_by halves places numbers) (length halves / 3) (unsigned_abs c.args.tried.now.coordinates.scale) c.args.best.now t Less
    (omega arith) c.loop-t.invariant (eleven (length halves / 3) t c.args.best.now c.requires.long (omega arith)) is (λ e. cc)

pub returns-in-Greater : goal.returns-in-Greater
returns-in-Greater c =
    let halves = c.args.tri.now.halves in
    let places : List ℕ = c.args.tried.now.numbering.places.items in
    let numbers : List ℕ = c.args.tried.now.numbering.numbers.items in
    let list : List Quad = c.args.tried.now.coordinates.list.items in
    let t : ℕ = c.loop-t.t in
    let row_is : c.as_slice.result.now ≡ row (written_by list places) (twin_by halves places numbers) t =
    c.as_slice.ensures ∙ c.row_of-row.ensures ∙ ap (λ (l : List Quad). row (written_by l places) (twin_by halves places numbers) t) c.as_slice-list.ensures.value in
    let is : slice_cmp int_cmp (row (written_by list places) (twin_by halves places numbers) t) (take 11 (drop (2 + 11 * t) c.args.best.now)) ≡ Greater =
    ap₂ (slice_cmp int_cmp) (sym row_is) (sym c.row_in.ensures) ∙ sym c.cmp.ensures ∙ c.in-Greater.is in
    differs (written_by list places) (twin_by halves places numbers) (length halves / 3) (unsigned_abs c.args.tried.now.coordinates.scale) c.args.best.now t Greater
    (omega arith) c.loop-t.invariant (eleven (length halves / 3) t c.args.best.now c.requires.long (omega arith)) is (λ e. cc)

pub loop-t-preserved : goal.loop-t-preserved
loop-t-preserved c =
    let halves = c.args.tri.now.halves in
    let places : List ℕ = c.args.tried.now.numbering.places.items in
    let numbers : List ℕ = c.args.tried.now.numbering.numbers.items in
    let list : List Quad = c.args.tried.now.coordinates.list.items in
    let t : ℕ = c.loop-t.t in
    let row_is : c.as_slice.result.now ≡ row (written_by list places) (twin_by halves places numbers) t =
    c.as_slice.ensures ∙ c.row_of-row.ensures ∙ ap (λ (l : List Quad). row (written_by l places) (twin_by halves places numbers) t) c.as_slice-list.ensures.value in
    let is : slice_cmp int_cmp (row (written_by list places) (twin_by halves places numbers) t) (take 11 (drop (2 + 11 * t) c.args.best.now)) ≡ Equal =
    ap₂ (slice_cmp int_cmp) (sym row_is) (sym c.row_in.ensures) ∙ sym c.cmp.ensures ∙ c.in-Equal.is in
    begins_more (written_by list places) (twin_by halves places numbers) (length halves / 3) (unsigned_abs c.args.tried.now.coordinates.scale) c.args.best.now t c.loop-t.invariant is

pub returns : goal.returns
returns c =
    let halves = c.args.tri.now.halves in
    let w : ℕ → Vector Quad = written_by c.args.tried.now.coordinates.list.items c.args.tried.now.numbering.places.items in
    let f : ℕ → ℕ = twin_by halves c.args.tried.now.numbering.places.items c.args.tried.now.numbering.numbers.items in
    let last : c.loop-t.t ≡ length halves / 3 = omega arith in
    none_differs w f (length halves / 3) (unsigned_abs c.args.tried.now.coordinates.scale) c.args.best.now c.requires.long
    (subst (BeginsWith w f (length halves / 3) (unsigned_abs c.args.tried.now.coordinates.scale) c.args.best.now) last c.loop-t.invariant)
