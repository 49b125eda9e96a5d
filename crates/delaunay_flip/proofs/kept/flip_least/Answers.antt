use Rattle.std.proofs.Common.{refl, subst, sym}
use Rattle.std.proofs.lemmas.Bool.{false≢true}
use Rattle.std.proofs.lemmas.Result.{err_from_is_err_and}
use Rattle.std.specs.Prelude.{Some, None}
use Rattle.quad_field.specs.FieldNumber.{IsFieldNumber}
use Rattle.hinge_form.specs.Hinges.{of_place}
use Rattle.delaunay_flip.specs.Widths.{IsWideEdge}
use Rattle.delaunay_flip.specs.Tables.{IsTableBut, sides_of}
use Rattle.delaunay_flip.proofs.Keepings.{table_least, least_convex, least_fits, least_after, least_edge_after, wide_after, wide_flip}
use Rattle.delaunay_flip.proofs.kept.flip_least.Goals as goal

pub unreachable-requires : goal.unreachable-requires
unreachable-requires c =
    table_least c.args.tri.now.field (of_place c.args.at.now) c.args.tri.now.halves c.args.values.now c.requires.table None c.in_default.ensures c.requires.some.0 c.requires.some.1

pub flip-requires-clause-convex : goal.flip-requires-clause-convex
flip-requires-clause-convex c =
    let d = c.args.tri.now.field in
    let field : IsFieldNumber d = subst IsFieldNumber c.requires.field c.is_valid.ensures.number in
    let least = table_least d (of_place c.args.at.now) c.args.tri.now.halves c.args.values.now c.requires.table (Some c.in-Some.edge) c.in-Some.ensures in
    least_convex d field (of_place c.args.at.now) (c.requires.place d field) c.args.tri.now.halves c.is_valid.ensures.valid c.in-Some.edge least

pub returns-in-Err-clause-wide : goal.returns-in-Err-clause-wide
returns-in-Err-clause-wide c =
    let d = c.args.tri.now.field in
    let field : IsFieldNumber d = subst IsFieldNumber c.requires.field c.is_valid.ensures.number in
    let least = table_least d (of_place c.args.at.now) c.args.tri.now.halves c.args.values.now c.requires.table (Some c.in-Some.edge) c.in-Some.ensures in
    wide_flip d field (of_place c.args.at.now) (c.requires.place d field) c.args.tri.now.halves c.is_valid.ensures.valid c.in-Some.edge least _ c.in-Err.ensures.wide.0
    (λ fits. false≢true (c.in-Err.ensures.fits.1 fits))

pub follow-requires-clause-edge : goal.follow-requires-clause-edge
follow-requires-clause-edge c =
    let d = c.args.tri.now.field in
    let field : IsFieldNumber d = subst IsFieldNumber c.requires.field c.is_valid.ensures.number in
    let least = table_least d (of_place c.args.at.now) c.args.tri.now.halves c.args.values.now c.requires.table (Some c.in-Some.edge) c.in-Some.ensures in
    least_edge_after d field (of_place c.args.at.now) (c.requires.place d field) c.args.tri.now.halves c.is_valid.ensures.valid c.in-Some.edge least c.flip.new.self.halves c.in_default-flip.ensures.flipped.1

pub follow-requires-clause-others : goal.follow-requires-clause-others
follow-requires-clause-others c =
    let d = c.args.tri.now.field in
    let q = of_place c.args.at.now in
    let later = c.flip.new.self.halves in
    let field : IsFieldNumber d = subst IsFieldNumber c.requires.field c.is_valid.ensures.number in
    let least = table_least d q c.args.tri.now.halves c.args.values.now c.requires.table (Some c.in-Some.edge) c.in-Some.ensures in
    subst (λ n. IsTableBut n q later (sides_of later c.in-Some.edge) c.args.values.now) (sym c.in_default-flip.ensures.flipped.0)
    (least_after d field q (c.requires.place d field) c.args.tri.now.halves c.is_valid.ensures.valid c.in-Some.edge least later c.in_default-flip.ensures.flipped.1 c.args.values.now c.requires.table)

pub returns-in_err-follow-clause-wide : goal.returns-in_err-follow-clause-wide
returns-in_err-follow-clause-wide c =
    let d = c.args.tri.now.field in
    let q = of_place c.args.at.now in
    let later = c.flip.new.self.halves in
    let wide = c.in_err-follow.field-0.0 in
    let field : IsFieldNumber d = subst IsFieldNumber c.requires.field c.is_valid.ensures.number in
    let least = table_least d q c.args.tri.now.halves c.args.values.now c.requires.table (Some c.in-Some.edge) c.in-Some.ensures in
    let p = err_from_is_err_and c.from_residual.result c.from_residual.ensures.1 in
    rw (p.1, p.2)
    (wide_after d field q (c.requires.place d field) c.args.tri.now.halves c.is_valid.ensures.valid c.in-Some.edge least later c.in_default-flip.ensures.flipped.1 (c.in_default-flip.ensures.fits.0 refl)
    wide.formula wide.edge (subst (λ n. IsWideEdge n q later wide.formula wide.edge) c.in_default-flip.ensures.flipped.0 c.in_err-follow.ensures.wide))

pub returns-clause-flipped : goal.returns-clause-flipped
returns-clause-flipped c =
    let least = table_least c.args.tri.now.field (of_place c.args.at.now) c.args.tri.now.halves c.args.values.now c.requires.table (Some c.in-Some.edge) c.in-Some.ensures in
    (c.in-Some.edge, least, c.in_default-flip.ensures.flipped.1)

pub returns-clause-diagonal : goal.returns-clause-diagonal
returns-clause-diagonal c =
    let d = c.args.tri.now.field in
    let field : IsFieldNumber d = subst IsFieldNumber c.requires.field c.is_valid.ensures.number in
    let least = table_least d (of_place c.args.at.now) c.args.tri.now.halves c.args.values.now c.requires.table (Some c.in-Some.edge) c.in-Some.ensures in
    least_fits d field (of_place c.args.at.now) (c.requires.place d field) c.args.tri.now.halves c.is_valid.ensures.valid c.in-Some.edge least (c.in_default-flip.ensures.fits.0 refl)
