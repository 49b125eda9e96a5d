use Rattle.std.specs.Prelude.{IsOk}
use Rattle.plane.specs.Vectors.{vector}
use Rattle.hinge_form.specs.Hinges.{hinge_a, hinge_c, hinge_d}
use Rattle.hinge_form.proofs.Widths.{fits_named}
use Rattle.hinge_form.proofs.hinges.full.Goals as goal

pub returns-clause-fits : goal.returns-clause-fits
returns-clause-fits c =
    let tri = c.args.tri.now in
    let h = c.args.h in
    fits_named (IsOk c.triple_of.result) c.args.f.now tri.field (vector c.side.result) (vector c.corner.result) (vector c.far_corner.result)
    (hinge_a tri.halves h) (hinge_c tri.field tri.halves h) (hinge_d tri.halves h) c.requires.field c.side.ensures c.corner.ensures c.far_corner.ensures c.triple_of.ensures.fits
