use Rattle.hinge_form.specs.Triples.{of_form}
use Rattle.quad_field.specs.Quads.{quad}
use Rattle.std.specs.Prelude.{pos}
use Rattle.hinge_form.proofs.Parts.{not_all_zero, parts_reduced}
use Rattle.hinge_form.proofs.reduced.reduced.Goals as goal

pub returns : goal.returns
returns c =
    let l = of_form c.args.form.now in
    let out = c.primitive_part.ensures.taken_out in
    parts_reduced l out.0 c.primitive_part.new.numbers (quad (pos 0) (pos 0)) out.2 (c.primitive_part.ensures.primitive (not_all_zero l c.requires))
