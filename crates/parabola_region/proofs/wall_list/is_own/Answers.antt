use Rattle.std.proofs.Common.{◌∙◌, sym, subst}
use Rattle.std.proofs.lemmas.Bool.{false≢true}
use Rattle.hinge_form.specs.Triples.{of_form, of_place}
use Rattle.hinge_form.specs.Lines.{IsRelated}
use Rattle.parabola_region.specs.HingeLists.{form_at}
use Rattle.rings.proofs.Multiples.{opposite_not_multiple}
use Rattle.quad_field.specs.Quads.{quad_ops}
use Rattle.quad_field.proofs.CallerLemmas.{quad_ring, order_of}
use Rattle.parabola_region.proofs.Stretches.{on}
use Rattle.parabola_region.proofs.Owns.{not_own}
use Rattle.parabola_region.proofs.wall_list.is_own.Goals as goal

pub returns-in-Ok-Opposite-clause-own : goal.returns-in-Ok-Opposite-clause-own
returns-in-Ok-Opposite-clause-own c = (
  λ t. absurd (false≢true t),
  λ own. absurd (opposite_not_multiple (quad_ops c.args.f.now) (quad_ring c.args.f.now) (order_of c.args.f.now c.is_field.ensures) (of_form c.args.line.now) (form_at c.args.forms.now c.args.i) c.requires.line
      (subst (IsRelated c.args.f.now (of_form c.args.line.now) (form_at c.args.forms.now c.args.i)) c.in-Ok-Opposite.field-0-is c.in-Ok-Opposite.ensures.relation) own),
)

pub returns-in-Ok-false-clause-own : goal.returns-in-Ok-false-clause-own
returns-in-Ok-false-clause-own c =
    let start = of_place c.args.start.now in (
      λ t. absurd (false≢true t),
      λ own. absurd (not_own c.args.f.now c.is_field.ensures (of_form c.args.line.now) (form_at c.args.forms.now c.args.i) start
          (on c.args.f.now c.is_field.ensures (of_form c.args.line.now) c.requires.line c.args.forms.now start c.requires.start)
          (λ z. false≢true (sym c.in-Ok-false.field-0-test ∙ c.in-Ok-false.ensures.zero.1 z)) own),
    )
