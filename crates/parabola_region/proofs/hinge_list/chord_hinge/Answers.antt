use Rattle.std.proofs.Common.{◌∙◌, ℕ, sym, subst}
use Rattle.std.proofs.lemmas.Bool.{false≢true}
use Rattle.quad_field.specs.FieldNumber.{IsFieldNumber}
use Rattle.hinge_form.specs.Triples.{of_form}
use Rattle.hinge_form.specs.Lines.{HasChord}
use Rattle.hinge_form.proofs.CallerLemmas.{positive_without_chord}
use Rattle.parabola_region.proofs.hinge_list.chord_hinge.Goals as goal

pub returns-in-Ok-false-clause-added : goal.returns-in-Ok-false-clause-added
returns-in-Ok-false-clause-added c edge =
    positive_without_chord c.args.tri.now.field c.args.tri.now.halves c.args.h c.is_valid.ensures.valid edge.0 (subst IsFieldNumber c.requires.field c.is_valid.ensures.number)
    (of_form c.in-Ok.form) c.in-Ok.ensures.triple
    (subst (λ (d : ℕ). ¬ (HasChord d (of_form c.in-Ok.form))) c.requires.field (λ chord. false≢true (sym c.in-Ok-false.field-0-test ∙ c.in-Ok-false.ensures.chord.1 chord)))
