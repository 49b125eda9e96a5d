use Rattle.hinge_form.proofs.Chords as chords
use Rattle.hinge_form.proofs.laws.positive_without_chord.Goals as goal

pub returns : goal.returns
returns c = λ d halves h l q field valid below t none point. chords.positive_without_chord d halves h valid below field l t none q point
