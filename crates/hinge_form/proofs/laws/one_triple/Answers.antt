use Rattle.hinge_form.proofs.CallerLemmas as lemmas
use Rattle.hinge_form.proofs.laws.one_triple.Goals as goal

pub returns : goal.returns
returns c = record {
  only = λ d halves h l m field valid below t other. lemmas.one_triple d field halves valid h below l m t other;
  twin = λ d halves h l field valid below t. lemmas.triple_of_twin d field halves valid h below l t;
}
