use Rattle.std.proofs.Common.{[], ◌∷◌, codes, sym, arith}
use Rattle.std.proofs.lemmas.Result.{MatchResult-weaker}
use Rattle.surface_text.specs.Spelling.{Line}
use Rattle.surface_text.proofs.Openings.{same_word}
use Rattle.surface_text.proofs.Bodies.{line_joined, field_bad}
use Rattle.surface_text.proofs.lines.field_in.Goals as goal

pub returns : goal.returns
returns c =
    let word = c.front.result.0.now in
    let same = same_word c.ne.result word c.as_slice.result.now (codes "field") c.ne.ensures c.if-ne.false c.as_slice.ensures in
    MatchResult-weaker c.field_of.result c.field_of.ensures
    (λ d is. (line_joined c.front.ensures (Line.field d) same is.0, is.1))
    (λ cause bad. field_bad (Line.flat ∷ []) c.args.line.now word c.front.result.1.now
    record { some = λ e. absurd cc; printed = c.requires; front = c.front.ensures; stands = (0, omega arith, sym same); is = same } cause bad)
