use Rattle.std.proofs.Common.{◌∷◌, ◌∙◌, map, string_bytes, ap, sym}
use Rattle.command_words.proofs.FrontLemmas.{apart_value}
use Rattle.command_words.proofs.fronts.apart_words.Goals as goal

pub returns-in-Some : goal.returns-in-Some
returns-in-Some c =
    apart_value c.args.numbers c.as_bytes.result.now (map string_bytes c.args.others.now) (map string_bytes c.in-Some.field-0-1.now)
    (c.is_within.ensures.0 c.if-is_within.true)
    (ap (map string_bytes) c.in-Some.ensures.cases.0 ∙ ap (λ word. word ∷ map string_bytes c.in-Some.field-0-1.now) (sym c.as_bytes.ensures.value))
