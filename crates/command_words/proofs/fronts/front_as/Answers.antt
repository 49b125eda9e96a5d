use Rattle.std.proofs.Common.{[], ◌∷◌, ◌∙◌, map, string_bytes, ap, sym}
use Rattle.command_words.specs.Rows.{option_of}
use Rattle.command_words.proofs.FrontLemmas.{other_name, this_name}
use Rattle.command_words.proofs.fronts.front_as.Goals as goal

pub returns-in-Some-tail_of : goal.returns-in-Some-tail_of
returns-in-Some-tail_of c =
    this_name (option_of c.args.option.now) c.as_str.result.now c.in-Some-tail_of.tail.now (map string_bytes c.in-Some.others.now) (map string_bytes c.args.words.now)
    (ap (map string_bytes) c.in-Some.ensures.cases.0 ∙ ap (λ word. word ∷ map string_bytes c.in-Some.others.now) (sym c.as_str.ensures.value))
    c.value_words.result c.in-Some-tail_of.ensures c.value_words.ensures

pub returns-in-None-tail_of : goal.returns-in-None-tail_of
returns-in-None-tail_of c =
    other_name (option_of c.args.option.now) c.as_str.result.now [] (map string_bytes c.in-Some.others.now) (map string_bytes c.args.words.now)
    (ap (map string_bytes) c.in-Some.ensures.cases.0 ∙ ap (λ word. word ∷ map string_bytes c.in-Some.others.now) (sym c.as_str.ensures.value))
    c.in-None-tail_of.ensures
