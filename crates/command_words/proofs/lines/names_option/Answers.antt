use Rattle.command_words.proofs.GivenLemmas.{named_by}
use Rattle.command_words.proofs.lines.names_option.Goals as goal

pub returns-in-Some : goal.returns-in-Some
returns-in-Some c = named_by c.args.name.now c.args.word.now c.in-Some.tail.now c.ends_name.result c.in-Some.ensures c.ends_name.ensures
