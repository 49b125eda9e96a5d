use Rattle.command_words.proofs.CommandLemmas as commands
use Rattle.command_words.proofs.laws.one_command.Goals as goal

pub returns : goal.returns
returns c words one other names also = commands.one_command words one other names also
