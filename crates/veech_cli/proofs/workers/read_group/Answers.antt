use Rattle.veech_cli.proofs.Taken.{found_asked, found_none}
use Rattle.veech_cli.proofs.workers.read_group.Goals as goal

pub returns-in-Some-clause-named : goal.returns-in-Some-clause-named
returns-in-Some-clause-named c =
    found_asked c.args.words.now c.in_ok-command.field-0 c.in-Some.command c.asked_of.result c.in-Some.is c.in_ok-command.ensures.named c.asked_of.ensures

pub returns-in-None-clause-named : goal.returns-in-None-clause-named
returns-in-None-clause-named c = found_none c.args.words.now c.in_ok-command.field-0 c.in-None.is c.in_ok-command.ensures.named
