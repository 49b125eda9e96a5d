use Rattle.veech_cli.proofs.Taken.{found_group}
use Rattle.veech_cli.proofs.one_thread.read_plain_command.Goals as goal

pub returns-in-Some-Group-clause-named : goal.returns-in-Some-Group-clause-named
returns-in-Some-Group-clause-named c =
    found_group c.args.words.now c.in_ok-found.found c.in-Some-Group.field-0 c.in-Some-Group.field-0-0 c.in-Some-Group.field-0-1 c.in-Some-Group.field-0-2 c.in-Some-Group.is c.in-Some-Group.field-0-is
    c.in_ok-found.ensures.named
