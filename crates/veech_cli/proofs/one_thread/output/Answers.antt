use Rattle.veech_cli.proofs.Settling.{make_owed, trial_owed, trial_refused}
use Rattle.veech_cli.proofs.one_thread.output.Goals as goal

pub returns-in_ok-text-in-Make-clause-owed : goal.returns-in_ok-text-in-Make-clause-owed
returns-in_ok-text-in-Make-clause-owed c =
    make_owed c.args.command c.in-Make.number c.number-in-Make.result c.args.input.now c.in_ok-text-in-Make.text.items c.in-Make.is c.number-in-Make.ensures.same c.number-in-Make.ensures.low
    c.in_ok-text-in-Make.ensures

pub returns-in-Trial-clause-owed : goal.returns-in-Trial-clause-owed
returns-in-Trial-clause-owed c =
    trial_owed c.args.command c.in-Trial.flips c.in-Trial.limit c.in-Trial.number c.number-in-Trial.result c.number-in-Trial-2.result c.args.input.now c.in-Trial.is c.number-in-Trial.ensures.same c.number-in-Trial-2.ensures.same
    (λ text. text.items) c.trial.result c.trial.ensures.owed

pub returns-in-Trial-clause-refused : goal.returns-in-Trial-clause-refused
returns-in-Trial-clause-refused c =
    trial_refused c.args.command c.in-Trial.flips c.in-Trial.limit c.in-Trial.number c.number-in-Trial.result c.number-in-Trial-2.result c.args.input.now c.in-Trial.is c.number-in-Trial.ensures.same c.number-in-Trial-2.ensures.same
    c.trial.result c.trial.ensures.refused
