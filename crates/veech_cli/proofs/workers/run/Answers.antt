use Rattle.std.specs.Prelude.{◌≡◌, false, true}
use Rattle.answer_text.specs.declared.status.Status.TheVariants.{ReadFault}
use Rattle.command_words.specs.declared.command.Command.TheVariants.{Check, Make}
use Rattle.veech_cli.specs.Runs.{IsCommand}
use Rattle.veech_cli.proofs.Settling.{complete, complete_unread, accepted, makes, comes_named}
use Rattle.veech_cli.proofs.Closed.{headline, group_headline, trial_headline, made_text}
use Rattle.veech_cli.proofs.workers.run.Goals as goal

pub returns-clause-headline : goal.returns-clause-headline
returns-clause-headline g c = λ flips limit workers names done.
    group_headline IsCommand c.args.words.now (g.K.Sink.taken c.args.sink.now) (g.K.Sink.taken c.run_words.new.sink) c.run_words.result done c.reports_are_closed.ensures.plain
    (g.S.Source.left c.args.source.now) c.run_words.ensures.outcome flips limit workers names

pub returns-clause-headline_plain : goal.returns-clause-headline_plain
returns-clause-headline_plain g c = λ flips limit names done.
    headline IsCommand c.args.words.now (g.K.Sink.taken c.args.sink.now) (g.K.Sink.taken c.run_words.new.sink) c.run_words.result done c.reports_are_closed.ensures.plain
    (g.S.Source.left c.args.source.now) c.run_words.ensures.outcome flips limit false names

pub returns-clause-summary : goal.returns-clause-summary
returns-clause-summary g c = λ flips limit names done.
    headline IsCommand c.args.words.now (g.K.Sink.taken c.args.sink.now) (g.K.Sink.taken c.run_words.new.sink) c.run_words.result done c.reports_are_closed.ensures.plain
    (g.S.Source.left c.args.source.now) c.run_words.ensures.outcome flips limit true names

pub returns-clause-trial : goal.returns-clause-trial
returns-clause-trial g c = λ flips limit number names done.
    trial_headline IsCommand c.args.words.now (g.K.Sink.taken c.args.sink.now) (g.K.Sink.taken c.run_words.new.sink) c.run_words.result done c.reports_are_closed.ensures.trial
    (g.S.Source.left c.args.source.now) c.run_words.ensures.outcome flips limit number names

pub returns-clause-made : goal.returns-clause-made
returns-clause-made g c = λ number names done.
    made_text IsCommand c.args.words.now (g.K.Sink.taken c.args.sink.now) (g.K.Sink.taken c.run_words.new.sink) c.run_words.result done
    (g.S.Source.left c.args.source.now) c.run_words.ensures.outcome number names

pub returns-clause-complete : goal.returns-clause-complete
returns-clause-complete g c = λ command names no_read no_write.
    complete c.run_words.result (g.K.Sink.taken c.args.sink.now) (g.K.Sink.taken c.run_words.new.sink) _ _ c.run_words.ensures.read_fault c.run_words.ensures.write_fault no_read no_write command (g.S.Source.left c.args.source.now)
    (comes_named IsCommand c.args.words.now command (g.S.Source.left c.args.source.now) (g.K.Sink.taken c.args.sink.now) (g.K.Sink.taken c.run_words.new.sink) c.run_words.result names tt c.run_words.ensures.outcome)

pub returns-clause-accepted : goal.returns-clause-accepted
returns-clause-accepted g c = λ names no_read no_write.
    accepted c.run_words.result (g.K.Sink.taken c.args.sink.now) (g.K.Sink.taken c.run_words.new.sink) _ _ c.run_words.ensures.read_fault c.run_words.ensures.write_fault no_read no_write (g.S.Source.left c.args.source.now)
    (comes_named IsCommand c.args.words.now Check (g.S.Source.left c.args.source.now) (g.K.Sink.taken c.args.sink.now) (g.K.Sink.taken c.run_words.new.sink) c.run_words.result names tt c.run_words.ensures.outcome)

pub returns-clause-complete_unread : goal.returns-clause-complete_unread
returns-clause-complete_unread g c = λ command names none no_write.
    complete_unread c.run_words.result (g.K.Sink.taken c.args.sink.now) (g.K.Sink.taken c.run_words.new.sink) (c.run_words.result ≡ ReadFault) _ (λ e. e) c.run_words.ensures.write_fault
    (c.run_words.ensures.unread_by_number command names none).1 no_write command (g.S.Source.left c.args.source.now) none
    (comes_named IsCommand c.args.words.now command (g.S.Source.left c.args.source.now) (g.K.Sink.taken c.args.sink.now) (g.K.Sink.taken c.run_words.new.sink) c.run_words.result names tt c.run_words.ensures.outcome)

pub returns-clause-makes : goal.returns-clause-makes
returns-clause-makes g c = λ number names no_write.
    makes c.run_words.result (g.K.Sink.taken c.args.sink.now) (g.K.Sink.taken c.run_words.new.sink) (c.run_words.result ≡ ReadFault) _ (λ e. e) c.run_words.ensures.write_fault
    (c.run_words.ensures.unread_by_number (Make number) names (λ reads. reads)).1 no_write number (g.S.Source.left c.args.source.now)
    (comes_named IsCommand c.args.words.now (Make number) (g.S.Source.left c.args.source.now) (g.K.Sink.taken c.args.sink.now) (g.K.Sink.taken c.run_words.new.sink) c.run_words.result names tt c.run_words.ensures.outcome)
