use Rattle.std.proofs.Common.{refl, subst}
use Rattle.command_words.specs.declared.command.Command.TheVariants.{Group}
use Rattle.command_words.proofs.CallerLemmas.{one_command}
use Rattle.veech_cli.specs.Owed.{ReadsInput}
use Rattle.veech_cli.specs.Runs.{IsCommand}
use Rattle.veech_cli.proofs.Settling.{named, memory_comes, memory_whole, memory_not_read}
use Rattle.veech_cli.proofs.Taken.{taken_plain, untaken_plain, settles_more, group_named, group_unnamed}
use Rattle.veech_cli.proofs.workers.run_words.Goals as goal

pub returns-in-Ok-Some-clause-outcome : goal.returns-in-Ok-Some-clause-outcome
returns-in-Ok-Some-clause-outcome g c =
    named IsCommand c.args.words.now (Group c.in-Ok-Some.asked.flips c.in-Ok-Some.asked.limit c.in-Ok-Some.asked.workers) (g.S.Source.left c.args.source.now) (g.K.Sink.taken c.args.sink.now) (g.K.Sink.taken c.answer.new.sink) c.answer.result
    (group_named c.args.words.now c.in-Ok-Some.field-0 c.in-Ok-Some.asked c.in-Ok-Some.field-0-is c.in-Ok-Some.ensures.named) tt c.answer.ensures.outcome

pub returns-in-Ok-Some-clause-unread : goal.returns-in-Ok-Some-clause-unread
returns-in-Ok-Some-clause-unread g c = λ none. absurd (none ((Group c.in-Ok-Some.asked.flips c.in-Ok-Some.asked.limit c.in-Ok-Some.asked.workers), (group_named c.args.words.now c.in-Ok-Some.field-0 c.in-Ok-Some.asked c.in-Ok-Some.field-0-is c.in-Ok-Some.ensures.named)))

pub returns-in-Ok-Some-clause-unread_by_number : goal.returns-in-Ok-Some-clause-unread_by_number
returns-in-Ok-Some-clause-unread_by_number g c = λ command names none.
    absurd (none (subst ReadsInput (one_command c.args.words.now (Group c.in-Ok-Some.asked.flips c.in-Ok-Some.asked.limit c.in-Ok-Some.asked.workers) command (group_named c.args.words.now c.in-Ok-Some.field-0 c.in-Ok-Some.asked c.in-Ok-Some.field-0-is c.in-Ok-Some.ensures.named) names) tt))

pub returns-in-Ok-None-clause-outcome : goal.returns-in-Ok-None-clause-outcome
returns-in-Ok-None-clause-outcome g c =
    let own = c.run_plain.ensures.outcome in
    (own.0, own.1, own.2, own.3, settles_more c.args.words.now (group_unnamed c.args.words.now c.in-Ok-None.field-0 c.in-Ok-None.field-0-is c.in-Ok-None.ensures.named) own.0 own.1 own.2 own.4, own.5)

pub returns-in-Ok-None-clause-words : goal.returns-in-Ok-None-clause-words
returns-in-Ok-None-clause-words g c = λ taken. c.run_plain.ensures.words (taken_plain c.args.words.now (group_unnamed c.args.words.now c.in-Ok-None.field-0 c.in-Ok-None.field-0-is c.in-Ok-None.ensures.named) taken)

pub returns-in-Ok-None-clause-unread : goal.returns-in-Ok-None-clause-unread
returns-in-Ok-None-clause-unread g c = λ none. c.run_plain.ensures.unread (untaken_plain c.args.words.now none)

pub returns-in-Err-clause-outcome : goal.returns-in-Err-clause-outcome
returns-in-Err-clause-outcome g c =
    memory_comes IsCommand c.args.words.now (g.S.Source.left c.args.source.now) (g.K.Sink.taken c.args.sink.now) (g.K.Sink.taken c.deliver.new.sink) c.deliver.result c.deliver.ensures.delivered

pub returns-in-Err-clause-unread_by_number : goal.returns-in-Err-clause-unread_by_number
returns-in-Err-clause-unread_by_number g c = λ command names none.
    (refl, memory_not_read _ c.deliver.result (g.K.Sink.taken c.args.sink.now) (g.K.Sink.taken c.deliver.new.sink) c.deliver.ensures.delivered)

pub returns-in-Err-clause-read_whole : goal.returns-in-Err-clause-read_whole
returns-in-Err-clause-read_whole g c = λ command names reads.
    memory_whole _ c.deliver.result (g.K.Sink.taken c.args.sink.now) (g.K.Sink.taken c.deliver.new.sink) c.deliver.ensures.delivered
