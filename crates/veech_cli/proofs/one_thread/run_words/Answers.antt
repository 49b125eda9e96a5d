use Rattle.std.proofs.Common.{refl, subst}
use Rattle.command_words.proofs.CallerLemmas.{one_command}
use Rattle.veech_cli.specs.Owed.{ReadsInput}
use Rattle.veech_cli.specs.Runs.{IsPlainCommand}
use Rattle.veech_cli.proofs.Settling.{named, words_come, words_whole, words_not_done, memory_comes, memory_whole, memory_not_read, found_named, none_taken}
use Rattle.veech_cli.proofs.Taken.{plain_unless_reads, plain_no_group}
use Rattle.veech_cli.proofs.one_thread.run_words.Goals as goal

pub answer-requires : goal.answer-requires
answer-requires g c = (found_named IsPlainCommand c.args.words.now c.in-Ok-Some.field-0 c.in-Ok-Some.command c.in-Ok-Some.field-0-is c.in-Ok-Some.ensures.named).1

pub returns-in-Ok-Some-clause-outcome : goal.returns-in-Ok-Some-clause-outcome
returns-in-Ok-Some-clause-outcome g c =
    let own = found_named IsPlainCommand c.args.words.now c.in-Ok-Some.field-0 c.in-Ok-Some.command c.in-Ok-Some.field-0-is c.in-Ok-Some.ensures.named in
    named IsPlainCommand c.args.words.now c.in-Ok-Some.command (g.S.Source.left c.args.source.now) (g.K.Sink.taken c.args.sink.now) (g.K.Sink.taken c.answer.new.sink) c.answer.result
    own.0 own.1 c.answer.ensures.outcome

pub returns-in-Ok-Some-clause-refused_group : goal.returns-in-Ok-Some-clause-refused_group
returns-in-Ok-Some-clause-refused_group g c = λ group.
    let own = found_named IsPlainCommand c.args.words.now c.in-Ok-Some.field-0 c.in-Ok-Some.command c.in-Ok-Some.field-0-is c.in-Ok-Some.ensures.named in
    absurd (plain_no_group c.args.words.now c.in-Ok-Some.command own.0 own.1 group)

pub returns-in-Ok-Some-clause-unread : goal.returns-in-Ok-Some-clause-unread
returns-in-Ok-Some-clause-unread g c = λ none.
    let own = found_named IsPlainCommand c.args.words.now c.in-Ok-Some.field-0 c.in-Ok-Some.command c.in-Ok-Some.field-0-is c.in-Ok-Some.ensures.named in
    absurd (none (c.in-Ok-Some.command, own.0, own.1))

pub returns-in-Ok-Some-clause-unread_by_number : goal.returns-in-Ok-Some-clause-unread_by_number
returns-in-Ok-Some-clause-unread_by_number g c = λ command names none.
    let own = found_named IsPlainCommand c.args.words.now c.in-Ok-Some.field-0 c.in-Ok-Some.command c.in-Ok-Some.field-0-is c.in-Ok-Some.ensures.named in
    c.answer.ensures.unread (λ reads. none (subst ReadsInput (one_command c.args.words.now c.in-Ok-Some.command command own.0 names) reads))

pub returns-in-Ok-Some-clause-all_read : goal.returns-in-Ok-Some-clause-all_read
returns-in-Ok-Some-clause-all_read g c = λ command names reads.
    let own = found_named IsPlainCommand c.args.words.now c.in-Ok-Some.field-0 c.in-Ok-Some.command c.in-Ok-Some.field-0-is c.in-Ok-Some.ensures.named in
    c.answer.ensures.all_read (subst ReadsInput (one_command c.args.words.now command c.in-Ok-Some.command names own.0) reads)

pub returns-in-Ok-Some-clause-read_whole : goal.returns-in-Ok-Some-clause-read_whole
returns-in-Ok-Some-clause-read_whole g c = λ command names reads.
    let own = found_named IsPlainCommand c.args.words.now c.in-Ok-Some.field-0 c.in-Ok-Some.command c.in-Ok-Some.field-0-is c.in-Ok-Some.ensures.named in
    c.answer.ensures.read_whole (subst ReadsInput (one_command c.args.words.now command c.in-Ok-Some.command names own.0) reads)

pub returns-in-Ok-None-clause-outcome : goal.returns-in-Ok-None-clause-outcome
returns-in-Ok-None-clause-outcome g c =
    words_come IsPlainCommand c.args.words.now (g.S.Source.left c.args.source.now) (g.K.Sink.taken c.args.sink.now) (g.K.Sink.taken c.deliver.new.sink) c.deliver.result
    (none_taken IsPlainCommand c.args.words.now c.in-Ok-None.field-0 c.in-Ok-None.field-0-is c.in-Ok-None.ensures.named) c.deliver.ensures.delivered

pub returns-in-Ok-None-clause-unread_by_number : goal.returns-in-Ok-None-clause-unread_by_number
returns-in-Ok-None-clause-unread_by_number g c = λ command names none.
    absurd (none_taken IsPlainCommand c.args.words.now c.in-Ok-None.field-0 c.in-Ok-None.field-0-is c.in-Ok-None.ensures.named (command, names, plain_unless_reads command none))

pub returns-in-Ok-None-clause-all_read : goal.returns-in-Ok-None-clause-all_read
returns-in-Ok-None-clause-all_read g c = λ command names reads done.
    absurd (words_not_done _ c.deliver.result (g.K.Sink.taken c.args.sink.now) (g.K.Sink.taken c.deliver.new.sink) c.deliver.ensures.delivered done)

pub returns-in-Ok-None-clause-read_whole : goal.returns-in-Ok-None-clause-read_whole
returns-in-Ok-None-clause-read_whole g c = λ command names reads.
    words_whole _ c.deliver.result (g.K.Sink.taken c.args.sink.now) (g.K.Sink.taken c.deliver.new.sink) c.deliver.ensures.delivered

pub returns-in-Err-clause-outcome : goal.returns-in-Err-clause-outcome
returns-in-Err-clause-outcome g c =
    memory_comes IsPlainCommand c.args.words.now (g.S.Source.left c.args.source.now) (g.K.Sink.taken c.args.sink.now) (g.K.Sink.taken c.deliver-in-Err.new.sink) c.deliver-in-Err.result c.deliver-in-Err.ensures.delivered

pub returns-in-Err-clause-unread_by_number : goal.returns-in-Err-clause-unread_by_number
returns-in-Err-clause-unread_by_number g c = λ command names none.
    (refl, memory_not_read _ c.deliver-in-Err.result (g.K.Sink.taken c.args.sink.now) (g.K.Sink.taken c.deliver-in-Err.new.sink) c.deliver-in-Err.ensures.delivered)

pub returns-in-Err-clause-read_whole : goal.returns-in-Err-clause-read_whole
returns-in-Err-clause-read_whole g c = λ command names reads.
    memory_whole _ c.deliver-in-Err.result (g.K.Sink.taken c.args.sink.now) (g.K.Sink.taken c.deliver-in-Err.new.sink) c.deliver-in-Err.ensures.delivered
