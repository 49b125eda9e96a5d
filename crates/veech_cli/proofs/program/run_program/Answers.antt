use Rattle.std.proofs.Common.{inl, inr, sym, subst, refl, Some, ◌∙◌}
use Rattle.command_words.specs.Commands.{Names, AreTaken}
use Rattle.veech_cli.specs.Programs.{words_given}
use Rattle.veech_cli.specs.Runs.{IsCommand}
use Rattle.veech_cli.proofs.Numbers.{by_number, owed_by_number, memory_number, known_by_number}
use Rattle.veech_cli.proofs.program.run_program.Goals as goal

pub returns-in-Ok-clause-outcome : goal.returns-in-Ok-clause-outcome
returns-in-Ok-clause-outcome g c =
    inl (by_number IsCommand c.in-Ok.words (words_given c.args.args) (g.S.Source.left c.args.source.now) (g.K.Sink.taken c.args.sink.now) (g.K.Sink.taken c.run-status.new.sink) c.run-status.result _
    c.in-Ok.ensures c.exit_code.ensures c.run-status.ensures.outcome)

pub returns-in-Ok-clause-complete : goal.returns-in-Ok-clause-complete
returns-in-Ok-clause-complete g c = λ command names no_read no_write.
    owed_by_number command (g.S.Source.left c.args.source.now) c.run-status.result _ c.exit_code.ensures
    (c.run-status.ensures.complete command (subst (λ w. Names w command) (sym c.in-Ok.ensures) names) no_read no_write)

pub returns-in-Ok-clause-words : goal.returns-in-Ok-clause-words
returns-in-Ok-clause-words g c = λ taken ends.
    c.run-status.ensures.words (subst AreTaken (sym c.in-Ok.ensures) taken) ((known_by_number c.run-status.result).0 (sym c.exit_code.ensures ∙ ends))

pub returns-in-Ok-clause-read_fault : goal.returns-in-Ok-clause-read_fault
returns-in-Ok-clause-read_fault g c = λ ends. c.run-status.ensures.read_fault ((known_by_number c.run-status.result).1 (sym c.exit_code.ensures ∙ ends))

pub returns-in-Ok-clause-write_fault : goal.returns-in-Ok-clause-write_fault
returns-in-Ok-clause-write_fault g c = λ ends. c.run-status.ensures.write_fault ((known_by_number c.run-status.result).2 (sym c.exit_code.ensures ∙ ends))

pub returns-in-Ok-clause-complete_unread : goal.returns-in-Ok-clause-complete_unread
returns-in-Ok-clause-complete_unread g c = λ command names none no_write input.
    owed_by_number command (Some input) c.run-status.result _ c.exit_code.ensures
    (c.run-status.ensures.complete_unread command (subst (λ w. Names w command) (sym c.in-Ok.ensures) names) none no_write input)

pub returns-in-Ok-clause-unread_by_number : goal.returns-in-Ok-clause-unread_by_number
returns-in-Ok-clause-unread_by_number g c = λ command names none.
    (c.run-status.ensures.unread_by_number command (subst (λ w. Names w command) (sym c.in-Ok.ensures) names) none).0

pub returns-in-Err-clause-outcome : goal.returns-in-Err-clause-outcome
returns-in-Err-clause-outcome g c = inr (c.exit_code-in-Err.ensures, refl, refl)

pub returns-in-Err-clause-complete : goal.returns-in-Err-clause-complete
returns-in-Err-clause-complete g c = λ command names no_read no_write.
    memory_number command (g.S.Source.left c.args.source.now) _ c.exit_code-in-Err.ensures

pub returns-in-Err-clause-complete_unread : goal.returns-in-Err-clause-complete_unread
returns-in-Err-clause-complete_unread g c = λ command names none no_write input.
    memory_number command (Some input) _ c.exit_code-in-Err.ensures
