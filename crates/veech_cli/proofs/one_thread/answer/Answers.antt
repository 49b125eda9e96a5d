use Rattle.answer_text.specs.declared.status.Status.TheVariants.{ReadFault}
use Rattle.veech_cli.proofs.Settling.{refusal_out, refusal_whole, refusal_read, refusal_comes, output_not}
use Rattle.veech_cli.proofs.one_thread.answer.Goals as goal

pub returns-in-Ok-clause-unread : goal.returns-in-Ok-clause-unread
returns-in-Ok-clause-unread g c = λ none. (
  c.settle.ensures.unread none,
  output_not _ c.deliver.result ReadFault (g.K.Sink.taken c.args.sink.now) (g.K.Sink.taken c.deliver.new.sink) (λ e. cc) (λ e. cc) c.deliver.ensures.delivered,
)

pub returns-in-Err-clause-outcome : goal.returns-in-Err-clause-outcome
returns-in-Err-clause-outcome g c =
    refusal_comes c.args.command (g.S.Source.left c.args.source.now) (g.K.Sink.taken c.args.sink.now) (g.K.Sink.taken c.refuse.new.sink) c.in-Err.refusal.status
    c.refuse.ensures.delivered.0 c.refuse.result c.in-Err.ensures.refused c.refuse.ensures.delivered.1 c.refuse.ensures.delivered.2

pub returns-in-Err-clause-unread : goal.returns-in-Err-clause-unread
returns-in-Err-clause-unread g c = λ none. (
  c.settle.ensures.unread none,
  λ e.
      c.in-Err.ensures.blameless none
      (refusal_read c.in-Err.refusal.status c.refuse.result
      (refusal_out c.in-Err.refusal.status c.refuse.ensures.delivered.0 _ c.refuse.result (g.K.Sink.taken c.args.sink.now) (g.K.Sink.taken c.refuse.new.sink) c.refuse.ensures.delivered.1 c.refuse.ensures.delivered.2) e),
)

pub returns-in-Err-clause-read_whole : goal.returns-in-Err-clause-read_whole
returns-in-Err-clause-read_whole g c = λ reads.
    refusal_whole c.in-Err.refusal.status c.refuse.result (c.in-Err.ensures.read_whole reads)
    (refusal_out c.in-Err.refusal.status c.refuse.ensures.delivered.0 _ c.refuse.result (g.K.Sink.taken c.args.sink.now) (g.K.Sink.taken c.refuse.new.sink) c.refuse.ensures.delivered.1 c.refuse.ensures.delivered.2)
