use Rattle.command_words.specs.declared.command.Command.TheVariants.{Group}
use Rattle.veech_cli.proofs.Settling.{refusal_out, refusal_whole, refusal_comes}
use Rattle.veech_cli.proofs.workers.answer.Goals as goal

pub returns-in-Err-clause-outcome : goal.returns-in-Err-clause-outcome
returns-in-Err-clause-outcome g c =
    refusal_comes (Group c.args.asked.now.flips c.args.asked.now.limit c.args.asked.now.workers) (g.S.Source.left c.args.source.now) (g.K.Sink.taken c.args.sink.now) (g.K.Sink.taken c.refuse.new.sink) c.in-Err.refusal.status
    c.refuse.ensures.delivered.0 c.refuse.result c.in-Err.ensures.refused c.refuse.ensures.delivered.1 c.refuse.ensures.delivered.2

pub returns-in-Err-clause-read_whole : goal.returns-in-Err-clause-read_whole
returns-in-Err-clause-read_whole g c =
    refusal_whole c.in-Err.refusal.status c.refuse.result c.in-Err.ensures.read_whole
    (refusal_out c.in-Err.refusal.status c.refuse.ensures.delivered.0 _ c.refuse.result (g.K.Sink.taken c.args.sink.now) (g.K.Sink.taken c.refuse.new.sink) c.refuse.ensures.delivered.1 c.refuse.ensures.delivered.2)
