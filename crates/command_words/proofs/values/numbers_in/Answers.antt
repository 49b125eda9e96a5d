use Rattle.command_words.proofs.ValueLemmas.{number_at, numbers_more}
use Rattle.command_words.proofs.values.numbers_in.Goals as goal

pub number_in-requires : goal.number_in-requires
number_in-requires c =
    let (plain, small, e) = c.requires in
    number_at (λ word. word.now) c.args.words.now plain _ e small c.loop-word.word-index c.loop-word-test.true

pub loop-word-preserved : goal.loop-word-preserved
loop-word-preserved c =
    numbers_more (λ word. word.now) c.args.words.now c.loop-word.word-index _ c.loop-word.numbers.items c.push.new.self.items c.number_in.result
    c.loop-word-test.true c.loop-word.invariant c.number_in.ensures c.in_ok-push.ensures.items
