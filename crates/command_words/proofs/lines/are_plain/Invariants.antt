use Rattle.command_words.proofs.LineLemmas.{BelowLater}
use Rattle.command_words.proofs.lines.are_plain.Given as goal

-- the words are below the bound exactly where those from this one on are
abbrev pub invariant-loop-word : goal.invariant-loop-word
invariant-loop-word l = BelowLater l.bounds.below l.words l.word-index
