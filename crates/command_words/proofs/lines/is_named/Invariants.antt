use Rattle.command_words.proofs.LineLemmas.{NamesLater}
use Rattle.command_words.proofs.lines.is_named.Given as goal

-- none of the words before this one names the option
abbrev pub invariant-loop-word : goal.invariant-loop-word
invariant-loop-word l = NamesLater l.name l.words l.word-index
