use Rattle.std.proofs.Common.{map, string_bytes}
use Rattle.command_words.proofs.FrontLemmas.{IsLeft}
use Rattle.command_words.proofs.fronts.front_of.Given as goal

-- what is given at the front is one of the options that weren't looked at
abbrev pub invariant-loop-option : goal.invariant-loop-option
invariant-loop-option l = IsLeft l.options (map string_bytes l.words) l.option-index
