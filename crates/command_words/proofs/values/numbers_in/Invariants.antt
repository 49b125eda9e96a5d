use Rattle.std.proofs.Common.{◌≡◌, map, take}
use Rattle.plane.specs.Spelling.{natural_text}
use Rattle.command_words.proofs.values.numbers_in.Given as goal

-- the numbers of the words before this one
abbrev pub invariant-loop-word : goal.invariant-loop-word
invariant-loop-word l = map (λ word. word.now) (take l.word-index l.fn.words) ≡ map natural_text l.numbers.items
