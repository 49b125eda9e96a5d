use Rattle.std.proofs.Common.{◌≡◌, map, take}
use Rattle.clap.specs.Simple.{app_of}
use Rattle.command_words.specs.Rows.{option_of}
use Rattle.command_words.specs.Parsers.{option_rule, parser_with}
use Rattle.command_words.proofs.parsing.parser_for.Given as goal

-- the arguments of the options so far
abbrev pub invariant-loop-option : goal.invariant-loop-option
invariant-loop-option l = app_of l.parser ≡ parser_with l.row.word.now (map option_rule (map option_of (take l.option-index l.row.options.now)))
