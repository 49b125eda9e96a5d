-- What a row of the program's table says, as a row of the grammar.
use Rattle.std.specs.Prelude.{map}
use Rattle.command_words.specs.declared.rows.CommandRow.{CommandRow}
use Rattle.command_words.specs.declared.rows.OptionRow.{OptionRow}
use Rattle.command_words.specs.Lines as lines

-- the option that a row names
abbrev pub option_of : OptionRow → lines.OptionRow
option_of o = record { name = o.name.now; numbers = o.numbers }

-- the row
abbrev pub row_of : CommandRow → lines.CommandRow
row_of r = record { word = r.word.now; options = map option_of r.options.now; plain = r.plain }
