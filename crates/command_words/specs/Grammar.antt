-- The grammar of words, a row a command.
use Rattle.std.specs.Prelude.{codes, [], ◌∷◌, Some, None}
use Rattle.command_words.specs.Lines.{OptionRow, CommandRow}
use Rattle.command_words.specs.declared.rows.PlainBounds.{PlainBounds}

-- the flips of a point: from 1 to 1,000,000, and 100,000 unless given
abbrev pub flips_option : OptionRow
flips_option = record { name = codes "flips"; numbers = Some (record { least = 1; most = 1000000; unless_given = 100000 }) }

-- the classes that may be reached: from 1 to 2048, and 1024 unless given
abbrev pub limit_option : OptionRow
limit_option = record { name = codes "limit"; numbers = Some (record { least = 1; most = 2048; unless_given = 1024 }) }

-- the workers that share the exploration: from 1 to 16, and 4 unless given
abbrev pub workers_option : OptionRow
workers_option = record { name = codes "workers"; numbers = Some (record { least = 1; most = 16; unless_given = 4 }) }

-- a flag: the summary in place of the report
abbrev pub summary_option : OptionRow
summary_option = record { name = codes "summary"; numbers = None }

-- no plain values
abbrev pub no_plain : PlainBounds
no_plain = record { fewest = 0; most = 0; below = 0 }

-- the number of a surface: one number below 200
abbrev pub one_number : PlainBounds
one_number = record { fewest = 1; most = 1; below = 200 }

-- `check`
abbrev pub check_row : CommandRow
check_row = record { word = codes "check"; options = []; plain = no_plain }

-- `base [--flips N]`
abbrev pub base_row : CommandRow
base_row = record { word = codes "base"; options = flips_option ∷ []; plain = no_plain }

-- `region [--flips N]`
abbrev pub region_row : CommandRow
region_row = record { word = codes "region"; options = flips_option ∷ []; plain = no_plain }

-- `path [--flips N] [CHOICE]...`
abbrev pub path_row : CommandRow
path_row = record { word = codes "path"; options = flips_option ∷ []; plain = record { fewest = 0; most = 4096; below = 1000 } }

-- `plain [--flips N] [--limit K] [--summary]`
abbrev pub plain_row : CommandRow
plain_row = record { word = codes "plain"; options = flips_option ∷ limit_option ∷ summary_option ∷ []; plain = no_plain }

-- `group [--flips N] [--limit K] [--workers W]`
abbrev pub group_row : CommandRow
group_row = record { word = codes "group"; options = flips_option ∷ limit_option ∷ workers_option ∷ []; plain = no_plain }

-- `make N`
abbrev pub make_row : CommandRow
make_row = record { word = codes "make"; options = []; plain = one_number }

-- `trial [--flips N] [--limit K] N`
abbrev pub trial_row : CommandRow
trial_row = record { word = codes "trial"; options = flips_option ∷ limit_option ∷ []; plain = one_number }
