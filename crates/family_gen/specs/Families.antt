-- The surface file of a number.
use Rattle.std.specs.Prelude.{ℕ, zero, suc, ◌+◌, ◌/◌, ◌%◌}
use Rattle.surface_text.specs.Spelling.{Content}
use Rattle.family_gen.specs.Tilings.{row, ell, staircase, tiling_file}
use Rattle.family_gen.specs.Octagons.{octagon_file}

-- the file of kind k and size j: a row, an L, a staircase, or an octagon
abbrev pub file_of : ℕ → ℕ → Content
file_of zero j = tiling_file (row j)
file_of (suc zero) j = tiling_file (ell j)
file_of (suc (suc zero)) j = tiling_file (staircase j)
file_of (suc (suc (suc k))) j = octagon_file (j + 1)

-- the file of the number 4·j + k
abbrev pub family_of : ℕ → Content
family_of n = file_of (n % 4) (n / 4)
