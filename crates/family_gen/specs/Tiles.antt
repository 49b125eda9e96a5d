-- For private contracts alone: the tilings in memory.
use Rattle.std.specs.Prelude.{◌<◌}
use Rattle.family_gen.specs.declared.tiles.Tiles.{Tiles}
use Rattle.family_gen.specs.declared.tiles.Tiles.TheVariants.{Row, Ell, Staircase}
use Rattle.family_gen.specs.Tilings.{Tiling, row, ell, staircase}

-- the tiling that it is
abbrev pub tiling_of : Tiles → Tiling
tiling_of (Row j) = row j
tiling_of (Ell j) = ell j
tiling_of (Staircase j) = staircase j

-- its size is below 50
abbrev pub IsSmall : Tiles → Type 0
IsSmall (Row j) = j < 50
IsSmall (Ell j) = j < 50
IsSmall (Staircase j) = j < 50
