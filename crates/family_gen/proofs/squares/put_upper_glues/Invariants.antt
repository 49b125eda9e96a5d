use Rattle.std.proofs.Common.{◌≡◌, ◌++◌, map}
use Rattle.std.specs.List.{range_with_len}
use Rattle.family_gen.specs.Tilings.{upper_glue}
use Rattle.family_gen.specs.Tiles.{tiling_of}
use Rattle.family_gen.proofs.squares.put_upper_glues.Given as goal

-- the glue lines so far
abbrev pub invariant-loop-i : goal.invariant-loop-i
invariant-loop-i l = l.glues.items ≡ l.initial.glues.items ++ map (upper_glue (tiling_of l.fn.tiles)) (range_with_len 0 l.i)
