use Rattle.std.specs.Prelude.{◌≡◌, ◌++◌, map, drop, string_bytes}
use Rattle.std.specs.Vec.Iter.{into_iter_items, into_iter_len}
use Rattle.veech_cli.proofs.program.words_after_name.Given as goal

-- the words so far, and those that are still to come
abbrev pub invariant-loop-word : goal.invariant-loop-word
invariant-loop-word l = l.words ++ map string_bytes (into_iter_items l.args) ≡ map string_bytes (drop 1 (into_iter_items l.fn.args))

abbrev pub decreases-loop-word : goal.decreases-loop-word
decreases-loop-word l = into_iter_len l.args
