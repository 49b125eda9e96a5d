-- The words of a command line.
use Rattle.std.specs.Prelude.{ℕ, List, [], map, drop, string_bytes, Result, Ok, Err, String}
use Rattle.std.specs.declared.io.Error.{Error}
use Rattle.std.specs.declared.vec.IntoIter.{IntoIter}
use Rattle.std.specs.Vec.Iter.{into_iter_items}

-- the words that arguments give: all but the first, the program's name; none where they can't be had as text
abbrev pub words_given : {A : Type 0} → Result (IntoIter (String A) A) Error → List (List ℕ)
words_given (Ok args) = map string_bytes (drop 1 (into_iter_items args))
words_given (Err fault) = []
