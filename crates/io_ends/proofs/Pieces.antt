-- What is given and taken in pieces, one after another.
use Rattle.std.proofs.Common.{◌≡◌, ℕ, ◌+◌, ◌≤◌, List, [], ◌++◌, length, take, drop, Option, Some, None, IfSome, refl, ap, sym, arith, append_assoc}
use Rattle.std.proofs.Math.Seq.{take-add, drop-append-add}
use Rattle.std.proofs.lemmas.Grind.{common_steps}
use Rattle.std.specs.Io.KnownBytes.{prepend_known}
use Rattle.io_ends.specs.Ends.{given, taken_after}

-- two pieces taken are one
pub taken_after-append : (taken : Option (List ℕ)) (first second : List ℕ) → taken_after (taken_after taken first) second ≡ taken_after taken (first ++ second)
taken_after-append None first second = refl
taken_after-append (Some bytes) first second = ap (λ (whole : List ℕ). Some whole) (append_assoc bytes first second)

-- no bytes taken
pub taken_after-nil : (taken : Option (List ℕ)) → taken_after taken [] ≡ taken
taken_after-nil None = refl
taken_after-nil (Some bytes) = grind (arith, common_steps)

-- a read of n bytes into a buffer splits the bytes that were left
pub read-splits : (n : ℕ) (buf : List ℕ) (old new : Option (List ℕ)) → new ≡ given n old → IfSome old (λ bytes. (n ≤ length bytes) × (take n buf ≡ take n bytes)) → old ≡ prepend_known (take n buf) new
read-splits n buf None new moved front = grind (arith, common_steps)
read-splits n buf (Some bytes) new moved front = grind (arith, common_steps)

-- two pieces given are one
pub prepend_known-append : (first second : List ℕ) (left : Option (List ℕ)) → prepend_known first (prepend_known second left) ≡ prepend_known (first ++ second) left
prepend_known-append first second None = refl
prepend_known-append first second (Some rest) = ap (λ (whole : List ℕ). Some whole) (sym (append_assoc first second rest))

-- what is left after the bytes that were given
pub given-all : (bytes : List ℕ) (old new : Option (List ℕ)) → old ≡ prepend_known bytes new → new ≡ given (length bytes) old
given-all bytes old None split = grind (arith, common_steps)
given-all bytes old (Some rest) split = grind (arith, common_steps)

-- the bytes that were given, and n more
pub given-more : (bytes : List ℕ) (n total : ℕ) (old middle new : Option (List ℕ)) → old ≡ prepend_known bytes middle → new ≡ given n middle → length bytes + n ≡ total → new ≡ given total old
given-more bytes n total old None new split moved sum = grind (arith, common_steps)
given-more bytes n total old (Some rest) new split moved sum = rw (moved, split, ← sum) (ap (λ (left : List ℕ). Some left) (sym (drop-append-add bytes rest n)))

-- the first bytes taken, and n more of the rest
pub taken-more : (bytes rest : List ℕ) (at n : ℕ) (old middle new : Option (List ℕ)) → middle ≡ taken_after old (take at bytes) → new ≡ taken_after middle (take n rest) → rest ≡ drop at bytes → new ≡ taken_after old (take (at + n) bytes)
taken-more bytes rest at n old middle new first second tail = rw (second, first, tail, take-add at n bytes) (taken_after-append old (take at bytes) (take n (drop at bytes)))
