-- Elements that the code reads.
use Rattle.std.proofs.Common.{◌≡◌, ℕ, ◌<◌, List, length, map, get_or, refl, ap, ◌∙◌, arith}
use Rattle.std.specs.Prelude.{option_map}
use Rattle.std.proofs.lemmas.List.{length-map}
use Rattle.std.proofs.lemmas.Option.{slice_get-map, slice_get_read, slice_get-get_or}
use Rattle.terrain.specs.Places.{IsAt}

pub number_read : (xs : List ℕ) (i : ℕ) → i < length xs → IsAt xs i (get_or xs i 0)
number_read xs i h = slice_get-get_or xs i 0 h

-- what a row that was read shows
pub key_read : {A B : Type 0} (key : A → B) (rows : List A) (i : ℕ) (r : A) → i < length (map key rows) → r ≡ get_or rows i r → IsAt (map key rows) i (key r)
key_read key rows i r h e = slice_get-map key rows i ∙ ap (option_map key) (slice_get_read rows (length rows) i r refl (let l = length-map rows key in omega arith) e)
