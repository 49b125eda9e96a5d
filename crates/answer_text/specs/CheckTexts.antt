-- The text of `check`.
use Rattle.std.specs.Prelude.{ℕ, ◌/◌, nat_lt, List, [], ◌∷◌, ◌++◌, count_by, length, codes}
use Rattle.std.specs.List.{concat, flat_map, range_with_len}
use Rattle.plane.specs.Spelling.{natural_text}
use Rattle.tri_core.specs.declared.half.Half.{Half}
use Rattle.tri_core.specs.HalfEdges.{twin_at}

-- how many edges there are: half-edges that are less than their twin
abbrev pub edge_count : List Half → ℕ
edge_count halves = count_by (λ h. nat_lt h (twin_at halves h)) (range_with_len 0 (length halves))

-- numbers, each with a space before it
abbrev pub numbers_text : List ℕ → List ℕ
numbers_text numbers = flat_map (λ n. codes " " ++ natural_text n) numbers

-- what `check` prints of a triangulation with the turns of its vertices and its genus
abbrev pub counts_text : List Half → List ℕ → ℕ → List ℕ
counts_text halves turns genus =
    concat (
    codes "valid\ntriangles " ∷ natural_text (length halves / 3)
    ∷ codes "\nedges " ∷ natural_text (edge_count halves)
    ∷ codes "\nvertices " ∷ natural_text (length turns)
    ∷ codes "\ngenus " ∷ natural_text genus
    ∷ codes "\ncones" ∷ numbers_text turns
    ∷ codes "\nend\n" ∷ []
    )
