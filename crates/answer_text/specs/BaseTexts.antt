-- The text of `base`.
use Rattle.std.specs.Prelude.{ℕ, List, [], ◌∷◌, length, codes}
use Rattle.std.specs.List.{concat, flat_map, range_with_len}
use Rattle.plane.specs.Spelling.{natural_text, vector_text}
use Rattle.tri_core.specs.declared.half.Half.{Half}
use Rattle.tri_core.specs.HalfEdges.{half_at}
use Rattle.surface_text.specs.declared.file.Point.{Point}
use Rattle.surface_text.specs.Spelling.{point_text}

-- a half-edge with its number, its vector and its twin
abbrev pub half_text : ℕ → Half → List ℕ
half_text h half =
    concat (codes "half " ∷ natural_text h ∷ codes " " ∷ vector_text half.vec ∷ codes " " ∷ natural_text half.twin ∷ codes "\n" ∷ [])

-- all half-edges, by their numbers
abbrev pub halves_text : List Half → List ℕ
halves_text halves = flat_map (λ h. half_text h (half_at halves h)) (range_with_len 0 (length halves))

-- what `base` prints of a point, so many flips and the triangulation that they lead to
abbrev pub half_edges_text : Point → ℕ → List Half → List ℕ
half_edges_text at flips halves =
    concat (
    codes "base " ∷ point_text at
    ∷ codes "\nflips " ∷ natural_text flips
    ∷ codes "\n" ∷ halves_text halves
    ∷ codes "end\n" ∷ []
    )
