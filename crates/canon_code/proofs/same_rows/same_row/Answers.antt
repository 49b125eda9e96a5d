use Rattle.std.proofs.Common.{◌≡◌, ◌+◌, ◌*◌, ◌<◌, ◌∙◌, ℕ, List, length, ap, subst, arith}
use Rattle.std.specs.Prelude.{ℤ, pos}
use Rattle.std.proofs.lemmas.List.{get_or_read}
use Rattle.quad_field.specs.declared.quad.Quad.{Quad}
use Rattle.canon_code.specs.Canonical.{vector_from}
use Rattle.canon_code.specs.Coordinates.{pair_at}
use Rattle.canon_code.specs.Numbered.{entry}
use Rattle.canon_code.proofs.RowsSame.{row_from}
use Rattle.canon_code.proofs.same_rows.same_row.Goals as goal

pub returns-then-same_vectors : goal.returns-then-same_vectors
returns-then-same_vectors c = λ own d start are.
    let halves = c.args.tri.now.halves in
    let places : List ℕ = c.args.numbering.now.places.items in
    let numbers : List ℕ = c.args.numbering.now.numbers.items in
    let shown : List ℕ = c.args.places.now in
    let list : List Quad = c.args.list.now in
    let r : List ℤ = c.args.row.now in
    let t : ℕ = c.args.t in
    let one : c.index-first.result.now ≡ entry places (3 * t) = get_or_read places (3 * t) c.index-first.result.now (omega (arith, c.requires.reached)) c.index-first.ensures 0 in
    let two : c.index-second.result.now ≡ entry places (3 * t + 1) = get_or_read places (3 * t + 1) c.index-second.result.now (omega (arith, c.requires.reached)) c.index-second.ensures 0 in
    row_from d halves start shown list are c.requires.numbering.0 places numbers c.requires.numbering.1 t c.requires.reached r c.requires.long
    (subst (λ k. 2 * entry shown k + 1 < length list) one (c.same_vectors.ensures.listed c.if-same_vectors.true))
    (subst (λ k. pair_at list (entry shown k) ≡ vector_from r 0) one (c.same_vectors.ensures.same c.if-same_vectors.true))
    (subst (λ k. 2 * entry shown k + 1 < length list) two (c.same_vectors.ensures.listed_too c.if-same_vectors.true))
    (subst (λ k. pair_at list (entry shown k) ≡ vector_from r 4) two (c.same_vectors.ensures.same_too c.if-same_vectors.true))
    (c.same_twins.ensures.first own ∙ ap (λ twins. pos (entry twins 0)) c.requires.twins) (c.same_twins.ensures.second own ∙ ap (λ twins. pos (entry twins 1)) c.requires.twins)
    (c.same_twins.ensures.third own ∙ ap (λ twins. pos (entry twins 2)) c.requires.twins)
