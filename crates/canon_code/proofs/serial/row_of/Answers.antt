use Rattle.std.proofs.Common.{◌≡◌, ◌+◌, ◌*◌, ◌<◌, ◌∷◌, [], ℕ, List, length, sym, ap, ◌∙◌, subst, arith}
use mathlib.Core.Path.{ap₂}
use Rattle.std.specs.Prelude.{pos}
use Rattle.std.specs.Int.{w128}
use Rattle.std.proofs.lemmas.Int.{to_z-of_z}
use Rattle.std.proofs.lemmas.List.{get_or_read}
use Rattle.quad_field.specs.declared.quad.Quad.{Quad}
use Rattle.plane.specs.Vectors.{Vector}
use Rattle.tri_core.specs.HalfEdges.{twin_at}
use Rattle.canon_code.specs.Numbered.{entry}
use Rattle.canon_code.specs.Coordinates.{pair_at}
use Rattle.canon_code.proofs.serial.row_of.Goals as goal

pub twin_of-two-requires-clause-half : goal.twin_of-two-requires-clause-half
twin_of-two-requires-clause-half c =
    let places : List ℕ = c.args.numbering.now.places.items in
    let n = c.requires.numbering.1 in
    let is : c.index-second.result.now ≡ entry places (3 * c.args.t + 1) = get_or_read places (3 * c.args.t + 1) c.index-second.result.now (omega (arith, n.as_many, c.requires.triangle)) c.index-second.ensures 0 in
    subst (λ (k : ℕ). k < length c.args.tri.now.halves) (sym is) (n.numbering.each_once.forth_inside (3 * c.args.t + 1) (omega (arith, c.requires.triangle)))

pub twin_of-three-requires-clause-half : goal.twin_of-three-requires-clause-half
twin_of-three-requires-clause-half c =
    let places : List ℕ = c.args.numbering.now.places.items in
    let n = c.requires.numbering.1 in
    let is : c.index-third.result.now ≡ entry places (3 * c.args.t + 2) = get_or_read places (3 * c.args.t + 2) c.index-third.result.now (omega (arith, n.as_many, c.requires.triangle)) c.index-third.ensures 0 in
    subst (λ (k : ℕ). k < length c.args.tri.now.halves) (sym is) (n.numbering.each_once.forth_inside (3 * c.args.t + 2) c.requires.triangle)

pub returns : goal.returns
returns c =
    let halves = c.args.tri.now.halves in
    let places : List ℕ = c.args.numbering.now.places.items in
    let numbers : List ℕ = c.args.numbering.now.numbers.items in
    let t : ℕ = c.args.t in
    let n = c.requires.numbering.1 in
    let one : c.index-first.result.now ≡ entry places (3 * t) = get_or_read places (3 * t) c.index-first.result.now (omega (arith, n.as_many, c.requires.triangle)) c.index-first.ensures 0 in
    let two : c.index-second.result.now ≡ entry places (3 * t + 1) = get_or_read places (3 * t + 1) c.index-second.result.now (omega (arith, n.as_many, c.requires.triangle)) c.index-second.ensures 0 in
    let three : c.index-third.result.now ≡ entry places (3 * t + 2) = get_or_read places (3 * t + 2) c.index-third.result.now (omega (arith, n.as_many, c.requires.triangle)) c.index-third.ensures 0 in
    let u : Vector Quad = (c.read_pair.result.0, c.read_pair.result.1) in
    let v : Vector Quad = (c.read_pair-2.result.0, c.read_pair-2.result.1) in
    let first : u ≡ pair_at c.args.list.now (entry places (3 * t)) = sym c.read_pair.ensures.value ∙ ap (pair_at c.args.list.now) one in
    let second : v ≡ pair_at c.args.list.now (entry places (3 * t + 1)) = sym c.read_pair-2.ensures.value ∙ ap (pair_at c.args.list.now) two in
    let named : (k l : ℕ) → k ≡ l → pos (entry c.as_slice-numbers.result.now (twin_at halves k)) ≡ pos (entry numbers (twin_at halves l)) =
    λ k l e. ap₂ (λ (m : List ℕ) (j : ℕ). pos (entry m (twin_at halves j))) c.as_slice-numbers.ensures.value e in
    let x = c.twin_of-one.ensures.twin ∙ named c.index-first.result.now (entry places (3 * t)) one in
    let y = c.twin_of-two.ensures.twin ∙ named c.index-second.result.now (entry places (3 * t + 1)) two in
    let z = c.twin_of-three.ensures.twin ∙ named c.index-third.result.now (entry places (3 * t + 2)) three in
    (λ i.
    to_z-of_z w128 c.read_pair.result.0.a c.read_pair.ensures.fits.0.0 i ∷ to_z-of_z w128 c.read_pair.result.0.b c.read_pair.ensures.fits.0.1 i
    ∷ to_z-of_z w128 c.read_pair.result.1.a c.read_pair.ensures.fits.1.0 i ∷ to_z-of_z w128 c.read_pair.result.1.b c.read_pair.ensures.fits.1.1 i
    ∷ to_z-of_z w128 c.read_pair-2.result.0.a c.read_pair-2.ensures.fits.0.0 i ∷ to_z-of_z w128 c.read_pair-2.result.0.b c.read_pair-2.ensures.fits.0.1 i
    ∷ to_z-of_z w128 c.read_pair-2.result.1.a c.read_pair-2.ensures.fits.1.0 i ∷ to_z-of_z w128 c.read_pair-2.result.1.b c.read_pair-2.ensures.fits.1.1 i
    ∷ to_z-of_z w128 c.twin_of-one.result c.twin_of-one.ensures.fits i ∷ to_z-of_z w128 c.twin_of-two.result c.twin_of-two.ensures.fits i ∷ to_z-of_z w128 c.twin_of-three.result c.twin_of-three.ensures.fits i ∷ [])
    ∙ λ i. (first i).0.a ∷ (first i).0.b ∷ (first i).1.a ∷ (first i).1.b ∷ (second i).0.a ∷ (second i).0.b ∷ (second i).1.a ∷ (second i).1.b ∷ x i ∷ y i ∷ z i ∷ []
