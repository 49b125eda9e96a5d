-- Polygons are cut in one way only.
use Rattle.std.proofs.Common.{◌≡◌, ℕ, ◌+◌, ◌<◌, List, [], ◌∷◌, ◌++◌, length, refl, ap, ap₂, sym, ◌∙◌, subst, subst₂, arith, inl, inr}
use Rattle.std.proofs.lemmas.Bool.{cases_lt}
use Rattle.std.proofs.lemmas.List.{append-nil, append_assoc, length-append}
use Rattle.plane.specs.declared.vec2.Vec2.{Vec2}
use Rattle.quad_field.specs.declared.quad.Quad.{Quad}
use Rattle.plane.specs.Vectors.{Vector}
use Rattle.ear_cut.specs.Cuttings.{Side, Piece, IsLeastEar, IsCut, AreCut, ear, left_over, outer_sides, vectors_of}

-- the least ear is one
pub one_ear : (d : ℕ) (vs : List (Vector Quad)) (i j : ℕ) → IsLeastEar d vs i → IsLeastEar d vs j → i ≡ j
one_ear d vs i j p q =
    elim (cases_lt i j) [
      | inl below ↦ absurd (q.1 i below p.0)
      | inr above ↦ elim (cases_lt j i) [ inl below ↦ absurd (p.1 j below q.0) | inr other ↦ omega arith ]
    ]

three_long : (sides : List Side) (p : Piece) → sides ≡ p.first ∷ p.second ∷ p.third ∷ [] → ¬ (3 < length sides)
three_long sides p e long = omega (arith, ap length e)

same_piece : (p q : Piece) (sides : List Side) → sides ≡ p.first ∷ p.second ∷ p.third ∷ [] → sides ≡ q.first ∷ q.second ∷ q.third ∷ [] → p ≡ q
same_piece p q sides e f =
    let both : p.first ∷ p.second ∷ p.third ∷ [] ≡ q.first ∷ q.second ∷ q.third ∷ [] = sym e ∙ f in
    let first : p.first ≡ q.first = cc in
    let second : p.second ≡ q.second = cc in
    let third : p.third ≡ q.third = cc in
    let build = λ (a b c : Side). let r : Piece = record { first = a; second = b; third = c } in r in
    ap (λ a. build a p.second p.third) first ∙ ap (λ b. build q.first b p.third) second ∙ ap (λ c. build q.first q.second c) third

pub one_cut : (d t : ℕ) (sides : List Side) (ps qs : List Piece) → IsCut d t sides ps → IsCut d t sides qs → ps ≡ qs
one_cut d t sides [] qs p q = absurd p
one_cut d t sides (a ∷ []) [] p q = absurd q
one_cut d t sides (a ∷ []) (b ∷ []) p q = ap (λ (x : Piece). x ∷ []) (same_piece a b sides p q)
one_cut d t sides (a ∷ []) (b ∷ y ∷ qs) p q = absurd (three_long sides a p q.0)
one_cut d t sides (a ∷ x ∷ ps) [] p q = absurd q
one_cut d t sides (a ∷ x ∷ ps) (b ∷ []) p q = absurd (three_long sides b q p.0)
one_cut d t sides (a ∷ x ∷ ps) (b ∷ y ∷ qs) p q =
    let same : p.1.0 ≡ q.1.0 = one_ear d (vectors_of sides) p.1.0 q.1.0 p.1.1 q.1.1 in
    let first : a ≡ b = p.1.2 ∙ ap (ear d t sides) same ∙ sym q.1.2 in
    let rest = one_cut d (t + 1) (left_over d t sides p.1.0) (x ∷ ps) (y ∷ qs) p.1.3 (subst (λ i. IsCut d (t + 1) (left_over d t sides i) (y ∷ qs)) (sym same) q.1.3) in
    ap₂ (λ (x : Piece) (xs : List Piece). x ∷ xs) first rest

pub same_pieces : (d p t : ℕ) (polygons : List (List Vec2)) (ps qs : List Piece) → AreCut d p t polygons ps → AreCut d p t polygons qs → ps ≡ qs
same_pieces d p t [] ps qs a b = a ∙ sym b
same_pieces d p t (sides ∷ polygons) ps qs a b =
    let own : a.0 ≡ b.0 = one_cut d t (outer_sides p 0 sides) a.0 b.0 a.3 b.3 in
    let more : a.1 ≡ b.1 = same_pieces d (p + 1) (t + length a.0) polygons a.1 b.1 a.4 (subst (λ n. AreCut d (p + 1) (t + n) polygons b.1) (sym (ap length own)) b.4) in
    a.2 ∙ ap₂ (λ (x y : List Piece). x ++ y) own more ∙ sym b.2

-- one polygon more
pub cut-more : (d p t : ℕ) (polygons : List (List Vec2)) (pieces : List Piece) (sides : List Vec2) (own : List Piece)
    → AreCut d p t polygons pieces → IsCut d (t + length pieces) (outer_sides (p + length polygons) 0 sides) own → AreCut d p t (polygons ++ sides ∷ []) (pieces ++ own)
cut-more d p t [] pieces sides own cut last =
    let n : t + length pieces ≡ t = omega (arith, ap length cut) in
    let q : p + length {A = List Vec2} [] ≡ p = omega arith in
    (own, [], ap (λ xs. xs ++ own) cut ∙ sym (append-nil own), subst₂ (λ t p. IsCut d t (outer_sides p 0 sides) own) n q last, refl)
cut-more d p t (first ∷ polygons) pieces sides own (firsts, more, e, here, rest) last =
    let n : t + length pieces ≡ t + length firsts + length more = omega (arith, ap length e, length-append firsts more) in
    let q : p + length (first ∷ polygons) ≡ p + 1 + length polygons = omega arith in
    let behind = cut-more d (p + 1) (t + length firsts) polygons more sides own rest (subst₂ (λ t p. IsCut d t (outer_sides p 0 sides) own) n q last) in
    (firsts, more ++ own, ap (λ xs. xs ++ own) e ∙ append_assoc firsts more own, here, behind)
