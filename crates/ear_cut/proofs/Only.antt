-- Glued polygons are cut into one list of half-edges only.
use Rattle.std.proofs.Common.{◌≡◌, ℕ, ◌<◌, List, length, refl, ap, sym, ◌∙◌, subst}
use Rattle.tri_core.specs.declared.half.Half.{Half}
use Rattle.tri_core.specs.HalfEdges.{twin_at}
use Rattle.tri_core.proofs.CallerLemmas.{same_halves}
use Rattle.gluing.specs.Gluings.{Gluing, IsGluing}
use Rattle.ear_cut.specs.Cuttings.{at, sides_of, vectors_of, ArePartners, IsEarCutting}
use Rattle.ear_cut.specs.Steps.{source_at}
use Rattle.ear_cut.proofs.Unique.{same_pieces}
use Rattle.ear_cut.proofs.Partners.{one_partner}
use Rattle.ear_cut.proofs.Triangulated.{long, vector_is, once, twin_below, twin_partner}

one_list : (g : Gluing) → IsGluing g → (a b : List Half) (p : IsEarCutting g a) (q : IsEarCutting g b) → p.pieces ≡ q.pieces → a ≡ b
one_list g valid a b p q same =
    let r : IsEarCutting g b = record {
      pieces = p.pieces;
      cut = p.cut;
      vectors = q.vectors ∙ ap (λ ps. vectors_of (sides_of ps)) (sym same);
      twins = subst (λ ps. (h : ℕ) → h < length b → (twin_at b h < length b) × ArePartners g.glues (at g.field (sides_of ps) h).origin (at g.field (sides_of ps) (twin_at b h)).origin) (sym same) q.twins;
    } in
    let sides = sides_of p.pieces in
    let lengths : length a ≡ length b = long g valid a p ∙ sym (long g valid b r) in
    same_halves a b lengths
    (λ h below. vector_is g valid a p h below ∙ sym (vector_is g valid b r h (subst (λ n. h < n) lengths below)))
    (λ h below.
    let here : h < length sides = subst (λ n. h < n) (long g valid a p) below in
    let partner = one_partner g.glues (source_at sides h) (source_at sides (twin_at a h)) (source_at sides (twin_at b h)) valid.once (twin_partner g valid a p h here) (twin_partner g valid b r h here) in
    once g valid a p (source_at sides (twin_at a h)) (twin_at a h) (twin_at b h) (twin_below g valid a p h here) (twin_below g valid b r h here) refl (sym partner))

pub one_cutting : (g : Gluing) → IsGluing g → (a b : List Half) → IsEarCutting g a → IsEarCutting g b → a ≡ b
one_cutting g valid a b p q = one_list g valid a b p q (same_pieces g.field 0 0 g.polygons p.pieces q.pieces p.cut q.cut)
