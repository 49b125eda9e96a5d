-- Two triangulations are translation-equal exactly where the half-edges of the one are carried to those of the other as they are.
use Rattle.std.proofs.Common.{◌≡◌, ◌∙◌, ◌↔◌, ℕ, ◌<◌, [], ◌∷◌, List, length, refl, sym, subst, arith, Bool, Result, Err}
use Rattle.std.specs.Prelude.{pos, Ok, IsTrue, IfOk}
use Rattle.rings.specs.Ring.{var, expr}
use Rattle.rings.specs.Matrices.{mapped}
use Rattle.rings.proofs.Solver.{identity}
use Rattle.quad_field.specs.declared.quad.Quad.{Quad}
use Rattle.quad_field.specs.Quads.{quad_ops, scaled}
use Rattle.quad_field.proofs.CallerLemmas.{quad_ring, scaled_is}
use Rattle.tri_core.specs.declared.half.Half.{Half}
use Rattle.tri_core.specs.HalfEdges.{vector_at}
use Rattle.tri_core.specs.Triangulation.{IsTriangulation}
use Rattle.tri_core.specs.Images.{identity_matrix, AreTranslationEqual}
use Rattle.tri_core.specs.Mapped.{AreMapped, AreMultiplied}
use Rattle.tri_core.specs.Walks.{AreGlued, Carries}
use Rattle.tri_core.proofs.Images.{one_mapped}
use Rattle.tri_core.proofs.Mapped.{changed_glued}
use Rattle.tri_core.proofs.Bijections.{image_from_carried, carried_from_image}

module _ (d : ℕ) (halves : List Half) where
  -- the identity keeps all half-edges
  kept_by_identity : AreMapped d (identity_matrix (quad_ops d)) halves halves
  kept_by_identity = record { count = refl; vectors = λ k below. sym (one_mapped d (vector_at halves k)); twins = λ k below. refl }

  -- and so does the number 1
  kept_by_one : AreMultiplied (pos 1) halves halves
  kept_by_one = record { count = refl; vectors = λ k below. (λ i. (sym (once (vector_at halves k).0) i, sym (once (vector_at halves k).1) i)); twins = λ k below. refl }
    where
      once : (x : Quad) → scaled (pos 1) x ≡ x
      once x = scaled_is d (pos 1) x ∙ identity (quad_ops d) (quad_ring d) (x ∷ []) (expr.mul (expr.int (pos 1)) (var 0)) (var 0) tt

  -- the triangles of a triangulation are glued
  pub are_glued : IsTriangulation d halves → AreGlued halves
  are_glued valid = changed_glued (mapped (quad_ops d) (identity_matrix (quad_ops d))) halves halves kept_by_identity d valid

pub translation_carried : (d : ℕ) (from to : List Half) → IsTriangulation d from → IsTriangulation d to → length to ≡ length from
    → ((forth : ℕ → ℕ) × Carries from to forth) ↔ AreTranslationEqual d from to
translation_carried d from to valid valid_to count = (
  λ w. image_from_carried d (identity_matrix (quad_ops d)) 1 from to from to valid valid_to (kept_by_identity d from) (kept_by_one d to) (omega arith) count w.0 w.1,
  λ image. (image.0, carried_from_image d (identity_matrix (quad_ops d)) 1 from to from to valid valid_to (kept_by_identity d from) (kept_by_one d to) image.0 image.1 image.2),
)

-- so an answer to the one is an answer to the other
pub carried_answers : {E : Type 0} (d e : ℕ) (from to one two : List Half) (r : Result Bool E) → one ≡ from → two ≡ to → d ≡ e → IsTriangulation d from → IsTriangulation e to → length to ≡ length from
    → IfOk r (λ b. IsTrue b ↔ ((forth : ℕ → ℕ) × Carries one two forth)) → IfOk r (λ b. IsTrue b ↔ AreTranslationEqual d from to)
carried_answers d e from to one two (Err fault) first second same valid valid_to count answer = tt
carried_answers d e from to one two (Ok b) first second same valid valid_to count answer =
    let both = translation_carried d from to valid (subst (λ (f : ℕ). IsTriangulation f to) (sym same) valid_to) count in
    let said : IsTrue b ↔ ((forth : ℕ → ℕ) × Carries from to forth) =
    subst (λ (l : List Half). IsTrue b ↔ ((forth : ℕ → ℕ) × Carries l to forth)) first (subst (λ (l : List Half). IsTrue b ↔ ((forth : ℕ → ℕ) × Carries one l forth)) second answer) in
    (λ yes. both.0 (said.0 yes), λ equal. said.1 (both.1 equal))
