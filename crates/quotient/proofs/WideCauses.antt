-- What is wide with the tree and its inverses at hand is wide in the tree or in its quotients.
use Rattle.std.proofs.Common.{◌≡◌, ℕ, ◌<◌, refl, sym, subst, List, length}
use Rattle.std.specs.Prelude.{◌⊎◌}
use mathlib.Core.Logic.{inl, inr}
use Rattle.quad_field.specs.declared.formula.Formula.{Formula}
use Rattle.quad_field.specs.declared.formula.Formula.TheVariants.{F10, F11}
use Rattle.plane.specs.Matrices.{FieldMatrix}
use Rattle.plane.specs.MatrixWidth.{InverseFits}
use Rattle.terrain.specs.declared.graph.Lead.{Lead}
use Rattle.quotient.specs.Trees.{matrix_at, HasLead, IsTree}
use Rattle.quotient.specs.Inverses.{AreInverses}
use Rattle.quotient.specs.WideProducts.{IsWideProduct, AnyWideLead, AnyWideTurn}
use Rattle.quotient.specs.Width.{AreJoined, IsWideIn}
use Rattle.quotient.specs.Width.IsWideIn.{in_product, in_inverse, in_quotient}
use Rattle.quotient.proofs.TreeMatrices.{matrix_of}

module _ (d : ℕ) (rows : List (List (Lead FieldMatrix))) (turns : List (List FieldMatrix)) (root : ℕ) (first : FieldMatrix) (tree : List FieldMatrix)
    (own : IsTree d rows root first tree) (inside : root < length rows)
  where
    -- the inverse of a matrix of the tree
    pub wide_inverse : (c : ℕ) → c < length tree → ¬ (InverseFits d (matrix_at tree c)) → IsWideIn d rows turns root first F11
    wide_inverse c p wide = in_inverse c (matrix_at tree c) (matrix_of own inside c (subst (λ n. c < n) own.as_many p)) wide

    module _ (inverses : List FieldMatrix) (inverse : AreInverses d tree inverses) where
      joined : (c e : ℕ) (g : FieldMatrix) → c < length tree → e < length tree → AreJoined rows turns c g e → IsWideProduct d (matrix_at tree c) g (matrix_at inverses e)
          → IsWideIn d rows turns root first F10
      joined c e g p q join (inl wide) = in_product c e g (matrix_at tree c) join (matrix_of own inside c (subst (λ n. c < n) own.as_many p)) wide
      joined c e g p q join (inr wide) =
          in_quotient c e g (matrix_at tree c) (matrix_at tree e) wide.0 (matrix_at inverses e) join
          (matrix_of own inside c (subst (λ n. c < n) own.as_many p)) (matrix_of own inside e (subst (λ n. e < n) own.as_many q))
          wide.1 (inverse.1 e q).1 wide.2

      -- the product of a quotient of a lead
      wide_lead : ((c w : ℕ) (lead : Lead FieldMatrix) → HasLead rows c w lead → lead.to < length tree) → AnyWideLead d tree inverses rows → IsWideIn d rows turns root first F10
      wide_lead targets (c, p, (w, lead, has, wide)) = joined c lead.to lead.link p (targets c w lead has) (inl (w, lead, has, refl, refl)) wide

      -- and that of a turn
      wide_turn : AnyWideTurn d tree inverses turns → IsWideIn d rows turns root first F10
      wide_turn (c, p, (w, turn, has, wide)) = joined c c turn p p (inr (w, has, refl)) wide

      -- a product of some quotient
      pub wide_products : ((c w : ℕ) (lead : Lead FieldMatrix) → HasLead rows c w lead → lead.to < length tree)
          → AnyWideLead d tree inverses rows ⊎ AnyWideTurn d tree inverses turns → IsWideIn d rows turns root first F10
      wide_products targets (inl wide) = wide_lead targets wide
      wide_products targets (inr wide) = wide_turn wide
