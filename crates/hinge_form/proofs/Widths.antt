-- A tree whose leaves are trees that fit: it fits where it does with their values as leaves.
use Rattle.std.proofs.Common.{◌≡◌, ℕ, sym, subst, ap}
use Rattle.std.specs.Prelude.{◌↔◌, pos}
use Rattle.rings.specs.Forms.{hinge_triple, difference_of_products, weighted_triple}
use Rattle.quad_field.specs.declared.quad.Quad.{Quad}
use Rattle.quad_field.specs.Quads.{quad}
use Rattle.quad_field.specs.Width.{Term, number, product, term_ops, value_of, AllFit, product_steps, StepsFit}
use Rattle.plane.specs.declared.vec2.Vec2.{Vec2}
use Rattle.plane.specs.Vectors.{Vector, vector, vector_term, VectorFits}
use Rattle.hinge_form.specs.Triples.{AllThreeFit}
use Rattle.hinge_form.specs.Hinges.{vector_leaves}

-- the number 2
abbrev pub two : Quad
two = quad (pos 2) (pos 0)

-- twice a number, and twice the tree that it is the value of
pub doubled_fits : (d : ℕ) (t : Term) (x : Quad) → x ≡ value_of d t → StepsFit d t → StepsFit d (product (number two) (number x)) → StepsFit d (product (number two) t)
doubled_fits d t x e fits h = (tt, fits, subst (λ y. AllFit (product_steps d two y)) e h.2)

module _ (d : ℕ) (s t r : Term) (u v w : Quad) (first : StepsFit d s) (second : StepsFit d t) (third : StepsFit d r) where
  -- the difference at three numbers, and at the trees
  abbrev AtNumbers : Quad → Quad → Quad → Type 0
  AtNumbers x y z = StepsFit d (difference_of_products term_ops (number x) (number u) (number y) (number v) (number z) (number w))

  abbrev AtTrees : Type 0
  AtTrees = StepsFit d (difference_of_products term_ops s (number u) t (number v) r (number w))

  to_trees : AtNumbers (value_of d s) (value_of d t) (value_of d r) → AtTrees
  to_trees h = (((first, tt, h.0.0.2), (second, tt, h.0.1.2), h.0.2), (third, tt, h.1.2), h.2)

  to_values : AtTrees → AtNumbers (value_of d s) (value_of d t) (value_of d r)
  to_values h = (((tt, tt, h.0.0.2), (tt, tt, h.0.1.2), h.0.2), (tt, tt, h.1.2), h.2)

  pub difference_fits : (x y z : Quad) → x ≡ value_of d s → y ≡ value_of d t → z ≡ value_of d r → AtNumbers x y z ↔ AtTrees
  difference_fits x y z e f g =
      subst (λ x. AtNumbers x y z ↔ AtTrees) (sym e) (subst (λ y. AtNumbers (value_of d s) y z ↔ AtTrees) (sym f)
      (subst (λ z. AtNumbers (value_of d s) (value_of d t) z ↔ AtTrees) (sym g) (to_trees, to_values)))

-- the values of a vector of trees
abbrev pub values_of : ℕ → Vector Term → Vector Quad
values_of d u = (value_of d u.0, value_of d u.1)

-- twice what fits in one form fits in the other
double_moved : (d : ℕ) (s t : Term) → value_of d s ≡ value_of d t → (StepsFit d s ↔ StepsFit d t) → StepsFit d (product (number two) s) ↔ StepsFit d (product (number two) t)
double_moved d s t e same = (
  (λ h. (tt, same.0 h.1, subst (λ y. AllFit (product_steps d two y)) e h.2)),
  (λ h. (tt, same.1 h.1, subst (λ y. AllFit (product_steps d two y)) (sym e) h.2)),
)

-- the triple by vectors of trees that fit
pub weighted_fits : (d : ℕ) (P Q R : Vector Term) (p q r a c e : Vec2) → VectorFits d P → VectorFits d Q → VectorFits d R
    → vector p ≡ values_of d P → vector q ≡ values_of d Q → vector r ≡ values_of d R
    → AllThreeFit d (weighted_triple term_ops (vector_term p) (vector_term q) (vector_term r) (vector_term a) (vector_term c) (vector_term e))
    ↔ AllThreeFit d (weighted_triple term_ops P Q R (vector_term a) (vector_term c) (vector_term e))
weighted_fits d P Q R p q r a c e first second third is_p is_q is_r =
    let fst : Vector Quad → Quad = λ z. z.0 in
    let snd : Vector Quad → Quad = λ z. z.1 in
    let alpha = difference_fits d P.0 Q.0 R.0 e.s a.s c.s first.0 second.0 third.0 p.s q.s r.s (ap fst is_p) (ap fst is_q) (ap fst is_r) in
    let half = difference_fits d P.0 Q.0 R.0 e.t a.t c.t first.0 second.0 third.0 p.s q.s r.s (ap fst is_p) (ap fst is_q) (ap fst is_r) in
    let gamma = difference_fits d P.1 Q.1 R.1 e.t a.t c.t first.1 second.1 third.1 p.t q.t r.t (ap snd is_p) (ap snd is_q) (ap snd is_r) in
    let same : (x y z : Quad) → x ≡ value_of d P.0 → y ≡ value_of d Q.0 → z ≡ value_of d R.0
    → value_of d (difference_of_products term_ops (number x) (number e.t) (number y) (number a.t) (number z) (number c.t))
    ≡ value_of d (difference_of_products term_ops P.0 (number e.t) Q.0 (number a.t) R.0 (number c.t)) = λ x y z ex ey ez i.
    value_of d (difference_of_products term_ops (number (ex i)) (number e.t) (number (ey i)) (number a.t) (number (ez i)) (number c.t)) in
    let numbers : Term = difference_of_products term_ops (number p.s) (number e.t) (number q.s) (number a.t) (number r.s) (number c.t) in
    let trees : Term = difference_of_products term_ops P.0 (number e.t) Q.0 (number a.t) R.0 (number c.t) in
    let beta = double_moved d numbers trees (same p.s q.s r.s (ap fst is_p) (ap fst is_q) (ap fst is_r)) half in
    ((λ h. (alpha.0 h.0, beta.0 h.1, gamma.0 h.2)), (λ h. (alpha.1 h.0, beta.1 h.1, gamma.1 h.2)))

-- the triple of three vectors
abbrev pub FitsAt : ℕ → Vector Quad → Vector Quad → Vector Quad → Type 0
FitsAt d a c e = AllThreeFit d (hinge_triple term_ops (vector_leaves a) (vector_leaves c) (vector_leaves e))

-- the same where the field and the vectors have other names
pub fits_named : (A : Type 0) (d f : ℕ) (a b c x y z : Vector Quad) → d ≡ f → a ≡ x → b ≡ y → c ≡ z → (A ↔ FitsAt d a b c) → (A ↔ FitsAt f x y z)
fits_named A d f a b c x y z ed ea eb ec h =
    subst (λ (f : ℕ). A ↔ FitsAt f x y z) ed
    (subst (λ (x : Vector Quad). A ↔ FitsAt d x y z) ea
    (subst (λ (y : Vector Quad). A ↔ FitsAt d a y z) eb
    (subst (λ (z : Vector Quad). A ↔ FitsAt d a b z) ec h)))
