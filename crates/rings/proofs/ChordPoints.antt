-- The chord point of a line with a positive discriminant lies on it, inside the parabola; in every ordered ring.
use Rattle.std.proofs.Common.{◌≡◌, [], ◌∷◌, subst, sym, ◌∙◌}
use Rattle.std.specs.Prelude.{pos}
use Rattle.rings.specs.Ring.{Ops, IsRing, var, expr}
use Rattle.rings.specs.Order.{IsOrdered}
use Rattle.rings.specs.Forms.{discriminant, chord_point, upright_chord_point, value_at}
use Rattle.rings.specs.Lines.{Triple, IsOn, IsInside}
use Rattle.rings.proofs.Solver.{identity}
use Rattle.rings.proofs.Ordered.{square_positive}
use Rattle.rings.proofs.Forms.{chord_point_inner, upright_chord_point_on_line, upright_chord_point_inner}
open expr use {add as ◌+'◌, sub as ◌-'◌, mul as ◌*'◌, int as int'}

infixl 60 ◌+'◌
infixl 60 ◌-'◌
infixl 70 ◌*'◌
module _ {R : Type 0} (O : Ops R) (L : IsRing O) {P : R → Type 0} (Q : IsOrdered O P) (l : Triple R) (chord : P (discriminant O l)) where
  open O use {sub as ◌⊖◌, mul as ◌⊗◌, int as num_of}

  infixl 60 ◌⊖◌
  infixl 70 ◌⊗◌
  pub chord_point_inside : ¬ (l.2 ≡ num_of (pos 0)) → IsInside O P (chord_point O l)
  chord_point_inside some =
      let square : P (l.2 ⊗ l.2) = square_positive O L Q l.2 some in (
        subst P (identity O L (l.2 ⊗ l.2 ∷ []) (var 0 +' var 0) (int' (pos 2) *' var 0) tt) (Q.sum _ _ square square),
        subst P (sym (chord_point_inner O L l)) (Q.product _ _ square chord),
      )

  -- with γ = 0 the other formula is taken
  pub upright_chord_point_on : l.2 ≡ num_of (pos 0) → IsOn O l (upright_chord_point O l)
  upright_chord_point_on none = (λ i. value_at O (l.0, l.1, none i) (upright_chord_point O l)) ∙ upright_chord_point_on_line O L l.0 l.1

  pub upright_chord_point_inside : l.2 ≡ num_of (pos 0) → IsInside O P (upright_chord_point O l)
  upright_chord_point_inside none =
      let square : P (l.1 ⊗ l.1) =
      subst P ((λ i. l.1 ⊗ l.1 ⊖ num_of (pos 4) ⊗ (l.0 ⊗ none i)) ∙ identity O L (l.0 ∷ l.1 ∷ []) (var 1 *' var 1 -' int' (pos 4) *' (var 0 *' int' (pos 0))) (var 1 *' var 1) tt) chord in (
        square,
        subst P (sym (upright_chord_point_inner O L l.0 l.1)) (Q.product _ _ square square),
      )
