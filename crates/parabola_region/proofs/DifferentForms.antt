-- The different forms of a list of hinges.
use Rattle.std.proofs.Common.{◌≡◌, ◌↔◌, ℕ, ◌+◌, ◌<◌, List, [], ◌∷◌, ◌++◌, Bool, true, false, nat_eq, length, get_or, subst, sym, ap, refl, ◌∙◌, arith}
use mathlib.Core.Logic.{inl, inr}
use mathlib.Core.Bool.{◌&&◌, not}
use mathlib.Core.Path.{subst₂}
use Rattle.std.specs.Prelude.{IsTrue}
use Rattle.std.specs.Ordering.{int_eq}
use Rattle.std.proofs.lemmas.Bool.{cases_eq, and_parts, eq-eqb, not_from_true, false≢true}
use Rattle.std.proofs.lemmas.Bool.Decides.{Decides-int_eq}
use Rattle.std.proofs.lemmas.List.{get_or_append_left, get_or_push, get_or_default, length_push}
use Rattle.rings.specs.Forms.{value_at}
use Rattle.quad_field.specs.Quads.{quad_ops, IsPositive}
use Rattle.quad_field.specs.declared.quad.Quad.{Quad}
use Rattle.quad_field.specs.declared.formula.Formula.{Formula}
use Rattle.quad_field.specs.declared.formula.Formula.TheVariants.{F1, F2, F3, F4, F5, F6, F7, F8, F9, F10, F11, F12, F13}
use Rattle.hinge_form.specs.declared.form.Form.{Form}
use Rattle.hinge_form.specs.Triples.{Triple, of_form}
use Rattle.hinge_form.specs.Hinges.{PlaceFits}
use Rattle.hinge_form.specs.Lines.{IsMultiple, IsCrossing, CrossingFits, DirectionFits}
use Rattle.parabola_region.specs.declared.hinge_list.Hinge.{Hinge}
use Rattle.parabola_region.specs.declared.fault.RegionFault.{RegionFault}
use Rattle.parabola_region.specs.declared.fault.RegionFault.TheVariants.{Wide, Memory}
use Rattle.parabola_region.specs.HingeLists.{no_hinge, hinge_at, form_at, edge_at, HasForms}
use Rattle.parabola_region.specs.Chords.{InnerFits, IsChordPoint}
use Rattle.parabola_region.specs.Stretches.{HasPointFor, IsWideFor}
use Rattle.parabola_region.specs.Found.{IsListFault}
use Rattle.parabola_region.specs.Different.{AreDifferent, HasFormBefore, AreOwns}

-- whether two numbers are equal, by their two parts
abbrev same_number : Quad → Quad → Bool
same_number x y = int_eq x.a y.a && int_eq x.b y.b

-- equal forms, by their six parts
pub equal_from : (k l : Form) → (same_number k.alpha l.alpha && (same_number k.beta l.beta && same_number k.gamma l.gamma)) ≡ true → of_form k ≡ of_form l
equal_from k l e =
    let outer = and_parts (same_number k.alpha l.alpha) (same_number k.beta l.beta && same_number k.gamma l.gamma) e in
    let inner = and_parts (same_number k.beta l.beta) (same_number k.gamma l.gamma) outer.1 in
    three (of_form k) (of_form l) (quads k.alpha l.alpha outer.0) (quads k.beta l.beta inner.0) (quads k.gamma l.gamma inner.1)
  where
    parts : (x y : Quad) → x.a ≡ y.a → x.b ≡ y.b → x ≡ y
    parts x y p q i = record { a = p i; b = q i }

    quads : (x y : Quad) → same_number x y ≡ true → x ≡ y
    quads x y t = let both = and_parts (int_eq x.a y.a) (int_eq x.b y.b) t in parts x y ((Decides-int_eq x.a y.a).0 both.0) ((Decides-int_eq x.b y.b).0 both.1)

    three : (x y : Triple) → x.0 ≡ y.0 → x.1 ≡ y.1 → x.2 ≡ y.2 → x ≡ y
    three x y p q r i = (p i, q i, r i)

-- no hinge yet
pub different_none : (forms : List Hinge) → AreDifferent forms [] [] 0
different_none forms = record {
  as_many = omega arith;
  within = λ k less. absurd (omega (arith, less));
  same = λ k less. absurd (omega (arith, less));
  earlier = λ k less. absurd (omega (arith, less));
  listed = λ p less. absurd (omega (arith, less));
}

module _ (forms firsts : List Hinge) (places : List ℕ) (n : ℕ) (are : AreDifferent forms firsts places n) where
  -- the last place, and those before
  last : (p k : ℕ) → k ≡ n → get_or (places ++ p ∷ []) k 0 ≡ p
  last p k e = get_or_push places p 0 k (are.as_many ∙ sym e)

  before : (p k : ℕ) → k < n + 1 → ¬ (k ≡ n) → get_or (places ++ p ∷ []) k 0 ≡ get_or places k 0
  before p k less other = get_or_append_left places (p ∷ []) 0 k (omega (arith, are.as_many, less, other))

  -- one hinge more, at the place of one that is kept
  pub different_more : (p : ℕ) → p < length firsts → form_at firsts p ≡ form_at forms n → AreDifferent forms firsts (places ++ p ∷ []) (n + 1)
  different_more p low same = record {
    as_many = omega (arith, length_push places p, are.as_many);
    within = λ k less. elim (cases_eq k n) [
      | inl e ↦ omega (arith, last p k e, low)
      | inr other ↦ omega (arith, before p k less other, are.within k (omega (arith, less, other)))
    ];
    same = λ k less. elim (cases_eq k n) [
      | inl e ↦ ap (form_at firsts) (last p k e) ∙ same ∙ ap (form_at forms) (sym e)
      | inr other ↦ ap (form_at firsts) (before p k less other) ∙ are.same k (omega (arith, less, other))
    ];
    earlier = λ k less. elim (cases_eq k n) [
      | inl e ↦ let m = are.listed p low in (m.0, omega (arith, m.1, e), ap (hinge_at firsts) (last p k e) ∙ m.2)
      | inr other ↦ let m = are.earlier k (omega (arith, less, other)) in (m.0, m.1, ap (hinge_at firsts) (before p k less other) ∙ m.2)
    ];
    listed = λ q less. let m = are.listed q less in (m.0, omega (arith, m.1), m.2);
  }

  -- one hinge more, which is kept
  pub different_new : (size : ℕ) → size ≡ length firsts → AreDifferent forms (firsts ++ hinge_at forms n ∷ []) (places ++ size ∷ []) (n + 1)
  different_new size is = subst (λ m. AreDifferent forms (firsts ++ hinge_at forms n ∷ []) (places ++ m ∷ []) (n + 1)) (sym is) kept
    where
      old : (p : ℕ) → p < length firsts → hinge_at (firsts ++ hinge_at forms n ∷ []) p ≡ hinge_at firsts p
      old p low = get_or_append_left firsts (hinge_at forms n ∷ []) no_hinge p low

      -- what stands at the places
      there : (k : ℕ) → k < n + 1 → ¬ (k ≡ n) → hinge_at (firsts ++ hinge_at forms n ∷ []) (get_or (places ++ length firsts ∷ []) k 0) ≡ hinge_at firsts (get_or places k 0)
      there k less other = ap (hinge_at (firsts ++ hinge_at forms n ∷ [])) (before (length firsts) k less other) ∙ old (get_or places k 0) (are.within k (omega (arith, less, other)))

      here : (k : ℕ) → k ≡ n → hinge_at (firsts ++ hinge_at forms n ∷ []) (get_or (places ++ length firsts ∷ []) k 0) ≡ hinge_at forms n
      here k e = ap (hinge_at (firsts ++ hinge_at forms n ∷ [])) (last (length firsts) k e) ∙ get_or_push firsts (hinge_at forms n) no_hinge (length firsts) refl

      kept : AreDifferent forms (firsts ++ hinge_at forms n ∷ []) (places ++ length firsts ∷ []) (n + 1)
      kept = record {
        as_many = omega (arith, length_push places (length firsts), are.as_many);
        within = λ k less. elim (cases_eq k n) [
          | inl e ↦ omega (arith, last (length firsts) k e, length_push firsts (hinge_at forms n))
          | inr other ↦ omega (arith, before (length firsts) k less other, length_push firsts (hinge_at forms n), are.within k (omega (arith, less, other)))
        ];
        same = λ k less. elim (cases_eq k n) [
          | inl e ↦ ap (λ (x : Hinge). of_form x.form) (here k e) ∙ ap (form_at forms) (sym e)
          | inr other ↦ ap (λ (x : Hinge). of_form x.form) (there k less other) ∙ are.same k (omega (arith, less, other))
        ];
        earlier = λ k less. elim (cases_eq k n) [
          | inl e ↦ (n, omega (arith, e), here k e)
          | inr other ↦ let m = are.earlier k (omega (arith, less, other)) in (m.0, m.1, there k less other ∙ m.2)
        ];
        listed = λ q less. elim (cases_eq q (length firsts)) [
          | inl e ↦ (n, omega arith, get_or_push firsts (hinge_at forms n) no_hinge q (sym e))
          | inr other ↦
              let low : q < length firsts = omega (arith, less, other, length_push firsts (hinge_at forms n)) in
              let m = are.listed q low in (m.0, omega (arith, m.1), old q low ∙ m.2)
        ];
      }

module _ (forms firsts : List Hinge) (places : List ℕ) (are : AreDifferent forms firsts places (length forms)) where
  -- a form that is kept, as one of the list
  from : (p : ℕ) → p < length firsts → (m : ℕ) × (m < length forms) × (form_at firsts p ≡ form_at forms m)
  from p low = let m = are.listed p low in (m.0, m.1, ap (λ (x : Hinge). of_form x.form) m.2)

  -- where another edge stands at its place, an earlier hinge has its form
  form_before : (k : ℕ) → k < length forms → ¬ (edge_at firsts (get_or places k 0) ≡ edge_at forms k) → HasFormBefore forms k
  form_before k less other = let m = are.earlier k less in (m.0, omega (arith, m.1, apart), ap (λ (x : Hinge). of_form x.form) (sym m.2) ∙ are.same k less)
    where
      apart : ¬ ((are.earlier k less).0 ≡ k)
      apart e = other (ap (λ (x : Hinge). x.edge) ((are.earlier k less).2 ∙ ap (hinge_at forms) e))

  -- a place, as it is read
  place_read : (k : ℕ) → k < length forms → (p : ℕ) → p ≡ get_or places k p → p ≡ get_or places k 0
  place_read k less p e = e ∙ get_or_default places k p 0 (omega (arith, are.as_many, less))

  -- the same by the place and the edge there, as they are read
  pub stood_from : (k : ℕ) → k < length forms → (p : ℕ) (x : Hinge) → p ≡ get_or places k p → x ≡ get_or firsts p x → not (nat_eq x.edge (edge_at forms k)) ≡ true → HasFormBefore forms k
  stood_from k less p x e f t = form_before k less (λ g. false≢true (sym (not_from_true (nat_eq x.edge (edge_at forms k)) (eq-eqb x.edge (edge_at forms k) (ap (λ (y : Hinge). y.edge) here ∙ g))) ∙ t))
    where
      place : p ≡ get_or places k 0
      place = place_read k less p e

      here : x ≡ hinge_at firsts (get_or places k 0)
      here = f ∙ get_or_default firsts p x no_hinge (subst (λ m. m < length firsts) (sym place) (are.within k less)) ∙ ap (hinge_at firsts) place

  -- whether a hinge's form is the line's own, by its place and what stands there, as they are read
  pub own_from : (d : ℕ) (l : Triple) (owns : List Bool) → AreOwns d l firsts (length firsts) owns → (k : ℕ) → k < length forms → (p : ℕ) (b : Bool) → p ≡ get_or places k p → b ≡ get_or owns p b
      → IsTrue b ↔ IsMultiple d l (form_at forms k)
  own_from d l owns own k less p b e f =
      subst₂ (λ (x : Bool) (y : Triple). IsTrue x ↔ IsMultiple d l y) (sym here) (ap (form_at firsts) place ∙ are.same k less) (own.each p low)
    where
      place : p ≡ get_or places k 0
      place = place_read k less p e

      low : p < length firsts
      low = subst (λ m. m < length firsts) (sym place) (are.within k less)

      here : b ≡ get_or owns p false
      here = f ∙ get_or_default owns p b false (omega (arith, own.as_many, low))

  -- the different forms of a list that has no zero form
  pub forms_among : HasForms forms → HasForms firsts
  forms_among some p low zero = let m = from p low in some m.0 m.1 (sym m.2 ∙ zero)

  -- what is so of a different form is so of one of the list
  moved : (A : Triple → Type 0) → (p : ℕ) × (p < length firsts) × A (form_at firsts p) → (m : ℕ) × (m < length forms) × A (form_at forms m)
  moved A w = let m = from w.0 w.1 in (m.0, m.1, subst A m.2 w.2)

  module _ (d : ℕ) (l : Triple) where
    -- all forms are positive together where the different ones are
    pub point_among : HasPointFor d l firsts ↔ HasPointFor d l forms
    point_among = (
      λ h. (h.0, h.1, h.2, λ k less other. positive h.0 _ _ (are.same k less) (h.3 (get_or places k 0) (are.within k less)) other),
      λ h. (h.0, h.1, h.2, λ p low other. let m = from p low in positive h.0 _ _ (sym m.2) (h.3 m.0 m.1) other),
    )
      where
        positive : (q k j : Triple) → k ≡ j → (¬ (IsMultiple d l k) → IsPositive d (value_at (quad_ops d) k q)) → ¬ (IsMultiple d l j) → IsPositive d (value_at (quad_ops d) j q)
        positive q k j e = subst (λ (x : Triple). ¬ (IsMultiple d l x) → IsPositive d (value_at (quad_ops d) x q)) e

    -- a formula that is wide for the different forms is wide for all
    pub wide_among : (formula : Formula) → IsWideFor d l firsts formula → IsWideFor d l forms formula
    wide_among F1 w = absurd w
    wide_among F2 w = absurd w
    wide_among F3 w = absurd w
    wide_among F4 w = absurd w
    wide_among F5 w = moved (λ (k : Triple). ¬ (CrossingFits d l k)) w
    wide_among F6 w = moved (λ (k : Triple). (x : Triple) × IsCrossing d l k x × ¬ (InnerFits d x)) w
    wide_among F7 w =
        let m = from w.0 w.2 in
        let n = from w.1 w.3 in
        (m.0, n.0, m.1, n.1, (w.4.0, subst (λ (k : Triple). IsCrossing d l k w.4.0) m.2 w.4.1, subst (λ (k : Triple). ¬ (PlaceFits d k w.4.0)) n.2 w.4.2))
    wide_among F8 w = (w.0, moved (λ (k : Triple). (x : Triple) × IsChordPoint d l x × ¬ (PlaceFits d k x)) w.1)
    wide_among F9 w = moved (λ (k : Triple). ¬ (DirectionFits d l k)) w
    wide_among F10 w = absurd w
    wide_among F11 w = absurd w
    wide_among F12 w = absurd w
    wide_among F13 w = absurd w

    -- the same of a fault
    pub fault_among : (fault : RegionFault) → IsListFault d l firsts fault → IsListFault d l forms fault
    fault_among (Wide formula) w = wide_among formula w
    fault_among Memory w = tt

module _ (d : ℕ) (l : Triple) (forms : List Hinge) where
  -- no form yet
  pub owns_none : AreOwns d l forms 0 []
  owns_none = record { as_many = omega arith; each = λ p less. absurd (omega (arith, less)) }

  -- one form more
  pub owns_more : (n : ℕ) (owns : List Bool) (own : Bool) → AreOwns d l forms n owns → IsTrue own ↔ IsMultiple d l (form_at forms n) → AreOwns d l forms (n + 1) (owns ++ own ∷ [])
  owns_more n owns own are here = record {
    as_many = omega (arith, length_push owns own, are.as_many);
    each = λ p less. elim (cases_eq p n) [
      | inl e ↦ same p n own (get_or_push owns own false p (are.as_many ∙ sym e)) (sym e) here
      | inr other ↦ let low : p < n = omega (arith, less, other) in same p p (get_or owns p false) (get_or_append_left owns (own ∷ []) false p (omega (arith, low, are.as_many))) refl (are.each p low)
    ];
  }
    where
      same : (p k : ℕ) (b : Bool) → get_or (owns ++ own ∷ []) p false ≡ b → k ≡ p → IsTrue b ↔ IsMultiple d l (form_at forms k) → IsTrue (get_or (owns ++ own ∷ []) p false) ↔ IsMultiple d l (form_at forms p)
      same p k b e f = subst₂ (λ (x : Bool) (m : ℕ). IsTrue x ↔ IsMultiple d l (form_at forms m)) (sym e) f
