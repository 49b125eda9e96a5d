-- What a matrix makes of places and of forms, in every commutative ring and every ordered one.
use Rattle.std.proofs.Common.{◌≡◌, ℕ, ◌<◌, [], ◌∷◌, subst, sym, ap, ◌∙◌}
use Rattle.std.specs.Prelude.{pos}
use Rattle.rings.specs.Ring.{Ops, IsRing, Expr, var, expr}
use Rattle.rings.specs.Order.{IsOrdered}
use Rattle.rings.specs.Forms.{det, length_by, inner_value, value_at, hinge_triple}
use Rattle.rings.specs.Vectors.{Vector, multiple_vector}
use Rattle.rings.specs.Matrices.{Matrix, mapped, matrix_det, adjugate, multiple_matrix}
use Rattle.rings.specs.Lines.{Triple, multiple, IsInside, IsPositiveMultiple}
use Rattle.rings.specs.Bounds.{HasPoint}
use Rattle.rings.proofs.Solver.{identity}
use Rattle.rings.proofs.Ordered.{factor}
use Rattle.rings.proofs.Multiples.{triples_equal, multiple_twice, multiple_value, value_at_multiple, multiple_through, multiple_swapped}
use Rattle.tri_core.specs.Images.{AreInverse}
use Rattle.hinge_form.proofs.CallerLemmas.{length_turned}
use Rattle.wall_cross.specs.Pulled.{pulled, pushed}
open expr use {add as ◌+'◌, sub as ◌-'◌, mul as ◌*'◌, neg as neg', int as int'}

infixl 60 ◌+'◌
infixl 60 ◌-'◌
infixl 70 ◌*'◌
-- a matrix of variables
abbrev n' : Matrix Expr
n' = (var 0, var 1, var 2, var 3)

-- the place or form
abbrev q' : Triple Expr
q' = (var 4, var 5, var 6)

-- a vector beside these
abbrev v' : Vector Expr
v' = (var 7, var 8)

-- a form beside these
abbrev l' : Triple Expr
l' = (var 7, var 8, var 9)

-- the vectors of a hinge
abbrev a' : Vector Expr
a' = (var 4, var 5)

-- the second
abbrev c' : Vector Expr
c' = (var 6, var 7)

-- the third
abbrev d' : Vector Expr
d' = (var 8, var 9)

module _ {R : Type 0} (O : Ops R) (L : IsRing O) where
  open O use {add as ◌⊕◌, sub as ◌⊖◌, mul as ◌⊗◌, neg as minus, int as num_of}

  infixl 60 ◌⊕◌
  infixl 60 ◌⊖◌
  infixl 70 ◌⊗◌
  -- ---- places
  -- the height of v at the pulled place is that of n·v
  pub pulled_length : (n : Matrix R) (q : Triple R) (v : Vector R) → length_by O q (mapped O n v) ≡ length_by O (pulled O n q) v
  pulled_length n q v =
      identity O L (n.0 ∷ n.1 ∷ n.2 ∷ n.3 ∷ q.0 ∷ q.1 ∷ q.2 ∷ v.0 ∷ v.1 ∷ []) (length_by expr q' (mapped expr n' v')) (length_by expr (pulled expr n' q') v') tt

  -- w'·y' - x'² = det(n)²·(w·y - x²)
  pub pulled_inner : (n : Matrix R) (q : Triple R) → inner_value O (pulled O n q) ≡ matrix_det O n ⊗ matrix_det O n ⊗ inner_value O q
  pulled_inner n q =
      identity O L (n.0 ∷ n.1 ∷ n.2 ∷ n.3 ∷ q.0 ∷ q.1 ∷ q.2 ∷ []) (inner_value expr (pulled expr n' q')) (matrix_det expr n' *' matrix_det expr n' *' inner_value expr q') tt

  -- pulled by the adjugate and by n: det(n)²·q
  pub pulled_back : (n : Matrix R) (q : Triple R) → pulled O n (pulled O (adjugate O n) q) ≡ multiple O (matrix_det O n ⊗ matrix_det O n) q
  pulled_back n q =
      let x = pulled expr n' (pulled expr (adjugate expr n') q') in
      let y = multiple expr (matrix_det expr n' *' matrix_det expr n') q' in
      let values = n.0 ∷ n.1 ∷ n.2 ∷ n.3 ∷ q.0 ∷ q.1 ∷ q.2 ∷ [] in
      triples_equal O L _ _ (identity O L values x.0 y.0 tt) (identity O L values x.1 y.1 tt) (identity O L values x.2 y.2 tt)

  -- the other way round
  pub pulled_forth : (n : Matrix R) (q : Triple R) → pulled O (adjugate O n) (pulled O n q) ≡ multiple O (matrix_det O n ⊗ matrix_det O n) q
  pulled_forth n q =
      let x = pulled expr (adjugate expr n') (pulled expr n' q') in
      let y = multiple expr (matrix_det expr n' *' matrix_det expr n') q' in
      let values = n.0 ∷ n.1 ∷ n.2 ∷ n.3 ∷ q.0 ∷ q.1 ∷ q.2 ∷ [] in
      triples_equal O L _ _ (identity O L values x.0 y.0 tt) (identity O L values x.1 y.1 tt) (identity O L values x.2 y.2 tt)

  -- the place pulled from a multiple
  pub pulled_of_multiple : (n : Matrix R) (c : R) (q : Triple R) → pulled O n (multiple O c q) ≡ multiple O c (pulled O n q)
  pulled_of_multiple n c q =
      let x = pulled expr n' (multiple expr (var 7) q') in
      let y = multiple expr (var 7) (pulled expr n' q') in
      let values = n.0 ∷ n.1 ∷ n.2 ∷ n.3 ∷ q.0 ∷ q.1 ∷ q.2 ∷ c ∷ [] in
      triples_equal O L _ _ (identity O L values x.0 y.0 tt) (identity O L values x.1 y.1 tt) (identity O L values x.2 y.2 tt)

  -- ---- forms
  -- the value of the pushed form is that of the form at the pulled place
  pub pushed_value : (n : Matrix R) (l q : Triple R) → value_at O (pushed O n l) q ≡ value_at O l (pulled O n q)
  pushed_value n l q =
      identity O L (n.0 ∷ n.1 ∷ n.2 ∷ n.3 ∷ q.0 ∷ q.1 ∷ q.2 ∷ l.0 ∷ l.1 ∷ l.2 ∷ []) (value_at expr (pushed expr n' l') q') (value_at expr l' (pulled expr n' q')) tt

  -- pushed by n and by the adjugate: det(n)²·l
  pub pushed_back : (n : Matrix R) (l : Triple R) → pushed O (adjugate O n) (pushed O n l) ≡ multiple O (matrix_det O n ⊗ matrix_det O n) l
  pushed_back n l =
      let x = pushed expr (adjugate expr n') (pushed expr n' q') in
      let y = multiple expr (matrix_det expr n' *' matrix_det expr n') q' in
      let values = n.0 ∷ n.1 ∷ n.2 ∷ n.3 ∷ l.0 ∷ l.1 ∷ l.2 ∷ [] in
      triples_equal O L _ _ (identity O L values x.0 y.0 tt) (identity O L values x.1 y.1 tt) (identity O L values x.2 y.2 tt)

  -- the other way round
  pub pushed_forth : (n : Matrix R) (l : Triple R) → pushed O n (pushed O (adjugate O n) l) ≡ multiple O (matrix_det O n ⊗ matrix_det O n) l
  pushed_forth n l =
      let x = pushed expr n' (pushed expr (adjugate expr n') q') in
      let y = multiple expr (matrix_det expr n' *' matrix_det expr n') q' in
      let values = n.0 ∷ n.1 ∷ n.2 ∷ n.3 ∷ l.0 ∷ l.1 ∷ l.2 ∷ [] in
      triples_equal O L _ _ (identity O L values x.0 y.0 tt) (identity O L values x.1 y.1 tt) (identity O L values x.2 y.2 tt)

  -- the form pushed from a multiple
  pub pushed_multiple : (n : Matrix R) (c : R) (l : Triple R) → pushed O n (multiple O c l) ≡ multiple O c (pushed O n l)
  pushed_multiple n c l =
      let x = pushed expr n' (multiple expr (var 7) q') in
      let y = multiple expr (var 7) (pushed expr n' q') in
      let values = n.0 ∷ n.1 ∷ n.2 ∷ n.3 ∷ l.0 ∷ l.1 ∷ l.2 ∷ c ∷ [] in
      triples_equal O L _ _ (identity O L values x.0 y.0 tt) (identity O L values x.1 y.1 tt) (identity O L values x.2 y.2 tt)

  -- ---- hinges
  -- the triple of the hinge n·a, n·c, n·d
  pub hinge_mapped : (n : Matrix R) (a c d : Vector R) → hinge_triple O (mapped O n a) (mapped O n c) (mapped O n d) ≡ multiple O (matrix_det O n) (pushed O n (hinge_triple O a c d))
  hinge_mapped n a c d =
      let x = hinge_triple expr (mapped expr n' a') (mapped expr n' c') (mapped expr n' d') in
      let y = multiple expr (matrix_det expr n') (pushed expr n' (hinge_triple expr a' c' d')) in
      let values = n.0 ∷ n.1 ∷ n.2 ∷ n.3 ∷ a.0 ∷ a.1 ∷ c.0 ∷ c.1 ∷ d.0 ∷ d.1 ∷ [] in
      triples_equal O L _ _ (identity O L values x.0 y.0 tt) (identity O L values x.1 y.1 tt) (identity O L values x.2 y.2 tt)

  -- and of k·a, k·c, k·d
  pub hinge_multiple : (k : R) (a c d : Vector R) → hinge_triple O (multiple_vector O k a) (multiple_vector O k c) (multiple_vector O k d) ≡ multiple O ((k ⊗ k) ⊗ (k ⊗ k)) (hinge_triple O a c d)
  hinge_multiple k a c d =
      let x = hinge_triple expr (multiple_vector expr (var 0) a') (multiple_vector expr (var 0) c') (multiple_vector expr (var 0) d') in
      let y = multiple expr ((var 0 *' var 0) *' (var 0 *' var 0)) (hinge_triple expr a' c' d') in
      let values = k ∷ k ∷ k ∷ k ∷ a.0 ∷ a.1 ∷ c.0 ∷ c.1 ∷ d.0 ∷ d.1 ∷ [] in
      triples_equal O L _ _ (identity O L values x.0 y.0 tt) (identity O L values x.1 y.1 tt) (identity O L values x.2 y.2 tt)

  -- k⁴ times the triple of the image is det(n) times the pushed one
  pub hinge_carried : (n : Matrix R) (k : R) (a c d x y z : Vector R) → multiple_vector O k x ≡ mapped O n a → multiple_vector O k y ≡ mapped O n c → multiple_vector O k z ≡ mapped O n d
      → multiple O ((k ⊗ k) ⊗ (k ⊗ k)) (hinge_triple O x y z) ≡ multiple O (matrix_det O n) (pushed O n (hinge_triple O a c d))
  hinge_carried n k a c d x y z e f g = sym (hinge_multiple k x y z) ∙ (λ i. hinge_triple O (e i) (f i) (g i)) ∙ hinge_mapped n a c d

  -- ---- the inverse
  -- w·c·adj n undoes n up to the factor det(n)·w·c
  pub undone : (n : Matrix R) (c w : R) (v : Vector R) → mapped O (multiple_matrix O w (multiple_matrix O c (adjugate O n))) (mapped O n v) ≡ multiple_vector O ((matrix_det O n ⊗ w) ⊗ c) v
  undone n c w v =
      let x = mapped expr (multiple_matrix expr (var 6) (multiple_matrix expr (var 7) (adjugate expr n'))) (mapped expr n' a') in
      let y = multiple_vector expr ((matrix_det expr n' *' var 6) *' var 7) a' in
      let values = n.0 ∷ n.1 ∷ n.2 ∷ n.3 ∷ v.0 ∷ v.1 ∷ w ∷ c ∷ [] in
      λ i. (identity O L values x.0 y.0 tt i, identity O L values x.1 y.1 tt i)

module _ {R : Type 0} (O : Ops R) (L : IsRing O) {P : R → Type 0} (Q : IsOrdered O P) where
  open O use {add as ◌⊕◌, sub as ◌⊖◌, mul as ◌⊗◌, neg as minus, int as num_of}

  infixl 60 ◌⊕◌
  infixl 60 ◌⊖◌
  infixl 70 ◌⊗◌
  module _ (n : Matrix R) (turns : P (matrix_det O n)) where
    abbrev D : R
    D = matrix_det O n

    -- the pulled place is a half-plane point
    pub pulled_inside : (q : Triple R) → IsInside O P q → IsInside O P (pulled O n q)
    pulled_inside q h = (
      length_turned O L Q q (minus n.1, minus n.3) (n.0, n.2) h.0 h.1
          (subst P (identity O L (n.0 ∷ n.1 ∷ n.2 ∷ n.3 ∷ []) (matrix_det expr n') (det expr (neg' (var 1), neg' (var 3)) (var 0, var 2)) tt) turns),
      subst P (sym (pulled_inner O L n q)) (Q.product _ _ (Q.product _ _ turns turns) h.1),
    )

    adjugate_turns : P (matrix_det O (adjugate O n))
    adjugate_turns = subst P (identity O L (n.0 ∷ n.1 ∷ n.2 ∷ n.3 ∷ []) (matrix_det expr n') (matrix_det expr (adjugate expr n')) tt) turns

    pub square_turns : P (D ⊗ D)
    square_turns = Q.product _ _ turns turns

    -- every half-plane point is a pulled one, up to a positive multiple
    pub pulled_onto : (r : Triple R) → IsInside O P r → (q : Triple R) × IsInside O P q × (pulled O n q ≡ multiple O (D ⊗ D) r)
    pulled_onto r h = (pulled O (adjugate O n) r, pulled_by_adjugate, pulled_back O L n r)
      where
        pulled_by_adjugate : IsInside O P (pulled O (adjugate O n) r)
        pulled_by_adjugate = (
          length_turned O L Q r (n.1, minus n.0) (n.3, minus n.2) h.0 h.1
              (subst P (identity O L (n.0 ∷ n.1 ∷ n.2 ∷ n.3 ∷ []) (matrix_det expr n') (det expr (var 1, neg' (var 0)) (var 3, neg' (var 2))) tt) turns),
          subst P (sym (pulled_inner O L (adjugate O n) r)) (Q.product _ _ (Q.product _ _ adjugate_turns adjugate_turns) h.1),
        )

    -- ---- positive multiples of places
    pub multiple_pulled : (q r : Triple R) → IsPositiveMultiple O P q r → IsPositiveMultiple O P (pulled O n q) (pulled O n r)
    multiple_pulled q r h = (h.0, h.1, h.2, h.3, sym (pulled_of_multiple O L n h.0 r) ∙ ap (pulled O n) h.4 ∙ pulled_of_multiple O L n h.1 q)

    pub multiple_unpulled : (q r : Triple R) → IsPositiveMultiple O P (pulled O n q) (pulled O n r) → IsPositiveMultiple O P q r
    multiple_unpulled q r h = (
      h.0 ⊗ (D ⊗ D),
      h.1 ⊗ (D ⊗ D),
      Q.product _ _ h.2 square_turns,
      Q.product _ _ h.3 square_turns,
      sym (multiple_twice O L h.0 (D ⊗ D) r) ∙ ap (multiple O h.0) (sym (pulled_forth O L n r)) ∙ sym (pulled_of_multiple O L (adjugate O n) h.0 (pulled O n r)) ∙ ap (pulled O (adjugate O n)) h.4
          ∙ pulled_of_multiple O L (adjugate O n) h.1 (pulled O n q) ∙ ap (multiple O h.1) (pulled_forth O L n q) ∙ multiple_twice O L h.1 (D ⊗ D) q,
    )

    -- ---- positive multiples of forms
    pub multiple_pushed : (l k : Triple R) → IsPositiveMultiple O P l k → IsPositiveMultiple O P (pushed O n l) (pushed O n k)
    multiple_pushed l k h = (h.0, h.1, h.2, h.3, sym (pushed_multiple O L n h.0 k) ∙ ap (pushed O n) h.4 ∙ pushed_multiple O L n h.1 l)

    pub multiple_unpushed : (l k : Triple R) → IsPositiveMultiple O P (pushed O n l) (pushed O n k) → IsPositiveMultiple O P l k
    multiple_unpushed l k h = (
      h.0 ⊗ (D ⊗ D),
      h.1 ⊗ (D ⊗ D),
      Q.product _ _ h.2 square_turns,
      Q.product _ _ h.3 square_turns,
      sym (multiple_twice O L h.0 (D ⊗ D) k) ∙ ap (multiple O h.0) (sym (pushed_back O L n k)) ∙ sym (pushed_multiple O L (adjugate O n) h.0 (pushed O n k)) ∙ ap (pushed O (adjugate O n)) h.4
          ∙ pushed_multiple O L (adjugate O n) h.1 (pushed O n l) ∙ ap (multiple O h.1) (pushed_back O L n l) ∙ multiple_twice O L h.1 (D ⊗ D) l,
    )

    -- every form is pushed from one, up to a positive multiple
    pub pushed_onto : (k : Triple R) → (l : Triple R) × IsPositiveMultiple O P (pushed O n l) k
    pushed_onto k = (
      pushed O (adjugate O n) k,
      (
        (D ⊗ D) ⊗ (D ⊗ D),
        D ⊗ D,
        Q.product _ _ square_turns square_turns,
        square_turns,
        sym (multiple_twice O L (D ⊗ D) (D ⊗ D) k) ∙ ap (multiple O (D ⊗ D)) (sym (pushed_forth O L n k)),
      ),
    )

    -- ---- forms that are carried: a positive multiple of B (forth k) is one of the pushed A k
    module _ (A B : ℕ → Triple R) (count : ℕ) (forth back : ℕ → ℕ) (once : AreInverse count forth back) (c e : R) (pc : P c) (pe : P e)
        (carried : (k : ℕ) → k < count → multiple O c (B (forth k)) ≡ multiple O e (pushed O n (A k))) where
      pub form_multiple : (k : ℕ) → k < count → IsPositiveMultiple O P (pushed O n (A k)) (B (forth k))
      form_multiple k below = (c, e, pc, pe, carried k below)

      -- c·(value at q) = e·(value at the pulled place)
      pub value_carried : (k : ℕ) → k < count → (q : Triple R) → c ⊗ value_at O (B (forth k)) q ≡ e ⊗ value_at O (A k) (pulled O n q)
      value_carried k below q =
          sym (multiple_value O L c (B (forth k)) q) ∙ ap (λ (m : Triple R). value_at O m q) (carried k below) ∙ multiple_value O L e (pushed O n (A k)) q ∙ ap (λ x. e ⊗ x) (pushed_value O L n (A k) q)

      pub positive_forth : (k : ℕ) → k < count → (q : Triple R) → P (value_at O (A k) (pulled O n q)) → P (value_at O (B (forth k)) q)
      positive_forth k below q p = factor O L Q _ c (subst P (sym (value_carried k below q) ∙ L.mul_comm _ _) (Q.product _ _ pe p)) pc

      pub positive_back : (k : ℕ) → k < count → (q : Triple R) → P (value_at O (B (forth k)) q) → P (value_at O (A k) (pulled O n q))
      positive_back k below q p = factor O L Q _ e (subst P (value_carried k below q ∙ L.mul_comm _ _) (Q.product _ _ pc p)) pe

      -- multiples of a line
      pub line_forth : (l : Triple R) (k : ℕ) → k < count → IsPositiveMultiple O P l (A k) → IsPositiveMultiple O P (pushed O n l) (B (forth k))
      line_forth l k below h = multiple_through O L Q (pushed O n l) (pushed O n (A k)) (B (forth k)) (multiple_pushed l (A k) h) (form_multiple k below)

      pub line_back : (l : Triple R) (k : ℕ) → k < count → IsPositiveMultiple O P (pushed O n l) (B (forth k)) → IsPositiveMultiple O P l (A k)
      line_back l k below h =
          multiple_unpushed l (A k)
          (multiple_through O L Q (pushed O n l) (B (forth k)) (pushed O n (A k)) h (multiple_swapped O L Q (pushed O n (A k)) (B (forth k)) (form_multiple k below)))

      -- a point of the line l for the forms A is pulled from one of the pushed line for the forms B
      pub point_back : (l : Triple R) → HasPoint O P (pushed O n l) B count → HasPoint O P l A count
      point_back l h = (
        pulled O n h.0,
        pulled_inside h.0 h.1,
        sym (pushed_value O L n l h.0) ∙ h.2,
        λ k below none. positive_back k below h.0 (h.3 (forth k) (once.forth_inside k below) (λ m. none (line_back l k below m))),
      )

      pub point_forth : (l : Triple R) → HasPoint O P l A count → HasPoint O P (pushed O n l) B count
      point_forth l h =
          let r = h.0 in
          let onto = pulled_onto r h.1 in
          let q = onto.0 in (
            q,
            onto.1,
            pushed_value O L n l q ∙ ap (value_at O l) onto.2 ∙ value_at_multiple O L (D ⊗ D) l r ∙ ap (λ x. (D ⊗ D) ⊗ x) h.2
                ∙ identity O L (D ⊗ D ∷ []) (var 0 *' int' (pos 0)) (int' (pos 0)) tt,
            λ k below none.
                let j = back k in
                let inside = once.back_inside k below in
                let same = once.forth_back k below in
                let free : ¬ (IsPositiveMultiple O P l (A j)) = λ m. none (subst (λ (i : ℕ). IsPositiveMultiple O P (pushed O n l) (B i)) same (line_forth l j inside m)) in
                let there : P (value_at O (A j) (pulled O n q)) =
                subst P (sym (ap (value_at O (A j)) onto.2 ∙ value_at_multiple O L (D ⊗ D) (A j) r)) (Q.product _ _ square_turns (h.3 j inside free)) in
                subst (λ (i : ℕ). P (value_at O (B i) q)) same (positive_forth j inside q there),
          )
