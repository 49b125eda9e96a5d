-- A mark of origins that is one on each triangle and on both sides of each chord is one on each polygon.
use Rattle.std.proofs.Common.{◌≡◌, ℕ, zero, suc, ◌+◌, ◌<◌, ◌≤◌, Bool, cond, nat_eq, List, [], ◌∷◌, length, get_or, refl, ap, sym, ◌∙◌, subst, arith, inl, inr, eqb-true}
use Rattle.std.specs.List.{AllByRecursion}
use Rattle.std.proofs.lemmas.Bool.{cases_Bool, cond-true, cond-false, eqb-false}
use Rattle.std.proofs.lemmas.List.{length-map}
use Rattle.plane.specs.declared.vec2.Vec2.{Vec2}
use Rattle.surface_text.specs.Limits.{IsThere}
use Rattle.ear_cut.specs.Cuttings.{Side, Piece, Origin, at, after, left_over, outer_sides, IsCut, AreCut}
use Rattle.ear_cut.specs.Steps.{source_at}
use Rattle.ear_cut.proofs.Replaced.{each-append, each-left, each-right, each-new, each-whole}
use Rattle.ear_cut.proofs.Sided.{left_is, cut_length}
use Rattle.ear_cut.proofs.Origins.{is, is_same, count}

-- the mark is one on the three sides of the triangle
abbrev pub IsUniform : (Origin → Bool) → Piece → Type 0
IsUniform label piece = (label piece.first.origin ≡ label piece.third.origin) × (label piece.second.origin ≡ label piece.third.origin)

abbrev HasLabel : (Origin → Bool) → Bool → Side → Type 0
HasLabel label b side = label side.origin ≡ b

abbrev HasLabelToo : (Origin → Bool) → Bool → Piece → Type 0
HasLabelToo label b piece = label piece.third.origin ≡ b

-- the mark is one on all these sides and triangles
pub record IsOneLabel (label : Origin → Bool) (b : Bool) (sides : List Side) (pieces : List Piece) : Type 0 where
  pub of_sides : AllByRecursion (HasLabel label b) sides
  pub of_pieces : AllByRecursion (HasLabelToo label b) pieces

-- a chord and its back have one mark
abbrev pub JoinsChords : (Origin → Bool) → Type 0
JoinsChords label = (u : ℕ) → label (Origin.chord u) ≡ label (Origin.back u)

pub one_label : (label : Origin → Bool) → JoinsChords label → (d t : ℕ) (sides : List Side) (pieces : List Piece) → IsCut d t sides pieces → AllByRecursion (IsUniform label) pieces
    → (b : Bool) × IsOneLabel label b sides pieces
one_label label joins d t sides [] cut uniform = absurd cut
one_label label joins d t sides (p ∷ []) cut uniform = (
  label p.third.origin,
  record { of_sides = subst (AllByRecursion (HasLabel label (label p.third.origin))) (sym cut) (uniform.0.0, (uniform.0.1, (refl, tt))); of_pieces = (refl, tt) },
)
one_label label joins d t sides (p ∷ q ∷ pieces) (long, (i, least, e, rest)) uniform =
    let more = one_label label joins d (t + 1) (left_over d t sides i) (q ∷ pieces) rest uniform.1 in
    let b = more.0 in
    let inside : i < length sides = omega (arith, least.0.0, length-map sides (λ (side : Side). side.vec)) in
    let swap = left_is d t sides i inside (omega arith) in
    let chord : label (Origin.chord t) ≡ b = each-new (HasLabel label b) sides _ _ _ _ swap more.1.of_sides in
    let third : label p.third.origin ≡ b = ap (λ (piece : Piece). label piece.third.origin) e ∙ sym (joins t) ∙ chord in
    let first : label (at d sides i).origin ≡ b = ap (λ (piece : Piece). label piece.first.origin) (sym e) ∙ uniform.0.0 ∙ third in
    let second : label (after d sides i).origin ≡ b = ap (λ (piece : Piece). label piece.second.origin) (sym e) ∙ uniform.0.1 ∙ third in
    (b, record { of_sides = each-whole (HasLabel label b) sides _ _ _ _ swap more.1.of_sides first second; of_pieces = (third, more.1.of_pieces) })

outer_labels : (label : Origin → Bool) (b : Bool) (p e f : ℕ) (sides : List Vec2) → AllByRecursion (HasLabel label b) (outer_sides p e sides) → f < length sides → label (Origin.outer p (e + f)) ≡ b
outer_labels label b p e f [] all below = absurd (omega arith)
outer_labels label b p e zero (v ∷ sides) all below = let same : e + 0 ≡ e = omega arith in ap (λ n. label (Origin.outer p n)) same ∙ all.0
outer_labels label b p e (suc f) (v ∷ sides) all below =
    let same : e + suc f ≡ e + 1 + f = omega arith in
    ap (λ n. label (Origin.outer p n)) same ∙ outer_labels label b p (e + 1) f sides all.1 (omega arith)

pub outer_length : (p e : ℕ) (sides : List Vec2) → length (outer_sides p e sides) ≡ length sides
outer_length p e [] = refl
outer_length p e (v ∷ sides) = ap suc (outer_length p (e + 1) sides)

-- the mark of polygon p
abbrev pub mark_of : (Origin → Bool) → ℕ → Bool
mark_of label p = label (Origin.outer p 0)

-- the triangle has the mark of some polygon, from polygon p on
abbrev pub HasMark : (Origin → Bool) → ℕ → List (List Vec2) → Piece → Type 0
HasMark label p polygons piece = (q : ℕ) × (q < length polygons) × (label piece.third.origin ≡ mark_of label (p + q))

each-map : {X : Type 0} (P Q : X → Type 0) (xs : List X) → ((x : X) → P x → Q x) → AllByRecursion P xs → AllByRecursion Q xs
each-map P Q [] f all = tt
each-map P Q (x ∷ xs) f all = (f x all.0, each-map P Q xs f all.1)

-- the mark of one polygon, in its sides and triangles
own_mark : (label : Origin → Bool) → JoinsChords label → (d p t : ℕ) (sides : List Vec2) (own : List Piece) → IsCut d t (outer_sides p 0 sides) own → AllByRecursion (IsUniform label) own
    → ((e : ℕ) → e < length sides → label (Origin.outer p e) ≡ mark_of label p) × AllByRecursion (HasLabelToo label (mark_of label p)) own
own_mark label joins d p t sides own cut uniform =
    let found = one_label label joins d t (outer_sides p 0 sides) own cut uniform in
    let b = found.0 in
    let many : 1 ≤ length sides = omega (arith, cut_length d t (outer_sides p 0 sides) own cut, outer_length p 0 sides) in
    let at_zero : label (Origin.outer p 0) ≡ b = outer_labels label b p 0 0 sides found.1.of_sides many in (
      λ e below. let zeroth : 0 + e ≡ e = omega arith in ap (λ n. label (Origin.outer p n)) (sym zeroth) ∙ outer_labels label b p 0 e sides found.1.of_sides below ∙ sym at_zero,
      subst (λ c. AllByRecursion (HasLabelToo label c) own) (sym at_zero) found.1.of_pieces,
    )

pub sides_marked : (label : Origin → Bool) → JoinsChords label → (d p t : ℕ) (polygons : List (List Vec2)) (pieces : List Piece) → AreCut d p t polygons pieces → AllByRecursion (IsUniform label) pieces
    → (q e : ℕ) → IsThere polygons q e → label (Origin.outer (p + q) e) ≡ mark_of label (p + q)
sides_marked label joins d p t [] pieces cut uniform q e there = absurd (omega (arith, there.0))
sides_marked label joins d p t (sides ∷ polygons) pieces (own, more, same, here, rest) uniform zero e there =
    let all = subst (AllByRecursion (IsUniform label)) same uniform in
    let mine = own_mark label joins d p t sides own here (each-left (IsUniform label) own more all) in
    let place : p + 0 ≡ p = omega arith in
    subst (λ n. label (Origin.outer n e) ≡ mark_of label n) (sym place) (mine.0 e there.1)
sides_marked label joins d p t (sides ∷ polygons) pieces (own, more, same, here, rest) uniform (suc q) e there =
    let all = subst (AllByRecursion (IsUniform label)) same uniform in
    let place : p + suc q ≡ p + 1 + q = omega arith in
    subst (λ n. label (Origin.outer n e) ≡ mark_of label n) (sym place)
    (sides_marked label joins d (p + 1) (t + length own) polygons more rest (each-right (IsUniform label) own more all) q e (omega (arith, there.0), there.1))

pub pieces_marked : (label : Origin → Bool) → JoinsChords label → (d p t : ℕ) (polygons : List (List Vec2)) (pieces : List Piece) → AreCut d p t polygons pieces → AllByRecursion (IsUniform label) pieces
    → AllByRecursion (HasMark label p polygons) pieces
pieces_marked label joins d p t [] pieces cut uniform = subst (AllByRecursion (HasMark label p [])) (sym cut) tt
pieces_marked label joins d p t (sides ∷ polygons) pieces (own, more, same, here, rest) uniform =
    let all = subst (AllByRecursion (IsUniform label)) same uniform in
    let mine = own_mark label joins d p t sides own here (each-left (IsUniform label) own more all) in
    let others = pieces_marked label joins d (p + 1) (t + length own) polygons more rest (each-right (IsUniform label) own more all) in
    let place : p ≡ p + 0 = omega arith in
    let front = each-map (HasLabelToo label (mark_of label p)) (HasMark label p (sides ∷ polygons)) own (λ piece has. (0, omega arith, has ∙ ap (mark_of label) place)) mine.1 in
    let behind = each-map (HasMark label (p + 1) polygons) (HasMark label p (sides ∷ polygons)) more
    (λ piece has. let next : p + 1 + has.0 ≡ p + suc has.0 = omega arith in (suc has.0, omega (arith, has.1), has.2 ∙ ap (mark_of label) next)) others in
    subst (AllByRecursion (HasMark label p (sides ∷ polygons))) (sym same) (each-append (HasMark label p (sides ∷ polygons)) own more front behind)

-- the first triangle has the mark of the first polygon
pub first_marked : (label : Origin → Bool) → JoinsChords label → (d p t : ℕ) (polygons : List (List Vec2)) (pieces : List Piece) (none : Piece) → 1 ≤ length polygons → AreCut d p t polygons pieces → AllByRecursion (IsUniform label) pieces
    → (1 ≤ length pieces) × (label (get_or pieces 0 none).third.origin ≡ mark_of label p)
first_marked label joins d p t [] pieces none some cut uniform = absurd (omega arith)
first_marked label joins d p t (sides ∷ polygons) pieces none some ([], more, same, here, rest) uniform = absurd here
first_marked label joins d p t (sides ∷ polygons) pieces none some (a ∷ own, more, same, here, rest) uniform =
    let all = subst (AllByRecursion (IsUniform label)) same uniform in
    let mine = own_mark label joins d p t sides (a ∷ own) here (each-left (IsUniform label) (a ∷ own) more all) in
    (omega (arith, ap length same), ap (λ ps. label (get_or ps 0 none).third.origin) same ∙ mine.1.0)

-- where an origin stands
abbrev pub place : Origin → List Side → ℕ
place o [] = 0
place o (side ∷ sides) = cond (nat_eq (is o side.origin) 0) (suc (place o sides)) 0

pub place_some : (o : Origin) (sides : List Side) → 1 ≤ count o sides → (place o sides < length sides) × (source_at sides (place o sides) ≡ o)
place_some o [] some = absurd (omega arith)
place_some o (side ∷ sides) some =
    elim (cases_Bool (nat_eq (is o side.origin) 0)) [
      | inl none ↦
          let rest = place_some o sides (omega (arith, eqb-true (is o side.origin) 0 none)) in
          let e : place o (side ∷ sides) ≡ suc (place o sides) = cond-true {A = ℕ} _ _ _ none in
          (subst (λ n. n < length (side ∷ sides)) (sym e) (omega (arith, rest.0)), subst (λ n. source_at (side ∷ sides) n ≡ o) (sym e) rest.1)
      | inr here ↦
          let e : place o (side ∷ sides) ≡ 0 = cond-false {A = ℕ} _ _ _ here in
          let other = eqb-false (is o side.origin) 0 here in
          let one : 1 ≤ is o side.origin = omega (arith, other) in
          (subst (λ n. n < length (side ∷ sides)) (sym e) (omega arith), subst (λ n. source_at (side ∷ sides) n ≡ o) (sym e) (sym (is_same o side.origin one)))
    ]

pub place_none : (o : Origin) (sides : List Side) → count o sides ≡ 0 → place o sides ≡ length sides
place_none o [] none = refl
place_none o (side ∷ sides) none =
    elim (cases_Bool (nat_eq (is o side.origin) 0)) [
      | inl is_none ↦ cond-true {A = ℕ} _ _ _ is_none ∙ ap suc (place_none o sides (omega arith))
      | inr here ↦ absurd (eqb-false (is o side.origin) 0 here (omega arith))
    ]
