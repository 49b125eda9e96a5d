-- Each side of a polygon, each chord and each back of a chord is the origin of one side of the triangles.
use Rattle.std.proofs.Common.{◌≡◌, ℕ, zero, suc, ◌+◌, ◌<◌, ◌≤◌, List, [], ◌∷◌, ◌++◌, length, nat_eq, Bool, cond, true, false, refl, ap, ap₂, sym, ◌∙◌, subst, arith, inl, inr, eq-eqb, eqb-true}
use Rattle.std.proofs.lemmas.Bool.{cases_Bool, cases_eq, cases_lt, cond-true, cond-false}
use Rattle.std.proofs.lemmas.List.{length-map, length-append}
use Rattle.plane.specs.declared.vec2.Vec2.{Vec2}
use Rattle.surface_text.specs.Limits.{IsThere}
use Rattle.ear_cut.specs.Cuttings.{Side, Piece, Origin, left_over, outer_sides, sides_of, IsCut, AreCut}
use Rattle.ear_cut.specs.Steps.{total, source_at}
use Rattle.ear_cut.proofs.Replaced.{total-append, replaced-total}
use Rattle.ear_cut.proofs.Sided.{left_is}

-- 1 where two origins are one, else 0
abbrev pub one_if : Bool → ℕ
one_if b = cond b 1 0

abbrev pub is : Origin → Origin → ℕ
is (Origin.outer p e) (Origin.outer q f) = cond (nat_eq p q) (one_if (nat_eq e f)) 0
is (Origin.chord t) (Origin.chord u) = one_if (nat_eq t u)
is (Origin.back t) (Origin.back u) = one_if (nat_eq t u)
is one other = 0

if_true : (b : Bool) (n : ℕ) → b ≡ true → cond b n 0 ≡ n
if_true b n e = cond-true {A = ℕ} b n 0 e

if_false : (b : Bool) (n : ℕ) → b ≡ false → cond b n 0 ≡ 0
if_false b n e = cond-false {A = ℕ} b n 0 e

one_self : (n : ℕ) → one_if (nat_eq n n) ≡ 1
one_self n = if_true (nat_eq n n) 1 (eq-eqb n n refl)

one_same : (m n : ℕ) → 1 ≤ one_if (nat_eq m n) → m ≡ n
one_same m n h =
    elim (cases_Bool (nat_eq m n)) [
      | inl same ↦ eqb-true m n same
      | inr other ↦ absurd (omega (arith, h, if_false (nat_eq m n) 1 other))
    ]

one_most : (m n : ℕ) → one_if (nat_eq m n) ≤ 1
one_most m n =
    elim (cases_Bool (nat_eq m n)) [
      | inl same ↦ omega (arith, if_true (nat_eq m n) 1 same)
      | inr other ↦ omega (arith, if_false (nat_eq m n) 1 other)
    ]

pub is_self : (o : Origin) → is o o ≡ 1
is_self (Origin.outer p e) = if_true (nat_eq p p) (one_if (nat_eq e e)) (eq-eqb p p refl) ∙ one_self e
is_self (Origin.chord t) = one_self t
is_self (Origin.back t) = one_self t

pub is_same : (o r : Origin) → 1 ≤ is o r → o ≡ r
is_same (Origin.outer p e) (Origin.outer q f) h =
    elim (cases_Bool (nat_eq p q)) [
      | inl same ↦ ap₂ Origin.outer (eqb-true p q same) (one_same e f (omega (arith, h, if_true (nat_eq p q) (one_if (nat_eq e f)) same)))
      | inr other ↦ absurd (omega (arith, h, if_false (nat_eq p q) (one_if (nat_eq e f)) other))
    ]
is_same (Origin.outer p e) (Origin.chord u) h = absurd (omega arith)
is_same (Origin.outer p e) (Origin.back u) h = absurd (omega arith)
is_same (Origin.chord t) (Origin.outer q f) h = absurd (omega arith)
is_same (Origin.chord t) (Origin.chord u) h = ap Origin.chord (one_same t u h)
is_same (Origin.chord t) (Origin.back u) h = absurd (omega arith)
is_same (Origin.back t) (Origin.outer q f) h = absurd (omega arith)
is_same (Origin.back t) (Origin.chord u) h = absurd (omega arith)
is_same (Origin.back t) (Origin.back u) h = ap Origin.back (one_same t u h)

pub is_most : (o r : Origin) → is o r ≤ 1
is_most (Origin.outer p e) (Origin.outer q f) =
    elim (cases_Bool (nat_eq p q)) [
      | inl same ↦ omega (arith, one_most e f, if_true (nat_eq p q) (one_if (nat_eq e f)) same)
      | inr other ↦ omega (arith, if_false (nat_eq p q) (one_if (nat_eq e f)) other)
    ]
is_most (Origin.outer p e) (Origin.chord u) = omega arith
is_most (Origin.outer p e) (Origin.back u) = omega arith
is_most (Origin.chord t) (Origin.outer q f) = omega arith
is_most (Origin.chord t) (Origin.chord u) = one_most t u
is_most (Origin.chord t) (Origin.back u) = omega arith
is_most (Origin.back t) (Origin.outer q f) = omega arith
is_most (Origin.back t) (Origin.chord u) = omega arith
is_most (Origin.back t) (Origin.back u) = one_most t u

pub is_other : (o r : Origin) → ¬ (o ≡ r) → is o r ≡ 0
is_other o r other =
    elim (cases_eq (is o r) 0) [ inl none ↦ none | inr some ↦ absurd (other (is_same o r (omega arith))) ]

-- how many sides come from there
abbrev pub count : Origin → List Side → ℕ
count o sides = total (λ (side : Side). is o side.origin) sides

pub count_some : (o : Origin) (sides : List Side) → 1 ≤ count o sides → (h : ℕ) × (h < length sides) × (source_at sides h ≡ o)
count_some o [] some = absurd (omega arith)
count_some o (side ∷ sides) some =
    elim (cases_eq (is o side.origin) 0) [
      | inl none ↦
          let rest = count_some o sides (omega arith) in
          (suc rest.0, omega (arith, rest.1), rest.2)
      | inr here ↦ (0, omega arith, sym (is_same o side.origin (omega arith)))
    ]

pub count_at : (o : Origin) (sides : List Side) (h : ℕ) → h < length sides → source_at sides h ≡ o → 1 ≤ count o sides
count_at o [] h below e = absurd (omega arith)
count_at o (side ∷ sides) zero below e = omega (arith, ap (is o) e, is_self o)
count_at o (side ∷ sides) (suc h) below e = omega (arith, count_at o sides h (omega arith) e)

pub count_one : (o : Origin) (sides : List Side) (h k : ℕ) → count o sides ≤ 1 → h < length sides → k < length sides → source_at sides h ≡ o → source_at sides k ≡ o → h ≡ k
count_one o [] h k most p q e f = absurd (omega arith)
count_one o (side ∷ sides) zero zero most p q e f = refl
count_one o (side ∷ sides) zero (suc k) most p q e f = absurd (omega (arith, ap (is o) e, is_self o, count_at o sides k (omega arith) f))
count_one o (side ∷ sides) (suc h) zero most p q e f = absurd (omega (arith, ap (is o) f, is_self o, count_at o sides h (omega arith) e))
count_one o (side ∷ sides) (suc h) (suc k) most p q e f = ap suc (count_one o sides h k (omega arith) (omega arith) (omega arith) e f)

-- how many of the chords of pieces, numbered from t on, and of their backs it is
abbrev pub chords_of : Origin → ℕ → List Piece → ℕ
chords_of o t [] = 0
chords_of o t (p ∷ []) = 0
chords_of o t (p ∷ q ∷ pieces) = is o (Origin.chord t) + is o (Origin.back t) + chords_of o (t + 1) (q ∷ pieces)

-- the sides of a piece
abbrev pub three : Piece → List Side
three piece = piece.first ∷ piece.second ∷ piece.third ∷ []

pub count_cut : (o : Origin) (d t : ℕ) (sides : List Side) (pieces : List Piece) → IsCut d t sides pieces → count o (sides_of pieces) ≡ count o sides + chords_of o t pieces
count_cut o d t sides [] cut = absurd cut
count_cut o d t sides (p ∷ []) cut = omega (arith, ap (count o) cut)
count_cut o d t sides (p ∷ q ∷ pieces) (long, (i, least, e, rest)) =
    let inside : i < length sides = omega (arith, least.0.0, length-map sides (λ (side : Side). side.vec)) in
    let more = count_cut o d (t + 1) (left_over d t sides i) (q ∷ pieces) rest in
    let here = ap (λ (piece : Piece). count o (three piece)) e in
    let swap = replaced-total (λ (side : Side). is o side.origin) sides _ _ _ _ (left_is d t sides i inside (omega arith)) in
    omega (arith, more, here, swap)

chords_outer : (p e t : ℕ) (pieces : List Piece) → chords_of (Origin.outer p e) t pieces ≡ 0
chords_outer p e t [] = refl
chords_outer p e t (a ∷ []) = refl
chords_outer p e t (a ∷ b ∷ pieces) = omega (arith, chords_outer p e (t + 1) (b ∷ pieces))

chords_same : (u t : ℕ) (pieces : List Piece) → chords_of (Origin.chord u) t pieces ≡ chords_of (Origin.back u) t pieces
chords_same u t [] = refl
chords_same u t (a ∷ []) = refl
chords_same u t (a ∷ b ∷ pieces) = omega (arith, chords_same u (t + 1) (b ∷ pieces))

not_one : (u t : ℕ) → ¬ (u ≡ t) → one_if (nat_eq u t) ≡ 0
not_one u t other =
    elim (cases_Bool (nat_eq u t)) [ inl same ↦ absurd (other (eqb-true u t same)) | inr isnt ↦ if_false (nat_eq u t) 1 isnt ]

chords_below : (u t : ℕ) (pieces : List Piece) → u < t → chords_of (Origin.chord u) t pieces ≡ 0
chords_below u t [] below = refl
chords_below u t (a ∷ []) below = refl
chords_below u t (a ∷ b ∷ pieces) below = omega (arith, not_one u t (λ e. omega arith), chords_below u (t + 1) (b ∷ pieces) (omega arith))

chords_above : (u t : ℕ) (pieces : List Piece) → t + length pieces ≤ u → chords_of (Origin.chord u) t pieces ≡ 0
chords_above u t [] above = refl
chords_above u t (a ∷ []) above = refl
chords_above u t (a ∷ b ∷ pieces) above = omega (arith, not_one u t (λ e. omega arith), chords_above u (t + 1) (b ∷ pieces) (omega arith))

chords_most : (u t : ℕ) (pieces : List Piece) → chords_of (Origin.chord u) t pieces ≤ 1
chords_most u t [] = omega arith
chords_most u t (a ∷ []) = omega arith
chords_most u t (a ∷ b ∷ pieces) =
    elim (cases_eq u t) [
      | inl same ↦ omega (arith, one_most u t, chords_below u (t + 1) (b ∷ pieces) (omega arith))
      | inr other ↦ omega (arith, not_one u t other, chords_most u (t + 1) (b ∷ pieces))
    ]

-- the sides of a polygon
outer_other : (q f p e : ℕ) (sides : List Vec2) → ¬ (q ≡ p) → count (Origin.outer q f) (outer_sides p e sides) ≡ 0
outer_other q f p e [] other = refl
outer_other q f p e (v ∷ sides) other =
    omega (arith, is_other (Origin.outer q f) (Origin.outer p e) (λ same. other (cc)), outer_other q f p (e + 1) sides other)

outer_below : (p f e : ℕ) (sides : List Vec2) → f < e → count (Origin.outer p f) (outer_sides p e sides) ≡ 0
outer_below p f e [] below = refl
outer_below p f e (v ∷ sides) below =
    omega (arith, is_other (Origin.outer p f) (Origin.outer p e) (λ same. let number : f ≡ e = cc in omega arith), outer_below p f (e + 1) sides (omega arith))

outer_most : (p f e : ℕ) (sides : List Vec2) → count (Origin.outer p f) (outer_sides p e sides) ≤ 1
outer_most p f e [] = omega arith
outer_most p f e (v ∷ sides) =
    elim (cases_eq f e) [
      | inl same ↦ omega (arith, is_most (Origin.outer p f) (Origin.outer p e), outer_below p f (e + 1) sides (omega arith))
      | inr other ↦ omega (arith, is_other (Origin.outer p f) (Origin.outer p e) (λ same. other (cc)), outer_most p f (e + 1) sides)
    ]

outer_there : (p f e : ℕ) (sides : List Vec2) → e ≤ f → f < e + length sides → 1 ≤ count (Origin.outer p f) (outer_sides p e sides)
outer_there p f e [] low high = absurd (omega arith)
outer_there p f e (v ∷ sides) low high =
    elim (cases_eq f e) [
      | inl same ↦ omega (arith, ap (λ n. is (Origin.outer p f) (Origin.outer p n)) same, is_self (Origin.outer p f))
      | inr other ↦ omega (arith, outer_there p f (e + 1) sides (omega arith) (omega arith))
    ]

outer_from : (p f e : ℕ) (sides : List Vec2) → 1 ≤ count (Origin.outer p f) (outer_sides p e sides) → f < e + length sides
outer_from p f e [] some = absurd (omega arith)
outer_from p f e (v ∷ sides) some =
    elim (cases_eq f e) [
      | inl same ↦ omega arith
      | inr other ↦
          let none = is_other (Origin.outer p f) (Origin.outer p e) (λ same. other (cc)) in
          omega (arith, outer_from p f (e + 1) sides (omega (arith, none)))
    ]

outer_chord : (u p e : ℕ) (sides : List Vec2) → count (Origin.chord u) (outer_sides p e sides) ≡ 0
outer_chord u p e [] = refl
outer_chord u p e (v ∷ sides) = omega (arith, outer_chord u p (e + 1) sides)

outer_back : (u p e : ℕ) (sides : List Vec2) → count (Origin.back u) (outer_sides p e sides) ≡ 0
outer_back u p e [] = refl
outer_back u p e (v ∷ sides) = omega (arith, outer_back u p (e + 1) sides)

pub sides-append : (ps qs : List Piece) → sides_of (ps ++ qs) ≡ sides_of ps ++ sides_of qs
sides-append [] qs = refl
sides-append (p ∷ ps) qs = ap (λ (sides : List Side). p.first ∷ p.second ∷ p.third ∷ sides) (sides-append ps qs)

count-parts : (o : Origin) (pieces own more : List Piece) → pieces ≡ own ++ more → count o (sides_of pieces) ≡ count o (sides_of own) + count o (sides_of more)
count-parts o pieces own more e = ap (λ ps. count o (sides_of ps)) e ∙ ap (count o) (sides-append own more) ∙ total-append (λ (side : Side). is o side.origin) (sides_of own) (sides_of more)

-- what a cutting doesn't reach
below_outer : (q f d p t : ℕ) (polygons : List (List Vec2)) (pieces : List Piece) → q < p → AreCut d p t polygons pieces → count (Origin.outer q f) (sides_of pieces) ≡ 0
below_outer q f d p t [] pieces below cut = ap (λ ps. count (Origin.outer q f) (sides_of ps)) cut
below_outer q f d p t (sides ∷ polygons) pieces below (own, more, e, here, rest) =
    omega (arith, count-parts (Origin.outer q f) pieces own more e, count_cut (Origin.outer q f) d t (outer_sides p 0 sides) own here, chords_outer q f t own, outer_other q f p 0 sides (λ same. omega arith), below_outer q f d (p + 1) (t + length own) polygons more (omega arith) rest)

below_chord : (u d p t : ℕ) (polygons : List (List Vec2)) (pieces : List Piece) → u < t → AreCut d p t polygons pieces → count (Origin.chord u) (sides_of pieces) ≡ 0
below_chord u d p t [] pieces below cut = ap (λ ps. count (Origin.chord u) (sides_of ps)) cut
below_chord u d p t (sides ∷ polygons) pieces below (own, more, e, here, rest) =
    omega (arith, count-parts (Origin.chord u) pieces own more e, count_cut (Origin.chord u) d t (outer_sides p 0 sides) own here, chords_below u t own below, outer_chord u p 0 sides, below_chord u d (p + 1) (t + length own) polygons more (omega arith) rest)

-- there is a chord of no triangle that isn't cut off
above_chord : (u d p t : ℕ) (polygons : List (List Vec2)) (pieces : List Piece) → t + length pieces ≤ u → AreCut d p t polygons pieces → count (Origin.chord u) (sides_of pieces) ≡ 0
above_chord u d p t [] pieces above cut = ap (λ ps. count (Origin.chord u) (sides_of ps)) cut
above_chord u d p t (sides ∷ polygons) pieces above (own, more, e, here, rest) =
    let long = ap length e ∙ length-append own more in
    omega (arith, count-parts (Origin.chord u) pieces own more e, count_cut (Origin.chord u) d t (outer_sides p 0 sides) own here, chords_above u t own (omega arith), outer_chord u p 0 sides, above_chord u d (p + 1) (t + length own) polygons more (omega arith) rest)

pub chord_below : (u d : ℕ) (polygons : List (List Vec2)) (pieces : List Piece) → AreCut d 0 0 polygons pieces → 1 ≤ count (Origin.chord u) (sides_of pieces) → u < length pieces
chord_below u d polygons pieces cut some =
    elim (cases_lt u (length pieces)) [ inl below ↦ below | inr above ↦ absurd (omega (arith, above_chord u d 0 0 polygons pieces (omega arith) cut)) ]

-- as many chords as backs
pub as_many : (u d p t : ℕ) (polygons : List (List Vec2)) (pieces : List Piece) → AreCut d p t polygons pieces → count (Origin.chord u) (sides_of pieces) ≡ count (Origin.back u) (sides_of pieces)
as_many u d p t [] pieces cut = ap (λ ps. count (Origin.chord u) (sides_of ps)) cut ∙ sym (ap (λ ps. count (Origin.back u) (sides_of ps)) cut)
as_many u d p t (sides ∷ polygons) pieces (own, more, e, here, rest) =
    omega (arith, count-parts (Origin.chord u) pieces own more e, count-parts (Origin.back u) pieces own more e, count_cut (Origin.chord u) d t (outer_sides p 0 sides) own here, count_cut (Origin.back u) d t (outer_sides p 0 sides) own here, chords_same u t own, outer_chord u p 0 sides, outer_back u p 0 sides, as_many u d (p + 1) (t + length own) polygons more rest)

most_outer : (q f d p t : ℕ) (polygons : List (List Vec2)) (pieces : List Piece) → AreCut d p t polygons pieces → count (Origin.outer q f) (sides_of pieces) ≤ 1
most_outer q f d p t [] pieces cut = omega (arith, ap (λ ps. count (Origin.outer q f) (sides_of ps)) cut)
most_outer q f d p t (sides ∷ polygons) pieces (own, more, e, here, rest) =
    let parts = count-parts (Origin.outer q f) pieces own more e in
    let mine = count_cut (Origin.outer q f) d t (outer_sides p 0 sides) own here in
    let none = chords_outer q f t own in
    elim (cases_eq q p) [
      | inl same ↦ omega (arith, parts, mine, none, subst (λ n. count (Origin.outer q f) (outer_sides n 0 sides) ≤ 1) same (outer_most q f 0 sides), below_outer q f d (p + 1) (t + length own) polygons more (omega arith) rest)
      | inr other ↦ omega (arith, parts, mine, none, outer_other q f p 0 sides other, most_outer q f d (p + 1) (t + length own) polygons more rest)
    ]

most_chord : (u d p t : ℕ) (polygons : List (List Vec2)) (pieces : List Piece) → AreCut d p t polygons pieces → count (Origin.chord u) (sides_of pieces) ≤ 1
most_chord u d p t [] pieces cut = omega (arith, ap (λ ps. count (Origin.chord u) (sides_of ps)) cut)
most_chord u d p t (sides ∷ polygons) pieces (own, more, e, here, rest) =
    let parts = count-parts (Origin.chord u) pieces own more e in
    let mine = count_cut (Origin.chord u) d t (outer_sides p 0 sides) own here in
    let none = outer_chord u p 0 sides in
    elim (cases_lt u (t + length own)) [
      | inl below ↦ omega (arith, parts, mine, none, chords_most u t own, below_chord u d (p + 1) (t + length own) polygons more below rest)
      | inr above ↦ omega (arith, parts, mine, none, chords_above u t own (omega arith), most_chord u d (p + 1) (t + length own) polygons more rest)
    ]

-- each origin stands at one place at most
pub most_one : (o : Origin) (d p t : ℕ) (polygons : List (List Vec2)) (pieces : List Piece) → AreCut d p t polygons pieces → count o (sides_of pieces) ≤ 1
most_one (Origin.outer q f) d p t polygons pieces cut = most_outer q f d p t polygons pieces cut
most_one (Origin.chord u) d p t polygons pieces cut = most_chord u d p t polygons pieces cut
most_one (Origin.back u) d p t polygons pieces cut = omega (arith, as_many u d p t polygons pieces cut, most_chord u d p t polygons pieces cut)

-- each side of a polygon stands somewhere
pub some_outer : (q f d p t : ℕ) (polygons : List (List Vec2)) (pieces : List Piece) → AreCut d p t polygons pieces → IsThere polygons q f → 1 ≤ count (Origin.outer (p + q) f) (sides_of pieces)
some_outer q f d p t [] pieces cut there = absurd (omega (arith, there.0))
some_outer zero f d p t (sides ∷ polygons) pieces (own, more, e, here, rest) there =
    let place : p + 0 ≡ p = omega arith in
    subst (λ n. 1 ≤ count (Origin.outer n f) (sides_of pieces)) (sym place)
    (omega (arith, count-parts (Origin.outer p f) pieces own more e, count_cut (Origin.outer p f) d t (outer_sides p 0 sides) own here, outer_there p f 0 sides (omega arith) (omega (arith, there.1))))
some_outer (suc q) f d p t (sides ∷ polygons) pieces (own, more, e, here, rest) there =
    let place : p + suc q ≡ p + 1 + q = omega arith in
    subst (λ n. 1 ≤ count (Origin.outer n f) (sides_of pieces)) (sym place)
    (omega (arith, count-parts (Origin.outer (p + 1 + q) f) pieces own more e, some_outer q f d (p + 1) (t + length own) polygons more rest (omega (arith, there.0), there.1)))

-- and no other
pub outer_is_there : (r f d p t : ℕ) (polygons : List (List Vec2)) (pieces : List Piece) → AreCut d p t polygons pieces → 1 ≤ count (Origin.outer r f) (sides_of pieces) → (q : ℕ) × (r ≡ p + q) × IsThere polygons q f
outer_is_there r f d p t [] pieces cut some = absurd (omega (arith, ap (λ ps. count (Origin.outer r f) (sides_of ps)) cut))
outer_is_there r f d p t (sides ∷ polygons) pieces (own, more, e, here, rest) some =
    let parts = count-parts (Origin.outer r f) pieces own more e in
    let mine = count_cut (Origin.outer r f) d t (outer_sides p 0 sides) own here in
    let none = chords_outer r f t own in
    elim (cases_eq r p) [
      | inl same ↦
          let some_here : 1 ≤ count (Origin.outer r f) (outer_sides p 0 sides) = omega (arith, parts, mine, none, below_outer r f d (p + 1) (t + length own) polygons more (omega arith) rest) in
          let below = outer_from p f 0 sides (subst (λ n. 1 ≤ count (Origin.outer n f) (outer_sides p 0 sides)) same some_here) in
          (0, omega arith, (omega arith, omega (arith, below)))
      | inr other ↦
          let behind = outer_is_there r f d (p + 1) (t + length own) polygons more rest (omega (arith, parts, mine, none, outer_other r f p 0 sides other)) in
          (suc behind.0, omega (arith, behind.1), (omega (arith, behind.2.0), behind.2.1))
    ]
