-- The steps of the cutting of one polygon.
use Rattle.std.proofs.Common.{◌≡◌, ℕ, ◌+◌, ◌*◌, ◌/◌, ◌%◌, ◌<◌, ◌≤◌, List, [], ◌∷◌, ◌++◌, length, get_or, refl, ap, sym, ◌∙◌, subst, subst₂, arith}
use Rattle.std.proofs.lemmas.List.{length-map, get_or-map, length-append, map-append, append-nil, append_assoc}
use Rattle.std.proofs.Math.Nat.{mod-lt}
use Rattle.quad_field.specs.declared.quad.Quad.{Quad}
use Rattle.quad_field.specs.Quads.{quad_ops}
use Rattle.quad_field.specs.FieldNumber.{IsFieldNumber}
use Rattle.plane.specs.Vectors.{Vector, vector, opposite_vector}
use Rattle.plane.specs.declared.vec2.Vec2.{Vec2}
use Rattle.ear_cut.specs.Cuttings.{Side, Piece, Origin, IsCut, replaced, vectors_of, chord_at, at, after, no_one, ear, left_over, sides_of}
use Rattle.ear_cut.specs.Cuttable.{IsCuttable}
use Rattle.ear_cut.specs.Steps.{AreSmall, side_of, seen, IsEarCut, IsPolygonCut}
use Rattle.ear_cut.specs.declared.side.Edge.{Edge}
use Rattle.ear_cut.specs.declared.side.Source.{Source}
use Rattle.ear_cut.specs.declared.side.Source.TheVariants.{Chord, Back}
use Rattle.ear_cut.proofs.Replaced.{replaced-map, replaced-length}
use Rattle.ear_cut.proofs.Sided.{left_is, left_vectors}
use Rattle.ear_cut.proofs.Origins.{sides-append}
use Rattle.ear_cut.proofs.Triangulated.{sides_length}
use Rattle.ear_cut.proofs.Seen.{replaced_small}
use Rattle.ear_cut.proofs.Ears.{cuttable_left}

-- the side at place i, and the one after it
seen_at : (d : ℕ) (xs : List Edge) (i : ℕ) (e : Edge) → i < length xs → side_of (get_or xs i e) ≡ at d (seen xs) i
seen_at d xs i e below = sym (get_or-map side_of xs i e (no_one d) below)

seen_next : (d : ℕ) (xs : List Edge) (i k : ℕ) (e : Edge) → i < length xs → k ≡ (i + 1) % length xs → side_of (get_or xs k e) ≡ after d (seen xs) i
seen_next d xs i k e below same =
    let place : k ≡ (i + 1) % length (seen xs) = same ∙ ap (λ n. (i + 1) % n) (sym (length-map xs side_of)) in
    let inside : k < length xs = subst (λ n. n < length xs) (sym same) (mod-lt (i + 1) (omega arith)) in
    seen_at d xs k e inside ∙ ap (at d (seen xs)) place

abbrev edge : Vec2 → Source → Edge
edge v source = record { vec = v; source = source }

-- the chord of triangle t
abbrev pub edge_of : Vec2 → ℕ → Edge
edge_of chord t = edge chord (Chord t)

-- the sides of the triangle that is cut off
pub ear_appended : (d t : ℕ) (sides : List Edge) (i k : ℕ) (a b : Edge) (before one two three : List Edge) (chord back : Vec2) → i < length sides → k ≡ (i + 1) % length sides
    → a ≡ get_or sides i a → b ≡ get_or sides k b
    → vector chord ≡ chord_at d (vectors_of (seen sides)) i → vector back ≡ opposite_vector (quad_ops d) (vector chord)
    → one ≡ before ++ a ∷ [] → two ≡ one ++ b ∷ [] → three ≡ two ++ edge back (Back t) ∷ []
    → seen three ≡ seen before ++ sides_of (ear d t (seen sides) i ∷ [])
ear_appended d t sides i k a b before one two three chord back below same is_a is_b is_chord is_back p q r =
    let c = edge back (Back t) in
    let all : three ≡ before ++ a ∷ b ∷ c ∷ [] =
    r ∙ ap (λ xs. xs ++ c ∷ []) (q ∙ ap (λ xs. xs ++ b ∷ []) p)
    ∙ ap (λ xs. xs ++ c ∷ []) (append_assoc before (a ∷ []) (b ∷ [])) ∙ append_assoc before (a ∷ b ∷ []) (c ∷ []) in
    let first : side_of a ≡ at d (seen sides) i = ap side_of is_a ∙ seen_at d sides i a below in
    let second : side_of b ≡ after d (seen sides) i = ap side_of is_b ∙ seen_next d sides i k b below same in
    let third : vector back ≡ opposite_vector (quad_ops d) (chord_at d (vectors_of (seen sides)) i) = is_back ∙ ap (opposite_vector (quad_ops d)) is_chord in
    ap seen all ∙ map-append side_of before (a ∷ b ∷ c ∷ [])
    ∙ ap (λ (x : Side). seen before ++ x ∷ side_of b ∷ side_of c ∷ []) first
    ∙ ap (λ (x : Side). seen before ++ at d (seen sides) i ∷ x ∷ side_of c ∷ []) second
    ∙ ap (λ (v : Vector Quad). let last : Side = record { vec = v; origin = Origin.back t } in seen before ++ at d (seen sides) i ∷ after d (seen sides) i ∷ last ∷ []) third

-- what is left of the sides
pub ear_left : (d t : ℕ) (sides left : List Edge) (i : ℕ) (chord : Vec2) → vector chord ≡ chord_at d (vectors_of (seen sides)) i → left ≡ replaced sides i (edge chord (Chord t))
    → seen left ≡ left_over d t (seen sides) i
ear_left d t sides left i chord is_chord same =
    ap seen same ∙ replaced-map side_of sides i (edge chord (Chord t))
    ∙ ap (λ (v : Vector Quad). let new : Side = record { vec = v; origin = Origin.chord t } in replaced (seen sides) i new) is_chord

-- a polygon is cut as far as these sides
pub record IsCutTo (d t : ℕ) (polygon before behind sides : List Side) : Type 0 where
  pub own : List Piece
  pub appended : behind ≡ before ++ sides_of own
  pub rest : (later : List Piece) → IsCut d (t + length own) sides later → IsCut d t polygon (own ++ later)

pub cut_none : (d t : ℕ) (polygon before : List Side) → IsCutTo d t polygon before before polygon
cut_none d t polygon before =
    let zeroth : t + 0 ≡ t = omega arith in
    record { own = []; appended = sym (append-nil before); rest = λ later cut. subst (λ n. IsCut d n polygon later) zeroth cut }

pub cut_more : (d t u : ℕ) (polygon before middle behind sides left : List Side) (so_far : IsCutTo d t polygon before middle sides) → u ≡ t + length so_far.own → 3 < length sides
    → IsEarCut d u sides middle behind left → IsCutTo d t polygon before behind left
cut_more d t u polygon before middle behind sides left so_far same long ear_cut =
    let i = ear_cut.place in
    let piece = ear d u sides i in
    let own = so_far.own in
    record {
      own = own ++ piece ∷ [];
      appended = ear_cut.appended ∙ ap (λ xs. xs ++ sides_of (piece ∷ [])) so_far.appended ∙ append_assoc before (sides_of own) (sides_of (piece ∷ [])) ∙ ap (λ xs. before ++ xs) (sym (sides-append own (piece ∷ [])));
      rest = λ later cut. more later cut;
    }
  where
    more : (later : List Piece) → IsCut d (t + length (so_far.own ++ ear d u sides ear_cut.place ∷ [])) left later → IsCut d t polygon ((so_far.own ++ ear d u sides ear_cut.place ∷ []) ++ later)
    more [] cut = absurd cut
    more (next ∷ later) cut =
        let i = ear_cut.place in
        let piece = ear d u sides i in
        let own = so_far.own in
        let number : t + length (own ++ piece ∷ []) ≡ u + 1 = omega (arith, length-append own (piece ∷ []), same) in
        let here : IsCut d (u + 1) (left_over d u sides i) (next ∷ later) = subst₂ (λ n xs. IsCut d n xs (next ∷ later)) number ear_cut.rest cut in
        let step : IsCut d u sides (piece ∷ next ∷ later) = (long, (i, ear_cut.least, refl, here)) in
        subst (IsCut d t polygon) (sym (append_assoc own (piece ∷ []) (next ∷ later))) (so_far.rest (piece ∷ next ∷ later) (subst (λ n. IsCut d n sides (piece ∷ next ∷ later)) same step))

pub cut_end : (d t : ℕ) (polygon before middle : List Side) (a b c : Side) → IsCutTo d t polygon before middle (a ∷ b ∷ c ∷ []) → IsPolygonCut d t polygon before (middle ++ a ∷ b ∷ c ∷ [])
cut_end d t polygon before middle a b c so_far =
    let piece : Piece = record { first = a; second = b; third = c } in
    let own = so_far.own in
    record {
      own = own ++ piece ∷ [];
      cut = so_far.rest (piece ∷ []) refl;
      appended = ap (λ xs. xs ++ a ∷ b ∷ c ∷ []) so_far.appended ∙ append_assoc before (sides_of own) (sides_of (piece ∷ [])) ∙ ap (λ xs. before ++ xs) (sym (sides-append own (piece ∷ [])));
    }

three_of : (xs : List Edge) (e f g : Edge) → length xs ≡ 3 → xs ≡ get_or xs 0 e ∷ get_or xs 1 f ∷ get_or xs 2 g ∷ []
three_of [] e f g long = absurd (omega arith)
three_of (a ∷ []) e f g long = absurd (omega arith)
three_of (a ∷ b ∷ []) e f g long = absurd (omega arith)
three_of (a ∷ b ∷ c ∷ []) e f g long = refl
three_of (a ∷ b ∷ c ∷ x ∷ xs) e f g long = absurd (omega arith)

-- the last three sides are the last triangle
pub cut_last : (d t : ℕ) (polygon before : List Side) (sides middle one two three : List Edge) (a b c : Edge) → length sides ≡ 3 → a ≡ get_or sides 0 a → b ≡ get_or sides 1 b → c ≡ get_or sides 2 c
    → IsCutTo d t polygon before (seen middle) (seen sides) → one ≡ middle ++ a ∷ [] → two ≡ one ++ b ∷ [] → three ≡ two ++ c ∷ [] → IsPolygonCut d t polygon before (seen three)
cut_last d t polygon before sides middle one two three a b c long is_a is_b is_c so_far p q r =
    let all : three ≡ middle ++ a ∷ b ∷ c ∷ [] =
    r ∙ ap (λ xs. xs ++ c ∷ []) (q ∙ ap (λ xs. xs ++ b ∷ []) p)
    ∙ ap (λ xs. xs ++ c ∷ []) (append_assoc middle (a ∷ []) (b ∷ [])) ∙ append_assoc middle (a ∷ b ∷ []) (c ∷ []) in
    let last : sides ≡ a ∷ b ∷ c ∷ [] =
    three_of sides a b c long ∙ ap (λ x. x ∷ get_or sides 1 b ∷ get_or sides 2 c ∷ []) (sym is_a) ∙ ap (λ x. a ∷ x ∷ get_or sides 2 c ∷ []) (sym is_b) ∙ ap (λ x. a ∷ b ∷ x ∷ []) (sym is_c) in
    subst (IsPolygonCut d t polygon before) (sym (ap seen all ∙ map-append side_of middle (a ∷ b ∷ c ∷ [])))
    (cut_end d t polygon before (seen middle) (side_of a) (side_of b) (side_of c) (subst (λ xs. IsCutTo d t polygon before (seen middle) (seen xs)) last so_far))

-- how long the lists are after an ear is cut off
pub record IsShorter (d : ℕ) (sides before behind left : List Edge) : Type 0 where
  pub appended : length behind ≡ length before + 3
  pub left_long : length left + 1 ≡ length sides
  pub cuttable : IsCuttable d (vectors_of (seen left))
  pub small : AreSmall (vectors_of (seen left))

pub ear_shorter : (d t : ℕ) (sides before behind left : List Edge) → IsFieldNumber d → 4 ≤ length sides → IsCuttable d (vectors_of (seen sides)) → AreSmall (vectors_of (seen sides))
    → IsEarCut d t (seen sides) (seen before) (seen behind) (seen left) → IsShorter d sides before behind left
ear_shorter d t sides before behind left field long cuttable small cut =
    let i = cut.place in
    let all = length-map sides side_of in
    let vs = length-map (seen sides) (λ (side : Side). side.vec) in
    let inside : i < length (seen sides) = omega (arith, cut.least.0.0) in
    let vectors : vectors_of (seen left) ≡ replaced (vectors_of (seen sides)) i (chord_at d (vectors_of (seen sides)) i) = ap vectors_of cut.rest ∙ left_vectors d t (seen sides) i in
    record {
      appended = omega (arith, ap length cut.appended, length-append (seen before) (sides_of (ear d t (seen sides) i ∷ [])), length-map before side_of, length-map behind side_of);
      left_long = omega (arith, ap length cut.rest, replaced-length (seen sides) _ _ _ _ (left_is d t (seen sides) i inside (omega arith)), length-map left side_of);
      cuttable = subst (IsCuttable d) (sym vectors) (cuttable_left d field (vectors_of (seen sides)) (omega arith) cuttable i cut.least.0);
      small = subst AreSmall (sym vectors) (omega (arith, replaced_small d (vectors_of (seen sides)) i cut.least.0.0 (omega arith)));
    }

-- how many triangles were cut off
pub cut_count : (d t : ℕ) (polygon : List Side) (before behind : List Edge) (sides : List Side) (so_far : IsCutTo d t polygon (seen before) (seen behind) sides) → length behind ≡ length before + 3 * length so_far.own
cut_count d t polygon before behind sides so_far =
    omega (arith, ap length so_far.appended, length-append (seen before) (sides_of so_far.own), length-map before side_of, length-map behind side_of, sides_length so_far.own)

-- one ear further
pub record IsFurther (d t : ℕ) (polygon : List Side) (before sides middle behind left : List Edge) : Type 0 where
  pub shorter : IsShorter d sides middle behind left
  pub so_far : IsCutTo d t polygon (seen before) (seen behind) (seen left)

pub cut_on : (d n m : ℕ) (polygon : List Side) (before sides middle behind left : List Edge) → IsFieldNumber d → 4 ≤ length sides → IsCuttable d (vectors_of (seen sides)) → AreSmall (vectors_of (seen sides))
    → length before ≡ n → n % 3 ≡ 0 → length middle ≡ m → IsCutTo d (n / 3) polygon (seen before) (seen middle) (seen sides) → IsEarCut d (m / 3) (seen sides) (seen middle) (seen behind) (seen left)
    → IsFurther d (n / 3) polygon before sides middle behind left
cut_on d n m polygon before sides middle behind left field long cuttable small is_n whole is_m so_far here =
    let count = cut_count d (n / 3) polygon before middle (seen sides) so_far in
    record {
      shorter = ear_shorter d (m / 3) sides middle behind left field long cuttable small here;
      so_far = cut_more d (n / 3) (m / 3) polygon (seen before) (seen middle) (seen behind) (seen sides) (seen left) so_far (omega arith) (omega (arith, long, length-map sides side_of)) here;
    }
