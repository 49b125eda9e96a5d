-- The squares of a tiling are glued to one surface.
use Rattle.std.proofs.Common.{◌≡◌, ℕ, zero, suc, ◌+◌, ◌-◌, ◌<◌, ◌≤◌, inl, inr, List, [], ◌++◌, length, map, get_or, replicate, refl, sym, ap, ap₂, subst, ◌∙◌, arith, IsTrue, Bool, ◌↔◌}
use Rattle.std.specs.List.{AllByRecursion, Contains, range_with_len}
use Rattle.std.proofs.lemmas.Bool.{cases_lt}
use Rattle.std.proofs.lemmas.List.{length-append, length-replicate, get_or-replicate, get_or_append_left, get_or-append_right}
use Rattle.std.proofs.lemmas.List.FromFn.{length-map-range_with_len, get_or-map-range_with_len}
use Rattle.quad_field.specs.declared.quad.Quad.{Quad}
use Rattle.quad_field.specs.Quads.{quad_ops, IsPositive}
use Rattle.quad_field.proofs.CallerLemmas.{natural_positive}
use Rattle.plane.specs.declared.vec2.Vec2.{Vec2}
use Rattle.plane.specs.Vectors.{Vector, vector_sum, opposite_vector}
use Rattle.plane.specs.Halves.{IsUpper}
use Rattle.surface_text.specs.declared.file.Glue.{Glue}
use Rattle.surface_text.specs.Limits.{IsPolygon, IsThere, NamesSides}
use Rattle.gluing.specs.Polygons.{no_vector, vectors, polygon_at, side_at, corner, IsProper}
use Rattle.gluing.specs.Gluings.{Name, first_of, second_of, names, no_glue, glue_at, IsOpposite, IsPaired, triangle_count, IsClosedUnderGlues, IsGluing, gluing_of}
use Rattle.family_gen.specs.Tilings.{Tiling, unit_square, right_glue, upper_glue, tiling_file}
use Rattle.family_gen.proofs.Convex.{TurnsLeft, proper}
use Rattle.family_gen.proofs.NamedSides.{all_at, all_from, first_named, second_named, never_twice}
use Rattle.family_gen.proofs.SquaresLeft.{IsRegular}
use Rattle.family_gen.proofs.SmallNumbers.{two, small_square, within}

-- the unit square turns to the left, its first two sides upper
square_turns : TurnsLeft 2 (vectors unit_square) 2
square_turns = record { closed = refl; lefts = lefts; uppers = uppers; lowers = lowers; some = omega arith; others = omega arith }
  where
    lefts : (i : ℕ) → i < 4 → IsPositive 2 (corner 2 (vectors unit_square) i)
    lefts zero h = natural_positive 2 1 (omega arith)
    lefts (suc zero) h = natural_positive 2 1 (omega arith)
    lefts (suc (suc zero)) h = natural_positive 2 1 (omega arith)
    lefts (suc (suc (suc zero))) h = natural_positive 2 1 (omega arith)
    lefts (suc (suc (suc (suc i)))) h = absurd (omega arith)

    uppers : (i : ℕ) → i < 2 → IsUpper 2 (side_at 2 (vectors unit_square) i)
    uppers zero h = inr (refl, natural_positive 2 1 (omega arith))
    uppers (suc zero) h = inl (natural_positive 2 1 (omega arith))
    uppers (suc (suc i)) h = absurd (omega arith)

    lowers : (i : ℕ) → 2 ≤ i → i < 4 → IsUpper 2 (opposite_vector (quad_ops 2) (side_at 2 (vectors unit_square) i))
    lowers zero from h = absurd (omega arith)
    lowers (suc zero) from h = absurd (omega arith)
    lowers (suc (suc zero)) from h = inr (refl, natural_positive 2 1 (omega arith))
    lowers (suc (suc (suc zero))) from h = inl (natural_positive 2 1 (omega arith))
    lowers (suc (suc (suc (suc i)))) from h = absurd (omega arith)

-- copies of one element
pub all_copies : {X : Type 0} (P : X → Type 0) (n : ℕ) (x : X) → P x → AllByRecursion P (replicate n x)
all_copies P zero x p = tt
all_copies P (suc n) x p = (p, all_copies P n x p)

-- each square is cut into two triangles
two_each : (n : ℕ) → triangle_count (replicate n unit_square) ≡ n + n
two_each zero = refl
two_each (suc n) = omega (arith, two_each n)

-- the line in which side e of square p is named
abbrev line_at : ℕ → (ℕ → ℕ) → (ℕ → ℕ) → ℕ → ℕ → ℕ
line_at n left down p zero = n + down p
line_at n left down p (suc zero) = p
line_at n left down p (suc (suc zero)) = n + p
line_at n left down p (suc (suc (suc e))) = left p

module _ (t : Tiling) (left down : ℕ → ℕ) (regular : IsRegular t left down) where
  abbrev squares : List (List Vec2)
  squares = replicate t.squares unit_square

  abbrev glues : List Glue
  glues = map (right_glue t) (range_with_len 0 t.squares) ++ map (upper_glue t) (range_with_len 0 t.squares)

  -- ---- the squares
  square_at : (p : ℕ) → p < t.squares → get_or squares p [] ≡ unit_square
  square_at p h = get_or-replicate t.squares p unit_square [] h

  polygon_is : (p : ℕ) → p < t.squares → polygon_at squares p ≡ vectors unit_square
  polygon_is p h = ap vectors (square_at p h)

  many : length squares ≡ t.squares
  many = length-replicate t.squares unit_square

  there : (p e : ℕ) → p < t.squares → e < 4 → IsThere squares p e
  there p e h k = (omega (arith, many), subst (λ (s : List Vec2). e < length s) (sym (square_at p h)) k)

  -- ---- the glue lines
  pub twice_as_many : length glues ≡ t.squares + t.squares
  twice_as_many =
      omega (
        arith,
        length-append (map (right_glue t) (range_with_len 0 t.squares)) (map (upper_glue t) (range_with_len 0 t.squares)),
        length-map-range_with_len (right_glue t) 0 t.squares,
        length-map-range_with_len (upper_glue t) 0 t.squares,
      )

  right_line : (i : ℕ) → i < t.squares → glue_at glues i ≡ right_glue t i
  right_line i h =
      let front : i < length (map (right_glue t) (range_with_len 0 t.squares)) = omega (arith, length-map-range_with_len (right_glue t) 0 t.squares) in
      get_or_append_left (map (right_glue t) (range_with_len 0 t.squares)) (map (upper_glue t) (range_with_len 0 t.squares)) no_glue i front
      ∙ get_or-map-range_with_len (right_glue t) 0 t.squares i i no_glue h (omega arith)

  upper_line : (i : ℕ) → i < t.squares → glue_at glues (t.squares + i) ≡ upper_glue t i
  upper_line i h =
      get_or-append_right (map (right_glue t) (range_with_len 0 t.squares)) (map (upper_glue t) (range_with_len 0 t.squares)) t.squares (t.squares + i) no_glue
      (length-map-range_with_len (right_glue t) 0 t.squares) (omega arith)
      ∙ get_or-map-range_with_len (upper_glue t) 0 t.squares (t.squares + i - t.squares) i no_glue (omega arith) (omega arith)

  -- what holds of both glue lines of each square holds of all lines
  pub each_line : (P : ℕ → Glue → Type 0) → ((i : ℕ) → i < t.squares → P i (right_glue t i)) → ((i : ℕ) → i < t.squares → P (t.squares + i) (upper_glue t i))
      → (k : ℕ) → k < length glues → P k (glue_at glues k)
  each_line P rights uppers k h =
      elim (cases_lt k t.squares) [
        | inl before ↦ subst (P k) (sym (right_line k before)) (rights k before)
        | inr past ↦
            let less : k - t.squares < t.squares = omega (arith, twice_as_many) in
            let same : t.squares + (k - t.squares) ≡ k = omega arith in
            subst (λ (n : ℕ). P n (glue_at glues n)) same (subst (P (t.squares + (k - t.squares))) (sym (upper_line (k - t.squares) less)) (uppers (k - t.squares) less))
      ]

  abbrev line : Name → ℕ
  line n = line_at t.squares left down n.0 n.1

  first_told : (k : ℕ) → k < length glues → line (first_of (glue_at glues k)) ≡ k
  first_told k h = each_line (λ k g. line (first_of g) ≡ k) (λ i less. refl) (λ i less. refl) k h

  second_told : (k : ℕ) → k < length glues → line (second_of (glue_at glues k)) ≡ k
  second_told k h =
      each_line (λ k g. line (second_of g) ≡ k) (λ i less. regular.beside.undone i less) (λ i less. ap (λ n. t.squares + n) (regular.above.undone i less)) k h

  two_sides : (k : ℕ) → k < length glues → ¬ (first_of (glue_at glues k) ≡ second_of (glue_at glues k))
  two_sides k h =
      each_line (λ k g. ¬ (first_of g ≡ second_of g)) (λ i less e. let side : ◌≡◌ {A = ℕ} 1 3 = ap (λ (n : Name). n.1) e in omega arith)
      (λ i less e. let side : ◌≡◌ {A = ℕ} 2 0 = ap (λ (n : Name). n.1) e in omega arith) k h

  opposite : (k : ℕ) → k < length glues → IsOpposite 2 squares (glue_at glues k)
  opposite k h =
      each_line (λ k g. IsOpposite 2 squares g) (λ i less. sum_of_sides 1 3 i (t.right i) less (regular.beside.there i less) refl)
      (λ i less. sum_of_sides 2 0 i (t.up i) less (regular.above.there i less) refl) k h
    where
      sum_of_sides : (e f p q : ℕ) → p < t.squares → q < t.squares
          → vector_sum (quad_ops 2) (side_at 2 (vectors unit_square) e) (side_at 2 (vectors unit_square) f) ≡ no_vector 2
          → vector_sum (quad_ops 2) (side_at 2 (polygon_at squares p) e) (side_at 2 (polygon_at squares q) f) ≡ no_vector 2
      sum_of_sides e f p q h k unit =
          ap₂ (λ (s r : List (Vector Quad)). vector_sum (quad_ops 2) (side_at 2 s e) (side_at 2 r f)) (polygon_is p h) (polygon_is q k) ∙ unit

  sides_there : AllByRecursion (NamesSides squares) glues
  sides_there =
      all_from (NamesSides squares) glues no_glue
      (λ k h. each_line (λ k g. NamesSides squares g)
      (λ i less. (there i 1 less (omega arith), there (t.right i) 3 (regular.beside.there i less) (omega arith)))
      (λ i less. (there i 2 less (omega arith), there (t.up i) 0 (regular.above.there i less) (omega arith))) k h)

  -- ---- every side is named
  named : (p e : ℕ) → p < t.squares → e < 4 → Contains (names glues) (p, e)
  named p zero h k =
      second_named glues (t.squares + down p) (p, 0) (omega (arith, twice_as_many, regular.above.back p h))
      (ap second_of (upper_line (down p) (regular.above.back p h)) ∙ ap (λ (q : ℕ). (q, 0)) (regular.above.redone p h))
  named p (suc zero) h k = first_named glues p (p, 1) (omega (arith, twice_as_many)) (ap first_of (right_line p h))
  named p (suc (suc zero)) h k = first_named glues (t.squares + p) (p, 2) (omega (arith, twice_as_many)) (ap first_of (upper_line p h))
  named p (suc (suc (suc zero))) h k =
      second_named glues (left p) (p, 3) (omega (arith, twice_as_many, regular.beside.back p h))
      (ap second_of (right_line (left p) (regular.beside.back p h)) ∙ ap (λ (q : ℕ). (q, 3)) (regular.beside.redone p h))
  named p (suc (suc (suc (suc e)))) h k = absurd (omega arith)

  paired : (p : ℕ) → p < length squares → IsPaired squares glues p
  paired p h e side =
      let less : p < t.squares = omega (arith, many) in
      named p e less (subst (λ (s : List Vec2). e < length s) (square_at p less) side.1)

  -- ---- every square is joined to square 0
  module _ (set : ℕ → Bool) (zero_in : IsTrue (set 0)) (closed : IsClosedUnderGlues glues set) where
    to_right : (i : ℕ) → i < t.squares → IsTrue (set i) → IsTrue (set (t.right i))
    to_right i h is =
        let both : IsTrue (set (glue_at glues i).p1) ↔ IsTrue (set (glue_at glues i).p2) =
        all_at (λ (g : Glue). IsTrue (set g.p1) ↔ IsTrue (set g.p2)) glues no_glue i closed (omega (arith, twice_as_many)) in
        (subst (λ (g : Glue). IsTrue (set g.p1) ↔ IsTrue (set g.p2)) (right_line i h) both).0 is

    to_upper : (i : ℕ) → i < t.squares → IsTrue (set i) → IsTrue (set (t.up i))
    to_upper i h is =
        let both : IsTrue (set (glue_at glues (t.squares + i)).p1) ↔ IsTrue (set (glue_at glues (t.squares + i)).p2) =
        all_at (λ (g : Glue). IsTrue (set g.p1) ↔ IsTrue (set g.p2)) glues no_glue (t.squares + i) closed (omega (arith, twice_as_many)) in
        (subst (λ (g : Glue). IsTrue (set g.p1) ↔ IsTrue (set g.p2)) (upper_line i h) both).0 is

    joined_to : (most i : ℕ) → i ≤ most → i < t.squares → IsTrue (set i)
    joined_to most zero h k = zero_in
    joined_to zero (suc i) h k = absurd (omega arith)
    joined_to (suc most) (suc i) h k =
        let from = regular.reached i (omega arith) in
        let lesser : IsTrue (set from.0) = joined_to most from.0 (omega (arith, from.1)) (omega (arith, from.1)) in
        let inside : from.0 < t.squares = omega (arith, from.1) in
        elim from.2 [
          | inl e ↦ let next : t.right from.0 ≡ suc i = omega (arith, e) in subst (λ (n : ℕ). IsTrue (set n)) next (to_right from.0 inside lesser)
          | inr e ↦ let next : t.up from.0 ≡ suc i = omega (arith, e) in subst (λ (n : ℕ). IsTrue (set n)) next (to_upper from.0 inside lesser)
        ]

  -- the squares make a surface
  pub glued : IsGluing (gluing_of (tiling_file t))
  glued = record {
    field = two;
    some_polygons = omega (arith, many, regular.some);
    bounded = all_copies IsPolygon t.squares unit_square (within unit_square small_square);
    proper = λ p h. subst (IsProper 2) (sym (polygon_is p (omega (arith, many)))) (proper 2 two (vectors unit_square) 2 square_turns);
    there = sides_there;
    once = never_twice glues line first_told second_told two_sides;
    opposite = opposite;
    paired = paired;
    few_triangles = omega (arith, two_each t.squares, regular.few);
    joined = λ p h set zero_in closed. joined_to set zero_in closed p p (omega arith) (omega (arith, many));
  }
