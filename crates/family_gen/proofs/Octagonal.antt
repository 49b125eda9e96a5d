-- Octagons with opposite sides glued make a surface.
use Rattle.std.proofs.Common.{◌≡◌, ℕ, zero, suc, ◌+◌, ◌*◌, ◌%◌, ◌<◌, ◌≤◌, inl, inr, List, [], ◌∷◌, map, refl, ap, ap₂, ◌∙◌, arith}
use Rattle.std.specs.Prelude.{ℤ, pos, negsuc, ◌*ℤ◌, neg_ℤ, unsigned_abs}
use Rattle.std.specs.List.{AllByRecursion, Contains}
use Rattle.std.proofs.lemmas.Int.{ints}
use Rattle.quad_field.specs.Quads.{quad, quad_ops, IsPositive}
use Rattle.quad_field.proofs.CallerLemmas.{natural_positive}
use Rattle.plane.specs.declared.vec2.Vec2.{Vec2}
use Rattle.plane.specs.Vectors.{vector_sum, opposite_vector, scaled_vector}
use Rattle.plane.specs.Halves.{IsUpper}
use Rattle.surface_text.specs.declared.file.Glue.{Glue}
use Rattle.surface_text.specs.Limits.{NamesSides}
use Rattle.gluing.specs.Polygons.{no_vector, vectors, polygon_at, side_at, corner, IsProper}
use Rattle.gluing.specs.Gluings.{Name, first_of, second_of, names, glue_at, IsOpposite, IsPaired, IsJoined, IsGluing, gluing_of}
use Rattle.family_gen.specs.Octagons.{octagon, multiple, opposite_glue, octagon_file}
use Rattle.family_gen.proofs.Convex.{TurnsLeft, proper}
use Rattle.family_gen.proofs.Multiples.{scaled_vectors, scaled_none, multiple_side, multiple_turns}
use Rattle.family_gen.proofs.NamedSides.{first_named, second_named, never_twice}
use Rattle.family_gen.proofs.SmallNumbers.{two, IsLittle, IsLittleVector, IsLittlePolygon, IsLittleGlue, within}

-- multiples of √2 are positive
root_positive : (n : ℕ) → 0 < n → IsPositive 2 (quad (pos 0) (pos n))
root_positive n h = inl (omega (arith, ints), omega (arith, ints), λ z. let e = z.1 in omega (arith, ints))

whole_two : IsPositive 2 (quad (pos 2) (pos 0))
whole_two = natural_positive 2 2 (omega arith)

root_one : IsPositive 2 (quad (pos 0) (pos 1))
root_one = root_positive 1 (omega arith)

root_two : IsPositive 2 (quad (pos 0) (pos 2))
root_two = root_positive 2 (omega arith)

-- the octagon turns to the left, its first four sides upper
octagon_turns : TurnsLeft 2 (vectors octagon) 4
octagon_turns = record { closed = refl; lefts = lefts; uppers = uppers; lowers = lowers; some = omega arith; others = omega arith }
  where
    lefts : (i : ℕ) → i < 8 → IsPositive 2 (corner 2 (vectors octagon) i)
    lefts zero h = root_two
    lefts (suc zero) h = root_two
    lefts (suc (suc zero)) h = root_two
    lefts (suc (suc (suc zero))) h = root_two
    lefts (suc (suc (suc (suc zero)))) h = root_two
    lefts (suc (suc (suc (suc (suc zero))))) h = root_two
    lefts (suc (suc (suc (suc (suc (suc zero)))))) h = root_two
    lefts (suc (suc (suc (suc (suc (suc (suc zero))))))) h = root_two
    lefts (suc (suc (suc (suc (suc (suc (suc (suc i)))))))) h = absurd (omega arith)

    uppers : (i : ℕ) → i < 4 → IsUpper 2 (side_at 2 (vectors octagon) i)
    uppers zero h = inr (refl, whole_two)
    uppers (suc zero) h = inl root_one
    uppers (suc (suc zero)) h = inl whole_two
    uppers (suc (suc (suc zero))) h = inl root_one
    uppers (suc (suc (suc (suc i)))) h = absurd (omega arith)

    lowers : (i : ℕ) → 4 ≤ i → i < 8 → IsUpper 2 (opposite_vector (quad_ops 2) (side_at 2 (vectors octagon) i))
    lowers zero from h = absurd (omega arith)
    lowers (suc zero) from h = absurd (omega arith)
    lowers (suc (suc zero)) from h = absurd (omega arith)
    lowers (suc (suc (suc zero))) from h = absurd (omega arith)
    lowers (suc (suc (suc (suc zero)))) from h = inr (refl, whole_two)
    lowers (suc (suc (suc (suc (suc zero))))) from h = inl root_one
    lowers (suc (suc (suc (suc (suc (suc zero)))))) from h = inl whole_two
    lowers (suc (suc (suc (suc (suc (suc (suc zero))))))) from h = inl root_one
    lowers (suc (suc (suc (suc (suc (suc (suc (suc i)))))))) from h = absurd (omega arith)

-- ---- sizes
-- all parts of a vector are at most 2 in absolute value
abbrev IsTwo : Vec2 → Type 0
IsTwo v = ((unsigned_abs v.s.a ≤ 2) × (unsigned_abs v.s.b ≤ 2)) × ((unsigned_abs v.t.a ≤ 2) × (unsigned_abs v.t.b ≤ 2))

abs_opposite : (n : ℕ) → unsigned_abs (neg_ℤ (pos n)) ≡ n
abs_opposite zero = refl
abs_opposite (suc n) = refl

little_part : (m : ℕ) (x : ℤ) → m ≤ 50 → unsigned_abs x ≤ 2 → IsLittle (x *ℤ pos m)
little_part m (pos zero) h k = omega arith
little_part m (pos (suc zero)) h k = omega arith
little_part m (pos (suc (suc zero))) h k = omega arith
little_part m (pos (suc (suc (suc n)))) h k = absurd (omega arith)
little_part m (negsuc zero) h k = omega (arith, abs_opposite (1 * m))
little_part m (negsuc (suc zero)) h k = omega (arith, abs_opposite (2 * m))
little_part m (negsuc (suc (suc n))) h k = absurd (omega arith)

little_sides : (m : ℕ) (sides : List Vec2) → m ≤ 50 → AllByRecursion IsTwo sides → AllByRecursion IsLittleVector (map (multiple m) sides)
little_sides m [] h all = tt
little_sides m (v ∷ sides) h all = (
  ((little_part m v.s.a h all.0.0.0, little_part m v.s.b h all.0.0.1), (little_part m v.t.a h all.0.1.0, little_part m v.t.b h all.0.1.1)),
  little_sides m sides h all.1,
)

octagon_two : AllByRecursion IsTwo octagon
octagon_two = (
  ((two', none), (none, none)),
  (
    ((none, one), (none, one)),
    (
      ((none, none), (two', none)),
      (
        ((none, less), (none, one)),
        (((less', none), (none, none)), (((none, less), (none, less)), (((none, none), (less', none)), (((none, one), (none, less)), tt)))),
      ),
    ),
  ),
)
  where
    none : unsigned_abs (pos 0) ≤ 2
    none = omega arith

    one : unsigned_abs (pos 1) ≤ 2
    one = omega arith

    two' : unsigned_abs (pos 2) ≤ 2
    two' = omega arith

    less : unsigned_abs (negsuc 0) ≤ 2
    less = omega arith

    less' : unsigned_abs (negsuc 1) ≤ 2
    less' = omega arith

module _ (m : ℕ) (some : 0 < m) (most : m ≤ 50) where
  abbrev polygons : List (List Vec2)
  polygons = map (multiple m) octagon ∷ []

  abbrev glues : List Glue
  glues = opposite_glue 0 ∷ opposite_glue 1 ∷ opposite_glue 2 ∷ opposite_glue 3 ∷ []

  pub little : IsLittlePolygon (map (multiple m) octagon)
  little = (omega arith, omega arith, little_sides m octagon most octagon_two)

  pub little_glues : AllByRecursion IsLittleGlue glues
  little_glues = (few 0 (omega arith), (few 1 (omega arith), (few 2 (omega arith), (few 3 (omega arith), tt))))
    where
      few : (e : ℕ) → e < 4 → IsLittleGlue (opposite_glue e)
      few e h = (omega arith, omega arith, omega arith, omega arith)

  -- opposite sides sum to zero
  opposite_sides : (e : ℕ) → vector_sum (quad_ops 2) (side_at 2 (vectors octagon) e) (side_at 2 (vectors octagon) (e + 4)) ≡ no_vector 2
      → IsOpposite 2 polygons (opposite_glue e)
  opposite_sides e unit =
      ap₂ (vector_sum (quad_ops 2)) (multiple_side 2 m octagon e) (multiple_side 2 m octagon (e + 4))
      ∙ scaled_vectors 2 (pos m) (side_at 2 (vectors octagon) e) (side_at 2 (vectors octagon) (e + 4))
      ∙ ap (scaled_vector (pos m)) unit ∙ scaled_none 2 (pos m)

  opposite : (k : ℕ) → k < 4 → IsOpposite 2 polygons (glue_at glues k)
  opposite zero h = opposite_sides 0 refl
  opposite (suc zero) h = opposite_sides 1 refl
  opposite (suc (suc zero)) h = opposite_sides 2 refl
  opposite (suc (suc (suc zero))) h = opposite_sides 3 refl
  opposite (suc (suc (suc (suc k)))) h = absurd (omega arith)

  -- side e is named in line e modulo 4
  abbrev line : Name → ℕ
  line n = n.1 % 4

  first_told : (k : ℕ) → k < 4 → line (first_of (glue_at glues k)) ≡ k
  first_told zero h = refl
  first_told (suc zero) h = refl
  first_told (suc (suc zero)) h = refl
  first_told (suc (suc (suc zero))) h = refl
  first_told (suc (suc (suc (suc k)))) h = absurd (omega arith)

  second_told : (k : ℕ) → k < 4 → line (second_of (glue_at glues k)) ≡ k
  second_told zero h = refl
  second_told (suc zero) h = refl
  second_told (suc (suc zero)) h = refl
  second_told (suc (suc (suc zero))) h = refl
  second_told (suc (suc (suc (suc k)))) h = absurd (omega arith)

  side_apart : (e : ℕ) → ¬ (first_of (opposite_glue e) ≡ second_of (opposite_glue e))
  side_apart e same = let side : e ≡ e + 4 = ap (λ (n : Name). n.1) same in omega arith

  two_sides : (k : ℕ) → k < 4 → ¬ (first_of (glue_at glues k) ≡ second_of (glue_at glues k))
  two_sides zero h = side_apart 0
  two_sides (suc zero) h = side_apart 1
  two_sides (suc (suc zero)) h = side_apart 2
  two_sides (suc (suc (suc zero))) h = side_apart 3
  two_sides (suc (suc (suc (suc k)))) h = absurd (omega arith)

  named : (e : ℕ) → e < 8 → Contains (names glues) (0, e)
  named zero h = first_named glues 0 (0, 0) (omega arith) refl
  named (suc zero) h = first_named glues 1 (0, 1) (omega arith) refl
  named (suc (suc zero)) h = first_named glues 2 (0, 2) (omega arith) refl
  named (suc (suc (suc zero))) h = first_named glues 3 (0, 3) (omega arith) refl
  named (suc (suc (suc (suc zero)))) h = second_named glues 0 (0, 4) (omega arith) refl
  named (suc (suc (suc (suc (suc zero))))) h = second_named glues 1 (0, 5) (omega arith) refl
  named (suc (suc (suc (suc (suc (suc zero)))))) h = second_named glues 2 (0, 6) (omega arith) refl
  named (suc (suc (suc (suc (suc (suc (suc zero))))))) h = second_named glues 3 (0, 7) (omega arith) refl
  named (suc (suc (suc (suc (suc (suc (suc (suc e)))))))) h = absurd (omega arith)

  paired : (p : ℕ) → p < 1 → IsPaired polygons glues p
  paired zero h e side = named e side.1
  paired (suc p) h e side = absurd (omega arith)

  proper_each : (p : ℕ) → p < 1 → IsProper 2 (polygon_at polygons p)
  proper_each zero h = proper 2 two (vectors (map (multiple m) octagon)) 4 (multiple_turns 2 m two some octagon 4 octagon_turns)
  proper_each (suc p) h = absurd (omega arith)

  joined : (p : ℕ) → p < 1 → IsJoined glues p
  joined zero h set zero_in closed = zero_in
  joined (suc p) h set zero_in closed = absurd (omega arith)

  there : (e : ℕ) → e < 4 → NamesSides polygons (opposite_glue e)
  there e h = ((omega arith, omega arith), (omega arith, omega arith))

  -- the octagon makes a surface
  pub glued : IsGluing (gluing_of (octagon_file m))
  glued = record {
    field = two;
    some_polygons = omega arith;
    bounded = (within (map (multiple m) octagon) little, tt);
    proper = proper_each;
    there = (there 0 (omega arith), (there 1 (omega arith), (there 2 (omega arith), (there 3 (omega arith), tt))));
    once = never_twice glues line first_told second_told two_sides;
    opposite = opposite;
    paired = paired;
    few_triangles = omega arith;
    joined = joined;
  }
