-- About a vertex each direction is passed as often as any other.
use Rattle.std.proofs.Common.{◌≡◌, ℕ, zero, suc, ◌+◌, ◌<◌, Bool, true, false, not, ◌&&◌, List, length, refl, subst, sym, ap, ◌∙◌, arith}
use Rattle.std.specs.Prelude.{pos, ◌⊎◌, ◌↔◌, IsTrue}
use mathlib.Core.Logic.{inl, inr}
use Rattle.std.proofs.lemmas.Bool.{and_parts, and_from, cases_Bool}
use Rattle.rings.specs.Ring.{Ops, IsRing}
use Rattle.rings.specs.Order.{IsOrdered}
use Rattle.rings.specs.Forms.{det}
use Rattle.rings.specs.Vectors.{Vector, zero_vector}
use Rattle.quad_field.specs.Quads.{quad_ops, IsPositive}
use Rattle.quad_field.specs.declared.quad.Quad.{Quad}
use Rattle.quad_field.specs.FieldNumber.{IsFieldNumber}
use Rattle.quad_field.proofs.CallerLemmas.{quad_ring, order_of}
use Rattle.rings.proofs.Signs.{never_above}
use Rattle.tri_core.specs.declared.half.Half.{Half}
use Rattle.tri_core.specs.HalfEdges.{vector_at}
use Rattle.tri_core.specs.Triangulation.{IsTriangulation}
use Rattle.cone_points.specs.Vertices.{turned, turned_often, StartsWith, Rises, Passes, first_axis, IsNumberOf, IsTurns}
use Rattle.cone_points.specs.Walks.{number_below}
use Rattle.cone_points.proofs.Counts.{number_counted, count}
use Rattle.cone_points.proofs.Numbers.{bit, listed_same, number_pairs, number_permuted, number_of}
use Rattle.cone_points.proofs.Orbits.{IsPermutation, often, reaches_decided}
use Rattle.cone_points.proofs.Passing.{positive_yes, positive_no, left_test, sector_test, passed_alike, same_all_round, rise_passes, passes_rise}
use Rattle.cone_points.proofs.Rising.{left, false_of}
use Rattle.cone_points.proofs.Rounds.{turned_inside, turned_apart, starts_inside, starts_sym, starts_trans}

-- the same set alone, in two equal sums
together : (h : Bool) (x y z t : Bool) → bit x + bit y ≡ bit z + bit t → bit (h && x) + bit (h && y) ≡ bit (h && z) + bit (h && t)
together true x y z t e = e
together false x y z t e = refl

cancelled : (a b c e : ℕ) → a + b ≡ c + e → e ≡ b → a ≡ c
cancelled a b c e h k = omega (arith, h, k)

module _ (d : ℕ) (halves : List Half) (field : IsFieldNumber d) (valid : IsTriangulation d halves) where
  abbrev n : ℕ
  n = length halves

  abbrev O : Ops Quad
  O = quad_ops d

  abbrev L : IsRing (quad_ops d)
  L = quad_ring d

  abbrev Q : IsOrdered (quad_ops d) (IsPositive d)
  Q = order_of d field

  -- whether the direction w lies to the left of half-edge k
  abbrev left_of : Vector Quad → ℕ → Bool
  left_of w k = left_test O L Q w (vector_at halves k)

  -- whether it is passed from there to the next half-edge
  abbrev passed : Vector Quad → ℕ → Bool
  passed w k = left_of w k && not (left_of w (turned halves k))

  passes_told : (w : Vector Quad) (k : ℕ) → IsTrue (passed w k) ↔ Passes d halves w k
  passes_told w k = (
    λ t.
        let p = and_parts (left_of w k) (not (left_of w (turned halves k))) t in (
          positive_yes O L Q (det O (vector_at halves k) w) p.0,
          λ q. never_above O L Q (det O (vector_at halves (turned halves k)) w)
              (positive_no O L Q (det O (vector_at halves (turned halves k)) w) (isnt (left_of w (turned halves k)) p.1)) q,
        ),
    λ h.
        and_from (left_of w k) (not (left_of w (turned halves k))) (yes (vector_at halves k) h.0)
        (ap not (false_of (left_of w (turned halves k)) (λ t. h.1 (positive_yes O L Q (det O (vector_at halves (turned halves k)) w) t)))),
  )
    where
      isnt : (b : Bool) → not b ≡ true → b ≡ false
      isnt true e = sym e
      isnt false e = refl

      yes : (v : Vector Quad) → IsPositive d (det O v w) → left_test O L Q w v ≡ true
      yes v p = elim (cases_Bool (left_test O L Q w v)) [
        | inl t ↦ t
        | inr f ↦ never_above O L Q (det O v w) (positive_no O L Q (det O v w) f) p
      ]

  permutes : IsPermutation n (turned halves)
  permutes = record { below = λ x h. turned_inside d halves valid x h; injective = λ x y h k e. turned_apart d halves valid x y h k e }

  often_is : (m h : ℕ) → often (turned halves) m h ≡ turned_often halves m h
  often_is zero h = refl
  often_is (suc m) h = ap (turned halves) (often_is m h)

  module _ (v : ℕ) (inside : v < n) where
    starts_decided : (k : ℕ) → StartsWith halves v k ⊎ ¬ (StartsWith halves v k)
    starts_decided k = elim (reaches_decided n (turned halves) permutes v k inside) [
      | inl r ↦ inl (r.0, sym (often_is r.0 v) ∙ r.1)
      | inr none ↦ inr (λ s. none (s.0, often_is s.0 v ∙ s.1))
    ]

    abbrev test_of : (k : ℕ) → StartsWith halves v k ⊎ ¬ (StartsWith halves v k) → Bool
    test_of k (inl s) = true
    test_of k (inr s) = false

    -- whether k starts where v starts
    abbrev here : ℕ → Bool
    here k = test_of k (starts_decided k)

    here_told : (k : ℕ) → IsTrue (here k) ↔ StartsWith halves v k
    here_told k = go (starts_decided k)
      where
        go : (s : StartsWith halves v k ⊎ ¬ (StartsWith halves v k)) → IsTrue (test_of k s) ↔ StartsWith halves v k
        go (inl s) = (λ t. s, λ s. refl)
        go (inr none) = (λ t. let no : ⊥ = cc in absurd no, λ s. absurd (none s))

    same_bool : (a b : Bool) → (a ≡ true → b ≡ true) → (b ≡ true → a ≡ true) → a ≡ b
    same_bool true b f g = sym (f refl)
    same_bool false true f g = g refl
    same_bool false false f g = refl

    here_turned : (k : ℕ) → k < n → here (turned halves k) ≡ here k
    here_turned k l =
        same_bool (here (turned halves k)) (here k)
        (λ t. (here_told k).1 (starts_trans halves v (turned halves k) k ((here_told (turned halves k)).0 t) (starts_sym d halves valid k (turned halves k) l (1, refl))))
        (λ t. let s = (here_told k).0 t in (here_told (turned halves k)).1 (suc s.0, ap (turned halves) s.1))

    -- how often a direction is passed
    abbrev number : Vector Quad → ℕ
    number w = number_below (λ k. here k && passed w k) n

    -- two directions, the second to the left of the first, are passed equally often
    number_step : (w z : Vector Quad) → IsPositive d (det O w z) → number w ≡ number z
    number_step w z wider =
        let inner : ℕ → Bool = λ (k : ℕ). here k && sector_test O L Q w z (vector_at halves k) in
        let sums : number w + number_below inner n ≡ number z + number_below (λ k. inner (turned halves k)) n =
        number_pairs (λ k. here k && passed w k) inner (λ k. here k && passed z k) (λ k. inner (turned halves k)) n (λ k l.
        subst (λ (h : Bool). bit (here k && passed w k) + bit (inner k) ≡ bit (here k && passed z k) + bit (h && sector_test O L Q w z (vector_at halves (turned halves k)))) (sym (here_turned k l))
        (together (here k) (passed w k) (sector_test O L Q w z (vector_at halves k)) (passed z k) (sector_test O L Q w z (vector_at halves (turned halves k)))
        (passed_alike O L Q (vector_at halves k) (vector_at halves (turned halves k)) w z (left d halves valid field k l) wider))) in
        cancelled (number w) (number_below inner n) (number z) (number_below (λ k. inner (turned halves k)) n) sums
        (number_permuted n (turned halves) (λ i l. turned_inside d halves valid i l) (λ i j l k e. omega (arith, l, turned_apart d halves valid i j (omega (arith, l, k)) k e)) inner)

    number_same_for : (w z : Vector Quad) → ¬ (w ≡ zero_vector O) → ¬ (z ≡ zero_vector O) → number w ≡ number z
    number_same_for w z some other = same_all_round O L Q number number_step w z some other

    -- the half-edges of the vertex from which a direction is passed
    abbrev Passing : Vector Quad → ℕ → Type 0
    Passing w h = StartsWith halves v h × Passes d halves w h

    told : (w : Vector Quad) (k : ℕ) → ((k < n) × IsTrue (here k && passed w k)) ↔ Passing w k
    told w k = (
      λ h. let p = and_parts (here k) (passed w k) h.1 in ((here_told k).0 p.0, (passes_told w k).0 p.1),
      λ h. (starts_inside d halves valid v k inside h.0, and_from (here k) (passed w k) ((here_told k).1 h.0) ((passes_told w k).1 h.1)),
    )

    number_is : (w : Vector Quad) → IsNumberOf (Passing w) (number w)
    number_is w = number_of (Passing w) (λ k. here k && passed w k) n (told w)

    one_number : (w : Vector Quad) (m : ℕ) → IsNumberOf (Passing w) m → m ≡ number w
    one_number w m h = counted m h ∙ sym (counted (number w) (number_is w))
      where
        counted : (m : ℕ) → IsNumberOf (Passing w) m → m ≡ count (λ k. here k && passed w k) n
        counted m h = number_counted (Passing w) (λ k. here k && passed w k) n m (record {
          below = λ k p. ((told w k).1 p).0;
          yes = λ k p. ((told w k).1 p).1;
          no = λ k l t. (told w k).0 (l, t);
        }) h

    -- so the half-edges that pass one direction are as many as those that pass another
    pub passed_as_often : (w z : Vector Quad) → ¬ (w ≡ zero_vector O) → ¬ (z ≡ zero_vector O) → (m : ℕ) → IsNumberOf (Passing w) m → IsNumberOf (Passing z) m
    passed_as_often w z some other m h = subst (IsNumberOf (Passing z)) (sym (one_number w m h ∙ number_same_for w z some other)) (number_is z)

  -- ---- the direction (1, 0)
  pub rising_passes : (h : ℕ) → h < n → Rises d halves h ↔ Passes d halves (first_axis d) h
  rising_passes h l =
      let u : Vector Quad = vector_at halves h in
      let v : Vector Quad = vector_at halves (turned halves h) in (
        λ r. rise_passes O L Q u v (left d halves valid field h l) r.0 r.1,
        λ p. passes_rise O L Q u v (left d halves valid field h l) p.0 p.1,
      )

  axis_some : ¬ (first_axis d ≡ zero_vector O)
  axis_some e = let one : pos 1 ≡ pos 0 = ap (λ (w : Vector Quad). w.0.a) e in let no : ⊥ = cc in no

  -- the number of full turns at a vertex is that of the half-edges that pass any direction
  pub turns_by : (v : ℕ) → v < n → (w : Vector Quad) → ¬ (w ≡ zero_vector O) → (m : ℕ) → IsTurns d halves v m ↔ IsNumberOf (λ h. StartsWith halves v h × Passes d halves w h) m
  turns_by v inside w some m = (
    λ t. passed_as_often v inside (first_axis d) w axis_some some m (t.0, listed_same (λ h. StartsWith halves v h × Rises d halves h) (λ h. StartsWith halves v h × Passes d halves (first_axis d) h) t.0 same t.1, t.2),
    λ p.
        let t = passed_as_often v inside w (first_axis d) some axis_some m p in
        (t.0, listed_same (λ h. StartsWith halves v h × Passes d halves (first_axis d) h) (λ h. StartsWith halves v h × Rises d halves h) t.0 (λ k. ((same k).1, (same k).0)) t.1, t.2),
  )
    where
      same : (k : ℕ) → (StartsWith halves v k × Rises d halves k) ↔ (StartsWith halves v k × Passes d halves (first_axis d) k)
      same k = (
        λ h. (h.0, (rising_passes k (starts_inside d halves valid v k inside h.0)).0 h.1),
        λ h. (h.0, (rising_passes k (starts_inside d halves valid v k inside h.0)).1 h.1),
      )
