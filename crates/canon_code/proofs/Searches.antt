-- The steps of a breadth-first search, and that it numbers all half-edges.
use Rattle.std.proofs.Common.{◌≡◌, ℕ, ◌+◌, ◌*◌, ◌/◌, ◌%◌, ◌<◌, ◌≤◌, ltb, List, length, sym, ap, ◌∙◌, subst, inl, inr, arith}
use Rattle.std.proofs.lemmas.Bool.{cases_eq, cases_lt, ltb-true, lt-ltb}
use Rattle.tri_core.specs.declared.half.Half.{Half}
use Rattle.tri_core.specs.HalfEdges.{twin_at, next_of, triangle_of}
use Rattle.tri_core.specs.Triangulation.{IsTriangulation}
use Rattle.canon_code.specs.Numberings.{IsNumbering, IsFoundFrom}
use Rattle.canon_code.specs.Search.{IsSearch, IsAppended}
use Rattle.tri_core.proofs.CallerLemmas.{joined_from}
use Rattle.rings.proofs.Pigeonhole.{repeats, Repeats}

-- an injection of the numbers below m into those below n
pub no_more : (m n : ℕ) (f g : ℕ → ℕ) → ((k : ℕ) → k < m → f k < n) → ((k : ℕ) → k < m → g (f k) ≡ k) → m ≤ n
no_more m n f g inside back =
    elim (cases_lt n m) [
      | inl more ↦
          let w : Repeats n f = repeats n f (λ i less. inside i (omega (arith, less, more))) in
          let i : w.0 < m = omega (arith, w.2, w.3, more) in
          let j : w.1 < m = omega (arith, w.3, more) in
          let same : w.0 ≡ w.1 = sym (back w.0 i) ∙ ap g w.4 ∙ back w.1 j in
          absurd (omega (arith, same, w.2))
      | inr few ↦ few
    ]

-- a number of a triangle that has numbers up to its end
next_below : (s k : ℕ) → s % 3 ≡ 0 → k < s → next_of k < s
next_below s k e h = omega arith

three_times : (x : ℕ) → next_of (next_of (next_of x)) ≡ x
three_times x = omega arith

-- the last three
last_three : (s k : ℕ) (P : ℕ → Type 0) → s % 3 ≡ 0 → ((k : ℕ) → k < s → P k) → P s → P (s + 1) → P (s + 2) → k < s + 3 → P k
last_three s k P e before first second third below =
    elim (cases_lt k s) [
      | inl less ↦ before k less
      | inr more ↦ elim (cases_eq k s) [
        | inl same ↦ subst P (sym same) first
        | inr ne ↦ elim (cases_eq k (s + 1)) [
          | inl same ↦ subst P (sym same) second
          | inr other ↦ let same : s + 2 ≡ k = omega arith in subst P same third
        ]
      ]
    ]

module _ (halves : List Half) (h : ℕ) (place number : ℕ → ℕ) (size looked : ℕ) (triples : length halves % 3 ≡ 0) (s : IsSearch halves h place number size looked) where
  -- with a half-edge those after it have numbers
  next_numbered : (x : ℕ) → x < length halves → number x < size → number (next_of x) < size
  next_numbered x inside own =
      let k : ℕ = number x in
      let e : number (next_of x) ≡ next_of k =
      ap (λ y. number (next_of y)) (sym (s.forth x inside own)) ∙ ap number (sym (s.next k own)) ∙ s.back (next_of k) (next_below size k s.triples own) in
      subst (λ n. n < size) (sym e) (next_below size k s.triples own)

  -- a half-edge whose twin is numbered has been looked at
  pub looked_on : looked < size → number (twin_at halves (place looked)) < size → IsSearch halves h place number size (looked + 1)
  looked_on less numbered = record {
    triples = s.triples;
    start = s.start;
    next = s.next;
    inside = s.inside;
    back = s.back;
    forth = s.forth;
    none = s.none;
    enough = omega arith;
    seen = λ j below. elim (cases_eq j looked) [
      | inl e ↦ subst (λ n. number (twin_at halves (place n)) < size) (sym e) numbered
      | inr ne ↦ s.seen j (omega arith)
    ];
    found = s.found;
  }

  module _ (m : ℕ) (place' number' : ℕ → ℕ) (inside : m < length halves) (new : ¬ (number m < size)) (a : IsAppended size m place number place' number') where
    -- the triangle of m has no numbers yet
    new_next : ¬ (number (next_of m) < size)
    new_next own =
        let one = next_numbered (next_of m) (next_below (length halves) m triples inside) own in
        let two = next_numbered (next_of (next_of m)) (next_below (length halves) (next_of m) triples (next_below (length halves) m triples inside)) one in
        new (subst (λ x. number x < size) (three_times m) two)

    new_last : ¬ (number (next_of (next_of m)) < size)
    new_last own =
        let two = next_numbered (next_of (next_of m)) (next_below (length halves) (next_of m) triples (next_below (length halves) m triples inside)) own in
        new (subst (λ x. number x < size) (three_times m) two)

    -- a half-edge with a number keeps it
    pub number_stays : (x : ℕ) → number x < size → number' x ≡ number x
    number_stays x own =
        a.number_kept x (λ e. new (subst (λ y. number y < size) e own)) (λ e. new_next (subst (λ y. number y < size) e own)) (λ e. new_last (subst (λ y. number y < size) e own))

    -- a fact of each half-edge: of the three new ones, and of those whose number stays
    pub each_case : (x : ℕ) (P : ℕ → Type 0) → P m → P (next_of m) → P (next_of (next_of m)) → (number' x ≡ number x → P x) → P x
    each_case x P first second third other =
        elim (cases_eq x m) [
          | inl e ↦ subst P (sym e) first
          | inr one ↦ elim (cases_eq x (next_of m)) [
            | inl e ↦ subst P (sym e) second
            | inr two ↦ elim (cases_eq x (next_of (next_of m))) [
              | inl e ↦ subst P (sym e) third
              | inr three ↦ other (a.number_kept x one two three)
            ]
          ]
        ]

    inside' : (k : ℕ) → k < size + 3 → place' k < length halves
    inside' k below =
        last_three size k (λ j. place' j < length halves) s.triples (λ j less. subst (λ x. x < length halves) (sym (a.kept j less)) (s.inside j less))
        (subst (λ x. x < length halves) (sym a.first) inside)
        (subst (λ x. x < length halves) (sym a.second) (next_below (length halves) m triples inside))
        (subst (λ x. x < length halves) (sym a.third) (next_below (length halves) (next_of m) triples (next_below (length halves) m triples inside)))
        below

    back' : (k : ℕ) → k < size + 3 → number' (place' k) ≡ k
    back' k below =
        last_three size k (λ j. number' (place' j) ≡ j) s.triples
        (λ j less. ap number' (a.kept j less) ∙ number_stays (place j) (subst (λ n. n < size) (sym (s.back j less)) less) ∙ s.back j less)
        (ap number' a.first ∙ a.number_first) (ap number' a.second ∙ a.number_second) (ap number' a.third ∙ a.number_third) below

    -- there was room for three more
    pub room : size + 3 ≤ length halves
    room = no_more (size + 3) (length halves) place' number' inside' back'

    module _ (from_start : size ≡ 0 → m ≡ h) (by : 0 < size → (looked < size) × (twin_at halves (place looked) ≡ m)) where
      -- the twin of a half-edge with a number has the number that it had
      twin_stays : (j t : ℕ) → j < size → t ≤ size → number (twin_at halves (place j)) < t → number' (twin_at halves (place' j)) < t
      twin_stays j t less top own =
          let e : number' (twin_at halves (place' j)) ≡ number (twin_at halves (place j)) =
          ap (λ x. number' (twin_at halves x)) (a.kept j less) ∙ number_stays (twin_at halves (place j)) (omega (arith, own, top)) in
          omega (arith, e, own)

      found' : (t : ℕ) → 0 < t → 3 * t < size + 3 → (k : ℕ) × IsFoundFrom halves place' number' t k
      found' t positive below =
          elim (cases_lt (3 * t) size) [
            | inl less ↦
                let f : (k : ℕ) × IsFoundFrom halves place number t k = s.found t positive less in (
                  f.0,
                  record {
                    before = f.1.before;
                    twin = ap (twin_at halves) (a.kept f.0 (omega (arith, f.1.before, less))) ∙ f.1.twin ∙ sym (a.kept (3 * t) less);
                    first = λ j earlier. twin_stays j (3 * t) (omega (arith, f.1.before, less, earlier)) (omega arith) (f.1.first j earlier);
                  },
                )
            | inr more ↦
                let same : 3 * t ≡ size = omega (arith, s.triples) in
                let some : 0 < size = omega arith in (
                  looked,
                  record {
                    before = omega (arith, (by some).0, same);
                    twin = ap (twin_at halves) (a.kept looked (by some).0) ∙ (by some).1 ∙ sym a.first ∙ ap place' (sym same);
                    first = λ j earlier. subst (λ b. number' (twin_at halves (place' j)) < b) (sym same) (twin_stays j size (omega (arith, s.enough, earlier)) (omega arith) (s.seen j earlier));
                  },
                )
          ]

      pub appended : IsSearch halves h place' number' (size + 3) looked
      appended = record {
        triples = omega (arith, s.triples);
        start = λ _. elim (cases_eq size 0) [
          | inl e ↦ ap place' (sym e) ∙ a.first ∙ from_start e
          | inr ne ↦ a.kept 0 (omega arith) ∙ s.start (omega arith)
        ];
        next = λ k below.
            let e : next_of size ≡ size + 1 = omega (arith, s.triples) in
            let f : next_of (size + 1) ≡ size + 2 = omega (arith, s.triples) in
            let g : next_of (size + 2) ≡ size = omega (arith, s.triples) in
            last_three size k (λ j. place' (next_of j) ≡ next_of (place' j)) s.triples
            (λ j less. a.kept (next_of j) (next_below size j s.triples less) ∙ s.next j less ∙ ap next_of (sym (a.kept j less)))
            (ap place' e ∙ a.second ∙ ap next_of (sym a.first)) (ap place' f ∙ a.third ∙ ap next_of (sym a.second)) (ap place' g ∙ a.first ∙ sym (three_times m) ∙ ap next_of (sym a.third)) below;
        inside = inside';
        back = back';
        forth = λ x own.
            each_case x (λ y. number' y < size + 3 → place' (number' y) ≡ y)
            (λ _. ap place' a.number_first ∙ a.first) (λ _. ap place' a.number_second ∙ a.second) (λ _. ap place' a.number_third ∙ a.third)
            (λ e less.
            let old : number x < size = s.none x own (omega (arith, e, less, room)) in
            ap place' e ∙ a.kept (number x) old ∙ s.forth x own old);
        none = λ x own.
            each_case x (λ y. number' y < length halves → number' y < size + 3)
            (λ _. omega (arith, a.number_first)) (λ _. omega (arith, a.number_second)) (λ _. omega (arith, a.number_third))
            (λ e less. let old : number x < size = s.none x own (omega (arith, e, less)) in omega (arith, old, e));
        enough = omega (arith, s.enough);
        seen = λ j less. let old = twin_stays j size (omega (arith, s.enough, less)) (omega arith) (s.seen j less) in omega (arith, old);
        found = found';
      }

module _ (d : ℕ) (halves : List Half) (h : ℕ) (place number : ℕ → ℕ) (size : ℕ) (valid : IsTriangulation d halves) (s : IsSearch halves h place number size size) (some : 0 < size) where
  -- the triangle of a half-edge with a number
  first_numbered : (x : ℕ) → x < length halves → number x < size → number (3 * triangle_of x) < size
  first_numbered x inside own =
      let one = next_numbered halves h place number size size valid.count.0 s x inside own in
      let in_one = next_below (length halves) x valid.count.0 inside in
      let two = next_numbered halves h place number size size valid.count.0 s (next_of x) in_one one in
      elim (cases_eq (3 * triangle_of x) x) [
        | inl e ↦ subst (λ y. number y < size) (sym e) own
        | inr ne ↦ elim (cases_eq (3 * triangle_of x) (next_of x)) [
          | inl e ↦ subst (λ y. number y < size) (sym e) one
          | inr other ↦ let e : next_of (next_of x) ≡ 3 * triangle_of x = omega arith in subst (λ y. number y < size) e two
        ]
      ]

  from_first : (x : ℕ) → x < length halves → number (3 * triangle_of x) < size → number x < size
  from_first x inside own =
      let f : ℕ = 3 * (x / 3) in
      let in_f : f < length halves = omega arith in
      let one = next_numbered halves h place number size size valid.count.0 s f in_f own in
      let two = next_numbered halves h place number size size valid.count.0 s (next_of f) (next_below (length halves) f valid.count.0 in_f) one in
      elim (cases_eq x f) [
        | inl e ↦ subst (λ y. number y < size) (sym e) own
        | inr ne ↦ elim (cases_eq x (next_of f)) [
          | inl e ↦ subst (λ y. number y < size) (sym e) one
          | inr other ↦ let e : next_of (next_of f) ≡ x = omega arith in subst (λ y. number y < size) e two
        ]
      ]

  -- where all half-edges with numbers have been looked at, all have numbers
  all_numbered : (x : ℕ) → x < length halves → number x < size
  all_numbered x inside =
      from_first x inside
      (ltb-true (number (3 * triangle_of x)) size
      (joined_from d halves valid (λ t. ltb (number (3 * t)) size)
      (λ y in_y own.
      let numbered : number y < size = from_first y in_y (ltb-true (number (3 * triangle_of y)) size own) in
      let twin : number (twin_at halves y) < size = subst (λ z. number (twin_at halves z) < size) (s.forth y in_y numbered) (s.seen (number y) numbered) in
      lt-ltb (number (3 * triangle_of (twin_at halves y))) size (first_numbered (twin_at halves y) (valid.paired y in_y).0 twin))
      (triangle_of (place 0)) (omega (arith, s.inside 0 some))
      (lt-ltb (number (3 * triangle_of (place 0))) size (first_numbered (place 0) (s.inside 0 some) (subst (λ n. n < size) (sym (s.back 0 some)) some)))
      (triangle_of x) (omega arith)))

  pub size_is : size ≡ length halves
  size_is =
      let all : length halves ≤ size = no_more (length halves) size number place all_numbered (λ x inside. s.forth x inside (all_numbered x inside)) in
      let few : size ≤ length halves = no_more size (length halves) place number s.inside s.back in
      omega arith

  -- it is a numbering
  pub numbering : IsNumbering halves h place number
  numbering = record {
    each_once = record {
      forth_inside = λ k below. s.inside k (omega (arith, size_is, below));
      back_inside = λ x inside. omega (arith, size_is, all_numbered x inside);
      back_forth = λ k below. s.back k (omega (arith, size_is, below));
      forth_back = λ x inside. s.forth x inside (all_numbered x inside);
    };
    start = s.start some;
    next = λ k below. s.next k (omega (arith, size_is, below));
    found = λ t positive below. s.found t positive (omega (arith, size_is, below));
  }
