-- From one vertex to the next.
use Rattle.std.proofs.Common.{◌≡◌, ℕ, zero, suc, ◌+◌, ◌<◌, ◌≤◌, Bool, true, false, not, ◌&&◌, List, [], ◌∷◌, ◌++◌, length, get_or, subst, sym, ap, ◌∙◌, refl, arith}
use Rattle.std.specs.Prelude.{◌⊎◌, ◌↔◌, IsTrue}
use mathlib.Core.Logic.{inl, inr}
use mathlib.Core.Path.{subst₂}
use Rattle.std.proofs.lemmas.Bool.{cases_eq, cases_lt, and_parts, and_from, not_from_false}
use Rattle.std.proofs.lemmas.List.{get_or_append_left, get_or_push, length-append}
use Rattle.quad_field.specs.FieldNumber.{IsFieldNumber}
use Rattle.tri_core.specs.declared.half.Half.{Half}
use Rattle.tri_core.specs.Triangulation.{IsTriangulation}
use Rattle.cone_points.specs.Vertices.{turned_often, StartsWith, Rises, IsVertex, IsTurns}
use Rattle.cone_points.specs.Angles.{sum_of}
use Rattle.cone_points.specs.Walks.{TellsUpper, rises_by, number_below, IsMarked, risen, IsTurnedOn, AreTurnsBelow, IsRound}
use Rattle.cone_points.proofs.Rounds.{starts_sym, starts_inside, often_inside}
use Rattle.cone_points.proofs.Rising.{rises_told, not_never, false_of}
use Rattle.cone_points.proofs.Numbers.{bit, clash, number_same, number_sum, number_zero, number_none, number_of, listed_same, listed_more}

pub sum_push : (list : List ℕ) (n : ℕ) → sum_of (list ++ n ∷ []) ≡ sum_of list + n
sum_push [] n = omega arith
sum_push (m ∷ list) n = omega (arith, sum_push list n)

-- with a half-edge all that start with it are marked
pub marked_often : (halves : List Half) (marks : List Bool) → IsTurnedOn halves marks → (k l : ℕ) → IsMarked marks k → StartsWith halves k l → IsMarked marks l
marked_often halves marks on k l m s = subst (IsMarked marks) s.1 (go s.0)
  where
    go : (n : ℕ) → IsMarked marks (turned_often halves n k)
    go zero = m
    go (suc n) = on (turned_often halves n k) (go n)

module _ (d : ℕ) (halves : List Half) (valid : IsTriangulation d halves) (number : IsFieldNumber d) (uppers : List Bool) (tells : TellsUpper d halves uppers) where
  -- the number of a half-edge that was marked before is no vertex
  not_vertex : (h : ℕ) (marks : List Bool) (turns : List ℕ) → h < length halves → IsRound d halves uppers h marks turns → IsMarked marks h → ¬ (IsVertex halves h)
  not_vertex h marks turns l w m vertex =
      let f = w.from h m in
      omega (arith, f.1, vertex.1 f.0 (starts_sym d halves valid f.0 h (omega (arith, f.1, l)) f.2))

  pub round_kept : (h : ℕ) (marks : List Bool) (turns : List ℕ) → h < length halves → IsRound d halves uppers h marks turns → IsMarked marks h → IsRound d halves uppers (h + 1) marks turns
  round_kept h marks turns l w m =
      let no = not_vertex h marks turns l w m in
      record {
        as_many = w.as_many;
        passed = λ k below. elim (cases_eq k h) [ inl e ↦ subst (IsMarked marks) (sym e) m | inr ne ↦ w.passed k (omega (arith, below, ne)) ];
        turned_on = w.turned_on;
        from = λ k b. let f = w.from k b in (f.0, omega (arith, f.1), f.2);
        turns_are = record {
          vertices = w.turns_are.vertices;
          listed = listed_same (λ v. (v < h) × IsVertex halves v) (λ v. (v < h + 1) × IsVertex halves v) w.turns_are.vertices (λ k. (
            λ p. (omega (arith, p.0), p.1),
            λ p. elim (cases_eq k h) [ inl e ↦ absurd (no (subst (IsVertex halves) e p.1)) | inr ne ↦ (omega (arith, p.0, ne), p.1) ],
          )) w.turns_are.listed;
          as_many = w.turns_are.as_many;
          each = w.turns_are.each;
        };
        sum = w.sum;
        positive = w.positive;
      }

  -- what a walk from h has done
  pub record IsWalked (h : ℕ) (old marks : List Bool) (rises : ℕ) : Type 0 where
    pub as_many : length marks ≡ length halves
    pub count : risen halves uppers marks ≡ risen halves uppers old + rises
    pub kept : (k : ℕ) → IsMarked old k → IsMarked marks k
    pub more : (k : ℕ) → IsMarked marks k → IsMarked old k ⊎ StartsWith halves h k
    pub on : IsTurnedOn halves marks
    pub start : IsMarked marks h

  module _ (h : ℕ) (old marks : List Bool) (turns : List ℕ) (rises : ℕ) (l : h < length halves) (w : IsRound d halves uppers h old turns) (free : get_or old h false ≡ false) (v : IsWalked h old marks rises) where
    -- nothing that starts with h was marked
    free_round : (k : ℕ) → StartsWith halves h k → get_or old k false ≡ false
    free_round k s = false_of (get_or old k false) (λ m. clash (sym (marked_often halves old w.turned_on k h m (starts_sym d halves valid h k l s)) ∙ free))

    vertex : IsVertex halves h
    vertex = (l, λ k s. elim (cases_lt k h) [ inl less ↦ clash (sym (w.passed k less) ∙ free_round k s) | inr le ↦ le ])

    -- what was marked by the walk and rises
    abbrev walked : ℕ → Bool
    walked k = (get_or marks k false && not (get_or old k false)) && rises_by halves uppers k

    rises_are : number_below walked (length halves) ≡ rises
    rises_are =
        let parts = number_sum (λ k. get_or old k false && rises_by halves uppers k) walked (λ k. get_or marks k false && rises_by halves uppers k) (length halves)
        (λ k below. go (get_or old k false) (get_or marks k false) (rises_by halves uppers k) (v.kept k)) in
        omega (arith, parts, v.count)
      where
        go : (o m r : Bool) → (o ≡ true → m ≡ true) → bit (m && r) ≡ bit (o && r) + bit ((m && not o) && r)
        go true true true h = refl
        go true true false h = refl
        go true false r h = clash (sym (h refl))
        go false true true h = refl
        go false true false h = refl
        go false false r h = refl

    walked_told : (k : ℕ) → ((k < length halves) × IsTrue (walked k)) ↔ (StartsWith halves h k × Rises d halves k)
    walked_told k = (
      λ p.
          let q = and_parts (get_or marks k false && not (get_or old k false)) (rises_by halves uppers k) p.1 in
          let r = and_parts (get_or marks k false) (not (get_or old k false)) q.0 in
          (started (v.more k r.0) r.1, (rises_told d halves valid number uppers tells k p.0).0 q.1),
      λ p.
          let inside = starts_inside d halves valid h k l p.0 in (
            inside,
            and_from (get_or marks k false && not (get_or old k false)) (rises_by halves uppers k)
                (and_from (get_or marks k false) (not (get_or old k false)) (marked_often halves marks v.on h k v.start p.0) (not_from_false (get_or old k false) (free_round k p.0)))
                ((rises_told d halves valid number uppers tells k inside).1 p.1),
          ),
    )
      where
        started : IsMarked old k ⊎ StartsWith halves h k → not (get_or old k false) ≡ true → StartsWith halves h k
        started (inl m) f = clash (sym f ∙ ap not m)
        started (inr s) f = s

    turns_of : IsTurns d halves h rises
    turns_of = subst (IsTurns d halves h) rises_are (number_of (λ k. StartsWith halves h k × Rises d halves k) walked (length halves) walked_told)

    one_rises : 1 ≤ rises
    one_rises = elim (cases_lt 0 rises) [ inl more ↦ omega (arith, more) | inr none ↦ absurd (not_never d halves valid number h l (λ j r. never j r (omega (arith, none)))) ]
      where
        never : (j : ℕ) → Rises d halves (turned_often halves j h) → rises ≡ 0 → ⊥
        never j r e =
            let inside = often_inside d halves valid j h l in
            let told = (walked_told (turned_often halves j h)).1 ((j, refl), r) in
            clash (sym told.1 ∙ number_none walked (length halves) (turned_often halves j h) (rises_are ∙ e) inside)

    more_turns : AreTurnsBelow d halves (h + 1) (turns ++ rises ∷ [])
    more_turns =
        let t = w.turns_are in
        record {
          vertices = t.vertices ++ h ∷ [];
          listed = listed_more (λ v. (v < h) × IsVertex halves v) (λ v. (v < h + 1) × IsVertex halves v) t.vertices h
              (λ p. omega (arith, p.0)) (λ k p. (omega (arith, p.0), p.1)) (omega arith, vertex)
              (λ k p. elim (cases_eq k h) [ inl e ↦ inr e | inr ne ↦ inl (omega (arith, p.0, ne), p.1) ]) t.listed;
          as_many = omega (arith, length-append turns (rises ∷ []), length-append t.vertices (h ∷ []), t.as_many);
          each = λ i below. at i below (cases_lt i (length turns)) t;
        }
      where
        at : (i : ℕ) → i < length (turns ++ rises ∷ []) → (i < length turns) ⊎ (length turns ≤ i) → (t : AreTurnsBelow d halves h turns)
            → IsTurns d halves (get_or (t.vertices ++ h ∷ []) i 0) (get_or (turns ++ rises ∷ []) i 0)
        at i below (inl less) t = subst₂ (IsTurns d halves)
            (sym (get_or_append_left t.vertices (h ∷ []) 0 i (omega (arith, less, t.as_many)))) (sym (get_or_append_left turns (rises ∷ []) 0 i less)) (t.each i less)
        at i below (inr past) t =
            let e : length turns ≡ i = omega (arith, past, below, length-append turns (rises ∷ [])) in
            subst₂ (IsTurns d halves) (sym (get_or_push t.vertices h 0 i (omega (arith, e, t.as_many)))) (sym (get_or_push turns rises 0 i e)) turns_of

    pub round_more : IsRound d halves uppers (h + 1) marks (turns ++ rises ∷ [])
    round_more = record {
      as_many = v.as_many;
      passed = λ k below. elim (cases_eq k h) [ inl e ↦ subst (IsMarked marks) (sym e) v.start | inr ne ↦ v.kept k (w.passed k (omega (arith, below, ne))) ];
      turned_on = v.on;
      from = λ k m. came k (v.more k m);
      turns_are = more_turns;
      sum = sum_push turns rises ∙ omega (arith, w.sum, v.count);
      positive = omega (arith, w.positive, one_rises, length-append turns (rises ∷ []), sum_push turns rises);
    }
      where
        came : (k : ℕ) → IsMarked old k ⊎ StartsWith halves h k → (v : ℕ) × (v < h + 1) × StartsWith halves v k
        came k (inl m) = let f = w.from k m in (f.0, omega (arith, f.1), f.2)
        came k (inr s) = (h, omega arith, s)

  -- the start: nothing is marked
  pub round_none : (marks : List Bool) → length marks ≡ length halves → ((k : ℕ) → get_or marks k false ≡ false) → IsRound d halves uppers 0 marks []
  round_none marks e none = record {
    as_many = e;
    passed = λ k below. absurd (omega (arith, below));
    turned_on = λ k m. clash (sym m ∙ none k);
    from = λ k m. clash (sym m ∙ none k);
    turns_are = record {
      vertices = [];
      listed = (λ i j l k e. omega (arith, k), λ k. (λ c. absurd (omega (arith, c.1)), λ p. absurd (omega (arith, p.0))));
      as_many = refl;
      each = λ i below. absurd (omega (arith, below));
    };
    sum = sym (number_zero (λ k. get_or marks k false && rises_by halves uppers k) (length halves) (λ k below. ap (λ b. b && rises_by halves uppers k) (none k)));
    positive = omega arith;
  }

  -- the end: all are marked
  pub round_all : (marks : List Bool) (turns : List ℕ) → IsRound d halves uppers (length halves) marks turns → sum_of turns ≡ number_below (rises_by halves uppers) (length halves)
  round_all marks turns w = w.sum ∙ number_same (λ k. get_or marks k false && rises_by halves uppers k) (rises_by halves uppers) (length halves) (λ k below. ap (λ b. b && rises_by halves uppers k) (w.passed k below))
