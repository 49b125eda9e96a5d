-- The table of twins as glue lines fill it.
use Rattle.std.proofs.Common.{◌≡◌, ◌≢◌, ◌↔◌, ℕ, zero, suc, ◌+◌, ◌-◌, ◌<◌, ◌⊎◌, inl, inr, List, [], ◌∷◌, ◌++◌, length, take, get_or, set, Option, Some, None, refl, sym, ap, subst, ◌∙◌, arith}
use Rattle.std.specs.List.{AllByRecursion, Contains}
use Rattle.std.proofs.lemmas.Bool.{cases_eq, cases_lt}
use Rattle.std.proofs.lemmas.List.{get_or-set_same, get_or-set_other, get_or_append_left, get_or_default, get_or_push, length_push, length-set, take_more}
use Rattle.plane.specs.declared.vec2.Vec2.{Vec2}
use Rattle.surface_text.specs.declared.file.Glue.{Glue}
use Rattle.surface_text.specs.Limits.{NamesSides, IsThere}
use Rattle.gluing.specs.Gluings.{Name, Gluing, IsGluing, first_of, second_of, names, no_glue, glue_at, NamesTwice, IsPaired, AreTwins, triangle_count}
use Rattle.gluing.specs.Tables.{row_at, entry_of, HasEntry, with_twin, with_glue, IsRepeated, HasShape, IsTable, line_conditions, IsRowFull, IsFirstWithout}
use Rattle.gluing.specs.Refusals.{AllHold, FailsFor, glue_conditions}
use Rattle.gluing.proofs.Convex.{all_at}

abbrev Rows : Type 0
Rows = List (List (Option Name))

-- two names are the same or not
pub cases_name : (m n : Name) → (m ≡ n) ⊎ (m ≢ n)
cases_name m n =
    elim (cases_eq m.0 n.0) [
      | inl e ↦ elim (cases_eq m.1 n.1) [ inl f ↦ inl (same e f) | inr other ↦ inr (λ g. other (ap (λ (x : Name). x.1) g)) ]
      | inr other ↦ inr (λ g. other (ap (λ (x : Name). x.0) g))
    ]
  where
    same : m.0 ≡ n.0 → m.1 ≡ n.1 → m ≡ n
    same e f = ap (λ (k : ℕ). (k, m.1)) e ∙ ap (λ (k : ℕ). (n.0, k)) f

-- the row of the new twin
row-with_same : (rows : Rows) (n t : Name) → HasEntry rows n → row_at (with_twin rows n t) n.0 ≡ set (row_at rows n.0) n.1 (Some t)
row-with_same rows n t h = get_or-set_same rows n.0 (set (row_at rows n.0) n.1 (Some t)) [] h.0

row-with_other : (rows : Rows) (n t : Name) (p : ℕ) → p ≢ n.0 → row_at (with_twin rows n t) p ≡ row_at rows p
row-with_other rows n t p other = get_or-set_other rows n.0 p (set (row_at rows n.0) n.1 (Some t)) [] other

entry-with_same : (rows : Rows) (n t : Name) → HasEntry rows n → entry_of (with_twin rows n t) n ≡ Some t
entry-with_same rows n t h =
    ap (λ (row : List (Option Name)). get_or row n.1 None) (row-with_same rows n t h)
    ∙ get_or-set_same (row_at rows n.0) n.1 (Some t) None h.1

entry-with_other : (rows : Rows) (n t m : Name) → HasEntry rows n → m ≢ n → entry_of (with_twin rows n t) m ≡ entry_of rows m
entry-with_other rows n t m h other =
    elim (cases_eq m.0 n.0) [
      | inl e ↦
          let apart : m.1 ≢ n.1 = λ f. other (ap (λ (k : ℕ). (k, m.1)) e ∙ ap (λ (k : ℕ). (n.0, k)) f) in
          ap (λ (k : ℕ). get_or (row_at (with_twin rows n t) k) m.1 None) e
          ∙ ap (λ (row : List (Option Name)). get_or row m.1 None) (row-with_same rows n t h)
          ∙ get_or-set_other (row_at rows n.0) n.1 m.1 (Some t) None apart
          ∙ ap (λ (k : ℕ). get_or (row_at rows k) m.1 None) (sym e)
      | inr away ↦ ap (λ (row : List (Option Name)). get_or row m.1 None) (row-with_other rows n t m.0 away)
    ]

long-with : (rows : Rows) (n t : Name) (p : ℕ) → HasEntry rows n → length (row_at (with_twin rows n t) p) ≡ length (row_at rows p)
long-with rows n t p h =
    elim (cases_eq p n.0) [
      | inl e ↦
          ap (λ (k : ℕ). length (row_at (with_twin rows n t) k)) e ∙ ap length (row-with_same rows n t h)
          ∙ length-set (row_at rows n.0) n.1 (Some t) ∙ ap (λ (k : ℕ). length (row_at rows k)) (sym e)
      | inr other ↦ ap length (row-with_other rows n t p other)
    ]

many-with : (rows : Rows) (n t : Name) → length (with_twin rows n t) ≡ length rows
many-with rows n t = length-set rows n.0 (set (row_at rows n.0) n.1 (Some t))

-- an entry is there after another is written
pub HasEntry-with : (rows : Rows) (n t m : Name) → HasEntry rows n → HasEntry rows m → HasEntry (with_twin rows n t) m
HasEntry-with rows n t m h k = (omega (arith, many-with rows n t, k.0), omega (arith, long-with rows n t m.0 h, k.1))

-- where there is a side, there is an entry
pub HasEntry-there : (polygons : List (List Vec2)) (rows : Rows) (p e : ℕ) → HasShape polygons rows → IsThere polygons p e → HasEntry rows (p, e)
HasEntry-there polygons rows p e shape there = (omega (arith, shape.as_many, there.0), omega (arith, shape.as_long p, there.1))

HasShape-with : (polygons : List (List Vec2)) (rows : Rows) (n t : Name) → HasEntry rows n → HasShape polygons rows → HasShape polygons (with_twin rows n t)
HasShape-with polygons rows n t h shape = record {
  as_many = many-with rows n t ∙ shape.as_many;
  as_long = λ p. long-with rows n t p h ∙ shape.as_long p;
}

module _ (rows : Rows) (g : Glue) (first : HasEntry rows (first_of g)) (second : HasEntry rows (second_of g)) where
  second' : HasEntry (with_twin rows (first_of g) (second_of g)) (second_of g)
  second' = HasEntry-with rows (first_of g) (second_of g) (second_of g) first second

  at_second : entry_of (with_glue rows g) (second_of g) ≡ Some (first_of g)
  at_second = entry-with_same (with_twin rows (first_of g) (second_of g)) (second_of g) (first_of g) second'

  at_first : first_of g ≢ second_of g → entry_of (with_glue rows g) (first_of g) ≡ Some (second_of g)
  at_first other =
      entry-with_other (with_twin rows (first_of g) (second_of g)) (second_of g) (first_of g) (first_of g) second' other
      ∙ entry-with_same rows (first_of g) (second_of g) first

  at_other : (m : Name) → m ≢ first_of g → m ≢ second_of g → entry_of (with_glue rows g) m ≡ entry_of rows m
  at_other m a b =
      entry-with_other (with_twin rows (first_of g) (second_of g)) (second_of g) (first_of g) m second' b
      ∙ entry-with_other rows (first_of g) (second_of g) m first a

-- what isn't filled is none
none_from : (o : Option Name) → ¬ (¬ (o ≡ None)) → o ≡ None
none_from None h = refl
none_from (Some t) h = absurd (h (λ e. let no : ⊥ = cc in no))

-- what isn't none is filled
some_from : (o : Option Name) → ¬ (o ≡ None) → (t : Name) × (o ≡ Some t)
some_from None h = absurd (h refl)
some_from (Some t) h = (t, refl)

some_none : (o : Option Name) (t : Name) → o ≡ Some t → ¬ (o ≡ None)
some_none o t e f = let no : Some t ≡ None = sym e ∙ f in let bad : ⊥ = cc in bad

-- a line that stands in a longer list
glue-left : (glues : List Glue) (g : Glue) (k : ℕ) → k < length glues → glue_at (glues ++ g ∷ []) k ≡ glue_at glues k
glue-left glues g k h = get_or_append_left glues (g ∷ []) no_glue k h

glue-last : (glues : List Glue) (g : Glue) (k : ℕ) → length glues ≡ k → glue_at (glues ++ g ∷ []) k ≡ g
glue-last glues g k e = get_or_push glues g no_glue k e

AreTwins-left : (glues : List Glue) (g : Glue) (n t : Name) → AreTwins glues n t → AreTwins (glues ++ g ∷ []) n t
AreTwins-left glues g n t twins =
    let e : glue_at (glues ++ g ∷ []) twins.0 ≡ glue_at glues twins.0 = glue-left glues g twins.0 twins.1 in (
      twins.0,
      (omega (arith, length_push glues g, twins.1)),
      subst (λ (h : Glue). ((first_of h ≡ n) × (second_of h ≡ t)) ⊎ ((first_of h ≡ t) × (second_of h ≡ n))) (sym e) twins.2,
    )

-- with one more glue line, whose sides have no twins yet
pub IsTable-more : (polygons : List (List Vec2)) (glues : List Glue) (rows : Rows) (g : Glue) → NamesSides polygons g → ¬ (IsRepeated rows g)
    → IsTable polygons glues rows → IsTable polygons (glues ++ g ∷ []) (with_glue rows g)
IsTable-more polygons glues rows g there new table =
    let first : HasEntry rows (first_of g) = HasEntry-there polygons rows g.p1 g.e1 table.shape there.0 in
    let second : HasEntry rows (second_of g) = HasEntry-there polygons rows g.p2 g.e2 table.shape there.1 in
    let none_first : entry_of rows (first_of g) ≡ None = none_from (entry_of rows (first_of g)) (λ h. new (inl h)) in
    let none_second : entry_of rows (second_of g) ≡ None = none_from (entry_of rows (second_of g)) (λ h. new (inr (inl h))) in
    let apart : first_of g ≢ second_of g = λ e. new (inr (inr e)) in
    let kept : (m t : Name) → entry_of rows m ≡ Some t → entry_of (with_glue rows g) m ≡ Some t = λ m t e.
    at_other rows g first second m (λ a. some_none (entry_of rows m) t e (ap (entry_of rows) a ∙ none_first)) (λ b. some_none (entry_of rows m) t e (ap (entry_of rows) b ∙ none_second)) ∙ e in
    record {
      shape = HasShape-with polygons (with_twin rows (first_of g) (second_of g)) (second_of g) (first_of g) (second' rows g first second) (HasShape-with polygons rows (first_of g) (second_of g) first table.shape);
      first = λ k h. elim (cases_lt k (length glues)) [
        | inl l ↦ subst (λ (x : Glue). entry_of (with_glue rows g) (first_of x) ≡ Some (second_of x)) (sym (glue-left glues g k l)) (kept (first_of (glue_at glues k)) (second_of (glue_at glues k)) (table.first k l))
        | inr l ↦
            let e : length glues ≡ k = omega (arith, length_push glues g) in
            subst (λ (x : Glue). entry_of (with_glue rows g) (first_of x) ≡ Some (second_of x)) (sym (glue-last glues g k e)) (at_first rows g first second apart)
      ];
      second = λ k h. elim (cases_lt k (length glues)) [
        | inl l ↦ subst (λ (x : Glue). entry_of (with_glue rows g) (second_of x) ≡ Some (first_of x)) (sym (glue-left glues g k l)) (kept (second_of (glue_at glues k)) (first_of (glue_at glues k)) (table.second k l))
        | inr l ↦
            let e : length glues ≡ k = omega (arith, length_push glues g) in
            subst (λ (x : Glue). entry_of (with_glue rows g) (second_of x) ≡ Some (first_of x)) (sym (glue-last glues g k e)) (at_second rows g first second)
      ];
      twins = λ n t e.
          let is : glue_at (glues ++ g ∷ []) (length glues) ≡ g = glue-last glues g (length glues) refl in
          let inside : length glues < length (glues ++ g ∷ []) = omega (arith, length_push glues g) in
          elim (cases_name n (second_of g)) [
            | inl b ↦
                let same : Some (first_of g) ≡ Some t = sym (at_second rows g first second) ∙ ap (entry_of (with_glue rows g)) (sym b) ∙ e in
                let t_is : first_of g ≡ t = cc in
                (length glues, inside, inr (ap first_of is ∙ t_is, ap second_of is ∙ sym b))
            | inr not_second ↦ elim (cases_name n (first_of g)) [
              | inl a ↦
                  let same : Some (second_of g) ≡ Some t = sym (at_first rows g first second apart) ∙ ap (entry_of (with_glue rows g)) (sym a) ∙ e in
                  let t_is : second_of g ≡ t = cc in
                  (length glues, inside, inl (ap first_of is ∙ sym a, ap second_of is ∙ t_is))
              | inr not_first ↦ AreTwins-left glues g n t (table.twins n t (sym (at_other rows g first second n not_first not_second) ∙ e))
            ]
          ];
    }

module _ {X : Type 0} where
  pub contains_left : (xs ys : List X) (x : X) → Contains xs x → Contains (xs ++ ys) x
  contains_left [] ys x h = absurd (omega (arith, h.1))
  contains_left (y ∷ xs) ys x (zero, h, e) = (zero, omega arith, e)
  contains_left (y ∷ xs) ys x (suc k, h, e) = let r = contains_left xs ys x (k, omega (arith, h), e) in (suc r.0, omega (arith, r.1), r.2)

  pub contains_last : (xs : List X) (x : X) → Contains (xs ++ x ∷ []) x
  contains_last [] x = (0, omega arith, refl)
  contains_last (y ∷ xs) x = let r = contains_last xs x in (suc r.0, omega (arith, r.1), r.2)

  pub contains_push : (xs : List X) (a b : X) → Contains (xs ++ a ∷ []) b → Contains xs b ⊎ (a ≡ b)
  contains_push [] a b (zero, h, e) = inr e
  contains_push [] a b (suc k, h, e) = absurd (omega (arith, h))
  contains_push (y ∷ xs) a b (zero, h, e) = inl (zero, omega arith, e)
  contains_push (y ∷ xs) a b (suc k, h, e) =
      elim (contains_push xs a b (k, omega (arith, h), e)) [ inl r ↦ inl (suc r.0, omega (arith, r.1), r.2) | inr f ↦ inr f ]

-- glue line k names n
abbrev Names : List Glue → ℕ → Name → Type 0
Names glues k n = (first_of (glue_at glues k) ≡ n) ⊎ (second_of (glue_at glues k) ≡ n)

names_from : (glues : List Glue) (k : ℕ) (n : Name) → k < length glues → Names glues k n → Contains (names glues) n
names_from [] k n h e = absurd (omega arith)
names_from (g ∷ glues) zero n h (inl e) = (0, omega arith, e)
names_from (g ∷ glues) zero n h (inr e) = (1, omega arith, e)
names_from (g ∷ glues) (suc k) n h e = let r = names_from glues k n (omega arith) e in (suc (suc r.0), omega (arith, r.1), r.2)

names_to : (glues : List Glue) (n : Name) → Contains (names glues) n → (k : ℕ) × (k < length glues) × Names glues k n
names_to [] n h = absurd (omega (arith, h.1))
names_to (g ∷ glues) n (zero, h, e) = (0, omega arith, inl e)
names_to (g ∷ glues) n (suc zero, h, e) = (0, omega arith, inr e)
names_to (g ∷ glues) n (suc (suc j), h, e) = let r = names_to glues n (j, omega (arith, h), e) in (suc r.0, omega (arith, r.1), r.2)

-- the sides with twins are those that are named
pub named_from_entry : (polygons : List (List Vec2)) (glues : List Glue) (rows : Rows) (n : Name) → IsTable polygons glues rows → ¬ (entry_of rows n ≡ None) → Contains (names glues) n
named_from_entry polygons glues rows n table some =
    let t = some_from (entry_of rows n) some in
    let w = table.twins n t.0 t.1 in
    names_from glues w.0 n w.1 (elim w.2 [ inl e ↦ inl e.0 | inr e ↦ inr e.1 ])

pub entry_from_named : (polygons : List (List Vec2)) (glues : List Glue) (rows : Rows) (n : Name) → IsTable polygons glues rows → Contains (names glues) n → ¬ (entry_of rows n ≡ None)
entry_from_named polygons glues rows n table named =
    let w = names_to glues n named in
    elim w.2 [
      | inl e ↦ some_none (entry_of rows n) (second_of (glue_at glues w.0)) (ap (entry_of rows) (sym e) ∙ table.first w.0 w.1)
      | inr e ↦ some_none (entry_of rows n) (first_of (glue_at glues w.0)) (ap (entry_of rows) (sym e) ∙ table.second w.0 w.1)
    ]

-- a named side has a twin by the glue lines
pub twin_from_named : (polygons : List (List Vec2)) (glues : List Glue) (rows : Rows) (n : Name) → IsTable polygons glues rows → Contains (names glues) n → (t : Name) × (entry_of rows n ≡ Some t)
twin_from_named polygons glues rows n table named = some_from (entry_of rows n) (entry_from_named polygons glues rows n table named)

-- the table says of each line whether it names a side again
pub repeated_names : (polygons : List (List Vec2)) (glues : List Glue) (rows : Rows) (k : ℕ) → IsTable polygons (take k glues) rows
    → (IsRepeated rows (glue_at glues k) ↔ NamesTwice glues k)
repeated_names polygons glues rows k table =
    let g = glue_at glues k in (
      (λ h. elim h [
        | inl a ↦ inl (named_from_entry polygons (take k glues) rows (first_of g) table a)
        | inr more ↦ elim more [
          | inl b ↦ inr (contains_left (names (take k glues)) (first_of g ∷ []) (second_of g) (named_from_entry polygons (take k glues) rows (second_of g) table b))
          | inr e ↦ inr (subst (λ (x : Name). Contains (names (take k glues) ++ first_of g ∷ []) x) e (contains_last (names (take k glues)) (first_of g)))
        ]
      ]),
      (λ h. elim h [
        | inl a ↦ inl (entry_from_named polygons (take k glues) rows (first_of g) table a)
        | inr b ↦ elim (contains_push (names (take k glues)) (first_of g) (second_of g) b) [
          | inl c ↦ inr (inl (entry_from_named polygons (take k glues) rows (second_of g) table c))
          | inr e ↦ inr (inr e)
        ]
      ]),
    )

-- glue line k as code reads it
abbrev pub glue_read : List Glue → ℕ → Glue
glue_read glues k = get_or glues k (record { p1 = 0; e1 = 0; p2 = 0; e2 = 0 })

glue-read : (glues : List Glue) (k : ℕ) → k < length glues → glue_read glues k ≡ glue_at glues k
glue-read glues k inside = get_or_default glues k (record { p1 = 0; e1 = 0; p2 = 0; e2 = 0 }) no_glue inside

module _ (d : ℕ) (polygons : List (List Vec2)) (glues : List Glue) (rows : Rows) (k : ℕ) (inside : k < length glues) (table : IsTable polygons (take k glues) rows) where
  -- the conditions on a glue line hold by the table
  pub line_holds : AllHold (line_conditions d polygons rows (glue_read glues k)) → AllHold (glue_conditions d polygons glues k)
  line_holds h =
      let all : AllHold (line_conditions d polygons rows (glue_at glues k)) = subst (λ (g : Glue). AllHold (line_conditions d polygons rows g)) (glue-read glues k inside) h in
      ((λ twice. all.0 ((repeated_names polygons glues rows k table).1 twice)), all.1)

  -- or fail
  pub line_fails : (cause : ℕ) → FailsFor cause (line_conditions d polygons rows (glue_read glues k)) → FailsFor cause (glue_conditions d polygons glues k)
  line_fails cause h = elim (subst (λ (g : Glue). FailsFor cause (line_conditions d polygons rows g)) (glue-read glues k inside) h) [
    | inl twice ↦ inl ((λ new. twice.0 (λ again. new ((repeated_names polygons glues rows k table).0 again))), twice.1)
    | inr other ↦ inr ((λ twice. other.0 ((repeated_names polygons glues rows k table).1 twice)), other.1)
  ]

  -- the table with one more line
  pub table_step : (next : Rows) → AllByRecursion (NamesSides polygons) glues → AllHold (line_conditions d polygons rows (glue_read glues k)) → next ≡ with_glue rows (glue_read glues k)
      → IsTable polygons (take (k + 1) glues) next
  table_step next there h is =
      let g = glue_at glues k in
      let all : AllHold (line_conditions d polygons rows g) = subst (λ (g : Glue). AllHold (line_conditions d polygons rows g)) (glue-read glues k inside) h in
      subst (λ (x : Rows). IsTable polygons (take (k + 1) glues) x) (sym (is ∙ ap (with_glue rows) (glue-read glues k inside)))
      (subst (λ (x : List Glue). IsTable polygons x (with_glue rows g)) (sym (take_more glues k no_glue inside))
      (IsTable-more polygons (take k glues) rows g (all_at (NamesSides polygons) glues no_glue k there inside) all.0 table))

-- a row is full where its polygon's sides are all named
pub row_paired : (polygons : List (List Vec2)) (glues : List Glue) (rows : Rows) (p : ℕ) → IsTable polygons glues rows → p < length polygons
    → (IsRowFull (row_at rows p) ↔ IsPaired polygons glues p)
row_paired polygons glues rows p table inside = (
  (λ full e there. named_from_entry polygons glues rows (p, e) table (full e (omega (arith, table.shape.as_long p, there.1)))),
  (λ paired e below. entry_from_named polygons glues rows (p, e) table (paired e (inside, omega (arith, table.shape.as_long p)))),
)

-- the first place without one fact is the first without another that says the same
pub first_same : (P Q : ℕ → Type 0) (n m : ℕ) (o : Option ℕ) → n ≡ m → ((p : ℕ) → p < n → (P p ↔ Q p)) → IsFirstWithout P n o → IsFirstWithout Q m o
first_same P Q n m None e same h = λ k below. let l : k < n = omega arith in (same k l).0 (h k l)
first_same P Q n m (Some p) e same h =
    (omega (arith, h.0), (λ k below. (same k (omega (arith, h.0))).0 (h.1 k below)), (λ q. h.2 ((same p h.0).1 q)))

-- the triangles of one more polygon
count-push : (polygons : List (List Vec2)) (sides : List Vec2) → triangle_count (polygons ++ sides ∷ []) ≡ triangle_count polygons + (length sides - 2)
count-push [] sides = omega arith
count-push (s ∷ polygons) sides = omega (arith, count-push polygons sides)

pub count-more : (polygons : List (List Vec2)) (p : ℕ) (sides : List Vec2) → p < length polygons → get_or polygons p [] ≡ sides
    → triangle_count (take (p + 1) polygons) ≡ triangle_count (take p polygons) + (length sides - 2)
count-more polygons p sides inside e =
    ap triangle_count (take_more polygons p [] inside ∙ ap (λ (s : List Vec2). take p polygons ++ s ∷ []) e) ∙ count-push (take p polygons) sides

-- an entry of a gluing's table is a twin
pub twin_found : (view g : Gluing) (rows : Rows) (n t : Name) → view ≡ g → IsTable view.polygons view.glues rows → Some t ≡ entry_of rows n → AreTwins g.glues n t
twin_found view g rows n t e table is = subst (λ (x : Gluing). AreTwins x.glues n t) e (table.twins n t (sym is))

-- and each side has one
pub twin_there : (view g : Gluing) (rows : Rows) (p e : ℕ) → view ≡ g → IsGluing view → IsTable view.polygons view.glues rows → IsThere g.polygons p e → ¬ (None ≡ entry_of rows (p, e))
twin_there view g rows p e same valid table there is =
    let here : IsThere view.polygons p e = subst (λ (x : Gluing). IsThere x.polygons p e) (sym same) there in
    entry_from_named view.polygons view.glues rows (p, e) table (valid.paired p here.0 e here) (sym is)
