-- An input is accepted as one file, or refused for one cause in one line, never both; and a command owes it one status.
use Rattle.std.proofs.Common.{◌≡◌, ℕ, ◌≤◌, inl, inr, refl, List, [], ◌∷◌, length, ap, sym, ◌∙◌, subst, arith}
use Rattle.std.specs.List.{AllByRecursion}
use Rattle.std.specs.Prelude.{◌<◌, ◌⊎◌, ℤ, Some, false}
use Rattle.std.proofs.lemmas.Bool.{cases_order}
use Rattle.std.proofs.lemmas.Option.{slice_get-get_or}
use Rattle.surface_text.specs.Spelling.{Content, text}
use Rattle.surface_text.specs.Limits.{IsBasePoint, IsWithinLimits}
use Rattle.surface_text.specs.declared.file.Point.{Point}
use Rattle.surface_text.proofs.CallerLemmas as texts
use Rattle.tri_core.specs.declared.half.Half.{Half}
use Rattle.gluing.specs.Gluings.{IsGluing, gluing_of}
use Rattle.gluing.specs.Refusals.{IsRefused as IsGluingRefused}
use Rattle.gluing.proofs.CallerLemmas as gluing
use Rattle.ear_cut.proofs.CallerLemmas.{one_cutting, triangulation}
use Rattle.delaunay_flip.specs.Points.{standard_points}
use Rattle.delaunay_flip.specs.Bases.{Ending, EndsListed}
use Rattle.delaunay_flip.proofs.CallerLemmas.{within, one_listed}
use Rattle.quad_field.specs.FieldNumber.{IsFieldNumber}
use Rattle.quad_field.specs.declared.formula.Formula.{Formula}
use Rattle.quad_field.specs.declared.formula.Formula.TheVariants.{F1, F2, F3, F4, F5, F6, F7, F8, F9, F10, F11, F12, F13}
use Rattle.tri_core.specs.Triangulation.{IsTriangulation}
use Rattle.path_walk.specs.Walks.{IsWithoutWall, IsWideOnWalk}
use Rattle.path_walk.proofs.CallerLemmas.{no_end_without_wall, no_end_wide, one_stop, wall_or_wide}
use Rattle.answer_text.specs.declared.status.Status.{Status}
use Rattle.answer_text.specs.declared.status.Status.TheVariants.{Done, File, TooWide, LimitPassed, No}
use Rattle.answer_text.specs.declared.place.Place.TheVariants as places
use Rattle.answer_text.specs.declared.no_cause.NoCause.TheVariants.{Wall}
use Rattle.command_words.specs.declared.command.Command.{Command}
use Rattle.command_words.specs.declared.command.Command.TheVariants.{Check, Base, Region, Path, Plain, Group, Make, Trial}
use Rattle.veech_cli.specs.SurfaceFiles.{IsTextOf, IsAccepted, IsTriangulationOf, IsRefused, too_long, text_refused, not_glued}
use Rattle.veech_cli.specs.Endings.{or_standard, points_of, status_of_ending}
use Rattle.family_gen.proofs.CallerLemmas as families
use Rattle.veech_cli.specs.Writings.{Writing, trial_text, plain_text}
use Rattle.veech_cli.specs.Owed.{Answers, AnswersAt, AnswersFromBase, OnTriangulation, IsRegionAnswer, IsPathAnswer, IsBaseAnswer, IsPlainAnswer, ReadsInput, WorksOn, Owes, IsOptional}
use Rattle.veech_cli.specs.Classes.{AreClassesWithin, MoreAreReachedCodes}
use Rattle.veech_cli.proofs.Listed.{listed_valid}
use Rattle.veech_cli.proofs.Distinct.{no_more}

-- two files with one text
one_text : (input : List ℕ) (file other : Content) → IsTextOf input file → IsTextOf input other → file ≡ other
one_text input file other a b = texts.one_file file other (sym a.spelled ∙ b.spelled)

pub one_file : (input : List ℕ) (file other : Content) → IsAccepted input file → IsAccepted input other → file ≡ other
one_file input file other a b = one_text input file other a.text_of b.text_of

pub not_both : (input : List ℕ) (file : Content) (cause line : ℕ) → IsAccepted input file → ¬ (IsRefused input cause line)
not_both input file cause line a (too_long long _ _) = omega (arith, a.text_of.short, long)
not_both input file cause line a (text_refused _ h) = texts.not_both input file cause line (a.text_of.spelled, a.text_of.limits) h
not_both input file cause line a (not_glued other t h) =
    gluing.not_both file cause line a.glued (subst (λ f. IsGluingRefused f cause line) (one_text input other file t a.text_of) h)

pub one_refusal : (input : List ℕ) (cause other line place : ℕ) → IsRefused input cause line → IsRefused input other place → (cause ≡ other) × (line ≡ place)
one_refusal input cause other line place (too_long _ c l) (too_long _ k m) = (c ∙ sym k, l ∙ sym m)
one_refusal input cause other line place (too_long long _ _) (text_refused short _) = absurd (omega (arith, long, short))
one_refusal input cause other line place (too_long long _ _) (not_glued file t _) = absurd (omega (arith, long, t.short))
one_refusal input cause other line place (text_refused short _) (too_long long _ _) = absurd (omega (arith, long, short))
one_refusal input cause other line place (text_refused _ a) (text_refused _ b) = texts.one_refusal input cause other line place a b
one_refusal input cause other line place (text_refused _ a) (not_glued file t _) = absurd (texts.not_both input file cause line (t.spelled, t.limits) a)
one_refusal input cause other line place (not_glued file t _) (too_long long _ _) = absurd (omega (arith, long, t.short))
one_refusal input cause other line place (not_glued file t _) (text_refused _ b) = absurd (texts.not_both input file other place (t.spelled, t.limits) b)
one_refusal input cause other line place (not_glued file t a) (not_glued next u b) =
    gluing.one_refusal next cause other line place (subst (λ f. IsGluingRefused f cause line) (one_text input file next t u) a) b

-- no input is neither accepted nor refused
pub not_neither : (input : List ℕ) → ((file : Content) → ¬ (IsAccepted input file)) → ((cause line : ℕ) → ¬ (IsRefused input cause line)) → ⊥
not_neither input no_file no_refusal = elim (either (length input)) [
  | inl short ↦ texts.neither input short
      (λ file is. glued_or_not file (record { short = short; spelled = is.0; limits = is.1 }) (gluing.glued_or_refused file is.1))
      (λ cause line refused. no_refusal cause line (text_refused short refused))
  | inr long ↦ no_refusal 0 0 (too_long long refl refl)
]
  where
    either : (n : ℕ) → (n ≤ 1048576) ⊎ (1048576 < n)
    either n = elim (cases_order n 1048576) [ inl same ↦ inl (omega arith) | inr other ↦ elim other [ inl less ↦ inl (omega arith) | inr more ↦ inr more ] ]

    glued_or_not : (file : Content) → IsTextOf input file → IsGluing (gluing_of file) ⊎ ((cause : ℕ) × (line : ℕ) × IsGluingRefused file cause line) → ⊥
    glued_or_not file is (inl glued) = no_file file (record { text_of = is; glued = glued })
    glued_or_not file is (inr refused) = no_refusal refused.0 refused.1 (not_glued file is refused.2)

-- the standard points are base points
standard_within : AllByRecursion IsBasePoint standard_points
standard_within = grind (within, arith)

pub points_within : (bases : List Point) → AllByRecursion IsBasePoint bases → AllByRecursion IsBasePoint (or_standard bases)
points_within [] all = standard_within
points_within (at ∷ bases) all = all

-- two statuses are one, but for a wide formula that an answer may do without
abbrev AreAlike : Status → Status → Type 0
AreAlike status other = (status ≡ other) ⊎ (IsOptional status ⊎ IsOptional other)

-- for one triangulation this answers one status
abbrev IsOnce : (List Half → Status → List ℕ → Type 0) → List Half → Type 0
IsOnce P halves = (status other : Status) (text line : List ℕ) → P halves status text → P halves other line → AreAlike status other

-- `region` does
region_once : (d : ℕ) (halves : List Half) → IsOnce (IsRegionAnswer d) halves
region_once d halves status other text line (inl a) (inl b) = inl (a.4 ∙ sym b.4)
region_once d halves status other text line (inr a) b = inr (inl (inl (a.0, a.2)))
region_once d halves status other text line (inl a) (inr b) = inr (inr (inl (b.0, b.2)))

-- a formula is that of a new diagonal, or another
diagonal_or_not : (formula : Formula) → (formula ≡ F12) ⊎ ¬ (formula ≡ F12)
diagonal_or_not F1 = inr (λ e. cc)
diagonal_or_not F2 = inr (λ e. cc)
diagonal_or_not F3 = inr (λ e. cc)
diagonal_or_not F4 = inr (λ e. cc)
diagonal_or_not F5 = inr (λ e. cc)
diagonal_or_not F6 = inr (λ e. cc)
diagonal_or_not F7 = inr (λ e. cc)
diagonal_or_not F8 = inr (λ e. cc)
diagonal_or_not F9 = inr (λ e. cc)
diagonal_or_not F10 = inr (λ e. cc)
diagonal_or_not F11 = inr (λ e. cc)
diagonal_or_not F12 = inl refl
diagonal_or_not F13 = inr (λ e. cc)

-- and so does `path`: a walk has an end, or one place at which it stops
module _ (d : ℕ) (field : IsFieldNumber d) (choices : List ℕ) (halves : List Half) (valid : IsTriangulation d halves) where
  -- a wide formula on a walk is one that an answer may do without, or the new diagonal is wide there
  optional_or_stop : (status : Status) (formula : Formula) (place : ℕ) → IsWideOnWalk d halves choices formula place → status ≡ TooWide formula (places.Walk place)
      → IsOptional status ⊎ (IsWideOnWalk d halves choices F12 place × (status ≡ TooWide F12 (places.Walk place)))
  optional_or_stop status formula place wide is = elim (diagonal_or_not formula) [
    | inl e ↦ inr (subst (λ (f : Formula). IsWideOnWalk d halves choices f place) e wide, is ∙ ap (λ (f : Formula). TooWide f (places.Walk place)) e)
    | inr ne ↦ inl (inr (inr (inr (formula, place, ne, is))))
  ]

  -- a wide frame of the end is one as well
  optional_end : (status : Status) → status ≡ TooWide F1 (places.Walk (length choices)) → IsOptional status
  optional_end status is = inr (inr (inr (F1, length choices, (λ e. not_diagonal e), is)))
    where
      not_diagonal : F1 ≡ F12 → ⊥
      not_diagonal e = cc

  path_once : IsOnce (IsPathAnswer d choices) halves
  path_once status other text line (inr (inr (inr a))) b = inr (inl (optional_end status a.3))
  path_once status other text line a (inr (inr (inr b))) = inr (inr (optional_end other b.3))
  path_once status other text line (inl a) (inl b) = inl (a.6 ∙ sym b.6)
  path_once status other text line (inl a) (inr (inl b)) = absurd (no_end_without_wall d field halves valid choices b.0 a.0 b.1 a.3)
  path_once status other text line (inr (inl a)) (inl b) = absurd (no_end_without_wall d field halves valid choices a.0 b.0 a.1 b.3)
  path_once status other text line (inl a) (inr (inr (inl b))) = elim (optional_or_stop other b.0 b.1 b.2 b.3) [
    | inl optional ↦ inr (inr optional)
    | inr stop ↦ absurd (no_end_wide d field halves valid choices b.1 a.0 stop.0 a.3)
  ]
  path_once status other text line (inr (inr (inl a))) (inl b) = elim (optional_or_stop status a.0 a.1 a.2 a.3) [
    | inl optional ↦ inr (inl optional)
    | inr stop ↦ absurd (no_end_wide d field halves valid choices a.1 b.0 stop.0 b.3)
  ]
  path_once status other text line (inr (inl a)) (inr (inl b)) =
      inl (a.2 ∙ ap (λ (place : ℕ). No (Wall place)) (one_stop d field halves valid choices a.0 b.0 (inl a.1) (inl b.1)) ∙ sym b.2)
  path_once status other text line (inr (inl a)) (inr (inr (inl b))) = elim (optional_or_stop other b.0 b.1 b.2 b.3) [
    | inl optional ↦ inr (inr optional)
    | inr stop ↦
        absurd (wall_or_wide d field halves valid choices b.1
        (subst (λ (place : ℕ). IsWithoutWall d halves choices place) (one_stop d field halves valid choices a.0 b.1 (inl a.1) (inr stop.0)) a.1) stop.0)
  ]
  path_once status other text line (inr (inr (inl a))) (inr (inl b)) = elim (optional_or_stop status a.0 a.1 a.2 a.3) [
    | inl optional ↦ inr (inl optional)
    | inr stop ↦
        absurd (wall_or_wide d field halves valid choices a.1
        (subst (λ (place : ℕ). IsWithoutWall d halves choices place) (one_stop d field halves valid choices b.0 a.1 (inl b.1) (inr stop.0)) b.1) stop.0)
  ]
  path_once status other text line (inr (inr (inl a))) (inr (inr (inl b))) = elim (optional_or_stop status a.0 a.1 a.2 a.3) [
    | inl optional ↦ inr (inl optional)
    | inr stop ↦ elim (optional_or_stop other b.0 b.1 b.2 b.3) [
      | inl optional ↦ inr (inr optional)
      | inr also ↦ inl (stop.1 ∙ ap (λ (place : ℕ). TooWide F12 (places.Walk place)) (one_stop d field halves valid choices a.1 b.1 (inr stop.0) (inr also.0)) ∙ sym also.1)
    ]
  ]

-- where at most so many classes are reached there are no more
not_more : (d : ℕ) (halves : List Half) (limit : ℕ) (codes : List (List ℤ)) → AreClassesWithin d halves limit codes → ¬ (MoreAreReachedCodes d halves limit)
not_more d halves limit codes are more =
    no_more more.codes codes more.once
    (λ i code at. let held = (are.reached code).1 (more.reached i code at) in (held.0, slice_get-get_or codes held.0 code held.1 ∙ ap Some held.2))
    (omega (arith, are.few, more.more))

-- and so does `plain`: a wide formula that it may do without, the classes with Done, or that there are more of them
abbrev IsKind : ℕ → ℕ → List Half → Status → Type 0
IsKind d limit halves status =
    IsOptional status
    ⊎ ((codes : List (List ℤ)) × AreClassesWithin d halves limit codes × (status ≡ Done))
    ⊎ (MoreAreReachedCodes d halves limit × (status ≡ LimitPassed limit))

kind_of : (writing : Writing) (d limit : ℕ) (at : Point) (halves : List Half) (status : Status) (text : List ℕ) → IsPlainAnswer writing d limit at halves status text → IsKind d limit halves status
kind_of writing d limit at halves status text (inl a) = inr (inl (a.0, a.2, a.4))
kind_of writing d limit at halves status text (inr (inl a)) = inl (inl (F1, a.1))
kind_of writing d limit at halves status text (inr (inr (inl a))) = inl (inr (inl (a.0, a.1, a.2, a.5)))
kind_of writing d limit at halves status text (inr (inr (inr (inl a)))) = inl (inr (inr (inl (a.0, a.2))))
kind_of writing d limit at halves status text (inr (inr (inr (inr a)))) = inr (inr (a.0, a.1))

one_kind : (d limit : ℕ) (halves : List Half) (status other : Status) → IsKind d limit halves status → IsKind d limit halves other → AreAlike status other
one_kind d limit halves status other (inl a) b = inr (inl a)
one_kind d limit halves status other (inr a) (inl b) = inr (inr b)
one_kind d limit halves status other (inr (inl a)) (inr (inl b)) = inl (a.2 ∙ sym b.2)
one_kind d limit halves status other (inr (inl a)) (inr (inr b)) = absurd (not_more d halves limit a.0 a.1 b.0)
one_kind d limit halves status other (inr (inr a)) (inr (inl b)) = absurd (not_more d halves limit b.0 b.1 a.0)
one_kind d limit halves status other (inr (inr a)) (inr (inr b)) = inl (a.1 ∙ sym b.1)

plain_once : (writing : Writing) (d limit : ℕ) (at : Point) (halves : List Half) → IsOnce (IsPlainAnswer writing d limit at) halves
plain_once writing d limit at halves status other text line a b =
    one_kind d limit halves status other (kind_of writing d limit at halves status text a) (kind_of writing d limit at halves other line b)

-- for one ending a command that wants a base answers one status, where it does for the base
ending_once : (P : Point → List Half → Status → List ℕ → Type 0) (at : Point) (ending : Ending) → ((later : List Half) (n : ℕ) → ending ≡ Ending.strict later n → IsOnce (P at) later)
    → (status other : Status) (text line : List ℕ) → AnswersAt P at ending status text → AnswersAt P at ending other line → AreAlike status other
ending_once P at (Ending.strict later n) once status other text line a b = once later n refl status other text line a b
ending_once P at (Ending.not_strict h) once status other text line a b = inl (a.0 ∙ sym b.0)
ending_once P at Ending.flips_ended once status other text line a b = inl (a.0 ∙ sym b.0)
ending_once P at (Ending.wide formula n h) once status other text line a b = inl (a.0 ∙ sym b.0)

module _ (file : Content) (limits : IsWithinLimits file) (glued : IsGluing (gluing_of file)) (halves : List Half) (t : IsTriangulationOf file halves) (flips : ℕ) where
  valid_file : IsTriangulation file.field halves
  valid_file = triangulation (gluing_of file) glued halves t

  inside : AllByRecursion IsBasePoint (points_of file)
  inside = points_within file.bases limits.bases

  base_once : (P : Point → List Half → Status → List ℕ → Type 0) → ((at : Point) (later : List Half) → IsTriangulation file.field later → IsOnce (P at) later)
      → (status other : Status) (text line : List ℕ) → AnswersFromBase flips P file halves status text → AnswersFromBase flips P file halves other line → AreAlike status other
  base_once P once status other text line a b =
      let same = one_listed file.field limits.field halves valid_file (points_of file) inside flips a.0 b.0 a.1 b.1 a.2 b.2 in
      ending_once P b.0 b.1
      (λ later n is. once b.0 later (listed_valid file.field limits.field halves valid_file (points_of file) inside flips b.0 later n
      (subst (λ (e : Ending). EndsListed file.field halves (points_of file) flips b.0 e) is b.2)))
      status other text line
      (subst (λ (e : Ending). AnswersAt P b.0 e status text) same.1 (subst (λ (p : Point). AnswersAt P p a.1 status text) same.0 a.3)) b.3

-- a file has one triangulation, so what is answered for it is answered once where it is for each
module _ (file : Content) (limits : IsWithinLimits file) (glued : IsGluing (gluing_of file)) where
  pub on_one : (P Q : Content → List Half → Status → List ℕ → Type 0) (status other : Status) (text line : List ℕ) → OnTriangulation P file status text → OnTriangulation Q file other line
      → (halves : List Half) × IsTriangulationOf file halves × P file halves status text × Q file halves other line
  on_one P Q status other text line a b =
      (b.0, b.1, subst (λ (halves : List Half). P file halves status text) (one_cutting (gluing_of file) glued a.0 b.0 a.1 b.1) a.2, b.2)

  on_once : (P : Content → List Half → Status → List ℕ → Type 0) → ((halves : List Half) → IsTriangulationOf file halves → IsOnce (P file) halves)
      → (status other : Status) (text line : List ℕ) → OnTriangulation P file status text → OnTriangulation P file other line → AreAlike status other
  on_once P once status other text line a b =
      let both = on_one P P status other text line a b in once both.0 both.1 status other text line both.2 both.3

  -- what is answered for the classes of a file, however they are written, is one status
  one_classes : (writing : Writing) (flips limit : ℕ) → (status other : Status) (text line : List ℕ) → OnTriangulation (AnswersFromBase flips (IsPlainAnswer writing file.field limit)) file status text
      → OnTriangulation (AnswersFromBase flips (IsPlainAnswer writing file.field limit)) file other line → AreAlike status other
  one_classes writing flips limit =
      on_once (AnswersFromBase flips (IsPlainAnswer writing file.field limit))
      (λ halves t. base_once file limits glued halves t flips (IsPlainAnswer writing file.field limit) (λ at later valid. plain_once writing file.field limit at later))

  -- for the file that it works on a command answers one status
  one_for : (command : Command) (status other : Status) (text line : List ℕ) → Answers command file status text → Answers command file other line → AreAlike status other
  one_for Check status other text line a b = inl (a.2.4 ∙ sym b.2.4)
  one_for (Base flips) status other text line a b =
      on_once (IsBaseAnswer flips)
      (λ halves t status other text line a b.
      let same =
      one_listed file.field limits.field halves (valid_file file limits glued halves t flips) (points_of file) (inside file limits glued halves t flips) flips a.0 b.0 a.1 b.1 a.2 b.2 in
      inl (a.3 ∙ (λ i. status_of_ending (same.0 i) (same.1 i)) ∙ sym b.3))
      status other text line a b
  one_for (Region flips) status other text line a b =
      on_once (AnswersFromBase flips (λ at. IsRegionAnswer file.field))
      (λ halves t. base_once file limits glued halves t flips (λ at. IsRegionAnswer file.field) (λ at later valid. region_once file.field later)) status other text line a b
  one_for (Path flips choices) status other text line a b =
      on_once (AnswersFromBase flips (λ at. IsPathAnswer file.field choices))
      (λ halves t. base_once file limits glued halves t flips (λ at. IsPathAnswer file.field choices) (λ at later valid. path_once file.field limits.field choices later valid)) status other text line a b
  one_for (Plain flips limit summary) status other text line a b = one_classes (plain_text summary) flips limit status other text line a b
  one_for (Group flips limit workers) status other text line a b = one_classes (plain_text false) flips limit status other text line a b
  one_for (Make number) status other text line a b = inl (a.0 ∙ sym b.0)
  one_for (Trial flips limit number) status other text line a b = one_classes (trial_text number) flips limit status other text line a b

-- the file that a command works on is a surface
pub works_within : (command : Command) (input : List ℕ) (file : Content) → WorksOn command input file → IsWithinLimits file
works_within Check input file works = works.text_of.limits
works_within (Base flips) input file works = works.text_of.limits
works_within (Region flips) input file works = works.text_of.limits
works_within (Path flips choices) input file works = works.text_of.limits
works_within (Plain flips limit summary) input file works = works.text_of.limits
works_within (Group flips limit workers) input file works = works.text_of.limits
works_within (Make number) input file works = subst IsWithinLimits (sym works.1) (families.within_limits number works.0)
works_within (Trial flips limit number) input file works = subst IsWithinLimits (sym works.1) (families.within_limits number works.0)

pub works_glued : (command : Command) (input : List ℕ) (file : Content) → WorksOn command input file → IsGluing (gluing_of file)
works_glued Check input file works = works.glued
works_glued (Base flips) input file works = works.glued
works_glued (Region flips) input file works = works.glued
works_glued (Path flips choices) input file works = works.glued
works_glued (Plain flips limit summary) input file works = works.glued
works_glued (Group flips limit workers) input file works = works.glued
works_glued (Make number) input file works = subst (λ (f : Content). IsGluing (gluing_of f)) (sym works.1) (families.glued number works.0)
works_glued (Trial flips limit number) input file works = subst (λ (f : Content). IsGluing (gluing_of f)) (sym works.1) (families.glued number works.0)

-- and it is one
pub one_work : (command : Command) (input : List ℕ) (file other : Content) → WorksOn command input file → WorksOn command input other → file ≡ other
one_work Check input file other a b = one_file input file other a b
one_work (Base flips) input file other a b = one_file input file other a b
one_work (Region flips) input file other a b = one_file input file other a b
one_work (Path flips choices) input file other a b = one_file input file other a b
one_work (Plain flips limit summary) input file other a b = one_file input file other a b
one_work (Group flips limit workers) input file other a b = one_file input file other a b
one_work (Make number) input file other a b = a.1 ∙ sym b.1
one_work (Trial flips limit number) input file other a b = a.1 ∙ sym b.1

-- a command that reads the input works on the file that it is accepted as
works_accepted : (command : Command) (input : List ℕ) (file : Content) → ReadsInput command → WorksOn command input file → IsAccepted input file
works_accepted Check input file reads works = works
works_accepted (Base flips) input file reads works = works
works_accepted (Region flips) input file reads works = works
works_accepted (Path flips choices) input file reads works = works
works_accepted (Plain flips limit summary) input file reads works = works
works_accepted (Group flips limit workers) input file reads works = works
works_accepted (Make number) input file reads works = absurd reads
works_accepted (Trial flips limit number) input file reads works = absurd reads

pub one_answer : (command : Command) (input : List ℕ) (status other : Status) (text line : List ℕ) → Owes command input status text → Owes command input other line
    → (status ≡ other) ⊎ (IsOptional status ⊎ IsOptional other)
one_answer command input status other text line (inl a) (inl b) =
    let same = one_refusal input a.0 b.0 a.1 b.1 a.3 b.3 in inl (a.4 ∙ (λ i. File (same.0 i) (same.1 i)) ∙ sym b.4)
one_answer command input status other text line (inl a) (inr b) = absurd (not_both input b.0 a.0 a.1 (works_accepted command input b.0 a.2 b.1) a.3)
one_answer command input status other text line (inr a) (inl b) = absurd (not_both input a.0 b.0 b.1 (works_accepted command input a.0 b.2 a.1) b.3)
one_answer command input status other text line (inr a) (inr b) =
    one_for b.0 (works_within command input b.0 b.1) (works_glued command input b.0 b.1) command status other text line
    (subst (λ (file : Content). Answers command file status text) (one_work command input a.0 b.0 a.1 b.1) a.2) b.2
