-- An input has one report, whatever the limit, and so has a number.
use Rattle.std.proofs.Common.{◌≡◌, ◌∙◌, ℕ, inl, inr, List, refl, ap, ap₂, sym, subst}
use Rattle.std.specs.Prelude.{ℤ, Bool, Some}
use Rattle.std.specs.List.{Contains}
use Rattle.std.specs.Ordering.{int_cmp}
use Rattle.std.specs.Cmp.Lexicographic.{slice_cmp}
use Rattle.std.proofs.lemmas.Option.{slice_get-get_or, get_or_from_slice_get}
use Rattle.std.proofs.lemmas.Cmp.{lists_total, int_cmp_total}
use Rattle.surface_text.specs.Spelling.{Content}
use Rattle.surface_text.specs.declared.file.Point.{Point}
use Rattle.plane.specs.Matrices.{FieldMatrix}
use Rattle.tri_core.specs.declared.half.Half.{Half}
use Rattle.tri_core.specs.Triangulation.{IsTriangulation}
use Rattle.quad_field.specs.FieldNumber.{IsFieldNumber}
use Rattle.gluing.specs.Gluings.{IsGluing, gluing_of}
use Rattle.ear_cut.proofs.CallerLemmas.{triangulation}
use Rattle.delaunay_flip.specs.Bases.{Ending, EndsListed}
use Rattle.delaunay_flip.proofs.CallerLemmas.{one_listed}
use Rattle.terrain.specs.Places.{IsAt}
use Rattle.terrain.proofs.CallerLemmas.{at_within}
use Rattle.quad_field.specs.declared.formula.Formula.{Formula}
use Rattle.answer_text.specs.declared.status.Status.TheVariants.{Done, File, NotStrict, FlipsEnded, TooWide, LimitPassed}
use Rattle.answer_text.specs.declared.place.Place.{Place}
use Rattle.command_words.specs.declared.command.Command.TheVariants.{Plain, Trial}
use Rattle.surface_text.specs.Limits.{IsWithinLimits}
use Rattle.veech_cli.specs.SurfaceFiles.{IsTriangulationOf}
use Rattle.veech_cli.specs.Writings.{Writing, trial_text, plain_text}
use Rattle.veech_cli.specs.Endings.{points_of}
use Rattle.veech_cli.specs.Classes.{AreClassesWithin}
use Rattle.veech_cli.specs.Groups.{AreMatricesOf}
use Rattle.veech_cli.specs.Owed.{Owes, Answers, AnswersAt, AnswersFromBase, OnTriangulation, IsPlainAnswer}
use Rattle.veech_cli.proofs.Inputs.{one_file, points_within, on_one, works_within, works_glued}
use Rattle.veech_cli.proofs.Ascending.{one_list}
use Rattle.veech_cli.proofs.Listed.{listed_valid}
use Rattle.veech_cli.proofs.OneGraph.{one_list_of_matrices}

-- what a list has stands somewhere in it
at_from_contains : (codes : List (List ℤ)) (code : List ℤ) → Contains codes code → (i : ℕ) × IsAt codes i code
at_from_contains codes code held = (held.0, slice_get-get_or codes held.0 code held.1 ∙ ap Some held.2)

pub contains_at : (codes : List (List ℤ)) (i : ℕ) (code : List ℤ) → IsAt codes i code → Contains codes code
contains_at codes i code at = (i, at_within codes i code at, get_or_from_slice_get codes i code code at)

-- Done is no other status
pub not_file : (cause line : ℕ) → ¬ (Done ≡ File cause line)
not_file cause line e = cc

pub not_strict : (h : ℕ) → ¬ (Done ≡ NotStrict h)
not_strict h e = cc

pub not_ended : (at : Point) → ¬ (Done ≡ FlipsEnded at)
not_ended at e = cc

pub not_wide : (formula : Formula) (place : Place) → ¬ (Done ≡ TooWide formula place)
not_wide formula place e = cc

pub not_passed : (limit : ℕ) → ¬ (Done ≡ LimitPassed limit)
not_passed limit e = cc

module _ (d : ℕ) where
  -- the classes of a base are one list
  one_list_of_classes : (base : List Half) (limit other : ℕ) (codes others : List (List ℤ)) → AreClassesWithin d base limit codes → AreClassesWithin d base other others → codes ≡ others
  one_list_of_classes base limit other codes others a b =
      one_list (slice_cmp int_cmp) (lists_total int_cmp_total) codes others a.ascending b.ascending
      (λ i code at. at_from_contains others code ((b.reached code).1 ((a.reached code).0 (contains_at codes i code at))))
      (λ i code at. at_from_contains codes code ((a.reached code).1 ((b.reached code).0 (contains_at others i code at))))

  module _ (writing : Writing) where
    -- what is answered with Done is the text of the classes and the matrices
    pub done_text : (base : List Half) (limit : ℕ) (at : Point) (text : List ℕ) → IsPlainAnswer writing d limit at base Done text
        → (codes : List (List ℤ)) × (matrices : List FieldMatrix) × AreClassesWithin d base limit codes × AreMatricesOf d base codes matrices × (text ≡ writing d at codes matrices)
    done_text base limit at text (inl a) = (a.0, a.1, a.2, a.3, a.5)
    done_text base limit at text (inr (inl a)) = absurd (not_wide _ _ a.1)
    done_text base limit at text (inr (inr (inl a))) = absurd (not_wide _ _ a.5)
    done_text base limit at text (inr (inr (inr (inl a)))) = absurd (not_wide _ _ a.2)
    done_text base limit at text (inr (inr (inr (inr a)))) = absurd (not_passed limit a.1)

    -- for one base it is one
    base_report : (base : List Half) → IsFieldNumber d → IsTriangulation d base → (limit other : ℕ) (at : Point) (text line : List ℕ)
        → IsPlainAnswer writing d limit at base Done text → IsPlainAnswer writing d other at base Done line → text ≡ line
    base_report base field valid limit other at text line a b =
        one.4 ∙ ap₂ (λ (codes : List (List ℤ)) (matrices : List FieldMatrix). writing d at codes matrices) same matrices ∙ sym two.4
      where
        one : (codes : List (List ℤ)) × (matrices : List FieldMatrix) × AreClassesWithin d base limit codes × AreMatricesOf d base codes matrices × (text ≡ writing d at codes matrices)
        one = done_text base limit at text a

        two : (codes : List (List ℤ)) × (matrices : List FieldMatrix) × AreClassesWithin d base other codes × AreMatricesOf d base codes matrices × (line ≡ writing d at codes matrices)
        two = done_text base other at line b

        same : one.0 ≡ two.0
        same = one_list_of_classes base limit other one.0 two.0 one.2 two.2

        matrices : one.1 ≡ two.1
        matrices = one_list_of_matrices d base two.0 field valid one.1 two.1 (subst (λ (codes : List (List ℤ)). AreMatricesOf d base codes one.1) same one.3) two.3

    -- for one ending it is one
    ending_report : (limit other : ℕ) (at : Point) (ending : Ending) → IsFieldNumber d → ((later : List Half) (n : ℕ) → ending ≡ Ending.strict later n → IsTriangulation d later)
        → (text line : List ℕ) → AnswersAt (IsPlainAnswer writing d limit) at ending Done text → AnswersAt (IsPlainAnswer writing d other) at ending Done line → text ≡ line
    ending_report limit other at (Ending.strict later n) field valid text line a b = base_report later field (valid later n refl) limit other at text line a b
    ending_report limit other at (Ending.not_strict h) field valid text line a b = absurd (not_strict h a.0)
    ending_report limit other at Ending.flips_ended field valid text line a b = absurd (not_ended at a.0)
    ending_report limit other at (Ending.wide formula n h) field valid text line a b = absurd (not_wide formula _ a.0)

module _ (file : Content) (limits : IsWithinLimits file) (glued : IsGluing (gluing_of file)) where
  -- a strict ending of a file's triangulation is a triangulation
  pub base_valid : (halves : List Half) → IsTriangulationOf file halves → (flips : ℕ) (at : Point) (later : List Half) (n : ℕ)
      → EndsListed file.field halves (points_of file) flips at (Ending.strict later n) → IsTriangulation file.field later
  base_valid halves t flips at later n ends =
      listed_valid file.field limits.field halves (triangulation (gluing_of file) glued halves t) (points_of file) (points_within file.bases limits.bases) flips at later n ends

  module _ (writing : Writing) (flips limit other : ℕ) where
    -- for one triangulation it is one
    report_for : (halves : List Half) → IsTriangulationOf file halves → (text line : List ℕ) → AnswersFromBase flips (IsPlainAnswer writing file.field limit) file halves Done text
        → AnswersFromBase flips (IsPlainAnswer writing file.field other) file halves Done line → text ≡ line
    report_for halves t text line a b =
        let valid = triangulation (gluing_of file) glued halves t in
        let same = one_listed file.field limits.field halves valid (points_of file) (points_within file.bases limits.bases) flips a.0 b.0 a.1 b.1 a.2 b.2 in
        ending_report file.field writing limit other b.0 b.1 limits.field
        (λ later n is. base_valid halves t flips b.0 later n (subst (λ (e : Ending). EndsListed file.field halves (points_of file) flips b.0 e) is b.2)) text line
        (subst (λ (e : Ending). AnswersAt (IsPlainAnswer writing file.field limit) b.0 e Done text) same.1
        (subst (λ (p : Point). AnswersAt (IsPlainAnswer writing file.field limit) p a.1 Done text) same.0 a.3)) b.3

    -- and so it is for the file
    pub report_of_file : (text line : List ℕ) → OnTriangulation (AnswersFromBase flips (IsPlainAnswer writing file.field limit)) file Done text
        → OnTriangulation (AnswersFromBase flips (IsPlainAnswer writing file.field other)) file Done line → text ≡ line
    report_of_file text line a b =
        let both =
        on_one file limits glued (AnswersFromBase flips (IsPlainAnswer writing file.field limit)) (AnswersFromBase flips (IsPlainAnswer writing file.field other)) Done Done text line a b in
        report_for both.0 both.1 text line both.2 both.3

pub one_report : (flips limit other : ℕ) (summary : Bool) (input text line : List ℕ) → Owes (Plain flips limit summary) input Done text → Owes (Plain flips other summary) input Done line → text ≡ line
one_report flips limit other summary input text line (inl a) b = absurd (not_file a.0 a.1 a.4)
one_report flips limit other summary input text line (inr a) (inl b) = absurd (not_file b.0 b.1 b.4)
one_report flips limit other summary input text line (inr (file, works, a)) (inr (another, also, b)) =
    report_of_file another also.text_of.limits also.glued (plain_text summary) flips limit other text line
    (subst (λ (f : Content). Answers (Plain flips limit summary) f Done text) (one_file input file another works also) a) b

pub one_trial : (flips limit other number : ℕ) (input text line : List ℕ) → Owes (Trial flips limit number) input Done text → Owes (Trial flips other number) input Done line → text ≡ line
one_trial flips limit other number input text line (inl a) b = absurd a.2
one_trial flips limit other number input text line (inr a) (inl b) = absurd b.2
one_trial flips limit other number input text line (inr (file, works, a)) (inr (another, also, b)) =
    report_of_file another (works_within (Trial flips other number) input another also) (works_glued (Trial flips other number) input another also) (trial_text number) flips limit other text line
    (subst (λ (f : Content). Answers (Trial flips limit number) f Done text) (works.1 ∙ sym also.1) a) b
