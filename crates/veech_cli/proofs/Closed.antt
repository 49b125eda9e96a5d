-- A run of `plain`, `group` or `trial` that is Done is closed.
use Rattle.std.proofs.Common.{◌≡◌, ◌∙◌, ℕ, inl, inr, List, ap, sym, subst, Option, Some, None}
use Rattle.std.specs.Prelude.{◌↔◌, ℤ, Bool, false, IfSome}
use Rattle.std.specs.List.{Contains}
use Rattle.std.specs.Ordering.{int_cmp}
use Rattle.std.specs.Cmp.Lexicographic.{slice_cmp}
use Rattle.io_ends.specs.Ends.{taken_after}
use Rattle.quad_field.specs.FieldNumber.{IsFieldNumber}
use Rattle.plane.specs.Matrices.{FieldMatrix}
use Rattle.surface_text.specs.Spelling.{Content, text as file_text}
use Rattle.surface_text.specs.Limits.{IsWithinLimits}
use Rattle.gluing.specs.Gluings.{IsGluing, gluing_of}
use Rattle.family_gen.specs.Families.{family_of}
use Rattle.surface_text.specs.declared.file.Point.{Point}
use Rattle.tri_core.specs.declared.half.Half.{Half}
use Rattle.tri_core.specs.Triangulation.{IsTriangulation}
use Rattle.delaunay_flip.specs.Bases.{Ending, EndsListed}
use Rattle.terrain.specs.declared.graph.Lead.{Lead}
use Rattle.terrain.specs.Graphs.{IsGraph}
use Rattle.class_node.specs.Classes.{field_numbers, field_of, HasWalls}
use Rattle.class_node.specs.Leads.{IsFrame, LeadsBy}
use Rattle.class_node.specs.Reached.{IsRootOf}
use Rattle.quotient.specs.Trees.{IsTree}
use Rattle.quotient.specs.Quotients.{AreQuotients}
use Rattle.returning.specs.Returning.{IsReturning, IsGenerated, HasDeterminantOne}
use Rattle.returning.specs.Turns.{AreTurns}
use Rattle.answer_text.specs.declared.status.Status.{Status}
use Rattle.answer_text.specs.declared.status.Status.TheVariants.{Done, Words, ReadFault, WriteFault, Memory}
use Rattle.command_words.specs.declared.command.Command.{Command}
use Rattle.command_words.specs.declared.command.Command.TheVariants.{Plain, Group, Make, Trial}
use Rattle.command_words.specs.Commands.{Names}
use Rattle.command_words.proofs.CallerLemmas.{one_command}
use Rattle.veech_cli.specs.SurfaceFiles.{IsAccepted, IsTriangulationOf}
use Rattle.veech_cli.specs.Endings.{points_of}
use Rattle.veech_cli.specs.Groups.{AreMatricesOf}
use Rattle.veech_cli.specs.Writings.{Writing, trial_text, plain_text}
use Rattle.veech_cli.specs.Owed.{Owes, AnswersAt, AnswersFromBase, OnTriangulation, IsPlainAnswer}
use Rattle.veech_cli.specs.Headline.{IsClosed}
use Rattle.veech_cli.specs.Runs.{IsFailure, Settles, IsInput, Delivers}
use Rattle.veech_cli.proofs.Reported.{done_text, base_valid, not_file, not_strict, not_ended, not_wide}
use Rattle.veech_cli.proofs.Inputs.{works_within, works_glued}
use Rattle.veech_cli.proofs.Grouped.{root_is}

-- what holds of each list of quotients of a base's graph
abbrev pub OfQuotients : (ℕ → List Half → List FieldMatrix → Type 0) → Type 0
OfQuotients P =
    (t root : List ℤ) (base : List Half) (keys : List (List ℤ)) (rows : List (List (Lead FieldMatrix))) (place : ℕ) (first : FieldMatrix)
    (turns : List (List FieldMatrix)) (tree quotients : List FieldMatrix)
    → IsRootOf t root base → IsGraph (slice_cmp int_cmp) (HasWalls t) (LeadsBy t) root keys rows place → IsFrame (field_of t) base root first
    → AreTurns (field_of t) keys turns → IsTree (field_of t) rows place first tree → AreQuotients (field_of t) tree rows turns quotients
    → P (field_of t) base quotients

-- the law that they generate exactly the returning derivatives, and the law that each has determinant one
abbrev pub AreGenerating : Type 0
AreGenerating = OfQuotients (λ d base quotients. (a : FieldMatrix) → IsGenerated d quotients a ↔ IsReturning d base a)

abbrev pub AreOfDeterminantOne : Type 0
AreOfDeterminantOne = OfQuotients (λ d base quotients. (a : FieldMatrix) → Contains quotients a → HasDeterminantOne d a)

-- holds of its matrices
of_matrices : (P : ℕ → List Half → List FieldMatrix → Type 0) → OfQuotients P → (d : ℕ) (base : List Half) (codes : List (List ℤ)) (matrices : List FieldMatrix)
    → IsFieldNumber d → IsTriangulation d base → AreMatricesOf d base codes matrices → P d base matrices
of_matrices P law d base codes matrices field valid own =
    law (field_numbers d) own.graph.root base codes own.rows own.place own.first own.turns own.tree matrices
    (root_is d base own.first codes own.rows own.place own.turns field valid own.graph) own.graph.graph own.graph.frame own.graph.turns_each own.is_tree own.quotients

module _ (generating : AreGenerating) (determinants : AreOfDeterminantOne) where
  module _ (IsFile : Content → Type 0) (file : Content) (is_file : IsFile file) (limits : IsWithinLimits file) (glued : IsGluing (gluing_of file)) (writing : Writing) (flips limit : ℕ) (text : List ℕ) where
    -- the answer at a strict ending
    closed_at : (halves : List Half) → IsTriangulationOf file halves → (at : Point) (base : List Half) (n : ℕ)
        → EndsListed file.field halves (points_of file) flips at (Ending.strict base n) → IsPlainAnswer writing file.field limit at base Done text → IsClosed IsFile flips limit writing text
    closed_at halves t at base n ends answer =
        let done = done_text file.field writing base limit at text answer in
        let valid = base_valid file limits glued halves t flips at base n ends in
        record {
          file = file;
          is_file = is_file;
          point = at;
          base = base;
          is_base = record { halves = halves; cut = t; made = n; strict = ends };
          codes = done.0;
          matrices = done.1;
          report = done.4;
          classes = done.2;
          group = done.3;
          generated = of_matrices (λ d base quotients. (a : FieldMatrix) → IsGenerated d quotients a ↔ IsReturning d base a) generating file.field base done.0 done.1 limits.field valid done.3;
          determinants = of_matrices (λ d base quotients. (a : FieldMatrix) → Contains quotients a → HasDeterminantOne d a) determinants file.field base done.0 done.1 limits.field valid done.3;
        }

    closed_ending : (halves : List Half) → IsTriangulationOf file halves → (at : Point) (ending : Ending)
        → EndsListed file.field halves (points_of file) flips at ending → AnswersAt (IsPlainAnswer writing file.field limit) at ending Done text → IsClosed IsFile flips limit writing text
    closed_ending halves t at (Ending.strict base n) ends answer = closed_at halves t at base n ends answer
    closed_ending halves t at (Ending.not_strict h) ends answer = absurd (not_strict h answer.0)
    closed_ending halves t at Ending.flips_ended ends answer = absurd (not_ended at answer.0)
    closed_ending halves t at (Ending.wide formula n h) ends answer = absurd (not_wide formula _ answer.0)

    -- what is answered for the file with Done is closed
    pub closed_file : OnTriangulation (AnswersFromBase flips (IsPlainAnswer writing file.field limit)) file Done text → IsClosed IsFile flips limit writing text
    closed_file (halves, t, answer) = closed_ending halves t answer.0 answer.1 answer.2 answer.3

  -- so what is owed with Done is
  pub closed : (flips limit : ℕ) (summary : Bool) (input text : List ℕ) → Owes (Plain flips limit summary) input Done text → IsClosed (IsAccepted input) flips limit (plain_text summary) text
  closed flips limit summary input text (inl refused) = absurd (not_file refused.0 refused.1 refused.4)
  closed flips limit summary input text (inr (file, accepted, answer)) =
      closed_file (IsAccepted input) file accepted accepted.text_of.limits accepted.glued (plain_text summary) flips limit text answer

  pub closed_trial : (flips limit number : ℕ) (input text : List ℕ) → Owes (Trial flips limit number) input Done text → IsClosed (λ file. file ≡ family_of number) flips limit (trial_text number) text
  closed_trial flips limit number input text (inl refused) = absurd refused.2
  closed_trial flips limit number input text (inr (file, works, answer)) =
      closed_file (λ file. file ≡ family_of number) file works.1 (works_within (Trial flips limit number) input file works) (works_glued (Trial flips limit number) input file works) (trial_text number) flips limit text answer

-- the laws that it is
abbrev pub AreClosed : Type 0
AreClosed = (flips limit : ℕ) (summary : Bool) (input text : List ℕ) → Owes (Plain flips limit summary) input Done text → IsClosed (IsAccepted input) flips limit (plain_text summary) text

abbrev pub AreClosedTrials : Type 0
AreClosedTrials = (flips limit number : ℕ) (input text : List ℕ) → Owes (Trial flips limit number) input Done text → IsClosed (λ file. file ≡ family_of number) flips limit (trial_text number) text

done_no_failure : (status : Status) → status ≡ Done → ¬ (IsFailure status)
done_no_failure status e (inl is) = not_read (sym is ∙ e)
  where
    not_read : ReadFault ≡ Done → ⊥
    not_read e = cc
done_no_failure status e (inr is) = not_memory (sym is ∙ e)
  where
    not_memory : Memory ≡ Done → ⊥
    not_memory e = cc

-- what is settled on with Done is what the command owes
done_owed : (Takes : Command → Type 0) (words : List (List ℕ)) (command : Command) (input : List ℕ) (status : Status) (text : List ℕ) → Names words command → status ≡ Done → Settles Takes words input status text
    → Owes command input Done text
done_owed Takes words command input status text names done (inl (found, other, _, owed)) =
    subst (λ (s : Status). Owes command input s text) done (subst (λ (c : Command). Owes c input status text) (one_command words found command other names) owed)
done_owed Takes words command input status text names done (inr (inl failed)) = absurd (done_no_failure status done failed.0)
done_owed Takes words command input status text names done (inr (inr refused)) = absurd (not_words (sym refused.1 ∙ done))
  where
    not_words : Words ≡ Done → ⊥
    not_words e = cc

-- what is delivered with Done was settled on with it, and is taken whole
done_taken : (status : Status) (text : List ℕ) (result : Status) (taken after : Option (List ℕ)) → result ≡ Done → Delivers status text result taken after
    → (status ≡ Done) × (after ≡ taken_after taken text)
done_taken status text result taken after done (inl d) = (sym d.0 ∙ done, d.1)
done_taken status text result taken after done (inr d) = absurd (not_write (sym d.0 ∙ done))
  where
    not_write : WriteFault ≡ Done → ⊥
    not_write e = cc

module _ (Takes : Command → Type 0) (words : List (List ℕ)) (taken after : Option (List ℕ)) (result : Status) (done : result ≡ Done) where
  -- a run of a command that answers Done has written what the command owes
  written_owed : (command : Command) (left : Option (List ℕ)) → Names words command
      → (input : List ℕ) × (status : Status) × (text : List ℕ) × IsInput left input × Settles Takes words input status text × Delivers status text result taken after
      → (input : List ℕ) × (written : List ℕ) × IsInput left input × Owes command input Done written × (after ≡ taken_after taken written)
  written_owed command left names (input, status, text, is, settled, d) =
      let own = done_taken status text result taken after done d in
      (input, text, is, done_owed Takes words command input status text names own.0 settled, own.1)

  -- so a run of `plain` has written a closed report or its summary
  pub headline : AreClosed → (left : Option (List ℕ))
      → (input : List ℕ) × (status : Status) × (text : List ℕ) × IsInput left input × Settles Takes words input status text × Delivers status text result taken after
      → (flips limit : ℕ) (summary : Bool) → Names words (Plain flips limit summary)
      → IfSome left (λ input. (written : List ℕ) × IsClosed (IsAccepted input) flips limit (plain_text summary) written × (after ≡ taken_after taken written))
  headline law None outcome flips limit summary names = tt
  headline law (Some bytes) outcome flips limit summary names =
      let own = written_owed (Plain flips limit summary) (Some bytes) names outcome in
      (own.1, subst (λ (b : List ℕ). IsClosed (IsAccepted b) flips limit (plain_text summary) own.1) own.2 (law flips limit summary own.0 own.1 own.3), own.4)

  -- a run of `group` a closed report
  pub group_headline : AreClosed → (left : Option (List ℕ))
      → (input : List ℕ) × (status : Status) × (text : List ℕ) × IsInput left input × Settles Takes words input status text × Delivers status text result taken after
      → (flips limit workers : ℕ) → Names words (Group flips limit workers)
      → IfSome left (λ input. (written : List ℕ) × IsClosed (IsAccepted input) flips limit (plain_text false) written × (after ≡ taken_after taken written))
  group_headline law None outcome flips limit workers names = tt
  group_headline law (Some bytes) outcome flips limit workers names =
      let own = written_owed (Group flips limit workers) (Some bytes) names outcome in
      (own.1, subst (λ (b : List ℕ). IsClosed (IsAccepted b) flips limit (plain_text false) own.1) own.2 (law flips limit false own.0 own.1 own.3), own.4)

  -- a run of `trial` a closed summary
  pub trial_headline : AreClosedTrials → (left : Option (List ℕ))
      → (input : List ℕ) × (status : Status) × (text : List ℕ) × IsInput left input × Settles Takes words input status text × Delivers status text result taken after
      → (flips limit number : ℕ) → Names words (Trial flips limit number)
      → (written : List ℕ) × IsClosed (λ file. file ≡ family_of number) flips limit (trial_text number) written × (after ≡ taken_after taken written)
  trial_headline law left outcome flips limit number names =
      let own = written_owed (Trial flips limit number) left names outcome in (own.1, law flips limit number own.0 own.1 own.3, own.4)

  -- and a run of `make` the text of its file
  pub made_text : (left : Option (List ℕ))
      → (input : List ℕ) × (status : Status) × (text : List ℕ) × IsInput left input × Settles Takes words input status text × Delivers status text result taken after
      → (number : ℕ) → Names words (Make number) → after ≡ taken_after taken (file_text (family_of number))
  made_text left outcome number names =
      let own = written_owed (Make number) left names outcome in own.4 ∙ ap (taken_after taken) (owed_text own.0 own.1 own.3)
    where
      owed_text : (input written : List ℕ) → Owes (Make number) input Done written → written ≡ file_text (family_of number)
      owed_text input written (inl refused) = absurd refused.2
      owed_text input written (inr (file, works, (is, text))) = text ∙ ap file_text works.1
