-- What the flipping of a triangulation says of the file that it was made from.
use Rattle.std.proofs.Common.{◌≡◌, ℕ, ◌<◌, inl, inr, refl, List, length, ap, sym, ◌∙◌, subst, Err}
use Rattle.std.specs.List.{AllByRecursion}
use Rattle.std.specs.Prelude.{Ok, ◌⊎◌, ℤ, Bool, Option}
use Rattle.canon_code.specs.FrameWidth.{HasWideFrame}
use Rattle.path_walk.specs.Walks.{IsEnd}
use Rattle.surface_text.specs.Spelling.{Content}
use Rattle.surface_text.specs.Limits.{IsBasePoint, IsWithinLimits}
use Rattle.surface_text.specs.declared.file.Point.{Point}
use Rattle.tri_core.specs.declared.half.Half.{Half}
use Rattle.tri_core.specs.Triangulation.{Triangulation}
use Rattle.delaunay_flip.specs.declared.base.Base.{Base}
use Rattle.delaunay_flip.specs.declared.base.BaseFault.{BaseFault}
use Rattle.delaunay_flip.specs.Bases.{Ending, EndsListed}
use Rattle.delaunay_flip.specs.Answers.{IsRight}
use Rattle.quad_field.specs.declared.formula.Formula.{Formula}
use Rattle.quad_field.specs.declared.formula.Formula.TheVariants.{F1}
use Rattle.answer_text.specs.declared.status.Status.TheVariants.{Done, NotStrict, FlipsEnded, TooWide, LimitPassed, No, Memory}
use Rattle.answer_text.specs.declared.no_cause.NoCause.TheVariants.{Wall}
use Rattle.answer_text.specs.declared.place.Place.TheVariants.{Flips, Base as AtBase, Class, Quotient, Walk}
use Rattle.answer_text.specs.declared.status.Status.{Status}
use Rattle.answer_text.specs.Lines.{status_line}
use Rattle.answer_text.specs.BaseTexts.{half_edges_text}
use Rattle.command_words.specs.declared.command.Command.{Command}
use Rattle.command_words.specs.declared.command.Command.TheVariants as commands
use Rattle.veech_cli.specs.Endings.{or_standard, points_of, status_of_ending, text_of_ending}
use Rattle.report_text.specs.declared.report.Report.{Report}
use Rattle.family_gen.specs.Families.{family_of}
use Rattle.family_gen.proofs.CallerLemmas as families
use Rattle.veech_cli.specs.SurfaceFiles.{IsAccepted}
use Rattle.veech_cli.specs.Writings.{Writing, trial_text, plain_text}
use Rattle.veech_cli.specs.Owed.{Owes, WorksOn, IsRegionAnswer, IsPathAnswer, IsPlainAnswer, AnswersAt, AnswersFromBase, OnTriangulation, Answers}
use Rattle.veech_cli.specs.Refusals.{status_of_base}
use Rattle.veech_cli.specs.Surfaces.{IsSurfaceOf, IsTriangulatedFrom, IsRefusal, IsRefusalOf, RefusesRegion, RefusesWalk, IsReportOf, RefusesPlain}
use Rattle.veech_cli.proofs.Listed.{listed_point}
use Rattle.veech_cli.proofs.Inputs.{points_within}
use Rattle.veech_cli.proofs.Settling.{refuses_memory}

not_strict_refusal : (h : ℕ) → IsRefusal (NotStrict h)
not_strict_refusal h = record { not_done = λ e. cc; not_words = λ e. cc; not_write_fault = λ e. cc; point = tt }

ended_refusal : (at : Point) → IsBasePoint at → IsRefusal (FlipsEnded at)
ended_refusal at inside = record { not_done = λ e. cc; not_words = λ e. cc; not_write_fault = λ e. cc; point = inside }

wide_refusal : (formula : Formula) (n h : ℕ) → IsRefusal (TooWide formula (Flips n h))
wide_refusal formula n h = record { not_done = λ e. cc; not_words = λ e. cc; not_write_fault = λ e. cc; point = tt }

wide_base_refusal : (formula : Formula) → IsRefusal (TooWide formula AtBase)
wide_base_refusal formula = record { not_done = λ e. cc; not_words = λ e. cc; not_write_fault = λ e. cc; point = tt }

no_wall_refusal : (place : ℕ) → IsRefusal (No (Wall place))
no_wall_refusal place = record { not_done = λ e. cc; not_words = λ e. cc; not_write_fault = λ e. cc; point = tt }

wide_walk_refusal : (formula : Formula) (place : ℕ) → IsRefusal (TooWide formula (Walk place))
wide_walk_refusal formula place = record { not_done = λ e. cc; not_words = λ e. cc; not_write_fault = λ e. cc; point = tt }

wide_class_refusal : (formula : Formula) (code : List ℤ) (wall : Option ℕ) → IsRefusal (TooWide formula (Class code wall))
wide_class_refusal formula code wall = record { not_done = λ e. cc; not_words = λ e. cc; not_write_fault = λ e. cc; point = tt }

wide_quotient_refusal : (formula : Formula) → IsRefusal (TooWide formula Quotient)
wide_quotient_refusal formula = record { not_done = λ e. cc; not_words = λ e. cc; not_write_fault = λ e. cc; point = tt }

limit_refusal : (limit : ℕ) → IsRefusal (LimitPassed limit)
limit_refusal limit = record { not_done = λ e. cc; not_words = λ e. cc; not_write_fault = λ e. cc; point = tt }

-- where the end of a walk has no code, that refuses the walk
pub class_refused : (d : ℕ) (halves : List Half) (choices : List ℕ) (e : ℕ) (end : List Half) (n : ℕ) (status : Status) → e ≡ d → IsEnd d halves choices end → n ≡ length choices
    → (HasWideFrame e end × (status ≡ TooWide F1 (Walk n))) ⊎ (status ≡ Memory) → RefusesWalk d halves choices status
class_refused d halves choices e end n status field ends same (inl (wide, is)) =
    inr (inr (inl (end, ends, subst (λ (f : ℕ). HasWideFrame f end) field wide, is ∙ ap (λ (m : ℕ). TooWide F1 (Walk m)) same)))
class_refused d halves choices e end n status field ends same (inr memory) = inr (inr (inr memory))

module _ (file : Content) (limits : IsWithinLimits file) (flips : ℕ) (bases : List Point) (tri : Triangulation) (made : IsSurfaceOf file bases tri) where
  -- how the flipping of the triangulation ends
  abbrev pub Ends : Point → Ending → Type 0
  Ends at ending = EndsListed tri.field tri.halves (or_standard bases) flips at ending

  -- is how that of the file's does
  pub ends_for : (at : Point) (ending : Ending) → Ends at ending → EndsListed file.field tri.halves (points_of file) flips at ending
  ends_for at ending ends =
      subst (λ d. EndsListed d tri.halves (or_standard file.bases) flips at ending) made.1
      (subst (λ points. EndsListed tri.field tri.halves (or_standard points) flips at ending) made.0 ends)

  -- and the point is a base point
  point_inside : (at : Point) (ending : Ending) → Ends at ending → IsBasePoint at
  point_inside at ending ends =
      listed_point IsBasePoint file.field tri.halves (points_of file) flips at ending (ends_for at ending ends) (points_within file.bases limits.bases)

  -- a base that is right is a strict ending
  pub ended : (base : Base) → IsRight tri Ends (Ok base) → Ends base.point (Ending.strict base.tri.halves base.flips)
  ended base (inl (at, Ending.strict later n, ends, says)) =
      subst (λ point. Ends point (Ending.strict base.tri.halves base.flips)) (sym says.2)
      (subst (λ halves. Ends at (Ending.strict halves base.flips)) (sym says.1)
      (subst (λ k. Ends at (Ending.strict later k)) (sym says.3) ends))
  ended base (inl (at, Ending.not_strict h, ends, says)) = absurd says
  ended base (inl (at, Ending.flips_ended, ends, says)) = absurd says
  ended base (inl (at, Ending.wide formula n h, ends, says)) = absurd says
  ended base (inr memory) = absurd memory

  pub point_there : (base : Base) → IsRight tri Ends (Ok base) → IsBasePoint base.point
  point_there base right = point_inside base.point (Ending.strict base.tri.halves base.flips) (ended base right)

  -- the base is over the field of the triangulation
  pub field_there : (base : Base) → IsRight tri Ends (Ok base) → base.tri.field ≡ tri.field
  field_there base (inl (at, Ending.strict later n, ends, says)) = says.0
  field_there base (inl (at, Ending.not_strict h, ends, says)) = absurd says
  field_there base (inl (at, Ending.flips_ended, ends, says)) = absurd says
  field_there base (inl (at, Ending.wide formula n h, ends, says)) = absurd says
  field_there base (inr memory) = absurd memory

  -- `base`
  module _ (input : List ℕ) (accepted : IsAccepted input file) where
    -- what is answered for an ending is owed to the input
    owed : (at : Point) (ending : Ending) → Ends at ending → Owes (commands.Base flips) input (status_of_ending at ending) (text_of_ending at ending)
    owed at ending ends = inr (file, accepted, (tri.halves, made.2, (at, ending, ends_for at ending ends, refl, refl)))

    pub base_owed_of : (base : Base) → IsRight tri Ends (Ok base) → Owes (commands.Base flips) input Done (half_edges_text base.point base.flips base.tri.halves)
    base_owed_of base right = owed base.point (Ending.strict base.tri.halves base.flips) (ended base right)

    -- a fault that is right is a refusal of the input
    pub base_refused_of : (fault : BaseFault) → IsRight tri Ends (Err fault) → IsRefusalOf (commands.Base flips) input (status_of_base fault)
    base_refused_of fault (inl (at, Ending.strict later n, ends, says)) = absurd says
    base_refused_of fault (inl (at, Ending.not_strict h, ends, says)) =
        subst (λ f. IsRefusalOf (commands.Base flips) input (status_of_base f)) (sym says) (not_strict_refusal h, inl (owed at (Ending.not_strict h) ends))
    base_refused_of fault (inl (at, Ending.flips_ended, ends, says)) =
        subst (λ f. IsRefusalOf (commands.Base flips) input (status_of_base f)) (sym says) (ended_refusal at (point_inside at Ending.flips_ended ends), inl (owed at Ending.flips_ended ends))
    base_refused_of fault (inl (at, Ending.wide formula n h, ends, says)) =
        subst (λ f. IsRefusalOf (commands.Base flips) input (status_of_base f)) (sym says) (wide_refusal formula n h, inl (owed at (Ending.wide formula n h) ends))
    base_refused_of fault (inr memory) = refuses_memory (commands.Base flips) input (status_of_base fault) (ap status_of_base memory)

  -- a command that works on the file and wants a base, and what it answers for one
  module _ (command : Command) (input : List ℕ) (works : WorksOn command input file) (P : ℕ → Point → List Half → Status → List ℕ → Type 0)
      (answers : (status : Status) (text : List ℕ) → OnTriangulation (AnswersFromBase flips (P file.field)) file status text → Answers command file status text) where
    -- what is answered for an ending is owed
    owed_then : (at : Point) (ending : Ending) → Ends at ending → (status : Status) (text : List ℕ) → AnswersAt (P file.field) at ending status text → Owes command input status text
    owed_then at ending ends status text answer = inr (file, works, answers status text (tri.halves, made.2, (at, ending, ends_for at ending ends, answer)))

    -- and so is what is answered for the base
    pub owed_for : (base : Base) → IsRight tri Ends (Ok base) → (status : Status) (text : List ℕ) → P base.tri.field base.point base.tri.halves status text → Owes command input status text
    owed_for base right status text answer =
        owed_then base.point (Ending.strict base.tri.halves base.flips) (ended base right) status text
        (subst (λ d. P d base.point base.tri.halves status text) (field_there base right ∙ made.1) answer)

    -- and so is a fault of the base
    pub refused_for : (fault : BaseFault) → IsRight tri Ends (Err fault) → IsRefusalOf command input (status_of_base fault)
    refused_for fault (inl (at, Ending.strict later n, ends, says)) = absurd says
    refused_for fault (inl (at, Ending.not_strict h, ends, says)) =
        subst (λ f. IsRefusalOf command input (status_of_base f)) (sym says) (not_strict_refusal h, inl (owed_then at (Ending.not_strict h) ends _ _ (refl, refl)))
    refused_for fault (inl (at, Ending.flips_ended, ends, says)) =
        subst (λ f. IsRefusalOf command input (status_of_base f)) (sym says) (ended_refusal at (point_inside at Ending.flips_ended ends), inl (owed_then at Ending.flips_ended ends _ _ (refl, refl)))
    refused_for fault (inl (at, Ending.wide formula n h, ends, says)) =
        subst (λ f. IsRefusalOf command input (status_of_base f)) (sym says) (wide_refusal formula n h, inl (owed_then at (Ending.wide formula n h) ends _ _ (refl, refl)))
    refused_for fault (inr memory) = refuses_memory command input (status_of_base fault) (ap status_of_base memory)

  -- a command that writes the classes and the matrices of the base, and what refuses them
  module _ (command : Command) (input : List ℕ) (works : WorksOn command input file) (writing : Writing) (limit : ℕ)
      (answers : (status : Status) (text : List ℕ) → OnTriangulation (AnswersFromBase flips (IsPlainAnswer writing file.field limit)) file status text → Answers command file status text) where
    plain_owed : (base : Base) → IsRight tri Ends (Ok base) → (status : Status) (text : List ℕ) → IsPlainAnswer writing base.tri.field limit base.point base.tri.halves status text → Owes command input status text
    plain_owed = owed_for command input works (λ d. IsPlainAnswer writing d limit) answers

    pub plain_base_refused : (fault : BaseFault) → IsRight tri Ends (Err fault) → IsRefusalOf command input (status_of_base fault)
    plain_base_refused = refused_for command input works (λ d. IsPlainAnswer writing d limit) answers

    pub plain_refused : (base : Base) → IsRight tri Ends (Ok base) → (status : Status) → RefusesPlain base.tri.field base.tri.halves limit status → IsRefusalOf command input status
    plain_refused base right status (inl (inl (wide, is))) = (
      subst IsRefusal (sym is) (wide_base_refusal F1),
      inl (plain_owed base right status (status_line status) (inr (inl (wide, is, ap status_line is)))),
    )
    plain_refused base right status (inl (inr is)) = refuses_memory command input status is
    plain_refused base right status (inr (inl (inl (formula, code, wall, known, wide, is)))) = (
      subst IsRefusal (sym is) (wide_class_refusal formula code wall),
      inl (plain_owed base right status (status_line status) (inr (inr (inl (formula, code, wall, known, wide, is, ap status_line is))))),
    )
    plain_refused base right status (inr (inl (inr (inl (more, is))))) = (
      subst IsRefusal (sym is) (limit_refusal limit),
      inl (plain_owed base right status (status_line status) (inr (inr (inr (inr (more, is, ap status_line is)))))),
    )
    plain_refused base right status (inr (inl (inr (inr is)))) = refuses_memory command input status is
    plain_refused base right status (inr (inr (inl (formula, wide, is)))) = (
      subst IsRefusal (sym is) (wide_quotient_refusal formula),
      inl (plain_owed base right status (status_line status) (inr (inr (inr (inl (formula, wide, is, ap status_line is)))))),
    )
    plain_refused base right status (inr (inr (inr is))) = refuses_memory command input status is

    -- and where it has them, their text is owed
    pub report_owed : (base : Base) → IsRight tri Ends (Ok base) → (report : Report) → IsReportOf base.tri.field limit base.point base.tri.halves report → (text : List ℕ)
        → text ≡ writing report.field report.point report.codes.items report.mats.items → Owes command input Done text
    report_owed base right report is text e =
        plain_owed base right Done text
        (inl (report.codes.items, report.mats.items, is.classes, is.matrices, refl, e ∙ (λ i. writing (is.field i) (is.point i) report.codes.items report.mats.items)))

module _ (input : List ℕ) (flips : ℕ) (bases : List Point) (tri : Triangulation) (made : IsTriangulatedFrom input bases tri) where
  -- the input's file
  limits_of : IsWithinLimits made.0
  limits_of = made.1.text_of.limits

  surface_of : IsSurfaceOf made.0 bases tri
  surface_of = made.2

  -- the base points are those of the file
  pub bases_within : (P : List Point → Type 0) → P made.0.bases → P bases
  bases_within P = subst P (sym made.2.0)

  abbrev pub EndsAt : Point → Ending → Type 0
  EndsAt at ending = EndsListed tri.field tri.halves (or_standard bases) flips at ending

  pub base_owed : (base : Base) → IsRight tri EndsAt (Ok base) → Owes (commands.Base flips) input Done (half_edges_text base.point base.flips base.tri.halves)
  base_owed = base_owed_of made.0 limits_of flips bases tri surface_of input made.1

  pub base_refused : (fault : BaseFault) → IsRight tri EndsAt (Err fault) → IsRefusalOf (commands.Base flips) input (status_of_base fault)
  base_refused = base_refused_of made.0 limits_of flips bases tri surface_of input made.1

  pub base_point : (base : Base) → IsRight tri EndsAt (Ok base) → IsBasePoint base.point
  base_point = point_there made.0 limits_of flips bases tri surface_of

  pub base_field : (base : Base) → IsRight tri EndsAt (Ok base) → base.tri.field ≡ tri.field
  base_field = field_there made.0 limits_of flips bases tri surface_of

  -- `region`
  pub region_owed : (base : Base) → IsRight tri EndsAt (Ok base) → (status : Status) (text : List ℕ) → IsRegionAnswer base.tri.field base.tri.halves status text
      → Owes (commands.Region flips) input status text
  region_owed = owed_for made.0 limits_of flips bases tri surface_of (commands.Region flips) input made.1 (λ d at. IsRegionAnswer d) (λ status text answer. answer)

  pub region_base_refused : (fault : BaseFault) → IsRight tri EndsAt (Err fault) → IsRefusalOf (commands.Region flips) input (status_of_base fault)
  region_base_refused = refused_for made.0 limits_of flips bases tri surface_of (commands.Region flips) input made.1 (λ d at. IsRegionAnswer d) (λ status text answer. answer)

  pub region_refused : (base : Base) → IsRight tri EndsAt (Ok base) → (status : Status) → RefusesRegion base.tri.field base.tri.halves status → IsRefusalOf (commands.Region flips) input status
  region_refused base right status (inl (formula, wide, is)) = (
    subst IsRefusal (sym is) (wide_base_refusal formula),
    inl (region_owed base right status (status_line status) (inr (formula, wide, is, ap status_line is))),
  )
  region_refused base right status (inr is) = refuses_memory (commands.Region flips) input status is

  -- `path`
  pub path_owed : (choices : List ℕ) (base : Base) → IsRight tri EndsAt (Ok base) → (status : Status) (text : List ℕ) → IsPathAnswer base.tri.field choices base.tri.halves status text
      → Owes (commands.Path flips choices) input status text
  path_owed choices = owed_for made.0 limits_of flips bases tri surface_of (commands.Path flips choices) input made.1 (λ d at. IsPathAnswer d choices) (λ status text answer. answer)

  pub path_base_refused : (choices : List ℕ) (fault : BaseFault) → IsRight tri EndsAt (Err fault) → IsRefusalOf (commands.Path flips choices) input (status_of_base fault)
  path_base_refused choices = refused_for made.0 limits_of flips bases tri surface_of (commands.Path flips choices) input made.1 (λ d at. IsPathAnswer d choices) (λ status text answer. answer)

  pub path_refused : (choices : List ℕ) (base : Base) → IsRight tri EndsAt (Ok base) → (status : Status) → RefusesWalk base.tri.field base.tri.halves choices status → IsRefusalOf (commands.Path flips choices) input status
  path_refused choices base right status (inl (place, none, is)) = (
    subst IsRefusal (sym is) (no_wall_refusal place),
    inl (path_owed choices base right status (status_line status) (inr (inl (place, none, is, ap status_line is)))),
  )
  path_refused choices base right status (inr (inl (formula, place, wide, is))) = (
    subst IsRefusal (sym is) (wide_walk_refusal formula place),
    inl (path_owed choices base right status (status_line status) (inr (inr (inl (formula, place, wide, is, ap status_line is))))),
  )
  path_refused choices base right status (inr (inr (inl (end, ends, wide, is)))) = (
    subst IsRefusal (sym is) (wide_walk_refusal F1 (length choices)),
    inl (path_owed choices base right status (status_line status) (inr (inr (inr (end, ends, wide, is, ap status_line is))))),
  )
  path_refused choices base right status (inr (inr (inr is))) = refuses_memory (commands.Path flips choices) input status is

  -- `plain`
  module _ (limit : ℕ) (summary : Bool) where
    pub plain_no_base : (fault : BaseFault) → IsRight tri EndsAt (Err fault) → IsRefusalOf (commands.Plain flips limit summary) input (status_of_base fault)
    plain_no_base =
        plain_base_refused made.0 limits_of flips bases tri surface_of (commands.Plain flips limit summary) input made.1 (plain_text summary) limit (λ status text answer. answer)

    pub plain_no_report : (base : Base) → IsRight tri EndsAt (Ok base) → (status : Status) → RefusesPlain base.tri.field base.tri.halves limit status → IsRefusalOf (commands.Plain flips limit summary) input status
    plain_no_report =
        plain_refused made.0 limits_of flips bases tri surface_of (commands.Plain flips limit summary) input made.1 (plain_text summary) limit (λ status text answer. answer)

    pub plain_report : (base : Base) → IsRight tri EndsAt (Ok base) → (report : Report) → IsReportOf base.tri.field limit base.point base.tri.halves report → (text : List ℕ)
        → text ≡ plain_text summary report.field report.point report.codes.items report.mats.items → Owes (commands.Plain flips limit summary) input Done text
    plain_report =
        report_owed made.0 limits_of flips bases tri surface_of (commands.Plain flips limit summary) input made.1 (plain_text summary) limit (λ status text answer. answer)

-- `trial`, whatever the input
module _ (number : ℕ) (small : number < 200) (flips : ℕ) (bases : List Point) (tri : Triangulation) (made : IsSurfaceOf (family_of number) bases tri) (limit : ℕ) (input : List ℕ) where
  family_limits : IsWithinLimits (family_of number)
  family_limits = families.within_limits number small

  abbrev pub EndsThere : Point → Ending → Type 0
  EndsThere at ending = EndsListed tri.field tri.halves (or_standard bases) flips at ending

  pub trial_no_base : (fault : BaseFault) → IsRight tri EndsThere (Err fault) → IsRefusalOf (commands.Trial flips limit number) input (status_of_base fault)
  trial_no_base =
      plain_base_refused (family_of number) family_limits flips bases tri made (commands.Trial flips limit number) input (small, refl) (trial_text number) limit (λ status text answer. answer)

  pub trial_no_report : (base : Base) → IsRight tri EndsThere (Ok base) → (status : Status) → RefusesPlain base.tri.field base.tri.halves limit status → IsRefusalOf (commands.Trial flips limit number) input status
  trial_no_report =
      plain_refused (family_of number) family_limits flips bases tri made (commands.Trial flips limit number) input (small, refl) (trial_text number) limit (λ status text answer. answer)

  pub trial_report : (base : Base) → IsRight tri EndsThere (Ok base) → (report : Report) → IsReportOf base.tri.field limit base.point base.tri.halves report → (text : List ℕ)
      → text ≡ trial_text number report.field report.point report.codes.items report.mats.items → Owes (commands.Trial flips limit number) input Done text
  trial_report =
      report_owed (family_of number) family_limits flips bases tri made (commands.Trial flips limit number) input (small, refl) (trial_text number) limit (λ status text answer. answer)

-- the base points of a family's surface are base points
pub family_bases : (number : ℕ) → number < 200 → (bases : List Point) (tri : Triangulation) → IsSurfaceOf (family_of number) bases tri → AllByRecursion IsBasePoint bases
family_bases number small bases tri made = subst (AllByRecursion IsBasePoint) (sym made.0) (families.within_limits number small).bases
