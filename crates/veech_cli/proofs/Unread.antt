-- No command owes a failed source; and what is known of one that reads nothing.
use Rattle.std.proofs.Common.{◌≡◌, ◌∙◌, ℕ, inl, inr, List, sym, Bool, true, false, IsTrue, ◌↔◌, true≢false, Result, Err}
use Rattle.std.specs.Prelude.{Ok, IfErr, ◌⊎◌}
use Rattle.surface_text.specs.declared.file.Point.{Point}
use Rattle.tri_core.specs.declared.half.Half.{Half}
use Rattle.delaunay_flip.specs.Bases.{Ending}
use Rattle.answer_text.specs.declared.status.Status.{Status}
use Rattle.answer_text.specs.declared.status.Status.TheVariants.{Done, File, NotStrict, FlipsEnded, TooWide, LimitPassed, ReadFault, Memory, No}
use Rattle.answer_text.specs.declared.no_cause.NoCause.TheVariants.{Wall}
use Rattle.answer_text.specs.declared.place.Place.{Place}
use Rattle.quad_field.specs.declared.formula.Formula.{Formula}
use Rattle.command_words.specs.declared.command.Command.{Command}
use Rattle.command_words.specs.declared.command.Command.TheVariants.{Check, Base, Region, Path, Plain, Group, Make, Trial}
use Rattle.veech_cli.specs.Writings.{Writing, trial_text, plain_text}
use Rattle.veech_cli.specs.Owed.{ReadsInput, Owes, AnswersAt, IsRegionAnswer, IsPathAnswer, IsPlainAnswer}
use Rattle.veech_cli.specs.Runs.{SaysNothing}
use Rattle.veech_cli.specs.Endings.{status_of_ending}
use Rattle.veech_cli.specs.Surfaces.{IsRefusalOf}
use Rattle.veech_cli.specs.declared.refusal.Refusal.{Refusal}

-- what is one status is no other
other_than : (status one other : Status) → (one ≡ other → ⊥) → status ≡ one → ¬ (status ≡ other)
other_than status one other apart is e = apart (sym is ∙ e)

done_apart : Done ≡ ReadFault → ⊥
done_apart e = cc

strict_apart : (h : ℕ) → NotStrict h ≡ ReadFault → ⊥
strict_apart h e = cc

ended_apart : (at : Point) → FlipsEnded at ≡ ReadFault → ⊥
ended_apart at e = cc

wide_apart : (formula : Formula) (place : Place) → TooWide formula place ≡ ReadFault → ⊥
wide_apart formula place e = cc

limit_apart : (limit : ℕ) → LimitPassed limit ≡ ReadFault → ⊥
limit_apart limit e = cc

memory_apart : Memory ≡ ReadFault → ⊥
memory_apart e = cc

file_apart : (cause line : ℕ) → File cause line ≡ ReadFault → ⊥
file_apart cause line e = cc

wall_apart : (place : ℕ) → No (Wall place) ≡ ReadFault → ⊥
wall_apart place e = cc

-- an ending says another status
ending_apart : (at : Point) (ending : Ending) → status_of_ending at ending ≡ ReadFault → ⊥
ending_apart at (Ending.strict later n) e = done_apart e
ending_apart at (Ending.not_strict h) e = strict_apart h e
ending_apart at Ending.flips_ended e = ended_apart at e
ending_apart at (Ending.wide formula n h) e = wide_apart formula _ e

module _ (status : Status) (text : List ℕ) where
  region_apart : (d : ℕ) (halves : List Half) → IsRegionAnswer d halves status text → ¬ (status ≡ ReadFault)
  region_apart d halves (inl a) = other_than status Done ReadFault done_apart a.4
  region_apart d halves (inr a) = other_than status _ ReadFault (wide_apart _ _) a.2

  path_apart : (d : ℕ) (choices : List ℕ) (halves : List Half) → IsPathAnswer d choices halves status text → ¬ (status ≡ ReadFault)
  path_apart d choices halves (inl a) = other_than status Done ReadFault done_apart a.6
  path_apart d choices halves (inr (inl a)) = other_than status _ ReadFault (wall_apart _) a.2
  path_apart d choices halves (inr (inr (inl a))) = other_than status _ ReadFault (wide_apart _ _) a.3
  path_apart d choices halves (inr (inr (inr a))) = other_than status _ ReadFault (wide_apart _ _) a.3

  plain_apart : (writing : Writing) (d limit : ℕ) (at : Point) (halves : List Half) → IsPlainAnswer writing d limit at halves status text → ¬ (status ≡ ReadFault)
  plain_apart writing d limit at halves (inl a) = other_than status Done ReadFault done_apart a.4
  plain_apart writing d limit at halves (inr (inl a)) = other_than status _ ReadFault (wide_apart _ _) a.1
  plain_apart writing d limit at halves (inr (inr (inl a))) = other_than status _ ReadFault (wide_apart _ _) a.5
  plain_apart writing d limit at halves (inr (inr (inr (inl a)))) = other_than status _ ReadFault (wide_apart _ _) a.2
  plain_apart writing d limit at halves (inr (inr (inr (inr a)))) = other_than status _ ReadFault (limit_apart limit) a.1

  -- and so does what is answered for an ending, where it does for a base
  answer_apart : (P : Point → List Half → Status → List ℕ → Type 0) → ((at : Point) (halves : List Half) → P at halves status text → ¬ (status ≡ ReadFault))
      → (at : Point) (ending : Ending) → AnswersAt P at ending status text → ¬ (status ≡ ReadFault)
  answer_apart P apart at (Ending.strict later n) answer = apart at later answer
  answer_apart P apart at (Ending.not_strict h) answer = other_than status _ ReadFault (strict_apart h) answer.0
  answer_apart P apart at Ending.flips_ended answer = other_than status _ ReadFault (ended_apart at) answer.0
  answer_apart P apart at (Ending.wide formula n h) answer = other_than status _ ReadFault (wide_apart formula _) answer.0

  -- so what is owed is no failed source
  owed_apart : (command : Command) (input : List ℕ) → Owes command input status text → ¬ (status ≡ ReadFault)
  owed_apart command input (inl (cause, line, reads, refused, is, spelled)) = other_than status _ ReadFault (file_apart cause line) is
  owed_apart Check input (inr (file, works, (halves, t, answer))) = other_than status Done ReadFault done_apart answer.4
  owed_apart (Base flips) input (inr (file, works, (halves, t, (at, ending, ends, is, spelled)))) = other_than status _ ReadFault (ending_apart at ending) is
  owed_apart (Region flips) input (inr (file, works, (halves, t, (at, ending, ends, answer)))) =
      answer_apart (λ at. IsRegionAnswer file.field) (λ at later. region_apart file.field later) at ending answer
  owed_apart (Path flips choices) input (inr (file, works, (halves, t, (at, ending, ends, answer)))) =
      answer_apart (λ at. IsPathAnswer file.field choices) (λ at later. path_apart file.field choices later) at ending answer
  owed_apart (Plain flips limit summary) input (inr (file, works, (halves, t, (at, ending, ends, answer)))) =
      answer_apart (IsPlainAnswer (plain_text summary) file.field limit) (plain_apart (plain_text summary) file.field limit) at ending answer
  owed_apart (Group flips limit workers) input (inr (file, works, (halves, t, (at, ending, ends, answer)))) =
      answer_apart (IsPlainAnswer (plain_text false) file.field limit) (plain_apart (plain_text false) file.field limit) at ending answer
  owed_apart (Make number) input (inr (file, works, (is, spelled))) = other_than status Done ReadFault done_apart is
  owed_apart (Trial flips limit number) input (inr (file, works, (halves, t, (at, ending, ends, answer)))) =
      answer_apart (IsPlainAnswer (trial_text number) file.field limit) (plain_apart (trial_text number) file.field limit) at ending answer

-- nor is a refusal of it
refusal_apart : (command : Command) (input : List ℕ) (status : Status) → IsRefusalOf command input status → ¬ (status ≡ ReadFault)
refusal_apart command input status (_, inl owed) = owed_apart status _ command input owed
refusal_apart command input status (_, inr memory) = other_than status Memory ReadFault memory_apart memory

-- nor is that of a call which answers so
module _ {X : Type 0} (command : Command) (input : List ℕ) where
  pub output_blameless : (r : Result X Refusal) → IfErr r (λ refusal. IsRefusalOf command input refusal.status) → IfErr r (λ refusal. ¬ (ReadsInput command) → ¬ (refusal.status ≡ ReadFault))
  output_blameless (Ok x) h = tt
  output_blameless (Err refusal) h = λ none. refusal_apart command input refusal.status h

  pub output_no_fault : (rose : Type 0) (r : Result X Refusal) → IfErr r (λ refusal. IsRefusalOf command input refusal.status) → IfErr r (λ refusal. refusal.status ≡ ReadFault → rose)
  output_no_fault rose (Ok x) h = tt
  output_no_fault rose (Err refusal) h = λ e. absurd (refusal_apart command input refusal.status h e)

-- a command that reads nothing need not read all
pub unread_whole : {X : Type 0} (command : Command) → ¬ (ReadsInput command) → (whole : Type 0) (r : Result X Refusal) → IfErr r (λ refusal. ReadsInput command → SaysNothing refusal.status ⊎ whole)
unread_whole command none whole (Ok x) = tt
unread_whole command none whole (Err refusal) = λ reads. absurd (none reads)

-- what a test says of a command
pub none_read : {P : Type 0} (r : Bool) → (IsTrue r ↔ P) → r ≡ false → ¬ P
none_read r tells isnt p = true≢false (sym (tells.1 p) ∙ isnt)

pub is_read : {P : Type 0} (r : Bool) → (IsTrue r ↔ P) → r ≡ true → P
is_read r tells is = tells.0 is
