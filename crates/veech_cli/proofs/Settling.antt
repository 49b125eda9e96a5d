-- From what a command owes an input to how a run ends.
use Rattle.std.proofs.Common.{◌≡◌, ℕ, zero, suc, ◌+◌, ◌<◌, ◌≤◌, ◌⊎◌, inl, inr, refl, List, [], ◌∷◌, length, ap, sym, ◌∙◌, subst, arith, Option, Some, None, Result, Err, ◌↔◌}
use Rattle.std.specs.Prelude.{IfSome, IsErrOf, Ok, IfOk, IfErr, MatchOption}
use Rattle.io_ends.specs.Ends.{given}
use Rattle.io_ends.specs.declared.reading.ReadAll.{ReadAll}
use Rattle.io_ends.specs.declared.reading.ReadAll.TheVariants as read_faults
use Rattle.surface_text.specs.Spelling.{Content, text as file_text}
use Rattle.family_gen.specs.Families.{family_of}
use Rattle.gluing.specs.Refusals.{IsFaultOf}
use Rattle.gluing.specs.declared.fault.GlueFault.{GlueFault}
use Rattle.gluing.specs.declared.fault.GlueFault.TheVariants as glue_faults
use Rattle.answer_text.specs.declared.status.Status.{Status}
use Rattle.answer_text.specs.declared.status.Status.TheVariants.{Done, Words, File, ReadFault, WriteFault, Memory}
use Rattle.answer_text.specs.Lines.{status_line}
use Rattle.command_words.specs.declared.command.Command.{Command}
use Rattle.command_words.specs.declared.command.Command.TheVariants.{Check, Base, Region, Path, Plain, Group, Make, Trial}
use Rattle.command_words.specs.Commands.{Names}
use Rattle.veech_cli.specs.SurfaceFiles.{IsTextOf, IsAccepted, too_long, not_glued}
use Rattle.veech_cli.specs.Owed.{ReadsInput, Owes, IsOptional}
use Rattle.veech_cli.specs.Refusals.{status_of_reading, status_of_gluing}
use Rattle.veech_cli.specs.Runs.{NameOne, SettlesOn, Settles, IsInput, SomeInput, Delivers, IsReadWhole, SaysNothing}
use Rattle.veech_cli.specs.declared.refusal.Refusal.{Refusal}
use Rattle.veech_cli.specs.Surfaces.{RefusesFile, IsRefusal, IsRefusalOf}
use Rattle.command_words.proofs.CallerLemmas.{one_command}
use Rattle.veech_cli.proofs.Inputs.{one_answer, not_both}

-- what a status is, told by a test; two statuses told apart by it differ
file_refusal : (cause line : ℕ) → IsRefusal (File cause line)
file_refusal cause line = record { not_done = λ e. cc; not_words = λ e. cc; not_write_fault = λ e. cc; point = tt }

memory_refusal : IsRefusal Memory
memory_refusal = record { not_done = λ e. cc; not_words = λ e. cc; not_write_fault = λ e. cc; point = tt }

read_refusal : IsRefusal ReadFault
read_refusal = record { not_done = λ e. cc; not_words = λ e. cc; not_write_fault = λ e. cc; point = tt }

-- a refused gluing refuses the file
pub gluing_refuses : (input : List ℕ) (file : Content) → IsTextOf input file → (fault : GlueFault) → IsFaultOf file fault → RefusesFile input (status_of_gluing fault)
gluing_refuses input file t (glue_faults.Bad cause line) h = inl (cause, line, not_glued file t h, refl)
gluing_refuses input file t glue_faults.Memory h = inr refl

-- the refusal of a file is one of every command that reads it
pub refuses_file : (command : Command) → ReadsInput command → (input : List ℕ) (status : Status) → RefusesFile input status → IsRefusalOf command input status
refuses_file command reads input status (inl h) =
    (subst IsRefusal (sym h.3) (file_refusal h.0 h.1), inl (inl (h.0, h.1, reads, h.2, h.3, ap status_line h.3)))
refuses_file command reads input status (inr e) = (subst IsRefusal (sym e) memory_refusal, inr e)

-- and so is want of memory
pub refuses_memory : (command : Command) (input : List ℕ) (status : Status) → status ≡ Memory → IsRefusalOf command input status
refuses_memory command input status e = (subst IsRefusal (sym e) memory_refusal, inr e)

-- what holds of a refusal is what a run settles on
pub settles : (command : Command) (left : Option (List ℕ)) (input : List ℕ) (status : Status) → IsInput left input → IsRefusalOf command input status
    → SomeInput left (λ input. SettlesOn command input status (status_line status))
settles command left input status is (_, inl owed) = (input, is, inl owed)
settles command left input status is (_, inr e) = (input, is, inr (inr e, refl))

-- and where a call answers so, it settles on that
pub output_settles : {X : Type 0} (command : Command) (left : Option (List ℕ)) (input : List ℕ) (r : Result X Refusal) → IsInput left input → IfErr r (λ refusal. IsRefusalOf command input refusal.status)
    → IfErr r (λ refusal. SomeInput left (λ input. SettlesOn command input refusal.status (status_line refusal.status)))
output_settles command left input (Ok x) is h = tt
output_settles command left input (Err refusal) is h = settles command left input refusal.status is h

-- some input is what the source had left
any_input : (left : Option (List ℕ)) (P : List ℕ → Type 0) → ((input : List ℕ) → P input) → SomeInput left P
any_input None P h = ([], tt, h [])
any_input (Some bytes) P h = (bytes, refl, h bytes)

-- what a command that reads no input owes, it owes whatever the input
pub whatever : (command : Command) → ¬ (ReadsInput command) → (input other : List ℕ) (status : Status) (text : List ℕ) → Owes command input status text → Owes command other status text
whatever Check none input other status text owed = absurd (none tt)
whatever (Base flips) none input other status text owed = absurd (none tt)
whatever (Region flips) none input other status text owed = absurd (none tt)
whatever (Path flips choices) none input other status text owed = absurd (none tt)
whatever (Plain flips limit summary) none input other status text owed = absurd (none tt)
whatever (Group flips limit workers) none input other status text owed = absurd (none tt)
whatever (Make number) none input other status text (inl refused) = absurd refused.2
whatever (Make number) none input other status text (inr answer) = inr answer
whatever (Trial flips limit number) none input other status text (inl refused) = absurd refused.2
whatever (Trial flips limit number) none input other status text (inr answer) = inr answer

-- so it settles on that
module _ {X : Type 0} (command : Command) (none : ¬ (ReadsInput command)) (left : Option (List ℕ)) (input : List ℕ) where
  pub owed_whatever : (P : X → List ℕ) (r : Result X Refusal) → IfOk r (λ x. Owes command input Done (P x)) → IfOk r (λ x. SomeInput left (λ input. Owes command input Done (P x)))
  owed_whatever P (Ok x) owed = any_input left (λ input. Owes command input Done (P x)) (λ other. whatever command none input other Done (P x) owed)
  owed_whatever P (Err refusal) owed = tt

  pub settles_whatever : (r : Result X Refusal) → IfErr r (λ refusal. IsRefusalOf command input refusal.status)
      → IfErr r (λ refusal. SomeInput left (λ input. SettlesOn command input refusal.status (status_line refusal.status)))
  settles_whatever (Ok x) refused = tt
  settles_whatever (Err refusal) (_, inl owed) =
      any_input left (λ input. SettlesOn command input refusal.status (status_line refusal.status)) (λ other. inl (whatever command none input other refusal.status (status_line refusal.status) owed))
  settles_whatever (Err refusal) (_, inr e) = any_input left (λ input. SettlesOn command input refusal.status (status_line refusal.status)) (λ other. inr (inr e, refl))

-- bytes that are too long
some_long : (n : ℕ) → List ℕ
some_long zero = []
some_long (suc n) = 0 ∷ some_long n

length_long : (n : ℕ) → length (some_long n) ≡ n
unfolding some_long
length_long zero = refl
length_long (suc n) = ap suc (length_long n)

long_refused : (command : Command) → ReadsInput command → (input : List ℕ) → 1048576 < length input → SettlesOn command input (File 0 0) (status_line (File 0 0))
long_refused command reads input h = inl (inl (0, 0, reads, too_long h refl refl, refl, refl))

long_input : (command : Command) → ReadsInput command → (left : Option (List ℕ)) → IfSome left (λ bytes. 1048576 < length bytes)
    → SomeInput left (λ input. SettlesOn command input (File 0 0) (status_line (File 0 0)))
long_input command reads None h = unknown 1048577 refl
  where
    unknown : (n : ℕ) → n ≡ 1048577 → SomeInput None (λ input. SettlesOn command input (File 0 0) (status_line (File 0 0)))
    unknown n e = (some_long n, tt, long_refused command reads (some_long n) (omega (arith, length_long n, e)))
long_input command reads (Some bytes) h = (bytes, refl, long_refused command reads bytes h)

module _ {X : Type 0} (command : Command) (reads : ReadsInput command) (left after : Option (List ℕ)) (r : Result X ReadAll) where
  -- a source that wasn't read settles on a failure, or on the refusal of what is too long
  pub reading_settles : (fault : ReadAll) → r ≡ Err fault → (IsErrOf r read_faults.TooLong → IfSome left (λ bytes. 1048576 < length bytes))
      → SomeInput left (λ input. SettlesOn command input (status_of_reading fault) (status_line (status_of_reading fault)))
  reading_settles read_faults.Fault e h = any_input left (λ input. SettlesOn command input ReadFault (status_line ReadFault)) (λ _. inr (inl refl, refl))
  reading_settles read_faults.TooLong e h = long_input command reads left (h e)
  reading_settles read_faults.Memory e h = any_input left (λ input. SettlesOn command input Memory (status_line Memory)) (λ _. inr (inr refl, refl))

  -- which is one line more read than may be, or says nothing of the input
  pub reading_whole : (fault : ReadAll) → r ≡ Err fault → ((n : ℕ) × (n ≤ 1048576 + 1) × (IsErrOf r read_faults.TooLong ↔ (n ≡ 1048576 + 1)) × (after ≡ given n left))
      → SaysNothing (status_of_reading fault) ⊎ IsReadWhole left after
  reading_whole read_faults.Fault e h = inl (inr (inl refl))
  reading_whole read_faults.TooLong e h = inr (inr (h.0, h.2.0 e, h.3))
  reading_whole read_faults.Memory e h = inl (inr (inr (inr refl)))

pub reading_refusal : (fault : ReadAll) → IsRefusal (status_of_reading fault)
reading_refusal read_faults.Fault = read_refusal
reading_refusal read_faults.TooLong = file_refusal 0 0
reading_refusal read_faults.Memory = memory_refusal

-- the fault of a reading, where its status is a failed source
pub reading_fault : (fault : ReadAll) → status_of_reading fault ≡ ReadFault → fault ≡ read_faults.Fault
reading_fault read_faults.Fault e = refl
reading_fault read_faults.TooLong e = absurd (cc)
reading_fault read_faults.Memory e = absurd (cc)

-- how a status comes out of its delivery
came_out : (status : Status) (text : List ℕ) (result : Status) (taken after : Option (List ℕ)) → Delivers status text result taken after → (result ≡ status) ⊎ (result ≡ WriteFault)
came_out status text result taken after (inl d) = inl d.0
came_out status text result taken after (inr d) = inr d.0

-- how a refusal comes out: as it is, or as want of memory, or the sink failed
pub refusal_out : (status settled : Status) (text : List ℕ) (result : Status) (taken after : Option (List ℕ)) → (settled ≡ status) ⊎ (settled ≡ Memory) → Delivers settled text result taken after
    → (result ≡ status) ⊎ (result ≡ Memory) ⊎ (result ≡ WriteFault)
refusal_out status settled text result taken after (inl e) (inl d) = inl (d.0 ∙ e)
refusal_out status settled text result taken after (inr e) (inl d) = inr (inl (d.0 ∙ e))
refusal_out status settled text result taken after which (inr d) = inr (inr d.0)

-- so it is never Done, and refuses no words
pub refusal_not : (status result other : Status) → (status ≡ other → ⊥) → (Memory ≡ other → ⊥) → (WriteFault ≡ other → ⊥) → (result ≡ status) ⊎ (result ≡ Memory) ⊎ (result ≡ WriteFault) → ¬ (result ≡ other)
refusal_not status result other a b c (inl e) is = a (sym e ∙ is)
refusal_not status result other a b c (inr (inl e)) is = b (sym e ∙ is)
refusal_not status result other a b c (inr (inr e)) is = c (sym e ∙ is)

-- and what it says of the input is what the refusal does
pub refusal_whole : {P : Type 0} (status result : Status) → SaysNothing status ⊎ P → (result ≡ status) ⊎ (result ≡ Memory) ⊎ (result ≡ WriteFault) → SaysNothing result ⊎ P
refusal_whole status result (inl nothing) (inl e) = inl (subst SaysNothing (sym e) nothing)
refusal_whole status result (inr whole) which = inr whole
refusal_whole status result (inl nothing) (inr (inl e)) = inl (inr (inr (inr e)))
refusal_whole status result (inl nothing) (inr (inr e)) = inl (inr (inr (inl e)))

-- it is a failed source only where that is the refusal
pub refusal_read : (status result : Status) → (result ≡ status) ⊎ (result ≡ Memory) ⊎ (result ≡ WriteFault) → result ≡ ReadFault → status ≡ ReadFault
refusal_read status result (inl e) is = sym e ∙ is
refusal_read status result (inr (inl e)) is = absurd (memory (sym e ∙ is))
  where
    memory : Memory ≡ ReadFault → ⊥
    memory e = cc
refusal_read status result (inr (inr e)) is = absurd (failed (sym e ∙ is))
  where
    failed : WriteFault ≡ ReadFault → ⊥
    failed e = cc

-- output comes out as Done, or the sink failed
pub output_not : (text : List ℕ) (result other : Status) (taken after : Option (List ℕ)) → (Done ≡ other → ⊥) → (WriteFault ≡ other → ⊥) → Delivers Done text result taken after → ¬ (result ≡ other)
output_not text result other taken after a b (inl d) is = a (sym d.0 ∙ is)
output_not text result other taken after a b (inr d) is = b (sym d.0 ∙ is)

-- how a run of a command comes out
abbrev pub ComesOut : Command → Option (List ℕ) → Status → Option (List ℕ) → Option (List ℕ) → Type 0
ComesOut command left result taken after =
    (input : List ℕ) × (status : Status) × (text : List ℕ) × IsInput left input × SettlesOn command input status text × Delivers status text result taken after

pub output_comes : (command : Command) (left taken after : Option (List ℕ)) (text : List ℕ) (result : Status) → SomeInput left (λ input. Owes command input Done text)
    → Delivers Done text result taken after → ComesOut command left result taken after
output_comes command left taken after text result (input, is, owed) d = (input, Done, text, is, inl owed, d)

pub refusal_comes : (command : Command) (left taken after : Option (List ℕ)) (status settled result : Status) → SomeInput left (λ input. SettlesOn command input status (status_line status))
    → (settled ≡ status) ⊎ (settled ≡ Memory) → Delivers settled (status_line settled) result taken after → ComesOut command left result taken after
refusal_comes command left taken after status settled result (input, is, on) (inl e) d =
    (input, status, status_line status, is, on, subst (λ s. Delivers s (status_line s) result taken after) e d)
refusal_comes command left taken after status settled result (input, is, on) (inr e) d =
    (input, Memory, status_line Memory, is, inr (inr refl, refl), subst (λ s. Delivers s (status_line s) result taken after) e d)

-- refused words
pub words_come : (Takes : Command → Type 0) (words : List (List ℕ)) (left taken after : Option (List ℕ)) (result : Status) → ¬ (NameOne Takes words) → Delivers Words (status_line Words) result taken after
    → (input : List ℕ) × (status : Status) × (text : List ℕ) × IsInput left input × Settles Takes words input status text × Delivers status text result taken after
words_come Takes words None taken after result n d = ([], Words, status_line Words, tt, inr (inr (n, refl, refl)), d)
words_come Takes words (Some bytes) taken after result n d = (bytes, Words, status_line Words, refl, inr (inr (n, refl, refl)), d)

-- say nothing of the input
pub words_whole : {P : Type 0} (text : List ℕ) (result : Status) (taken after : Option (List ℕ)) → Delivers Words text result taken after → SaysNothing result ⊎ P
words_whole text result taken after (inl d) = inl (inl d.0)
words_whole text result taken after (inr d) = inl (inr (inr (inl d.0)))

-- and aren't Done
pub words_not_done : (text : List ℕ) (result : Status) (taken after : Option (List ℕ)) → Delivers Words text result taken after → ¬ (result ≡ Done)
words_not_done text result taken after (inl d) is = not_done (sym d.0 ∙ is)
  where
    not_done : Words ≡ Done → ⊥
    not_done e = cc
words_not_done text result taken after (inr d) is = not_done (sym d.0 ∙ is)
  where
    not_done : WriteFault ≡ Done → ⊥
    not_done e = cc

-- where no end failed, what a run settled on is answered
module _ (result : Status) (taken after : Option (List ℕ)) (read_rose write_rose : Type 0)
    (read : result ≡ ReadFault → read_rose) (write : result ≡ WriteFault → write_rose) (no_read : ¬ read_rose) (no_write : ¬ write_rose) where
  answered : (status : Status) (text : List ℕ) → Delivers status text result taken after → result ≡ status
  answered status text d = elim (came_out status text result taken after d) [ inl e ↦ e | inr e ↦ absurd (no_write (write e)) ]

  settled : (command : Command) (input : List ℕ) (status : Status) (text : List ℕ) → SettlesOn command input status text → Delivers status text result taken after
      → Owes command input status text ⊎ (result ≡ Memory)
  settled command input status text (inl owed) d = inl owed
  settled command input status text (inr (inl e, _)) d = absurd (no_read (read (answered status text d ∙ e)))
  settled command input status text (inr (inr e, _)) d = inr (answered status text d ∙ e)

  -- so what the command owes is
  pub complete : (command : Command) (left : Option (List ℕ)) → ComesOut command left result taken after
      → IfSome left (λ input. (status : Status) (text : List ℕ) → Owes command input status text
      → (result ≡ status) ⊎ ((result ≡ Memory) ⊎ (IsOptional status ⊎ (IsOptional result × ((line : List ℕ) × Owes command input result line)))))
  complete command None comes = tt
  complete command (Some bytes) (input, owed, text, is, on, d) = λ status line owes. elim (settled command input owed text on d) [
    | inl has ↦ one status line (subst (λ b. Owes command b owed text) is has) (one_answer command bytes owed status text line (subst (λ b. Owes command b owed text) is has) owes)
    | inr memory ↦ inr (inl memory)
  ]
    where
      one : (status : Status) (line : List ℕ) → Owes command bytes owed text → (owed ≡ status) ⊎ (IsOptional owed ⊎ IsOptional status)
          → (result ≡ status) ⊎ ((result ≡ Memory) ⊎ (IsOptional status ⊎ (IsOptional result × ((line : List ℕ) × Owes command bytes result line))))
      one status line has (inl e) = inl (answered owed text d ∙ e)
      one status line has (inr (inl optional)) =
          let is = sym (answered owed text d) in inr (inr (inr (subst IsOptional is optional, (text, subst (λ s. Owes command bytes s text) is has))))
      one status line has (inr (inr optional)) = inr (inr (inl optional))

  -- and `check` answers Done for an accepted input
  pub accepted : (left : Option (List ℕ)) → ComesOut Check left result taken after → IfSome left (λ input. (file : Content) → IsAccepted input file → (result ≡ Done) ⊎ (result ≡ Memory))
  accepted None comes = tt
  accepted (Some bytes) (input, owed, text, is, on, d) = λ file taken_as. elim (settled Check input owed text on d) [
    | inl has ↦ inl (answered owed text d ∙ done file taken_as (subst (λ b. Owes Check b owed text) is has))
    | inr memory ↦ inr memory
  ]
    where
      done : (file : Content) → IsAccepted bytes file → Owes Check bytes owed text → owed ≡ Done
      done file taken_as (inl refused) = absurd (not_both bytes file refused.0 refused.1 taken_as refused.3)
      done file taken_as (inr (other, works, (halves, cut, answer))) = answer.4

  -- a command that reads no input needs none for it
  pub complete_unread : (command : Command) (left : Option (List ℕ)) → ¬ (ReadsInput command) → ComesOut command left result taken after → (input : List ℕ) (status : Status) (text : List ℕ)
      → Owes command input status text
      → (result ≡ status) ⊎ ((result ≡ Memory) ⊎ (IsOptional status ⊎ (IsOptional result × ((line : List ℕ) × Owes command input result line))))
  complete_unread command left none (known, owed, text, is, on, d) input =
      complete command (Some input) (input, owed, text, refl, elim on [ inl owes ↦ inl (whatever command none known input owed text owes) | inr failed ↦ inr failed ], d)

  -- and `make` answers Done
  pub makes : (number : ℕ) (left : Option (List ℕ)) → ComesOut (Make number) left result taken after → (result ≡ Done) ⊎ (result ≡ Memory)
  makes number left (input, owed, text, is, on, d) = elim (settled (Make number) input owed text on d) [
    | inl has ↦ inl (answered owed text d ∙ done owed text has)
    | inr memory ↦ inr memory
  ]
    where
      done : (owed : Status) (text : List ℕ) → Owes (Make number) input owed text → owed ≡ Done
      done owed text (inl refused) = absurd refused.2
      done owed text (inr (file, works, (is, line))) = is

-- what is known of the command that was found, or that there is none
module _ (Takes : Command → Type 0) (words : List (List ℕ)) where
  pub found_named : (found : Option Command) (command : Command) → found ≡ Some command → MatchOption found (¬ (NameOne Takes words)) (λ command. Names words command × Takes command)
      → Names words command × Takes command
  found_named found command e h = subst (λ o. MatchOption o (¬ (NameOne Takes words)) (λ command. Names words command × Takes command)) e h

  pub none_taken : (found : Option Command) → found ≡ None → MatchOption found (¬ (NameOne Takes words)) (λ command. Names words command × Takes command) → ¬ (NameOne Takes words)
  none_taken found e h = subst (λ o. MatchOption o (¬ (NameOne Takes words)) (λ command. Names words command × Takes command)) e h

  -- what a run settled on is settled on by the command that the words name
  settled_by : (command : Command) (input : List ℕ) (status : Status) (text : List ℕ) → Names words command → Takes command → Settles Takes words input status text → SettlesOn command input status text
  settled_by command input status text names takes (inl (found, also, _, owed)) = inl (subst (λ (c : Command). Owes c input status text) (one_command words found command also names) owed)
  settled_by command input status text names takes (inr (inl failed)) = inr failed
  settled_by command input status text names takes (inr (inr (none, _, _))) = absurd (none (command, names, takes))

  pub comes_named : (command : Command) (left taken after : Option (List ℕ)) (result : Status) → Names words command → Takes command
      → (input : List ℕ) × (status : Status) × (text : List ℕ) × IsInput left input × Settles Takes words input status text × Delivers status text result taken after
      → ComesOut command left result taken after
  comes_named command left taken after result names takes (input, status, text, is, settles, d) = (input, status, text, is, settled_by command input status text names takes settles, d)

  pub named : (command : Command) (left taken after : Option (List ℕ)) (result : Status) → Names words command → Takes command → ComesOut command left result taken after
      → (input : List ℕ) × (status : Status) × (text : List ℕ) × IsInput left input × Settles Takes words input status text × Delivers status text result taken after
  named command left taken after result names takes (input, status, text, is, inl owed, d) = (input, status, text, is, inl (command, names, takes, owed), d)
  named command left taken after result names takes (input, status, text, is, inr failed, d) = (input, status, text, is, inr (inl failed), d)

  -- no memory to read the words
  pub memory_comes : (left taken after : Option (List ℕ)) (result : Status) → Delivers Memory (status_line Memory) result taken after
      → (input : List ℕ) × (status : Status) × (text : List ℕ) × IsInput left input × Settles Takes words input status text × Delivers status text result taken after
  memory_comes None taken after result d = ([], Memory, status_line Memory, tt, inr (inl (inr refl, refl)), d)
  memory_comes (Some bytes) taken after result d = (bytes, Memory, status_line Memory, refl, inr (inl (inr refl, refl)), d)

pub memory_whole : {P : Type 0} (text : List ℕ) (result : Status) (taken after : Option (List ℕ)) → Delivers Memory text result taken after → SaysNothing result ⊎ P
memory_whole text result taken after (inl d) = inl (inr (inr (inr d.0)))
memory_whole text result taken after (inr d) = inl (inr (inr (inl d.0)))

-- it is no failed source
pub memory_not_read : (text : List ℕ) (result : Status) (taken after : Option (List ℕ)) → Delivers Memory text result taken after → ¬ (result ≡ ReadFault)
memory_not_read text result taken after (inl d) is = not_read (sym d.0 ∙ is)
  where
    not_read : Memory ≡ ReadFault → ⊥
    not_read e = cc
memory_not_read text result taken after (inr d) is = not_read (sym d.0 ∙ is)
  where
    not_read : WriteFault ≡ ReadFault → ⊥
    not_read e = cc

-- `make` and `trial` owe what they answer, by the numbers of their words
pub make_owed : (command : Command) (number n : ℕ) (input text : List ℕ) → command ≡ Make number → n ≡ number → n < 200 → text ≡ file_text (family_of n) → Owes command input Done text
make_owed command number n input text is same small e =
    subst (λ (c : Command). Owes c input Done text) (ap Make same ∙ sym is) (inr (family_of n, (small, refl), (refl, e)))

module _ (command : Command) (flips limit number l n : ℕ) (input : List ℕ) (is : command ≡ Trial flips limit number) (same : l ≡ limit) (also : n ≡ number) where
  trial_is : Trial flips l n ≡ command
  trial_is = (λ i. Trial flips (same i) (also i)) ∙ sym is

  pub trial_owed : {X : Type 0} (items : X → List ℕ) (r : Result X Refusal) → IfOk r (λ text. (input : List ℕ) → Owes (Trial flips l n) input Done (items text)) → IfOk r (λ text. Owes command input Done (items text))
  trial_owed items (Ok x) h = subst (λ (c : Command). Owes c input Done (items x)) trial_is (h input)
  trial_owed items (Err refusal) h = tt

  pub trial_refused : {X : Type 0} (r : Result X Refusal) → IfErr r (λ refusal. (input : List ℕ) → IsRefusalOf (Trial flips l n) input refusal.status) → IfErr r (λ refusal. IsRefusalOf command input refusal.status)
  trial_refused (Ok x) h = tt
  trial_refused (Err refusal) h = subst (λ (c : Command). IsRefusalOf c input refusal.status) trial_is (h input)

-- what is owed to the input that was read is owed to some input that the source had left
pub output_owed : {X : Type 0} (command : Command) (left : Option (List ℕ)) (input : List ℕ) (items : X → List ℕ) (r : Result X Refusal) → IsInput left input → IfOk r (λ x. Owes command input Done (items x))
    → IfOk r (λ x. SomeInput left (λ input. Owes command input Done (items x)))
output_owed command left input items (Ok x) is owed = (input, is, owed)
output_owed command left input items (Err refusal) is owed = tt

-- what `group` owes and refuses, by the numbers of its words
module _ {X : Type 0} (flips limit workers l n : ℕ) (input : List ℕ) (same : l ≡ limit) (also : n ≡ workers) (r : Result X Refusal) where
  pub group_owed : (items : X → List ℕ) → IfOk r (λ text. Owes (Group flips l n) input Done (items text)) → IfOk r (λ text. Owes (Group flips limit workers) input Done (items text))
  group_owed items h = subst (λ (c : Command). IfOk r (λ text. Owes c input Done (items text))) (λ i. Group flips (same i) (also i)) h

  pub group_refused : IfErr r (λ refusal. IsRefusalOf (Group flips l n) input refusal.status) → IfErr r (λ refusal. IsRefusalOf (Group flips limit workers) input refusal.status)
  group_refused h = subst (λ (c : Command). IfErr r (λ refusal. IsRefusalOf c input refusal.status)) (λ i. Group flips (same i) (also i)) h
