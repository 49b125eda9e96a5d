-- From how a run ends to the number that the program ends with.
use Rattle.std.proofs.Common.{◌≡◌, ℕ, ◌⊎◌, inl, inr, List, refl, ap, ◌∙◌, subst, arith, Option, Some, None}
use Rattle.std.specs.Prelude.{IfSome}
use Rattle.answer_text.specs.declared.status.Status.{Status}
use Rattle.answer_text.specs.declared.status.Status.TheVariants.{Done, Words, File, NotStrict, FlipsEnded, TooWide, LimitPassed, ReadFault, WriteFault, Memory, No}
use Rattle.answer_text.specs.Statuses.{number_of}
use Rattle.command_words.specs.declared.command.Command.{Command}
use Rattle.veech_cli.specs.Owed.{Owes, IsOptional}
use Rattle.veech_cli.specs.Runs.{Settles, IsInput, Delivers}

-- how a run on the words that are given comes out
pub by_number : (Takes : Command → Type 0) (words given : List (List ℕ)) (left taken after : Option (List ℕ)) (result : Status) (number : ℕ) → words ≡ given → number ≡ number_of result
    → (input : List ℕ) × (status : Status) × (text : List ℕ) × IsInput left input × Settles Takes words input status text × Delivers status text result taken after
    → (input : List ℕ) × (status : Status) × (text : List ℕ) × (last : Status) × IsInput left input × Settles Takes given input status text × Delivers status text last taken after × (number ≡ number_of last)
by_number Takes words given left taken after result number same ends (input, status, text, is, settles, delivers) =
    (input, status, text, result, is, subst (λ w. Settles Takes w input status text) same settles, delivers, ends)

-- the number of what is owed: of this status, or of want of memory, or of a wide formula that the answer may do without
abbrev pub IsNumberOwed : Command → List ℕ → ℕ → Status → Type 0
IsNumberOwed command input number status =
    (number ≡ number_of status) ⊎ ((number ≡ number_of Memory)
    ⊎ (IsOptional status ⊎ ((last : Status) × (line : List ℕ) × IsOptional last × Owes command input last line × (number ≡ number_of last))))

pub owed_by_number : (command : Command) (left : Option (List ℕ)) (result : Status) (number : ℕ) → number ≡ number_of result
    → IfSome left (λ input. (status : Status) (text : List ℕ) → Owes command input status text
    → (result ≡ status) ⊎ ((result ≡ Memory) ⊎ (IsOptional status ⊎ (IsOptional result × ((line : List ℕ) × Owes command input result line)))))
    → IfSome left (λ input. (status : Status) (text : List ℕ) → Owes command input status text → IsNumberOwed command input number status)
owed_by_number command None result number ends h = tt
owed_by_number command (Some bytes) result number ends h = λ status text owes. one status (h status text owes)
  where
    one : (status : Status) → (result ≡ status) ⊎ ((result ≡ Memory) ⊎ (IsOptional status ⊎ (IsOptional result × ((line : List ℕ) × Owes command bytes result line)))) → IsNumberOwed command bytes number status
    one status (inl e) = inl (ends ∙ ap number_of e)
    one status (inr (inl e)) = inr (inl (ends ∙ ap number_of e))
    one status (inr (inr (inl optional))) = inr (inr (inl optional))
    one status (inr (inr (inr (optional, (line, owes))))) = inr (inr (inr (result, line, optional, owes, ends)))

-- want of memory has its own
pub memory_number : (command : Command) (left : Option (List ℕ)) (number : ℕ) → number ≡ number_of Memory
    → IfSome left (λ input. (status : Status) (text : List ℕ) → Owes command input status text → IsNumberOwed command input number status)
memory_number command None number ends = tt
memory_number command (Some bytes) number ends = λ status text owes. inr (inl ends)

-- the numbers of refused words and of failed ends are theirs alone
pub known_by_number : (status : Status) → (number_of status ≡ 2 → status ≡ Words) × (number_of status ≡ 8 → status ≡ ReadFault) × (number_of status ≡ 9 → status ≡ WriteFault)
known_by_number Done = ((λ e. absurd (omega (arith, e))), (λ e. absurd (omega (arith, e))), (λ e. absurd (omega (arith, e))))
known_by_number Words = ((λ e. refl), (λ e. absurd (omega (arith, e))), (λ e. absurd (omega (arith, e))))
known_by_number (File cause line) = ((λ e. absurd (omega (arith, e))), (λ e. absurd (omega (arith, e))), (λ e. absurd (omega (arith, e))))
known_by_number (NotStrict edge) = ((λ e. absurd (omega (arith, e))), (λ e. absurd (omega (arith, e))), (λ e. absurd (omega (arith, e))))
known_by_number (FlipsEnded point) = ((λ e. absurd (omega (arith, e))), (λ e. absurd (omega (arith, e))), (λ e. absurd (omega (arith, e))))
known_by_number (TooWide formula place) = ((λ e. absurd (omega (arith, e))), (λ e. absurd (omega (arith, e))), (λ e. absurd (omega (arith, e))))
known_by_number (LimitPassed limit) = ((λ e. absurd (omega (arith, e))), (λ e. absurd (omega (arith, e))), (λ e. absurd (omega (arith, e))))
known_by_number ReadFault = ((λ e. absurd (omega (arith, e))), (λ e. refl), (λ e. absurd (omega (arith, e))))
known_by_number WriteFault = ((λ e. absurd (omega (arith, e))), (λ e. absurd (omega (arith, e))), (λ e. refl))
known_by_number Memory = ((λ e. absurd (omega (arith, e))), (λ e. absurd (omega (arith, e))), (λ e. absurd (omega (arith, e))))
known_by_number (No cause) = ((λ e. absurd (omega (arith, e))), (λ e. absurd (omega (arith, e))), (λ e. absurd (omega (arith, e))))
