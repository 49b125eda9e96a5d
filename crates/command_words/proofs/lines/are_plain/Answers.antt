use Rattle.std.proofs.Common.{◌≡◌, ◌∙◌, true, map, string_bytes, refl, sym, subst, arith, true≢false}
use Rattle.std.proofs.lemmas.List.{length-map}
use Rattle.command_words.specs.Fronts.{IsBelow}
use Rattle.command_words.proofs.LineLemmas.{plain_words, plain_below, not_below, below_to_end}
use Rattle.command_words.proofs.lines.are_plain.Goals as goal

pub returns-then-not-is_below : goal.returns-then-not-is_below
returns-then-not-is_below c = (
  λ t. absurd (true≢false (sym t)),
  λ (plain, p). absurd (not_below c.args.bounds.below c.args.words.now c.loop-word.word-index c.word-item.result c.loop-word-test.true c.word-item.is c.loop-word.invariant
      (λ h. let bad : true ≡ c.is_below.result = sym (c.is_below.ensures.1 (subst (IsBelow c.args.bounds.below) (sym c.as_bytes.ensures.value) h)) in absurd (true≢false (bad ∙ c.if-not-is_below.true)))
      (plain_below c.args.bounds (map string_bytes c.args.words.now) plain p)),
)

pub returns : goal.returns
returns c = (
  λ _. plain_words c.args.bounds (map string_bytes c.args.words.now) (omega (arith, length-map c.args.words.now string_bytes)) (omega (arith, length-map c.args.words.now string_bytes))
      (below_to_end c.args.bounds.below c.args.words.now c.loop-word.word-index c.loop-word-test.false c.loop-word.invariant),
  λ _. refl,
)
