use Rattle.std.proofs.Common.{◌≡◌, ◌∙◌, map, drop, string_bytes, sym, subst, arith, true≢false}
use Rattle.std.proofs.lemmas.List.{length-drop, length-map}
use Rattle.command_words.specs.Lines.{Given, IsGivenOf}
use Rattle.command_words.specs.Rows.{row_of}
use Rattle.command_words.specs.Fronts.{IsNamed, ArePlain, GivesFirst, GivesNone}
use Rattle.command_words.proofs.LineLemmas.{bytes_before, bytes_behind, front_counts, begins_more, given_twice, values_left}
use Rattle.command_words.proofs.lines.ends_line.Goals as goal

pub returns-then-is_named : goal.returns-then-is_named
returns-then-is_named c =
    let row = row_of c.args.row.now in
    let words = map string_bytes c.args.words.now in
    let first = subst (λ ws. GivesFirst (λ (given : Given). IsGivenOf row.options given × (given.name ≡ c.in-Some.front.name.now)) ws c.in-Some.front.words) (bytes_behind c.args.words.now c.loop-front.at) c.in-Some.ensures in
    let again = subst (IsNamed c.in-Some.front.name.now) (bytes_before c.args.words.now c.loop-front.at) (c.is_named.ensures.0 c.if-is_named.true) in (
      λ t. absurd (true≢false (sym t)),
      λ taken. absurd (given_twice row words c.loop-front.at c.loop-front.invariant.1.0 c.loop-front.invariant.1.1 c.requires c.in-Some.front.words c.in-Some.front.name.now first again taken),
    )

pub loop-front-preserved : goal.loop-front-preserved
loop-front-preserved c =
    let row = row_of c.args.row.now in
    let words = map string_bytes c.args.words.now in
    let first = subst (λ ws. GivesFirst (λ (given : Given). IsGivenOf row.options given × (given.name ≡ c.in-Some.front.name.now)) ws c.in-Some.front.words) (bytes_behind c.args.words.now c.loop-front.at) c.in-Some.ensures in (
      (let counts = front_counts (λ (given : Given). IsGivenOf row.options given × (given.name ≡ c.in-Some.front.name.now)) (drop c.loop-front.at words) c.in-Some.front.words first in
          omega (arith, counts.1, length-drop c.loop-front.at words, length-map c.args.words.now string_bytes)),
      begins_more row words c.loop-front.at c.loop-front.invariant.1.0 c.loop-front.invariant.1.1 c.requires c.in-Some.front.words c.in-Some.front.name.now first
          (λ again. absurd (true≢false (sym (c.is_named.ensures.1 (subst (IsNamed c.in-Some.front.name.now) (sym (bytes_before c.args.words.now c.loop-front.at)) again)) ∙ c.if-is_named.false))),
    )

pub returns : goal.returns
returns c =
    let row = row_of c.args.row.now in
    let words = map string_bytes c.args.words.now in
    let none = subst (GivesNone (IsGivenOf row.options)) (bytes_behind c.args.words.now c.loop-front.at) c.in_default.ensures in
    let left = values_left row words c.loop-front.at c.loop-front.invariant.1.0 c.loop-front.invariant.1.1 none in (
      λ t. left.1 (let p = c.are_plain.ensures.0 t in (p.0, subst (ArePlain row.plain p.0) (bytes_behind c.args.words.now c.loop-front.at) p.1)),
      λ taken. let p = left.0 taken in c.are_plain.ensures.1 (p.0, subst (ArePlain row.plain p.0) (sym (bytes_behind c.args.words.now c.loop-front.at)) p.1),
    )
