use Rattle.std.proofs.Common.{rules, ◌≡◌, ℤ, ◌++◌, [], ◌∷◌, List, Some, None, codes, subst, sym}
use Rattle.std.proofs.lemmas.Bool.Decides.{Decides-eqb}
use Rattle.std.proofs.lemmas.Slice.Eq.{strip_prefix_is}
use Rattle.canon_code.proofs.TextReadings.{IsReadTo, none_first, none_more, read_first, read_more, read_all}
use Rattle.canon_code.proofs.text.numbers_of.Goals as goal

pub returns-in_default-clause-fault : goal.returns-in_default-clause-fault
returns-in_default-clause-fault c = none_first c.front.ensures (c.number_of.ensures.none (search rules))

pub numbers-init : goal.numbers-init
numbers-init c =
    let is : c.push.new.self.items ≡ c.in-Some.first ∷ [] = search rules in
    subst (λ (l : List ℤ). IsReadTo c.args.text.now l c.front.result.1.now) (sym is) (read_first c.in-Some.first c.front.ensures c.in-Some.ensures.number.0 c.in-Some.ensures.number.1)

pub returns-in_default-number_of-clause-fault : goal.returns-in_default-number_of-clause-fault
returns-in_default-number_of-clause-fault c =
    let head = strip_prefix_is Decides-eqb c.numbers.rest.now (codes " ") (Some c.in-Some-strip_prefix.behind) c.in-Some-strip_prefix.ensures.cases in
    none_more c.numbers.invariant head c.front-in-Some-strip_prefix.ensures (c.number_of-in-Some-strip_prefix.ensures.none (search rules))

pub numbers-preserved : goal.numbers-preserved
numbers-preserved c =
    let head = strip_prefix_is Decides-eqb c.numbers.rest.now (codes " ") (Some c.in-Some-strip_prefix.behind) c.in-Some-strip_prefix.ensures.cases in
    let is : c.push-in-Some-strip_prefix.new.self.items ≡ c.numbers.numbers.items ++ c.in-Some-number_of.number ∷ [] = search rules in
    subst (λ (l : List ℤ). IsReadTo c.args.text.now l c.front-in-Some-strip_prefix.result.1.now) (sym is)
    (read_more c.in-Some-number_of.number c.numbers.invariant head c.front-in-Some-strip_prefix.ensures c.in-Some-number_of.ensures.number.0 c.in-Some-number_of.ensures.number.1)

pub returns-clause-numbers : goal.returns-clause-numbers
returns-clause-numbers c =
    let none = strip_prefix_is Decides-eqb c.numbers.rest.now (codes " ") None c.in_default-strip_prefix.ensures.cases in
    read_all c.numbers.invariant none
