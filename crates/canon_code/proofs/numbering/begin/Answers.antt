use Rattle.std.proofs.Common.{◌≡◌, ◌*◌, ℕ, List, [], length, replicate, sym, subst, ap, ◌∙◌, arith}
use mathlib.Core.Path.{ap₂, subst₂}
use Rattle.std.proofs.lemmas.List.{with_items_is}
use Rattle.canon_code.specs.Numbered.{entry, IsListSearch, IsUnderWay, with_three, numbered_three}
use Rattle.canon_code.proofs.NumberLists.{search_first, length-three}
use Rattle.canon_code.proofs.numbering.begin.Goals as goal

pub returns : goal.returns
returns c =
    let halves = c.args.tri.now.halves in
    let fresh : List ℕ = c.in_ok-numbers.numbers.items in
    let made : fresh ≡ replicate (3 * c.triangles.result) 768 = c.in_ok-numbers.ensures in
    let is : fresh ≡ replicate (length halves) 768 = made ∙ ap (λ n. replicate n 768) c.triangles.ensures.count in
    let first = search_first c.args.tri.now.field halves c.args.h fresh c.triangles.ensures.valid c.requires is in
    let numbers : c.append.new.numbers ≡ numbered_three fresh c.args.h 0 =
    c.in_ok-_first.ensures.numbers ∙ ap₂ (λ l (p : List ℕ). numbered_three l c.args.h (length p)) c.deref_mut.ensures.value c.clear.ensures.items in
    let places : c.append.new.places.items ≡ with_three [] c.args.h = c.in_ok-_first.ensures.places ∙ ap (λ p. with_three p c.args.h) c.clear.ensures.items in
    let long : length c.append.new.numbers ≡ c.in_ok-numbers.numbers.len =
    ap length numbers ∙ length-three fresh c.args.h 0 ∙ ap length (sym c.deref_mut.ensures.value) ∙ c.deref_mut.ensures.len in
    let three = ap length places in
    subst (λ (l : List ℕ). IsUnderWay halves c.args.h c.append.new.places.items l 0) (sym (with_items_is c.in_ok-numbers.numbers c.append.new.numbers long))
    (record {
      some = omega arith;
      start = ap (λ p. entry p 0) places;
      search = subst₂ (λ x y. IsListSearch halves x y 0) (sym places) (sym numbers) first;
    })
