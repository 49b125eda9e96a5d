use Rattle.std.proofs.Common.{◌≡◌, ◌∙◌, List, ℕ, length, sym, subst}
use Rattle.std.specs.Vec.{with_items}
use Rattle.std.proofs.lemmas.List.{with_items_is}
use Rattle.canon_code.specs.Orbits.{AreAlike, KeepSerials}
use Rattle.canon_code.proofs.orbits.Orbits.joined.Goals as goal

pub returns-clause-same : goal.returns-clause-same
returns-clause-same c = λ d halves alike keep.
    let links = c.args.self.links in
    let one : length c.join_all.new.links ≡ links.len = c.join_all.ensures.as_many ∙ c.deref_mut.ensures.len in
    let joined : KeepSerials d halves c.join_all.new.links =
    c.join_all.ensures.same d halves (subst (λ (l : List ℕ). AreAlike d halves l c.args.order.now) (sym c.as_slice.ensures.value) alike) (subst (λ (l : List ℕ). KeepSerials d halves l) (sym c.deref_mut.ensures.value) keep) in
    let two : length c.shorten.new.links ≡ links.len = c.shorten.ensures.as_many ∙ c.deref_mut-2.ensures.len in
    let short : KeepSerials d halves c.shorten.new.links =
    c.shorten.ensures.same d halves (subst (λ (l : List ℕ). KeepSerials d halves l) (sym (c.deref_mut-2.ensures.value ∙ with_items_is links c.join_all.new.links one)) joined) in
    subst (λ (l : List ℕ). KeepSerials d halves l) (sym (with_items_is (with_items links c.join_all.new.links) c.shorten.new.links two)) short
