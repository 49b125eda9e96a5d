use Rattle.std.proofs.Common.{◌≡◌, ◌+◌, ◌*◌, ◌∙◌, ℕ, [], ◌∷◌, sym, subst, arith}
use Rattle.canon_code.specs.Numbered.{IsListSearch}
use Rattle.canon_code.proofs.NumberLists.{one_more, under_way_on}
use Rattle.canon_code.specs.Listed.{twin_by}
use Rattle.canon_code.proofs.numbering.look_around.Goals as goal

pub look-requires-clause-below : goal.look-requires-clause-below
look-requires-clause-below c =
    let t = c.args.tri.now in
    let more = one_more t.field t.halves c.requires.search.0 c.args.t c.args.numbering.now.places.items c.args.numbering.now.numbers.items c.requires.valid c.requires.search.1 (omega (arith, c.requires.triangle)) in
    omega (arith, more)

pub look-requires-3-clause-search : goal.look-requires-3-clause-search
look-requires-3-clause-search c =
    let count : 3 * c.args.t + 1 + 1 ≡ 3 * c.args.t + 2 = omega arith in
    subst (IsListSearch c.args.tri.now.halves c.look-2.new.numbering.places.items c.look-2.new.numbering.numbers.items) count c.in_ok-two.ensures.search

pub returns-clause-search : goal.returns-clause-search
returns-clause-search c = λ h w.
    let t = c.args.tri.now in
    let old = c.args.numbering.now in
    let later = c.look-3.new.numbering in
    under_way_on t.halves h c.args.t (3 * c.args.t + 2 + 1) old.places.items old.numbers.items later.places.items later.numbers.items w (omega arith)
    (c.in_ok-three.ensures.start ∙ c.in_ok-two.ensures.start ∙ c.in_ok-one.ensures.start) c.in_ok-three.ensures.search

pub returns-clause-twins : goal.returns-clause-twins
returns-clause-twins c =
    let halves = c.args.tri.now.halves in
    let later = c.look-3.new.numbering in
    let t : ℕ = c.args.t in
    let one : c.in_ok-one.one ≡ twin_by halves later.places.items later.numbers.items (3 * t) =
    c.in_ok-one.ensures.twin ∙ sym (c.in_ok-two.ensures.stays (3 * t) (omega arith)) ∙ sym (c.in_ok-three.ensures.stays (3 * t) (omega arith)) in
    let two : c.in_ok-two.two ≡ twin_by halves later.places.items later.numbers.items (3 * t + 1) = c.in_ok-two.ensures.twin ∙ sym (c.in_ok-three.ensures.stays (3 * t + 1) (omega arith)) in
    λ i. one i ∷ two i ∷ c.in_ok-three.ensures.twin i ∷ []
