use Rattle.std.proofs.Common.{◌+◌, ◌∙◌, ℕ, List, length, sym, ap, subst}
use mathlib.Core.Path.{subst₂}
use Rattle.std.specs.Prelude.{ℤ}
use Rattle.tri_core.specs.Triangulation.{IsTriangulation}
use Rattle.canon_code.specs.declared.orbits.Orbits.{Orbits}
use Rattle.canon_code.specs.Numbered.{IsNumberedBy}
use Rattle.canon_code.specs.Least.{IsBestTo}
use Rattle.canon_code.specs.Orbits.{AreBelow, LeadBack, AreOrbits}
use Rattle.canon_code.proofs.Compared.{tie}
use Rattle.canon_code.proofs.Least.{least_same}
use Rattle.canon_code.proofs.SameSerials.{places_inside, places_below, orbits_joined}
use Rattle.canon_code.proofs.canon.with_image.Goals as goal

pub joined-orbits-requires-clause-as_many : goal.joined-orbits-requires-clause-as_many
joined-orbits-requires-clause-as_many c =
    ap (λ (o : Orbits). length o.places.items) c.in_ok-more.ensures.orbits ∙ c.requires.best.orbits.numbering.as_many ∙ sym c.requires.numbering.as_many
    ∙ ap (λ (l : List ℕ). length l) (sym c.as_slice.ensures.value)

pub joined-orbits-requires-clause-own : goal.joined-orbits-requires-clause-own
joined-orbits-requires-clause-own c =
    let halves = c.args.tri.now.halves in
    let d : ℕ = c.args.f.now in
    let valid : IsTriangulation d halves = subst (λ n. IsTriangulation n halves) (sym c.requires.field) c.triangles-count.ensures.valid in
    let best = c.args.best in
    subst (λ (o : Orbits). AreBelow (length o.links.items) o.places.items) (sym c.in_ok-more.ensures.orbits)
    (places_below d c.number-number.ensures.valid halves valid best.serial.items best.orbits.places.items best.orbits.links.items c.requires.best.orbits)

pub joined-orbits-requires-clause-other : goal.joined-orbits-requires-clause-other
joined-orbits-requires-clause-other c =
    let halves = c.args.tri.now.halves in
    let d : ℕ = c.args.f.now in
    let valid : IsTriangulation d halves = subst (λ n. IsTriangulation n halves) (sym c.requires.field) c.triangles-count.ensures.valid in
    let best = c.args.best in
    let places : List ℕ = c.args.numbering.now.places.items in
    subst₂ (λ (o : Orbits) (l : List ℕ). AreBelow (length o.links.items) l) (sym c.in_ok-more.ensures.orbits) (sym c.as_slice.ensures.value)
    (subst (λ n. AreBelow n places) (sym c.requires.best.orbits.linked.as_many)
    (places_inside d c.number-number.ensures.valid halves valid best.serial.items c.args.h places c.args.numbering.now.numbers.items c.requires.numbering))

pub joined-orbits-requires-clause-back : goal.joined-orbits-requires-clause-back
joined-orbits-requires-clause-back c = subst (λ (o : Orbits). LeadBack o.links.items) (sym c.in_ok-more.ensures.orbits) c.requires.best.orbits.linked.back

pub returns : goal.returns
returns c =
    let halves = c.args.tri.now.halves in
    let d : ℕ = c.args.f.now in
    let valid : IsTriangulation d halves = subst (λ n. IsTriangulation n halves) (sym c.requires.field) c.triangles-count.ensures.valid in
    let field = c.number-number.ensures.valid in
    let best : List ℤ = c.args.best.serial.items in
    let old : Orbits = c.in_ok-more.more.orbits in
    let new : Orbits = c.joined-orbits.result in
    let own : AreOrbits d halves best old.places.items old.links.items =
    subst (λ (o : Orbits). AreOrbits d halves best o.places.items o.links.items) (sym c.in_ok-more.ensures.orbits) c.requires.best.orbits in
    let joined : AreOrbits d halves best old.places.items new.links.items =
    orbits_joined d field halves valid best old.places.items old.links.items new.links.items c.as_slice.result.now own c.args.h c.args.numbering.now.numbers.items
    (subst (λ (l : List ℕ). IsNumberedBy halves c.args.h l c.args.numbering.now.numbers.items) (sym c.as_slice.ensures.value) c.requires.numbering) c.requires.serial
    c.joined-orbits.ensures.as_many c.joined-orbits.ensures.back (c.joined-orbits.ensures.same d halves) in
    record {
      least = subst₂ (λ (s : List ℤ) (l : List ℕ). IsBestTo d halves (c.args.h + 1) s l) (sym c.in_ok-more.ensures.serial) (sym c.in_ok-more.ensures.starts)
          (record {
            best = least_same d field halves valid c.args.h best best c.args.best.starts.items c.requires.half c.requires.best.least.best c.requires.serial (tie best);
            thirds = c.requires.best.least.thirds;
          });
      orbits = subst₂ (λ (s : List ℤ) (l : List ℕ). AreOrbits d halves s l new.links.items) (sym c.in_ok-more.ensures.serial) (sym c.joined-orbits.ensures.places) joined;
    }
