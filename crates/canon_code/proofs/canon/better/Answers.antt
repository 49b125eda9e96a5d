use Rattle.std.proofs.Common.{◌≡◌, ◌/◌, ◌+◌, ◌*◌, ◌∷◌, [], ℕ, List, length, sym, ap, ◌∙◌, subst}
use mathlib.Core.Path.{subst₂}
use Rattle.std.specs.Prelude.{ℤ, pos, unsigned_abs}
use Rattle.std.specs.Ordering.{int_cmp}
use Rattle.std.specs.Cmp.Lexicographic.{slice_cmp}
use Rattle.std.specs.declared.cmp.Ordering.TheVariants.{Less, Equal, Greater}
use Rattle.tri_core.specs.Triangulation.{IsTriangulation}
use Rattle.canon_code.specs.declared.canon.Best.{Best}
use Rattle.canon_code.specs.Serials.{IsSerial}
use Rattle.canon_code.specs.Canonical.{number_at, ThirdVectorsFit}
use Rattle.canon_code.specs.Least.{IsBestTo}
use Rattle.canon_code.specs.Orbits.{AreOrbits, IsBestOf}
use Rattle.canon_code.specs.Tries.{tried_serial}
use Rattle.canon_code.proofs.Listed.{serial_is}
use Rattle.canon_code.proofs.Least.{best_long, best_first, least_less, least_greater, equal_from_tie}
use Rattle.canon_code.proofs.Results.{if_ok_four}
use Rattle.canon_code.proofs.canon.better.Goals as goal

pub order_of-requires-clause-long : goal.order_of-requires-clause-long
order_of-requires-clause-long c =
    subst (λ (l : List ℤ). length l ≡ 2 + 11 * (length c.args.tri.now.halves / 3)) (sym c.as_slice.ensures.value)
    (best_long c.args.f.now c.args.tri.now.halves c.args.h c.args.best.serial.items c.args.best.starts.items c.requires.best.least.best)

pub order_of-requires-clause-first : goal.order_of-requires-clause-first
order_of-requires-clause-first c =
    subst (λ (l : List ℤ). number_at l 0 ≡ pos (length c.args.tri.now.halves / 3)) (sym c.as_slice.ensures.value)
    (best_first c.args.f.now c.args.tri.now.halves c.args.h c.args.best.serial.items c.args.best.starts.items c.requires.best.least.best)

pub returns-in-Less : goal.returns-in-Less
returns-in-Less c =
    let halves = c.args.tri.now.halves in
    let d : ℕ = c.args.f.now in
    let valid : IsTriangulation d halves = subst (λ n. IsTriangulation n halves) (sym c.requires.field) c.triangles-count.ensures.valid in
    let field = c.number-number.ensures.valid in
    let serial : List ℤ = tried_serial halves c.args.tried.now in
    let own : IsSerial d halves c.args.h serial =
    serial_is d halves c.args.h (unsigned_abs c.args.tried.now.coordinates.scale) c.args.tried.now.numbering.places.items c.args.tried.now.numbering.numbers.items c.args.tried.now.coordinates.list.items
    c.requires.tried.numbering c.requires.tried.coordinates in
    let before : slice_cmp int_cmp serial c.args.best.serial.items ≡ Less = ap (slice_cmp int_cmp serial) (sym c.as_slice.ensures.value) ∙ c.order_of.ensures ∙ c.in-Less.is in
    if_ok_four c.only.result (λ (b : Best). b.serial.items ≡ serial) (λ (b : Best). b.starts.items ≡ c.args.h ∷ []) (λ (b : Best). AreOrbits d halves b.serial.items b.orbits.places.items b.orbits.links.items)
    (λ (b : Best). ThirdVectorsFit d b.serial.items) (λ (b : Best). IsBestOf d halves (c.args.h + 1) b)
    c.only.ensures.serial c.only.ensures.starts c.only.ensures.orbits c.only.ensures.thirds
    (λ b p q o r.
    record {
      least = subst₂ (λ (s : List ℤ) (l : List ℕ). IsBestTo d halves (c.args.h + 1) s l) (sym p) (sym q)
          (record {
            best = least_less d field halves valid c.args.h c.args.best.serial.items serial c.args.best.starts.items c.requires.half c.requires.best.least.best own before;
            thirds = subst (ThirdVectorsFit d) p r;
          });
      orbits = o;
    })

pub with_image-requires-clause-serial : goal.with_image-requires-clause-serial
with_image-requires-clause-serial c =
    let halves = c.args.tri.now.halves in
    let d : ℕ = c.args.f.now in
    let serial : List ℤ = tried_serial halves c.args.tried.now in
    let own : IsSerial d halves c.args.h serial =
    serial_is d halves c.args.h (unsigned_abs c.args.tried.now.coordinates.scale) c.args.tried.now.numbering.places.items c.args.tried.now.numbering.numbers.items c.args.tried.now.coordinates.list.items
    c.requires.tried.numbering c.requires.tried.coordinates in
    let same : slice_cmp int_cmp serial c.args.best.serial.items ≡ Equal = ap (slice_cmp int_cmp serial) (sym c.as_slice.ensures.value) ∙ c.order_of.ensures ∙ c.in-Equal.is in
    subst (IsSerial d halves c.args.h) (equal_from_tie serial c.args.best.serial.items same) own

pub returns-in-Greater : goal.returns-in-Greater
returns-in-Greater c =
    let halves = c.args.tri.now.halves in
    let d : ℕ = c.args.f.now in
    let valid : IsTriangulation d halves = subst (λ n. IsTriangulation n halves) (sym c.requires.field) c.triangles-count.ensures.valid in
    let field = c.number-number.ensures.valid in
    let serial : List ℤ = tried_serial halves c.args.tried.now in
    let own : IsSerial d halves c.args.h serial =
    serial_is d halves c.args.h (unsigned_abs c.args.tried.now.coordinates.scale) c.args.tried.now.numbering.places.items c.args.tried.now.numbering.numbers.items c.args.tried.now.coordinates.list.items
    c.requires.tried.numbering c.requires.tried.coordinates in
    let after : slice_cmp int_cmp serial c.args.best.serial.items ≡ Greater = ap (slice_cmp int_cmp serial) (sym c.as_slice.ensures.value) ∙ c.order_of.ensures ∙ c.in-Greater.is in
    record {
      least = record {
        best = least_greater d field halves valid c.args.h c.args.best.serial.items serial c.args.best.starts.items c.requires.half c.requires.best.least.best own after;
        thirds = c.requires.best.least.thirds;
      };
      orbits = c.requires.best.orbits;
    }
