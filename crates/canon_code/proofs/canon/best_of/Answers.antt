use Rattle.std.proofs.Common.{◌≡◌, ℕ, List, length, refl, sym, subst, arith}
use mathlib.Core.Path.{subst₂}
use Rattle.std.specs.Prelude.{ℤ, unsigned_abs}
use Rattle.tri_core.specs.Triangulation.{IsTriangulation}
use Rattle.canon_code.specs.Serials.{IsSerial}
use Rattle.canon_code.specs.Canonical.{ThirdVectorsFit}
use Rattle.canon_code.specs.Least.{IsLeastTo, IsBestTo}
use Rattle.canon_code.specs.Tries.{tried_serial}
use Rattle.canon_code.proofs.Listed.{serial_is}
use Rattle.canon_code.proofs.Least.{least_first, code_is, starts_are}
use Rattle.canon_code.proofs.SameSerials.{alone_linked}
use Rattle.canon_code.proofs.canon.best_of.Goals as goal

pub loop-h-init : goal.loop-h-init
loop-h-init c =
    let halves = c.args.tri.now.halves in
    let d : ℕ = c.args.f.now in
    let valid : IsTriangulation d halves = subst (λ n. IsTriangulation n halves) (sym c.requires) c.triangles-count.ensures.valid in
    let field = c.number-number.ensures.valid in
    let tried = c.in-Ok.tried in
    let serial : List ℤ = tried_serial halves tried in
    let own : IsSerial d halves 0 serial =
    serial_is d halves 0 (unsigned_abs tried.coordinates.scale) tried.numbering.places.items tried.numbering.numbers.items tried.coordinates.list.items c.in-Ok.ensures.tried.numbering c.in-Ok.ensures.tried.coordinates in
    record {
      best = record {
        least = subst₂ (λ (s : List ℤ) (l : List ℕ). IsBestTo d halves 1 s l) (sym c.in_ok-best.ensures.serial) (sym c.in_ok-best.ensures.starts)
            (record {
              best = least_first d field halves valid 0 serial refl (omega (arith, valid.count.1)) own;
              thirds = subst (ThirdVectorsFit d) c.in_ok-best.ensures.serial c.in_ok-best.ensures.thirds;
            });
        orbits = c.in_ok-best.ensures.orbits;
      };
      kept = c.none-kept.ensures d halves c.in_ok-distinct.ensures;
    }

pub only-requires-clause-linked : goal.only-requires-clause-linked
only-requires-clause-linked c =
    let halves = c.args.tri.now.halves in
    let links : List ℕ = c.in_ok-orbits.orbits.links.items in
    let count : length links ≡ length halves = omega (arith, c.in_ok-orbits.ensures.as_many, c.triangles-count.ensures.count) in
    alone_linked c.args.f.now halves links count (λ k less. c.in_ok-orbits.ensures.alone k (omega (arith, less, count, c.in_ok-orbits.ensures.as_many)))

pub returns-clause-code : goal.returns-clause-code
returns-clause-code c =
    let halves = c.args.tri.now.halves in
    let d : ℕ = c.args.f.now in
    let valid : IsTriangulation d halves = subst (λ n. IsTriangulation n halves) (sym c.requires) c.triangles-count.ensures.valid in
    let field = c.number-number.ensures.valid in
    let all : c.loop-h.h ≡ length halves = omega (arith, valid.count.1) in
    code_is d field halves valid c.loop-h.best.serial.items c.loop-h.best.starts.items
    (subst (λ n. IsLeastTo d halves n c.loop-h.best.serial.items c.loop-h.best.starts.items) all c.loop-h.invariant.best.least.best)

pub returns-clause-starts : goal.returns-clause-starts
returns-clause-starts c =
    let halves = c.args.tri.now.halves in
    let d : ℕ = c.args.f.now in
    let valid : IsTriangulation d halves = subst (λ n. IsTriangulation n halves) (sym c.requires) c.triangles-count.ensures.valid in
    let field = c.number-number.ensures.valid in
    let all : c.loop-h.h ≡ length halves = omega (arith, valid.count.1) in
    starts_are d field halves valid c.loop-h.best.serial.items c.loop-h.best.starts.items
    (subst (λ n. IsLeastTo d halves n c.loop-h.best.serial.items c.loop-h.best.starts.items) all c.loop-h.invariant.best.least.best)

pub next-requires-clause-other : goal.next-requires-clause-other
next-requires-clause-other c = c.is_passed.ensures.other c.if-is_passed.false
