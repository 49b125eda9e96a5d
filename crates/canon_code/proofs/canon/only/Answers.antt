use Rattle.std.proofs.Common.{◌∙◌, ℕ, List, sym, subst}
use Rattle.std.specs.Prelude.{ℤ, unsigned_abs}
use Rattle.canon_code.specs.Numbered.{IsNumberedBy}
use Rattle.canon_code.specs.Serials.{IsSerial}
use Rattle.canon_code.specs.Orbits.{AreLinked}
use Rattle.canon_code.specs.Tries.{tried_serial}
use Rattle.canon_code.proofs.Listed.{serial_is}
use Rattle.canon_code.proofs.canon.only.Goals as goal

pub returns-clause-orbits : goal.returns-clause-orbits
returns-clause-orbits c =
    let halves = c.args.tri.now.halves in
    let d : ℕ = c.args.f.now in
    let tried = c.args.tried.now in
    let own : IsSerial d halves c.args.h (tried_serial halves tried) =
    serial_is d halves c.args.h (unsigned_abs tried.coordinates.scale) tried.numbering.places.items tried.numbering.numbers.items tried.coordinates.list.items c.requires.tried.numbering c.requires.tried.coordinates in
    record {
      start = c.args.h;
      numbers = tried.numbering.numbers.items;
      numbering = subst (λ (l : List ℕ). IsNumberedBy halves c.args.h l tried.numbering.numbers.items) (sym (c.in_ok-orbits.ensures.places ∙ c.as_slice.ensures.value)) c.requires.tried.numbering;
      serial = subst (λ (s : List ℤ). IsSerial d halves c.args.h s) (sym c.in_ok-serial.ensures.serial) own;
      linked = subst (λ (l : List ℕ). AreLinked d halves l) (sym c.in_ok-orbits.ensures.links) c.requires.linked;
    }
