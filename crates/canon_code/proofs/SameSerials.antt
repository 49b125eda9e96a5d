-- Half-edges that have the same serials: those at the same places of the numberings from two starts of one serial.
use Rattle.std.proofs.Common.{◌≡◌, ℕ, ◌<◌, ◌≤◌, List, length, get_or, refl, sym, ap, ◌∙◌, subst, inl, inr, Ok, Err, arith}
use Rattle.std.specs.Prelude.{ℤ, slice_set}
use Rattle.std.proofs.lemmas.List.{get_or-set_same, get_or-set_other, length-set}
use Rattle.std.specs.Ordering.{int_cmp}
use Rattle.std.specs.Cmp.Lexicographic.{slice_cmp}
use Rattle.std.specs.declared.cmp.Ordering.{Ordering}
use Rattle.std.specs.declared.cmp.Ordering.TheVariants.{Less, Equal, Greater}
use Rattle.std.specs.Ordering.{nat_cmp}
use Rattle.std.specs.List.Sorted.{IsBinarySearchResult}
use Rattle.std.proofs.lemmas.List.Sorted.{searched}
use Rattle.std.proofs.lemmas.Bool.{cases_eq, cases_lt}
use Rattle.quad_field.specs.FieldNumber.{IsFieldNumber}
use Rattle.tri_core.specs.declared.half.Half.{Half}
use Rattle.tri_core.specs.Triangulation.{IsTriangulation}
use Rattle.canon_code.specs.Serials.{IsSerial}
use Rattle.canon_code.specs.Codes.{IsBefore}
use Rattle.canon_code.specs.Canonical.{canonical, frame}
use Rattle.canon_code.specs.Numbered.{entry, IsNumberedBy}
use Rattle.canon_code.specs.Least.{IsLeastTo}
use Rattle.canon_code.specs.Orbits.{HaveSameSerials, AreAlike, AreBelow, LeadBack, KeepSerials, AreLinked, AreOrbits}
use Rattle.canon_code.proofs.Numberings.{one_place}
use Rattle.canon_code.proofs.Serials.{twins_inside, serial_carried, serial_carried_back}
use Rattle.canon_code.proofs.Canonical.{as_many, canonical_valid, framed}
use Rattle.canon_code.proofs.Least.{equal_from_tie, before_from_greater}

pub alike_itself : (d : ℕ) (halves : List Half) (h : ℕ) → HaveSameSerials d halves h h
alike_itself d halves h = record { forth = λ serial s. s; back = λ serial s. s }

pub alike_back : (d : ℕ) (halves : List Half) (h k : ℕ) → HaveSameSerials d halves h k → HaveSameSerials d halves k h
alike_back d halves h k a = record { forth = a.back; back = a.forth }

pub alike_on : (d : ℕ) (halves : List Half) (h k j : ℕ) → HaveSameSerials d halves h k → HaveSameSerials d halves k j → HaveSameSerials d halves h j
alike_on d halves h k j a b = record { forth = λ serial s. b.forth serial (a.forth serial s); back = λ serial s. a.back serial (b.back serial s) }

pub ends_alike : (d : ℕ) (halves : List Half) (h k g j : ℕ) → HaveSameSerials d halves h k → HaveSameSerials d halves h g → HaveSameSerials d halves k j → HaveSameSerials d halves g j
ends_alike d halves h k g j a b e = alike_on d halves g h j (alike_back d halves h g b) (alike_on d halves h k j a e)

-- half-edges that are linked to themselves
pub alone_linked : (d : ℕ) (halves : List Half) (links : List ℕ) → length links ≡ length halves → ((k : ℕ) → k < length halves → entry links k ≡ k) → AreLinked d halves links
alone_linked d halves links count alone = record {
  as_many = count;
  back = λ k less. omega (arith, alone k (subst (λ n. k < n) count less));
  same = λ k less. subst (HaveSameSerials d halves k) (sym (alone k (subst (λ n. k < n) count less))) (alike_itself d halves k);
}

-- one link to a half-edge that isn't after it
pub leads_back : (links : List ℕ) (i x : ℕ) → i < length links → x ≤ i → LeadBack links → LeadBack (slice_set links i x)
leads_back links i x inside before back k less = elim (cases_eq k i) [
  | inl e ↦ omega (arith, e, before, ap (λ j. entry (slice_set links i x) j) e ∙ get_or-set_same links i x 0 inside)
  | inr ne ↦ omega (arith, get_or-set_other links i k x 0 ne, back k (omega (arith, less, length-set links i x)))
]

-- and to one of the same serials
pub keeps_serials : (d : ℕ) (halves : List Half) (links : List ℕ) (i x : ℕ) → i < length links → HaveSameSerials d halves i x → KeepSerials d halves links → KeepSerials d halves (slice_set links i x)
keeps_serials d halves links i x inside alike keep k less = elim (cases_eq k i) [
  | inl e ↦ subst (λ j. HaveSameSerials d halves j (entry (slice_set links i x) j)) (sym e) (subst (HaveSameSerials d halves i) (sym (get_or-set_same links i x 0 inside)) alike)
  | inr ne ↦ subst (HaveSameSerials d halves k) (sym (get_or-set_other links i k x 0 ne)) (keep k (omega (arith, less, length-set links i x)))
]

module _ (d : ℕ) (field : IsFieldNumber d) (halves : List Half) (valid : IsTriangulation d halves) (best : List ℤ) where
  module _ (h : ℕ) (places numbers : List ℕ) (below : h < length halves) (own : IsSerial d halves h best) (numbering : IsNumberedBy halves h places numbers) (k : ℕ) (inside : k < length halves) where
    place_is : own.place k ≡ entry places k
    place_is = one_place halves h own.place own.number (entry places) (entry numbers) (twins_inside d halves valid) own.numbering numbering.numbering k inside

    in_canonical : k < length (canonical d best)
    in_canonical = subst (λ n. k < n) (sym (as_many d field halves h best valid below own)) inside

    -- half-edge k of the canonical triangulation has the serials of half-edge k of the new numbers
    from_canonical : (serial : List ℤ) → IsSerial d (canonical d best) k serial → IsSerial d halves (entry places k) serial
    from_canonical serial s =
        subst (λ j. IsSerial d halves j serial) place_is
        (serial_carried d field (frame halves h) own.scale (canonical d best) halves own.place own.number
        (canonical_valid d field halves h best valid below own) valid (framed d field halves h best valid below own) k serial in_canonical s)

    to_canonical : (serial : List ℤ) → IsSerial d halves (entry places k) serial → IsSerial d (canonical d best) k serial
    to_canonical serial s =
        serial_carried_back d field (frame halves h) own.scale (canonical d best) halves own.place own.number
        (canonical_valid d field halves h best valid below own) valid (framed d field halves h best valid below own) k serial in_canonical
        (subst (λ j. IsSerial d halves j serial) (sym place_is) s)

  -- the start of a numbering is a half-edge
  pub start_inside : (h : ℕ) (places numbers : List ℕ) → IsNumberedBy halves h places numbers → h < length halves
  start_inside h places numbers numbering =
      subst (λ j. j < length halves) numbering.numbering.start (numbering.numbering.each_once.forth_inside 0 (omega (arith, valid.count.1)))

  -- each place of a numbering is a half-edge
  pub places_inside : (h : ℕ) (places numbers : List ℕ) → IsNumberedBy halves h places numbers → (k : ℕ) → k < length places → entry places k < length halves
  places_inside h places numbers numbering k less = numbering.numbering.each_once.forth_inside k (subst (λ n. k < n) numbering.as_many less)

  -- the numberings from two starts of one serial have half-edges of the same serials at the same places
  pub numberings_alike : (g h : ℕ) (places numbers places' numbers' : List ℕ) → IsSerial d halves g best → IsSerial d halves h best → IsNumberedBy halves g places numbers → IsNumberedBy halves h places' numbers'
      → AreAlike d halves places places'
  numberings_alike g h places numbers places' numbers' own own' numbering numbering' k less =
      let below : g < length halves = start_inside g places numbers numbering in
      let below' : h < length halves = start_inside h places' numbers' numbering' in
      let inside : k < length halves = subst (λ n. k < n) numbering.as_many less in
      record {
        forth = λ serial s. from_canonical h places' numbers' below' own' numbering' k inside serial (to_canonical g places numbers below own numbering k inside serial s);
        back = λ serial s. from_canonical g places numbers below own numbering k inside serial (to_canonical h places' numbers' below' own' numbering' k inside serial s);
      }

  -- a half-edge below the bound that is no start of the best has a serial after the best
  pub after_unless_start : (bound : ℕ) (starts : List ℕ) (h : ℕ) (serial : List ℤ) → IsLeastTo d halves bound best starts → h < bound → ((i : ℕ) → i < length starts → ¬ (get_or starts i 0 ≡ h))
      → IsSerial d halves h serial → IsBefore best serial
  after_unless_start bound starts h serial l below none s = go (slice_cmp int_cmp best serial) refl
    where
      go : (o : Ordering) → slice_cmp int_cmp best serial ≡ o → IsBefore best serial
      go Less e = e
      go Equal e =
          let w = l.all h below (subst (IsSerial d halves h) (sym (equal_from_tie best serial e)) s) in
          absurd (none w.0 w.1 w.2)
      go Greater e = absurd (l.least h serial below s (before_from_greater best serial e))

  -- what a start of the best asks for to be joined
  pub places_below : (places links : List ℕ) → AreOrbits d halves best places links → AreBelow (length links) places
  places_below places links o i less = subst (λ n. entry places i < n) (sym o.linked.as_many) (places_inside o.start places o.numbers o.numbering i less)

  -- links after a start of the best is joined
  pub orbits_joined : (places links later order : List ℕ) → AreOrbits d halves best places links → (h : ℕ) (numbers : List ℕ) → IsNumberedBy halves h order numbers → IsSerial d halves h best
      → length later ≡ length links → LeadBack later → (AreAlike d halves places order → KeepSerials d halves links → KeepSerials d halves later) → AreOrbits d halves best places later
  orbits_joined places links later order o h numbers numbering own count back keep = record {
    start = o.start;
    numbers = o.numbers;
    numbering = o.numbering;
    serial = o.serial;
    linked = record {
      as_many = count ∙ o.linked.as_many;
      back = back;
      same = keep (numberings_alike o.start h places o.numbers order numbers o.serial own o.numbering numbering) o.linked.same;
    };
  }

  -- what a search among the starts found
  module _ (bound : ℕ) (starts : List ℕ) (h : ℕ) (l : IsLeastTo d halves bound best starts) where
    rising : (i j : ℕ) → i ≤ j → j < length starts → get_or starts i 0 ≤ get_or starts j 0
    rising i j below inside = elim (cases_eq i j) [
      | inl e ↦ omega (arith, ap (λ k. get_or starts k 0) e)
      | inr ne ↦ omega (arith, l.ascending i j (omega arith) inside)
    ]

    pub start_found : (place : ℕ) → IsBinarySearchResult (λ y. nat_cmp y h) starts (Ok place) → IsSerial d halves h best
    start_found place found = let w = searched starts h (Ok place) found rising in subst (λ k. IsSerial d halves k best) w.1 (l.each place w.0)

    pub start_missing : (place : ℕ) → IsBinarySearchResult (λ y. nat_cmp y h) starts (Err place) → (i : ℕ) → i < length starts → ¬ (get_or starts i 0 ≡ h)
    start_missing place found i inside same = let w = searched starts h (Err place) found rising in elim (cases_lt i place) [
      | inl less ↦ omega (arith, same, w.1 i less)
      | inr more ↦ omega (arith, same, w.2 i (omega arith) inside)
    ]
