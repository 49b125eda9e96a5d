-- Turns that are found part by part.
use Rattle.std.proofs.Common.{◌≡◌, ℕ, ◌+◌, ◌-◌, ◌*◌, ◌/◌, ◌%◌, ◌<◌, ◌≤◌, ◌++◌, inl, inr, List, [], Result, length, take, drop, map, get_or, min, refl, ap, ◌∙◌, sym, subst, arith, Some}
use Rattle.std.specs.Prelude.{ℤ}
use Rattle.std.specs.Global.{Vec}
use Rattle.std.specs.Fork.{slice_chunk}
use Rattle.std.proofs.Math.Nat.{div-add-mod, mod-lt}
use Rattle.std.proofs.lemmas.Bool.{cases_lt}
use Rattle.std.proofs.lemmas.List.{length-append, length-take, length-drop, get_or-take, get_or-drop, get_or_append_left, get_or-append_right, map-append}
use Rattle.std.proofs.lemmas.Option.{slice_get-get_or, get_or_from_slice_get}
use Rattle.plane.specs.Matrices.{FieldMatrix}
use Rattle.terrain.specs.Places.{IsAt}
use Rattle.terrain.proofs.CallerLemmas.{at_within}
use Rattle.returning.specs.Turns.{AreTurns}
use Rattle.answer_text.specs.declared.status.Status.{Status}
use Rattle.veech_cli.specs.Surfaces.{RefusesTurns}
use Rattle.veech_cli.specs.Turns.{AreTurnsFound, AreParts}
use Rattle.veech_cli.specs.declared.refusal.Refusal.{Refusal}
use Rattle.veech_cli.proofs.Grouped.{AreTurnsTo, no_turns, turns_done}

-- an element of a chunk stands in the list
pub chunk_inside : {A : Type 0} (xs : List A) (size n j : ℕ) (x : A) → IsAt (slice_chunk xs size n) j x → IsAt xs (n * size + j) x
chunk_inside xs size n j x at =
    let start : ℕ = n * size in
    let low : j < length (take size (drop start xs)) = at_within (slice_chunk xs size n) j x at in
    let few : length (take size (drop start xs)) ≡ min size (length xs - start) = length-take size (drop start xs) ∙ ap (min size) (length-drop start xs) in
    let read : x ≡ get_or xs (start + j) x =
    sym (get_or_from_slice_get (slice_chunk xs size n) j x x at) ∙ get_or-take size (drop start xs) j x (omega (arith, low, few)) ∙ get_or-drop start xs j x in
    slice_get-get_or xs (start + j) x (omega (arith, low, few)) ∙ ap Some (sym read)

-- an element of the list that is so far into a chunk
pub inside_chunk : {A : Type 0} (xs : List A) (size n j : ℕ) (x : A) → j < length (slice_chunk xs size n) → IsAt xs (n * size + j) x → IsAt (slice_chunk xs size n) j x
inside_chunk xs size n j x low at =
    let start : ℕ = n * size in
    let few : length (take size (drop start xs)) ≡ min size (length xs - start) = length-take size (drop start xs) ∙ ap (min size) (length-drop start xs) in
    slice_get-get_or (slice_chunk xs size n) j x low
    ∙ ap Some (get_or-take size (drop start xs) j x (omega (arith, low, few)) ∙ get_or-drop start xs j x ∙ get_or_from_slice_get xs (start + j) x x at)

-- what refuses the turns of a chunk refuses those of all
pub chunk_refuses : (d : ℕ) (codes : List (List ℤ)) (size n : ℕ) (status : Status) → RefusesTurns d (slice_chunk codes size n) status → RefusesTurns d codes status
chunk_refuses d codes size n status (inl (code, held, wide, is)) =
    let at : IsAt codes (n * size + held.0) code = chunk_inside codes size n held.0 code (slice_get-get_or (slice_chunk codes size n) held.0 code held.1 ∙ ap Some held.2) in
    inl (code, (n * size + held.0, at_within codes (n * size + held.0) code at, get_or_from_slice_get codes (n * size + held.0) code code at), wide, is)
chunk_refuses d codes size n status (inr is) = inr is

-- the places of the first chunks
abbrev pub places_to : ℕ → ℕ → ℕ → ℕ
places_to size n long = min (n * size) long

-- the turns of one chunk more
pub turns_joined : (d : ℕ) (codes : List (List ℤ)) (size n : ℕ) → 0 < size → n * size < length codes → (turns more : List (List FieldMatrix))
    → AreTurnsTo d codes turns (places_to size n (length codes)) → AreTurns d (slice_chunk codes size n) more → AreTurnsTo d codes (turns ++ more) (places_to size (n + 1) (length codes))
turns_joined d codes size n some inside turns more are found = record {
  count = omega (arith, length-append turns more, are.count, found.as_many, few, next);
  each = λ c key frames here there. elim (cases_lt c (length turns)) [
    | inl below ↦
        are.each c key frames here
        (slice_get-get_or turns c frames below ∙ ap Some (sym (get_or_append_left turns more frames c below) ∙ get_or_from_slice_get (turns ++ more) c frames frames there))
    | inr above ↦
        let j : ℕ = c - length turns in
        let far : c ≡ start + j = omega (arith, above, long) in
        let low : j < length more = omega (arith, above, at_within (turns ++ more) c frames there, length-append turns more) in
        let more_at : IsAt more j frames =
        slice_get-get_or more j frames low
        ∙ ap Some (sym (get_or-append_right turns more (length turns) c frames refl (omega (arith, above))) ∙ get_or_from_slice_get (turns ++ more) c frames frames there) in
        found.each j key frames (inside_chunk codes size n j key (omega (arith, low, found.as_many)) (subst (λ (i : ℕ). IsAt codes i key) far here)) more_at
  ];
}
  where
    start : ℕ
    start = n * size

    few : length (slice_chunk codes size n) ≡ min size (length codes - n * size)
    few = length-take size (drop (n * size) codes) ∙ ap (min size) (length-drop (n * size) codes)

    next : (n + 1) * size ≡ n * size + size
    next = omega arith

    long : length turns ≡ n * size
    long = omega (arith, are.count, inside)

-- where no chunk is left
pub turns_all : (d : ℕ) (codes : List (List ℤ)) (size n : ℕ) → 0 < size → n ≡ length codes / size + min 1 (length codes % size) → (turns : List (List FieldMatrix))
    → AreTurnsTo d codes turns (places_to size n (length codes)) → AreTurns d codes turns
turns_all d codes size n some count turns are = turns_done d codes turns (places_to size n (length codes)) are (omega (arith, reached))
  where
    q : ℕ
    q = length codes / size

    whole : size * q + length codes % size ≡ length codes
    whole = div-add-mod (length codes) size

    reached : length codes ≤ n * size
    reached = elim (cases_lt 0 (length codes % size)) [
      | inl left ↦
          let one : n ≡ q + 1 = omega (arith, count, left) in
          let product : n * size ≡ size * q + size = ap (λ (k : ℕ). k * size) one ∙ omega arith in
          let small : length codes % size < size = mod-lt (length codes) some in
          omega (arith, product, whole, small)
      | inr none ↦
          let one : n ≡ q = omega (arith, count, none) in
          let product : n * size ≡ size * q = ap (λ (k : ℕ). k * size) one ∙ omega arith in
          omega (arith, product, whole, none)
    ]

-- the same for lists of turns: none, one chunk more, and all
pub lists_none : {V : Type 0} (f : V → List FieldMatrix) (d : ℕ) (codes : List (List ℤ)) (size : ℕ) (turns : List V) → turns ≡ [] → AreTurnsTo d codes (map f turns) (places_to size 0 (length codes))
lists_none f d codes size turns is =
    let none : 0 * size ≡ 0 = omega arith in
    subst (λ (l : List _). AreTurnsTo d codes (map f l) (places_to size 0 (length codes))) (sym is) (subst (AreTurnsTo d codes []) (omega (arith, none)) (no_turns d codes))

pub lists_joined : {V : Type 0} (f : V → List FieldMatrix) (d : ℕ) (codes : List (List ℤ)) (size n m : ℕ) → m ≡ n + 1 → 0 < size → n * size < length codes → (turns more all : List V) → all ≡ turns ++ more
    → AreTurnsTo d codes (map f turns) (places_to size n (length codes)) → AreTurns d (slice_chunk codes size n) (map f more) → AreTurnsTo d codes (map f all) (places_to size m (length codes))
lists_joined f d codes size n m next some inside turns more all is are found =
    subst (λ (l : List (List FieldMatrix)). AreTurnsTo d codes l (places_to size m (length codes))) (sym (ap (map f) is ∙ map-append f turns more))
    (subst (λ (k : ℕ). AreTurnsTo d codes (map f turns ++ map f more) (places_to size k (length codes))) (sym next) (turns_joined d codes size n some inside (map f turns) (map f more) are found))

-- what is found of the chunk that a loop is given
pub chunk_found : (d : ℕ) (codes : List (List ℤ)) (size : ℕ) (parts : List (Result (Vec (Vec FieldMatrix)) Refusal)) → AreParts d codes size parts → (n : ℕ) (part : Result (Vec (Vec FieldMatrix)) Refusal)
    → (n < length parts) × (part ≡ get_or parts n part) → AreTurnsFound d (slice_chunk codes size n) part
chunk_found d codes size parts all n part read = all.each n part (slice_get-get_or parts n part read.0 ∙ ap Some (sym read.1))

-- what is found of a chunk, where it was read
pub found_at : (d : ℕ) (codes : List (List ℤ)) (size : ℕ) (parts : List (Result (Vec (Vec FieldMatrix)) Refusal)) (i : ℕ) (part : Result (Vec (Vec FieldMatrix)) Refusal) (chunk : List (List ℤ))
    → IsAt parts i part → chunk ≡ slice_chunk codes size i → AreTurnsFound d chunk (get_or parts i part) → AreTurnsFound d (slice_chunk codes size i) part
found_at d codes size parts i part chunk at is found =
    subst (AreTurnsFound d (slice_chunk codes size i)) (get_or_from_slice_get parts i part part at) (subst (λ (c : List (List ℤ)). AreTurnsFound d c (get_or parts i part)) is found)
