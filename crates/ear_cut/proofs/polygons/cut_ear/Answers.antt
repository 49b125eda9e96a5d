use Rattle.std.proofs.Common.{◌≡◌, ◌+◌, ◌%◌, ◌<◌, ◌/◌, length, set, vec_len, ap, ◌∙◌, subst, arith}
use Rattle.std.specs.Prelude.{remove}
use Rattle.ear_cut.specs.Cuttings.{IsEar, IsLeastEar, vectors_of, chord_at, replaced}
use Rattle.ear_cut.specs.Steps.{seen, IsEarCut, size_of}
use Rattle.ear_cut.proofs.Seen.{seen_length, seen_replaced, chord_small}
use Rattle.ear_cut.proofs.Steps.{edge_of, ear_appended, ear_left}
use Rattle.ear_cut.proofs.Passed.{passed}
use Rattle.ear_cut.proofs.polygons.cut_ear.Goals as goal

pub least_ear-i-requires-clause-passed : goal.least_ear-i-requires-clause-passed
least_ear-i-requires-clause-passed c = λ k below ear.
    c.requires.passed k below (subst (λ xs. IsEar c.args.f.now (vectors_of (seen xs)) k) c.deref.ensures.value ear)

pub turned_back-requires : goal.turned_back-requires
turned_back-requires c =
    let sides = c.args.sides.now.items in
    let least : IsLeastEar c.args.f.now (vectors_of (seen sides)) c.least_ear-i.result =
    subst (λ xs. IsLeastEar c.args.f.now (vectors_of (seen xs)) c.least_ear-i.result) c.deref.ensures.value c.least_ear-i.ensures in
    let chord = c.chord-vec.ensures ∙ ap (λ xs. chord_at c.args.f.now (vectors_of (seen xs)) c.least_ear-i.result) c.deref-2.ensures.value in
    omega (arith, ap size_of chord, chord_small c.args.f.now (vectors_of (seen sides)) c.least_ear-i.result least.0.0 (omega (arith, seen_length sides, c.requires.long)), c.requires.small)

pub returns-clause-cut : goal.returns-clause-cut
returns-clause-cut c =
    let sides = c.args.sides.now.items in
    let i = c.least_ear-i.result in
    let t = c.len.result / 3 in
    let least : IsLeastEar c.args.f.now (vectors_of (seen sides)) i =
    subst (λ xs. IsLeastEar c.args.f.now (vectors_of (seen xs)) i) c.deref.ensures.value c.least_ear-i.ensures in
    let chord = c.chord-vec.ensures ∙ ap (λ xs. chord_at c.args.f.now (vectors_of (seen xs)) i) c.deref-2.ensures.value in
    let below : i < length sides = omega (arith, least.0.0, seen_length sides) in
    let size : c.len-n.result ≡ length sides = omega arith in
    let after : c.next_place-after.result ≡ (i + 1) % length sides = c.next_place-after.ensures ∙ ap (λ n. (i + 1) % n) size in
    let left : c.remove.new.self.items ≡ remove (set sides i (edge_of c.chord-vec.result t)) c.next_place-after.result = c.remove.ensures.items in
    let len_is : c.len.result ≡ vec_len c.args.edges.now = omega arith in
    subst (λ n. IsEarCut c.args.f.now (n / 3) (seen sides) (seen c.args.edges.now.items) (seen c.push-3.new.self.items) (seen c.remove.new.self.items)) len_is
    (record {
      place = i;
      least = least;
      appended = ear_appended c.args.f.now t sides i c.next_place-after.result c.index.result.now c.index-2.result.now c.args.edges.now.items _ _ _ c.chord-vec.result c.turned_back.result below after
          c.index.ensures c.index-2.ensures chord c.turned_back.ensures
          c.in_ok-push.ensures.items c.in_ok-push-2.ensures.items c.in_ok-push-3.ensures.items;
      rest = ear_left c.args.f.now t sides c.remove.new.self.items i c.chord-vec.result chord (left ∙ ap (remove (set sides i (edge_of c.chord-vec.result t))) after);
    })

pub returns-clause-passed : goal.returns-clause-passed
returns-clause-passed c = λ k under ear.
    let sides = c.args.sides.now.items in
    let i = c.least_ear-i.result in
    let t = c.len.result / 3 in
    let vs = vectors_of (seen sides) in
    let least : IsLeastEar c.args.f.now vs i = subst (λ xs. IsLeastEar c.args.f.now (vectors_of (seen xs)) i) c.deref.ensures.value c.least_ear-i.ensures in
    let chord = c.chord-vec.ensures ∙ ap (λ xs. chord_at c.args.f.now (vectors_of (seen xs)) i) c.deref-2.ensures.value in
    let size : c.len-n.result ≡ length sides = omega arith in
    let after : c.next_place-after.result ≡ (i + 1) % length sides = c.next_place-after.ensures ∙ ap (λ n. (i + 1) % n) size in
    let left : c.remove.new.self.items ≡ remove (set sides i (edge_of c.chord-vec.result t)) c.next_place-after.result = c.remove.ensures.items in
    let whole = left ∙ ap (remove (set sides i (edge_of c.chord-vec.result t))) after in
    let vectors : vectors_of (seen c.remove.new.self.items) ≡ replaced vs i (chord_at c.args.f.now vs i) =
    ap (λ xs. vectors_of (seen xs)) whole ∙ seen_replaced c.args.f.now sides i (edge_of c.chord-vec.result t) chord in
    let where_next = c.next_first.ensures k under in
    passed c.args.f.now vs i least (omega (arith, where_next.1, seen_length sides)) k where_next.0 (subst (λ ws. IsEar c.args.f.now ws k) vectors ear)
