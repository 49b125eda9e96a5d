use Rattle.std.proofs.Common.{◌≡◌, ℕ, ◌+◌, ◌^◌, ◌<◌, [], ◌∷◌, ◌++◌, arith, sym, ◌∙◌, ap}
use Rattle.explore_core.specs.Books.{empty_row, out, keys_of}
use Rattle.explore_core.proofs.Sound.{sound_root}
use Rattle.explore_core.proofs.CallerLemmas.{index_one, index_as}
use Rattle.explore_core.proofs.RecordRows.{rows-added, placed-added}
use Rattle.explore_core.proofs.Outs.{out-root}
use Rattle.explore_core.proofs.Known.{own_as, sound_as}
use Rattle.explore_core.proofs.book.Book.of_root.Goals as goal

small : {n : ℕ} → n ≡ 0 + 1 → n < 2 ^ 32
small e = omega arith

pub invariant_of-result : goal.invariant_of-result
invariant_of-result g c =
    let numbers = g.T.Key.Numbers.numbers in
    let records = c.in_ok-push.ensures.items ∙ ap (λ l. l ++ record { key = c.in_ok-key.key; slots = c.in_ok-slots.slots } ∷ []) c.new-records.ensures.items in
    let places = c.in_ok-push-2.ensures.items ∙ ap (λ l. l ++ 0 ∷ []) c.new-places.ensures.items in
    let terrain = ap g.T.Numbers.numbers c.of.ensures in
    let root = ap numbers c.of-2.ensures in
    let rows = rows-added numbers [] c.push.new.self.items (record { key = c.in_ok-key.key; slots = c.in_ok-slots.slots }) c.args.walls records c.in_ok-slots.ensures ∙ ap (λ k. empty_row (numbers k) c.args.walls ∷ []) c.in_ok-key.ensures in
    record {
      own = ∣ own_as g.T.Terrain.is_own _ _ _ _ terrain root c.requires.own ∣₁;
      sound = ∣ sound_as g.T.Terrain.has_walls g.T.Terrain.leads _ _ _ _ _ _ terrain root rows (sound_root _ _ _ c.args.walls c.requires.walls) ∣₁;
      placed = placed-added numbers [] c.push.new.self.items (record { key = c.in_ok-key.key; slots = c.in_ok-slots.slots }) c.args.walls records c.in_ok-slots.ensures (λ i w r f at full. cc);
      index = index_as g.T.Terrain.order _ _ _ _ (ap keys_of rows) places (index_one g.T.Terrain.order (numbers c.args.root.now));
      counted = c.from.ensures ∙ sym (ap out rows ∙ out-root g.row.T-Link.Denot (numbers c.args.root.now) c.args.walls);
      few = small (c.in_ok-push.ensures.len ∙ ap (λ n. n + 1) c.new-records.ensures.len);
    }

pub returns-clause-rows : goal.returns-clause-rows
returns-clause-rows g c =
    let numbers = g.T.Key.Numbers.numbers in
    let records = c.in_ok-push.ensures.items ∙ ap (λ l. l ++ record { key = c.in_ok-key.key; slots = c.in_ok-slots.slots } ∷ []) c.new-records.ensures.items in
    let rows = rows-added numbers [] c.push.new.self.items (record { key = c.in_ok-key.key; slots = c.in_ok-slots.slots }) c.args.walls records c.in_ok-slots.ensures ∙ ap (λ k. empty_row (numbers k) c.args.walls ∷ []) c.in_ok-key.ensures in
    rows
