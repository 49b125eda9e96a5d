use Rattle.std.proofs.Common.{◌∷◌, [], ◌∙◌, length, ap, sym, subst, arith}
use Rattle.std.specs.Prelude.{pos}
use Rattle.walls_out.specs.declared.view.View.{View}
use Rattle.terrain.specs.Places.{IsAt}
use Rattle.terrain.specs.Rings.{ring_shard}
use Rattle.terrain.proofs.CallerLemmas.{snoc_left, snoc_end}
use Rattle.class_shards.specs.Keepers.{number_or_0}
use Rattle.class_shards.proofs.Ringed.{ring_reached}
use Rattle.class_shards.proofs.tests.one_key.Goals as goal

pub meet_at_last-met-requires-clause-reached : goal.meet_at_last-met-requires-clause-reached
meet_at_last-met-requires-clause-reached g c = ring_reached g.N.Naming.terrain g.N.Naming.root 1 0 _ c.requires.names.0 c.requires.names.1 c.held-key.ensures (omega arith)

pub meet_at_last-again-requires-clause-reached : goal.meet_at_last-again-requires-clause-reached
meet_at_last-again-requires-clause-reached g c = ring_reached g.N.Naming.terrain g.N.Naming.root 1 0 _ c.requires.names.0 c.requires.names.1 c.held-key-2.ensures (omega arith)

pub fill_back-requires-clause-ticket : goal.fill_back-requires-clause-ticket
fill_back-requires-clause-ticket g c =
    let ticket = c.in-Some.ticket in
    let rest = c.pop.new.self.items in
    let at = subst (λ l. IsAt l (length rest) ticket) (sym c.in-Some.ensures.items) (snoc_end rest ticket) in
    let number = c.meet_at_last-again.ensures.same ∙ c.meet_at_last-met.ensures.same ∙ c.look_up.ensures.same.0 ∙ c.start-shard.ensures.number ∙ ap (λ (x : View). number_or_0 x.keeper) c.args.start.fresh in
    ap ring_shard (c.meet_at_last-met.ensures.each (length rest) ticket at).0 ∙ ap (λ m. ring_shard (pos m ∷ [])) c.held-key.ensures ∙ sym number

pub fill_back-requires-2-clause-ticket : goal.fill_back-requires-2-clause-ticket
fill_back-requires-2-clause-ticket g c =
    let ticket = c.in-Some-pop.ticket in
    let first = c.pop.new.self.items in
    let rest = c.pop-2.new.self.items in
    let below = subst (λ l. IsAt l (length rest) ticket) (sym c.in-Some-pop.ensures.items) (snoc_end rest ticket) in
    let at = subst (λ l. IsAt l (length rest) ticket) (sym c.in-Some.ensures.items) (snoc_left first (length rest) c.in-Some.ticket ticket below) in
    let number = c.fill_back.ensures.same ∙ c.meet_at_last-again.ensures.same ∙ c.meet_at_last-met.ensures.same ∙ c.look_up.ensures.same.0 ∙ c.start-shard.ensures.number ∙ ap (λ (x : View). number_or_0 x.keeper) c.args.start.fresh in
    ap ring_shard (c.meet_at_last-met.ensures.each (length rest) ticket at).0 ∙ ap (λ m. ring_shard (pos m ∷ [])) c.held-key.ensures ∙ sym number
