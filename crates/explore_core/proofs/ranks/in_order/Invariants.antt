use Rattle.std.proofs.Common.{◌≡◌, ◌<◌, ◌≤◌, ℕ, map, Some, vec_len}
use Rattle.terrain.specs.Places.{IsAt}
use Rattle.explore_core.proofs.ranks.in_order.Given as goal

abbrev pub invariant-loop-item : goal.invariant-loop-item
invariant-loop-item g l = l.left.items ≡ map (λ x. Some x) l.yielded

abbrev pub invariant-loop-place : goal.invariant-loop-place
invariant-loop-place g l = record {
  len : vec_len l.left ≡ vec_len l.fn.items;
  out : vec_len l.ordered ≡ l.place-index;
  kept : (i a : ℕ) (x : _) → l.place-index ≤ i → IsAt l.places i a → IsAt l.fn.items.items a x → IsAt l.left.items a (Some x);
  done : (i a : ℕ) (x : _) → i < l.place-index → IsAt l.places i a → IsAt l.fn.items.items a x → IsAt l.ordered.items i x;
}
