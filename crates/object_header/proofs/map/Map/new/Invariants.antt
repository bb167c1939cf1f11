-- The statics so far have their places, and the next one begins behind them.
use Rattle.std.proofs.Common.{◌≡◌, ℕ, ◌+◌, ◌*◌, ◌<◌, take, sum_by, get_or, vec_len}
use Rattle.object_header.specs.WordMap.{static_size}
use Rattle.object_header.proofs.map.Map.new.Given as goal

abbrev pub invariant-loop-size : goal.invariant-loop-size
invariant-loop-size l = record {
  next : l.next ≡ 8 + 6 * l.slots + l.out_words + sum_by static_size (take l.size-index l.statics);
  as_many : vec_len l.places ≡ l.size-index;
  places : (index : ℕ) → index < l.size-index → get_or l.places.items index 0 ≡ 8 + 6 * l.slots + l.out_words + sum_by static_size (take index l.statics) + 5;
}
