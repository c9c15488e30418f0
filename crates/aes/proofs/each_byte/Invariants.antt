use Rattle.std.proofs.Common.{get_or, length, ℕ, ◌<◌, ◌≡◌}
use Rattle.aes.proofs.each_byte.Given as goal

abbrev pub invariant-loop-i : goal.invariant-loop-i
invariant-loop-i g l = record {
  long : length l.bytes ≡ 16;
  met : (k : ℕ) → k < l.i → goal.F-post g l.f (get_or l.a.bytes k 0) (get_or l.b.bytes k 0) (get_or l.bytes k 0);
}
