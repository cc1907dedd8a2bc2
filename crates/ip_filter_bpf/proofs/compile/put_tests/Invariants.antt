use Rattle.std.proofs.Common.{◌≡◌, ℕ, ◌+◌, ◌-◌, ◌*◌, ◌<◌, ◌≤◌, true, List, length, get_or}
use Rattle.ip_bpf.specs.Assembly.{Extends}
use Rattle.ip_dissect.specs.Dissection.{dissected}
use Rattle.ip_filter_bpf.specs.Blocks.{Returns, NeedsNothing, HasBytes}
use Rattle.ip_filter_bpf.specs.Compiled.{number_of, room_of, returned, passes_from}
use Rattle.ip_filter_bpf.proofs.compile.put_tests.Given as goal

-- the tests from the index on are put, and their labels stored
abbrev pub invariant-tests : goal.invariant-tests
invariant-tests l = record {
  most : l.index ≤ length l.tests;
  front : Extends l.code l.initial.code;
  len : length l.code ≤ length l.initial.code + 2 * room_of l.version * (length l.tests - l.index);
  size : length l.labels ≡ 64;
  some : (j : ℕ) → j < 64 → 0 < get_or l.labels j 0;
  there : (j : ℕ) → j < 64 → get_or l.labels j 0 ≤ length l.code;
  words : NeedsNothing l.initial.code 1 → NeedsNothing l.initial.code 2 → (j : ℕ) → j < 64 → NeedsNothing l.code (get_or l.labels j 0);
  leads : (packet : List ℕ) → (dissected packet).version ≡ number_of l.version → HasBytes packet → Returns l.initial.code 1 packet 0 → Returns l.initial.code 2 packet (returned true) → (j : ℕ) → l.index ≤ j → j < 64 → Returns l.code (get_or l.labels j 0) packet (returned (passes_from l.undecided l.tests j j packet));
}

abbrev pub decreases-tests : goal.decreases-tests
decreases-tests l = l.index
