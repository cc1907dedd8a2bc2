use Rattle.ip_spec.proofs.Common.{◌≡◌, ◌+◌, length}
use Rattle.ip_ext_slices.specs.Longest.{longest_chain}
use Rattle.ip_ext_slices.specs.Ipv6ExtensionsCursor.{start, input, headers_left}
use Rattle.check_uses.proofs.chains.count_and_payload.Given as goal

abbrev pub invariant-headers : goal.invariant-headers
invariant-headers l = record {
  start : start l.headers ≡ l.fn.start.0;
  input : input l.headers ≡ l.fn.packet;
  counted : l.count + length (headers_left l.headers) ≡ length (longest_chain l.fn.start.0 l.fn.packet);
}
