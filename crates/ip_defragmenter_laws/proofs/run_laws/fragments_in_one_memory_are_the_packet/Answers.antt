use Rattle.std.proofs.Common.{ℕ, ◌%◌, ◌≤◌, List, [], ◌∷◌, drop, arith, length-drop}
use Rattle.ip_base.specs.BaseHeaderFields.{ipv4_ecn, ipv6_traffic_class}
use Rattle.ip_reassembly.specs.Fragment.{Fragment}
use Rattle.ip_reassembly.specs.Split.{IsSplit}
use Rattle.ip_defragmenter.specs.Sent.{IsSentIpv4, IsSentIpv6}
use Rattle.ip_defragmenter_laws.specs.Arrived.{Arrived, AreArrived}
use Rattle.ip_defragmenter_laws.specs.Ipv4.{IsIpv4Fragment, ipv4_key, ipv4_payload}
use Rattle.ip_defragmenter_laws.specs.Ipv6.{IsIpv6Fragment, ipv6_key}
use Rattle.ip_defragmenter_laws.proofs.ArrivedLemmas.{arrived_packet}
use Rattle.ip_defragmenter_laws.proofs.Ipv4Lemmas.{payload4, read_ipv4, short4}
use Rattle.ip_defragmenter_laws.proofs.Ipv6Lemmas.{read_ipv6, short6}
use Rattle.ip_defragmenter_laws.proofs.RunLemmas.{IsReadAs}
use Rattle.ip_defragmenter_laws.proofs.run_laws.fragments_in_one_memory_are_the_packet.Goals as goal

arrived4 : (s : List ℕ) (pieces : List Fragment) (xs : List Arrived) → IsSentIpv4 s → IsSplit (ipv4_payload s) pieces → AreArrived (IsIpv4Fragment s) pieces xs
    → AreArrived (IsReadAs (ipv4_key s) (ipv4_ecn s) (ipv4_payload s) s) pieces xs
arrived4 s pieces [] sent split are = tt
arrived4 s pieces (x ∷ xs) sent split are = (are.0, read_ipv4 s pieces x.piece x.bytes sent split are.0 are.1, are.2, arrived4 s pieces xs sent split are.3)

arrived6 : (s : List ℕ) (n link id : ℕ) (pieces : List Fragment) (xs : List Arrived) → IsSentIpv6 s n link → n ≤ 4096 → IsSplit (drop n s) pieces → AreArrived (IsIpv6Fragment s n link id) pieces xs
    → AreArrived (IsReadAs (ipv6_key s id) (ipv6_traffic_class s % 4) (drop n s) s) pieces xs
arrived6 s n link id pieces [] sent few split are = tt
arrived6 s n link id pieces (x ∷ xs) sent few split are = (are.0, read_ipv6 s n link id pieces x.piece x.bytes sent few split are.0 are.1, are.2, arrived6 s n link id pieces xs sent few split are.3)

pub returns : goal.returns
returns c = record {
  ipv4 = λ s pieces arrived m sent split are every stored.
      arrived_packet (ipv4_key s) (ipv4_ecn s) (ipv4_payload s) s pieces arrived m split (let e = payload4 s sent in omega (arith, e, short4 s sent)) (arrived4 s pieces arrived sent split are) every stored;
  ipv6 = λ s n link id pieces arrived m sent few split are every stored.
      arrived_packet (ipv6_key s id) (ipv6_traffic_class s % 4) (drop n s) s pieces arrived m split
      (let e = length-drop n s in omega (arith, e, short6 s n link sent, sent.base, sent.within)) (arrived6 s n link id pieces arrived sent few split are) every stored;
}
