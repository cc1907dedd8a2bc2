use Rattle.std.proofs.Common.{ℕ, ◌≤◌, List, [], ◌∷◌, drop, ◌%◌, arith, length-drop, Option, Some, None}
use Rattle.ip_base.specs.BaseHeaderFields.{ipv4_ecn, ipv6_traffic_class}
use Rattle.ip_reassembly.specs.Fragment.{Fragment}
use Rattle.ip_reassembly.specs.Split.{IsSplit}
use Rattle.ip_defragmenter.specs.Sent.{IsSentIpv4, IsSentIpv6}
use Rattle.ip_defragmenter_laws.specs.Ipv4.{IsIpv4Fragment, ipv4_key, ipv4_payload}
use Rattle.ip_defragmenter_laws.specs.Ipv6.{IsIpv6Fragment, ipv6_key}
use Rattle.ip_defragmenter_laws.specs.Run.{Adds, AreCalls, Call, Clears, GivesUp, IsCallBy, Step}
use Rattle.ip_defragmenter_laws.proofs.Ipv4Lemmas.{is_key4, payload4, read_ipv4, short4}
use Rattle.ip_defragmenter_laws.proofs.Ipv6Lemmas.{is_key6, read_ipv6, short6}
use Rattle.ip_defragmenter_laws.proofs.RunLemmas.{IsReadAs, made_whole, still_wanted}
use Rattle.ip_defragmenter_laws.proofs.run_laws.fragments_make_the_packet_that_was_sent.Goals as goal

by_piece4 : (s : List ℕ) (pieces : List Fragment) (context : ℕ) (o : Option Fragment) (x : Call) → IsSentIpv4 s → IsSplit (ipv4_payload s) pieces → IsCallBy (IsIpv4Fragment s) pieces context (ipv4_key s) o x
    → IsCallBy (IsReadAs (ipv4_key s) (ipv4_ecn s) (ipv4_payload s) s) pieces context (ipv4_key s) o x
by_piece4 s pieces context None x sent split by = by
by_piece4 s pieces context (Some p) x sent split by = (by.0, by.1, read_ipv4 s pieces p x.bytes sent split by.1 by.2)

calls4 : (s : List ℕ) (pieces : List Fragment) (context : ℕ) (xs : List Step) → IsSentIpv4 s → IsSplit (ipv4_payload s) pieces → AreCalls (IsIpv4Fragment s) pieces context (ipv4_key s) xs
    → AreCalls (IsReadAs (ipv4_key s) (ipv4_ecn s) (ipv4_payload s) s) pieces context (ipv4_key s) xs
calls4 s pieces context [] sent split calls = tt
calls4 s pieces context (Adds x ∷ xs) sent split calls = (by_piece4 s pieces context x.piece x sent split calls.0, calls4 s pieces context xs sent split calls.1)
calls4 s pieces context (GivesUp x ∷ xs) sent split calls = calls4 s pieces context xs sent split calls
calls4 s pieces context (Clears ∷ xs) sent split calls = tt

by_piece6 : (s : List ℕ) (n link id : ℕ) (pieces : List Fragment) (context : ℕ) (o : Option Fragment) (x : Call) → IsSentIpv6 s n link → n ≤ 4096 → IsSplit (drop n s) pieces
    → IsCallBy (IsIpv6Fragment s n link id) pieces context (ipv6_key s id) o x → IsCallBy (IsReadAs (ipv6_key s id) (ipv6_traffic_class s % 4) (drop n s) s) pieces context (ipv6_key s id) o x
by_piece6 s n link id pieces context None x sent few split by = by
by_piece6 s n link id pieces context (Some p) x sent few split by = (by.0, by.1, read_ipv6 s n link id pieces p x.bytes sent few split by.1 by.2)

calls6 : (s : List ℕ) (n link id : ℕ) (pieces : List Fragment) (context : ℕ) (xs : List Step) → IsSentIpv6 s n link → n ≤ 4096 → IsSplit (drop n s) pieces
    → AreCalls (IsIpv6Fragment s n link id) pieces context (ipv6_key s id) xs → AreCalls (IsReadAs (ipv6_key s id) (ipv6_traffic_class s % 4) (drop n s) s) pieces context (ipv6_key s id) xs
calls6 s n link id pieces context [] sent few split calls = tt
calls6 s n link id pieces context (Adds x ∷ xs) sent few split calls =
    (by_piece6 s n link id pieces context x.piece x sent few split calls.0, calls6 s n link id pieces context xs sent few split calls.1)
calls6 s n link id pieces context (GivesUp x ∷ xs) sent few split calls = calls6 s n link id pieces context xs sent few split calls
calls6 s n link id pieces context (Clears ∷ xs) sent few split calls = tt

pub returns : goal.returns
returns c = record {
  ipv4 = λ s pieces settings context start end last calls sent split cleared run are kept before all.
      made_whole settings context (ipv4_key s) (is_key4 s sent) (ipv4_ecn s) (ipv4_payload s) s pieces split (let e = payload4 s sent in omega (arith, e, short4 s sent))
      start last calls end cleared run (calls4 s pieces context (Adds last ∷ calls) sent split are) kept before all;
  ipv6 = λ s n link id pieces settings context start end last calls sent few split cleared run are kept before all.
      made_whole settings context (ipv6_key s id) (is_key6 s n link id sent) (ipv6_traffic_class s % 4) (drop n s) s pieces split
      (let e = length-drop n s in omega (arith, e, short6 s n link sent, sent.base, sent.within))
      start last calls end cleared run (calls6 s n link id pieces context (Adds last ∷ calls) sent few split are) kept before all;
  ipv4_wanted = λ s pieces p settings context start end last calls sent split fresh run are kept has before.
      still_wanted settings context (ipv4_key s) (is_key4 s sent) (ipv4_ecn s) (ipv4_payload s) s pieces split (let e = payload4 s sent in omega (arith, e, short4 s sent))
      start last calls end p fresh run (calls4 s pieces context (Adds last ∷ calls) sent split are) kept has before;
  ipv6_wanted = λ s n link id pieces p settings context start end last calls sent few split fresh run are kept has before.
      still_wanted settings context (ipv6_key s id) (is_key6 s n link id sent) (ipv6_traffic_class s % 4) (drop n s) s pieces split
      (let e = length-drop n s in omega (arith, e, short6 s n link sent, sent.base, sent.within))
      start last calls end p fresh run (calls6 s n link id pieces context (Adds last ∷ calls) sent few split are) kept has before;
}
