-- What a pass over the bytes after an IPv6 base header finds.
use Rattle.ip_spec.proofs.Common.{◌≡◌, ℕ, ◌+◌, ◌-◌, List, length, drop, ap, ◌∙◌, arith, nat_eq, rules, eqb_tells, Option, option_map_or, if◌then◌else◌, AllByRecursion, IsHeader, ExtHeader, bytes_of, leads_to, is_empty, rest_after, IsPrefixChain}
use Rattle.ip_spec.proofs.PrefixLemmas.{prefix-length}
use Rattle.ip_spec.proofs.ChainLemmas.{bytes_of-least}
use Rattle.ip_base.specs.Ipv6Header.{ipv6_next_header}
use Rattle.ip_ext_slices.specs.ChainFault.{slice_fault}
use Rattle.ip_dissect.specs.Later.{chain_to_later}
use Rattle.ip_dissect.specs.Fragment.{ipv6_fragment}
use Rattle.ip_dissect.specs.Found.{found_in}
use Rattle.ip_dissect.specs.Extent.{packet_bytes, after_base, ipv6_stated, ipv6_chain}
use Rattle.ip_dissect.specs.End.{exts_end, ipv6_end}
use Rattle.ip_dissect.specs.declared.fragment.Fragment.{Fragment}
use Rattle.ip_dissect.specs.declared.walk.Found.{Found}
use Rattle.ip_dissect.specs.declared.end.End.{End}
use Rattle.ip_dissect.specs.declared.end.End.TheVariants.{LaterFragment, Payload}
use Rattle.ip_dissect.proofs.LaterLemmas.{chain_to_later-longest}

pub empty_is : (c : List ExtHeader) (k : ℕ) → AllByRecursion (λ h. IsHeader h.number h.bytes) c → k ≡ length (bytes_of c) → nat_eq k 0 ≡ is_empty c
empty_is c k a e = search (rules, nat_eq, eqb_tells, bytes_of-least)

-- A chain c from n at the start of x, and r after it.
module _ (n : ℕ) (x : List ℕ) (c : List ExtHeader) (p : IsPrefixChain n x c) (r : List ℕ) (rest : r ≡ rest_after c x) where
  pub chain_len : length x - length r ≡ length (bytes_of c)
  chain_len = omega (arith, prefix-length (bytes_of c) x p.prefix, ap length rest)

  pub chain_none : nat_eq (length x - length r) 0 ≡ is_empty c
  chain_none = empty_is c (length x - length r) p.chain.headers chain_len

pub ipv6_fragment_is : (b x s : List ℕ) (n : ℕ) (found : Found) (f : Option Fragment) → x ≡ after_base b (ipv6_stated b) s → n ≡ ipv6_next_header b → found ≡ found_in (chain_to_later n x)
    → f ≡ found.fragment → f ≡ ipv6_fragment (ipv6_chain b s)
ipv6_fragment_is b x s n found f xs ns said is = cc (is, ap (λ (g : Found). g.fragment) said)

-- what follows the base header, by the stated length
pub after_is : (b s : List ℕ) (t u : Option ℕ) (packet x : List ℕ) → t ≡ u → packet ≡ packet_bytes b t s → x ≡ drop (length b) packet → x ≡ after_base b u s
after_is b s t u packet x stated bytes after = after ∙ ap (drop (length b)) (bytes ∙ ap (λ v. packet_bytes b v s) stated)

pub ipv6_end_is : (b x s : List ℕ) (t : Option ℕ) (n m : ℕ) (r : List ℕ) (found : Found) (end : End) → x ≡ after_base b (ipv6_stated b) s → t ≡ ipv6_stated b → n ≡ ipv6_next_header b
    → m ≡ leads_to n (chain_to_later n x) → r ≡ rest_after (chain_to_later n x) x → found ≡ found_in (chain_to_later n x)
    → end ≡ (if found.later then LaterFragment else option_map_or (exts_end t r) (slice_fault (40 + (length x - length r)) (nat_eq (length x - length r) 0) m r) Payload)
    → end ≡ ipv6_end b s
ipv6_end_is b x s t n m r found end xs stated ns number rest said is = search (rules, chain_to_later-longest, chain_none, chain_len)
