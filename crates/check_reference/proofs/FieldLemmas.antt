-- The parts of a packet, in the form in which the plain program computes them.
use Rattle.ip_spec.proofs.Common.{rules, ◌≡◌, ◌≢◌, ℕ, ◌+◌, ◌-◌, ◌≤◌, length, map, take, drop, List, [], ◌∷◌, ◌++◌, refl, ap, ◌∙◌, arith, true, eqb_tells, ne_eqb, slice_index, length-take-le, Option, None, option_map, option_map_or, ExtHeader, bytes_of, is_empty, rest_after, IsNext, ◌==◌, ◌&&◌, not, nat_lt, if◌then◌else◌}
use Rattle.std.proofs.Common.{append-nil, length-drop}
use Rattle.ip_base.specs.LenError.{too_short}
use Rattle.ip_base.specs.declared.len_source.LenSource.TheVariants.{Slice, Ipv4HeaderTotalLen}
use Rattle.ip_base.specs.declared.err.layer.Layer.TheVariants.{Ipv4Packet}
use Rattle.ip_base.specs.Ipv4Header.{version, ipv4_header_len, total_len, protocol, ipv4_fragment_offset}
use Rattle.ip_base.specs.Ipv6Header.{ipv6_next_header}
use Rattle.ip_base.specs.declared.err.ip.slice_error.SliceError.TheVariants.{Len}
use Rattle.ip_ext_headers.specs.HeaderFault.{auth_in_packet}
use Rattle.ip_ext_slices.specs.ChainFault.{slice_fault}
use Rattle.ip_ext_slices.specs.Ipv4Fault.{ipv4_chain_fault}
use Rattle.ip_dissect.specs.LaterDemand.{has_later}
use Rattle.ip_dissect.specs.Later.{chain_to_later}
use Rattle.ip_dissect.specs.Fragment.{ipv4_fragment, ipv6_fragment}
use Rattle.ip_dissect.specs.Extent.{packet_bytes, after_base, missing_of, ipv4_stated, ipv6_stated, ipv4_chain_in, ipv4_chain, ipv6_chain}
use Rattle.ip_dissect.specs.End.{base_end, auth_end, exts_end, ipv4_end}
use Rattle.ip_dissect.specs.Dissection.{ipv4_dissected, ipv6_dissected, dissected}
use Rattle.ip_dissect.specs.declared.end.End.{End}
use Rattle.ip_dissect.specs.declared.end.End.TheVariants.{LaterFragment, Payload, Fault}
use Rattle.ip_dissect.specs.declared.fragment.Fragment.{Fragment}
use Rattle.check_reference.proofs.Exts4Lemmas.{one_header}
use Rattle.check_reference.specs.PlainHeader.{plain_header_of}
use Rattle.check_reference.specs.PlainDissection.{IsToLater, IsIpv4Chain, HasFieldsOf}
use Rattle.check_reference.specs.declared.chain.PlainHeader.{PlainHeader}
use Rattle.check_reference.specs.declared.chain.PlainChain.{PlainChain}

-- ---- the extension header of an IPv4 packet

pub ipv4_one : (b r : List ℕ) (k : ℕ) → k ≤ length r → IsNext true 51 r (record { number = 51; bytes = take k r }) → ipv4_fragment_offset b ≡ 0 → protocol b ≡ 51
    → (x : PlainChain) (header : PlainHeader) (old : List PlainHeader) → old ≡ [] → x.headers.items ≡ old ++ header ∷ [] → header.number ≡ 51 → header.bytes.now ≡ take k r → x.number ≡ slice_index header.bytes.now 0 → x.rest.now ≡ drop k r
    → IsIpv4Chain b r x
ipv4_one b r k enough next zero auth x header old none items number bytes leads rest =
    let h : ExtHeader = record { number = 51; bytes = take k r } in
    let c : List ExtHeader = h ∷ [] in
    let is : ipv4_chain_in b r ≡ c = rw (zero, auth) (one_header r k enough next) in
    let len : length (bytes_of c) ≡ k = ap length (append-nil (take k r)) ∙ length-take-le k r enough in
    let shown : plain_header_of header ≡ h = cc in
    record { headers = rw (items, none) (cc); number = cc; rest = cc; within = omega (arith, enough, len, ap (λ d. length (bytes_of d)) is) }

-- ---- the parts

-- Bytes s with the base header b, and what was found: the stated length t, the packet's bytes and those after b.
module _ (b s packet after : List ℕ) (t : Option ℕ) (whole : packet ≡ packet_bytes b t s) (left : after ≡ drop (length b) packet) (x : PlainChain) where
  after_is : (o : Option ℕ) → t ≡ o → after ≡ after_base b o s
  after_is o e = cc

  padding_is : (o : Option ℕ) → t ≡ o → length s - length packet ≡ length (drop (length (packet_bytes b o s)) s)
  padding_is o e = cc (length-drop (length (packet_bytes b o s)) s)

  module _ (stated : t ≡ ipv6_stated b) (is : IsToLater (ipv6_next_header b) after x) where
    chain6 : chain_to_later (ipv6_next_header b) after ≡ ipv6_chain b s
    chain6 = ap (chain_to_later (ipv6_next_header b)) (after_is (ipv6_stated b) stated)

    headers6 : map plain_header_of x.headers.items ≡ ipv6_chain b s
    headers6 = cc (is.headers, chain6)

    rest6 : x.rest.now ≡ rest_after (ipv6_chain b s) (after_base b (ipv6_stated b) s)
    rest6 = cc (is.rest, after_is (ipv6_stated b) stated)

    offset6 : length b ≡ 40 → length b + (length after - length x.rest.now) ≡ 40 + length (bytes_of (ipv6_chain b s))
    offset6 forty = omega (arith, forty, ap length is.rest, length-drop (length (bytes_of (chain_to_later (ipv6_next_header b) after))) after, is.within, ap (λ c. length (bytes_of c)) chain6)

    pub fields6 : length b ≡ 40 → (f : Option Fragment) → f ≡ ipv6_fragment (map plain_header_of x.headers.items) → (missing : ℕ) → missing ≡ missing_of t (length s) → (e : End)
        → e ≡ (if has_later (map plain_header_of x.headers.items) then LaterFragment else option_map_or (exts_end t x.rest.now) (slice_fault (length b + (length after - length x.rest.now)) (is_empty (map plain_header_of x.headers.items)) x.number x.rest.now) Payload)
        → HasFieldsOf (ipv6_dissected b s) (record { version = 6; base_len = length b; stated = t; headers = x.headers; number = x.number; payload_len = length x.rest.now; fragment = f; missing = missing; padding_len = length s - length packet; end = e })
    fields6 forty f fragment missing here e end = record {
      version = refl;
      base = refl;
      stated = stated;
      headers = headers6;
      number = cc (is.number, chain6);
      payload = ap length rest6;
      fragment = cc (headers6);
      missing = cc;
      padding = padding_is (ipv6_stated b) stated;
      end = rw (end, stated, headers6, offset6 forty, is.number, chain6, rest6) refl;
    }

  module _ (stated : t ≡ ipv4_stated b) (is : IsIpv4Chain b after x) where
    chain4 : ipv4_chain_in b after ≡ ipv4_chain b s
    chain4 = ap (ipv4_chain_in b) (after_is (ipv4_stated b) stated)

    pub end4 : (e : End) → e ≡ (if not (total_len b == 0) && nat_lt (total_len b) (length b) then Fault (Len (too_short Ipv4HeaderTotalLen (total_len b) 0 Ipv4Packet (length b))) None else if not (ipv4_fragment_offset b == 0) then LaterFragment else option_map_or (auth_end t after) (option_map (auth_in_packet Slice (length b)) (ipv4_chain_fault (protocol b) after)) Payload) → e ≡ ipv4_end b s
    end4 e end =
        let after : after ≡ after_base b (ipv4_stated b) s = after_is (ipv4_stated b) stated in
        rw (end, stated, after) (search (rules, eqb_tells (ipv4_fragment_offset b) 0))

    pub fields4 : (f : Option Fragment) → f ≡ ipv4_fragment b → (missing : ℕ) → missing ≡ missing_of t (length s) → (e : End) → e ≡ ipv4_end b s
        → HasFieldsOf (ipv4_dissected b s) (record { version = 4; base_len = length b; stated = t; headers = x.headers; number = x.number; payload_len = length x.rest.now; fragment = f; missing = missing; padding_len = length s - length packet; end = e })
    fields4 f fragment missing here e end = record {
      version = refl;
      base = refl;
      stated = stated;
      headers = cc (is.headers, chain4);
      number = cc (is.number, chain4);
      payload = cc (is.rest, after_is (ipv4_stated b) stated);
      fragment = fragment;
      missing = cc;
      padding = padding_is (ipv4_stated b) stated;
      end = end;
    }

-- ---- which base header the bytes start with

pub dissected4 : (s : List ℕ) → base_end s ≡ None → version s ≡ 4 → dissected s ≡ ipv4_dissected (take (ipv4_header_len s) s) s
unfolding dissected
dissected4 s none four = cc

pub dissected6 : (s : List ℕ) → base_end s ≡ None → version s ≢ 4 → dissected s ≡ ipv6_dissected (take 40 s) s
unfolding dissected
dissected6 s none other = cc (ne_eqb (version s) 4 other)
