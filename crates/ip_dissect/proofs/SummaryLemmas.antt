-- The summary of a packet, from that of the bytes after its base header.
use Rattle.ip_spec.proofs.Common.{◌≡◌, ℕ, ◌+◌, ◌-◌, List, [], length, drop, subst, refl, sym, ap, ◌∙◌, rules, nat_eq, Bool, true, Option, None, is_some, IsSome, option_map, option_map_or, if◌then◌else◌, ◌==◌, ◌&&◌, ◌||◌, not, length-drop, ExtHeader, bytes_of, is_empty, leads_to, rest_after, fault_after, IsPrefixChain}
use Rattle.ip_base.specs.declared.ip_number_impl.IpNumber.{IpNumber}
use Rattle.ip_base.specs.Ipv4Header.{protocol, ipv4_fragment_offset}
use Rattle.ip_base.specs.Ipv6Header.{ipv6_next_header}
use Rattle.ip_base.specs.declared.len_source.LenSource.TheVariants.{Slice}
use Rattle.ip_base.specs.declared.err.ip.slice_error.SliceError.{SliceError}
use Rattle.ip_ext_slices.specs.ChainFault.{Fault, slice_fault}
use Rattle.ip_ext_slices.specs.Ipv4Fault.{ipv4_faults}
use Rattle.ip_ext_headers.specs.declared.err.ip_auth.header_slice_error.HeaderSliceError.{HeaderSliceError as AuthError}
use Rattle.ip_ext_headers.specs.HeaderFault.{auth_in_packet}
use Rattle.ip_dissect.specs.Later.{chain_to_later}
use Rattle.ip_dissect.specs.LaterDemand.{has_later}
use Rattle.ip_dissect.specs.Fragment.{ipv4_fragment, ipv6_fragment}
use Rattle.ip_dissect.specs.Found.{found_in}
use Rattle.ip_dissect.specs.Extent.{packet_bytes, after_base, missing_of, ipv4_stated, ipv6_stated, ipv4_chain, ipv4_chain_in, ipv6_chain}
use Rattle.ip_dissect.specs.End.{has_error, auth_end, exts_end, is_too_short, ipv4_end, ipv6_end}
use Rattle.ip_dissect.specs.Dissection.{with_base, ipv4_dissected, ipv6_dissected}
use Rattle.ip_dissect.specs.Summary.{summary_of, plain_summary, is_later_end}
use Rattle.ip_dissect.specs.declared.fragment.Fragment.{Fragment}
use Rattle.ip_dissect.specs.declared.summary.Summary.{Summary}
use Rattle.ip_dissect.specs.declared.walk.Found.{Found}
use Rattle.ip_dissect.specs.declared.end.End.{End}
use Rattle.ip_dissect.specs.declared.end.End.TheVariants.{LaterFragment, Payload, Fault as fault_end}
use Rattle.ip_dissect.proofs.LaterLemmas.{chain_to_later-longest}
use Rattle.ip_dissect.proofs.Ipv4Lemmas.{ipv4_prefix}
use Rattle.ip_dissect.proofs.PartsLemmas.{empty_is, chain_len, ipv6_fragment_is, ipv6_end_is}

same_summary : (o : Summary) (v b : ℕ) (t : Option ℕ) (k c n l : ℕ) (f : Option Fragment) (m p : ℕ) (later error : Bool) → o.version ≡ v → o.base_len ≡ b → o.stated_len ≡ t → o.extensions_len ≡ k → o.header_count ≡ c → o.next_header.0 ≡ n
    → o.payload_len ≡ l → o.fragment ≡ f → o.missing ≡ m → o.padding_len ≡ p → o.is_later_fragment ≡ later → o.has_error ≡ error
    → o ≡ record { version = v; base_len = b; stated_len = t; extensions_len = k; header_count = c; next_header = record { 0 = n }; payload_len = l; fragment = f; missing = m; padding_len = p; is_later_fragment = later; has_error = error }
same_summary o v b t k c n l f m p later error vs bs ts ks cs ns ls fs ms ps laters errors = rw (← vs, ← bs, ← ts, ← ks, ← cs, ← ns, ← ls, ← fs, ← ms, ← ps, ← laters, ← errors) refl

-- The summary o of bytes s with the base header b, read as y, of version v, which states u, read as t. Of the packet's
-- bytes x after it, c are the headers, from n, and r the rest. The packet is the fragment f and ends at e.
module _ (v : ℕ) (b s y : List ℕ) (same : y ≡ b) (t u : Option ℕ) (stated : t ≡ u) (packet x r : List ℕ) (front : packet ≡ packet_bytes y t s) (left : x ≡ drop (length y) packet) where
  whole : packet ≡ packet_bytes b u s
  whole = front ∙ ap (λ z. packet_bytes z t s) same ∙ ap (λ w. packet_bytes b w s) stated

  pub after_base_is : x ≡ after_base b u s
  after_base_is = left ∙ ap (λ (z : List ℕ). drop (length z) packet) same ∙ ap (drop (length b)) whole

  pub with_base_summarized : (n : ℕ) (c : List ExtHeader) (f : Option Fragment) (e : End) (p : IsPrefixChain n x c) (rest : r ≡ rest_after c x) (o : Summary) → o.version ≡ v → o.base_len ≡ length y → o.stated_len ≡ t
      → o.extensions_len ≡ length x - length r → o.header_count ≡ length c → o.next_header.0 ≡ leads_to n c → o.payload_len ≡ length r → o.fragment ≡ f → o.missing ≡ missing_of t (length s) → o.padding_len ≡ length s - length packet
      → o.is_later_fragment ≡ is_later_end e → o.has_error ≡ has_error e → o ≡ summary_of (with_base v b s u n c f e)
  with_base_summarized n c f e p rest o version base is extensions count number payload fragment missing padding later error =
      same_summary o _ _ _ _ _ _ _ _ _ _ _ _ version (base ∙ ap length same) (is ∙ stated) (extensions ∙ chain_len n x c p r rest) count number (payload ∙ ap length rest ∙ ap (λ z. length (rest_after c z)) after_base_is) fragment
      (missing ∙ ap (λ w. missing_of w (length s)) stated) (padding ∙ sym (length-drop (length packet) s) ∙ ap (λ (z : List ℕ). length (drop (length z) s)) whole) later error

-- the end after an IPv6 chain, by whether there is an error
abbrev pub end_after : Bool → Option ℕ → List ℕ → Option Fault → End
end_after later t r o = if later then LaterFragment else option_map_or (exts_end t r) o Payload

exts_end_fails : (t : Option ℕ) (r : List ℕ) (f : Fault) → has_error (exts_end t r f) ≡ true
exts_end_fails t r f = search rules

later_after : (later : Bool) (t : Option ℕ) (r : List ℕ) (o : Option Fault) → later ≡ is_later_end (end_after later t r o)
later_after later t r o = search rules

error_after : (later : Bool) (t : Option ℕ) (r : List ℕ) (o : Option Fault) → (not later && is_some o) ≡ has_error (end_after later t r o)
error_after later t r o = search (rules, exts_end_fails t r)

pub end_with : (later : Bool) (t : Option ℕ) (r : List ℕ) (o : Option Fault) → (not later && is_some o) ≡ true → has_error (end_after later t r o) ≡ true
end_with later t r o e = sym (error_after later t r o) ∙ e

-- A pass over the bytes x after an IPv6 base header b, read as y: the number m, the bytes r, and what it found.
module _ (b s y : List ℕ) (same : y ≡ b) (t : Option ℕ) (stated : t ≡ ipv6_stated b) (packet x r : List ℕ) (front : packet ≡ packet_bytes y t s) (left : x ≡ drop (length y) packet) (n m : ℕ) (ns : n ≡ ipv6_next_header b)
    (found : Found) (number : m ≡ leads_to n (chain_to_later n x)) (rest : r ≡ rest_after (chain_to_later n x) x) (said : found ≡ found_in (chain_to_later n x)) where
  abbrev xs : x ≡ after_base b (ipv6_stated b) s
  xs = after_base_is 6 b s y same t (ipv6_stated b) stated packet x r front left

  the_end : end_after found.later t r (slice_fault (40 + (length x - length r)) (nat_eq (length x - length r) 0) m r) ≡ ipv6_end b s
  the_end = ipv6_end_is b x s t n m r found _ xs stated ns number rest said refl

  pub ipv6_summarized : (o : Summary) → o.version ≡ 6 → o.base_len ≡ length y → o.stated_len ≡ t → o.extensions_len ≡ length x - length r → o.header_count ≡ found.count → o.next_header.0 ≡ m → o.payload_len ≡ length r
      → o.fragment ≡ found.fragment → o.missing ≡ missing_of t (length s) → o.padding_len ≡ length s - length packet → o.is_later_fragment ≡ found.later
      → o.has_error ≡ (not found.later && is_some (slice_fault (40 + (length x - length r)) (nat_eq (length x - length r) 0) m r)) → o ≡ summary_of (ipv6_dissected b s)
  ipv6_summarized o version base is extensions count next payload fragment missing padding later error =
      let P : ℕ → List ℕ → Type 0 = λ k z. o ≡ summary_of (with_base 6 b s (ipv6_stated b) k (chain_to_later k z) (ipv6_fragment (ipv6_chain b s)) (ipv6_end b s)) in
      let made : P n x =
      with_base_summarized 6 b s y same t (ipv6_stated b) stated packet x r front left n (chain_to_later n x) _ _ (chain_to_later-longest n x).has.0 rest o version base is extensions (count ∙ ap (λ (f : Found). f.count) said) (next ∙ number)
      payload (ipv6_fragment_is b x s n found o.fragment xs ns said fragment) missing padding (later ∙ later_after found.later t r _ ∙ ap is_later_end the_end) (error ∙ error_after found.later t r _ ∙ ap has_error the_end)
      in
      subst (λ k. P k (after_base b (ipv6_stated b) s)) ns (subst (P n) xs made)

-- the end after an IPv4 base header, by whether its total length is too small and its offset 0
abbrev end4 : Bool → Bool → SliceError → Option ℕ → List ℕ → ℕ → Option AuthError → End
end4 short zero e t x k o = if short then fault_end e None else if not zero then LaterFragment else option_map_or (auth_end t x) (option_map (auth_in_packet Slice k) o) Payload

pub auth_end_fails : (t : Option ℕ) (x : List ℕ) (e : AuthError) → has_error (auth_end t x e) ≡ true
auth_end_fails t x e = search rules

later4 : (short zero : Bool) (e : SliceError) (t : Option ℕ) (x : List ℕ) (k : ℕ) (o : Option AuthError) → (not short && not zero) ≡ is_later_end (end4 short zero e t x k o)
later4 short zero e t x k o = search rules

error4 : (short zero : Bool) (e : SliceError) (t : Option ℕ) (x : List ℕ) (k : ℕ) (o : Option AuthError) → (short || (zero && is_some o)) ≡ has_error (end4 short zero e t x k o)
error4 short zero e t x k o = search (rules, auth_end_fails t x)

-- The headers after an IPv4 base header b, read as y: their number, what they lead to, and whether an error follows.
module _ (b s y : List ℕ) (same : y ≡ b) (t : Option ℕ) (stated : t ≡ ipv4_stated b) (packet x r : List ℕ) (front : packet ≡ packet_bytes y t s) (left : x ≡ drop (length y) packet) where
  abbrev xs4 : x ≡ after_base b (ipv4_stated b) s
  xs4 = after_base_is 4 b s y same t (ipv4_stated b) stated packet x r front left

  pub ipv4_summarized : (rest : r ≡ rest_after (ipv4_chain_in b x) x) (short later error : Bool) → short ≡ is_too_short b → later ≡ not (ipv4_fragment_offset b == 0)
      → error ≡ ((ipv4_fragment_offset b == 0) && is_some (fault_after (ipv4_faults Slice) (ipv4_chain_in b x) (protocol b) x))
      → (o : Summary) → o.version ≡ 4 → o.base_len ≡ length y → o.stated_len ≡ t → o.extensions_len ≡ length x - length r → o.header_count ≡ length (ipv4_chain_in b x) → o.next_header.0 ≡ leads_to (protocol b) (ipv4_chain_in b x)
      → o.payload_len ≡ length r → o.fragment ≡ ipv4_fragment b → o.missing ≡ missing_of t (length s) → o.padding_len ≡ length s - length packet → o.is_later_fragment ≡ (not short && later) → o.has_error ≡ (short || error)
      → o ≡ summary_of (ipv4_dissected b s)
  ipv4_summarized rest short later error shorts laters errors o version base is extensions count next payload fragment missing padding later_is error_is =
      let P : List ℕ → Type 0 = λ z. o ≡ summary_of (with_base 4 b s (ipv4_stated b) (protocol b) (ipv4_chain_in b z) (ipv4_fragment b) (ipv4_end b s)) in
      let Q : List ℕ → Type 0 = λ z. error ≡ ((ipv4_fragment_offset b == 0) && is_some (fault_after (ipv4_faults Slice) (ipv4_chain_in b z) (protocol b) z)) in
      let there : Q (after_base b (ipv4_stated b) s) = subst Q xs4 errors in
      let made : P x =
      with_base_summarized 4 b s y same t (ipv4_stated b) stated packet x r front left (protocol b) (ipv4_chain_in b x) _ _ (ipv4_prefix b x) rest o version base is extensions count next payload fragment missing padding
      (later_is ∙ rw (shorts, laters) (later4 _ (ipv4_fragment_offset b == 0) _ (ipv4_stated b) (after_base b (ipv4_stated b) s) (length b) (fault_after (ipv4_faults Slice) (ipv4_chain b s) (protocol b) (after_base b (ipv4_stated b) s)))) (error_is ∙ rw (shorts, there) (error4 _ (ipv4_fragment_offset b == 0) _ (ipv4_stated b) (after_base b (ipv4_stated b) s) (length b) (fault_after (ipv4_faults Slice) (ipv4_chain b s) (protocol b) (after_base b (ipv4_stated b) s))))
      in
      subst P xs4 made

-- a packet without headers, fragment and error
pub plain_summarized : (v : ℕ) (b s : List ℕ) (t : Option ℕ) (n : ℕ) (number : IpNumber) (c : List ExtHeader) (f : Option Fragment) (e : End) → number.0 ≡ n → c ≡ [] → f ≡ None → e ≡ Payload → plain_summary v b t number s ≡ summary_of (with_base v b s t n c f e)
plain_summarized v b s t n number c f e same none whole ends = rw (none, whole, ends, ← same) refl

-- the error where an IPv6 walk stopped
not_later : (later : Bool) (e : End) → has_error (if later then LaterFragment else e) ≡ true → e ≡ (if later then LaterFragment else e)
not_later later e wrong = search rules

there_is : (later : Bool) (t : Option ℕ) (r : List ℕ) (o : Option Fault) → has_error (end_after later t r o) ≡ true → IsSome o
there_is later t r o wrong = search rules

module _ (b s : List ℕ) (o : Summary) (r : List ℕ) (is : o ≡ summary_of (ipv6_dissected b s)) (rest : r ≡ (ipv6_dissected b s).payload) (wrong : has_error (ipv6_end b s) ≡ true) where
  none : (length (bytes_of (ipv6_chain b s)) == 0) ≡ is_empty (ipv6_chain b s)
  none = empty_is (ipv6_chain b s) _ (chain_to_later-longest _ _).has.0.chain.headers refl

  pub ipv6_error_there : IsSome (slice_fault (40 + o.extensions_len) (o.extensions_len == 0) o.next_header.0 r)
  ipv6_error_there = rw (is, rest, none) (there_is (has_later (ipv6_chain b s)) (ipv6_stated b) _ _ wrong)

  pub ipv6_error_is : (e : End) → e ≡ option_map_or (exts_end o.stated_len r) (slice_fault (40 + o.extensions_len) (o.extensions_len == 0) o.next_header.0 r) Payload → e ≡ ipv6_end b s
  ipv6_error_is e made = made ∙ rw (is, rest, none) (not_later (has_later (ipv6_chain b s)) _ wrong)
