-- A packet that is written with other headers, or with another payload, dissects as the old one with this change.
use Rattle.ip_spec.proofs.Common.{◌≡◌, ℕ, ◌+◌, ◌≤◌, ◌<◌, ◌⊎◌, inl, inr, List, [], ◌∷◌, ◌++◌, length, take, drop, slice_set, slice_index, length-set, length-append, take-append_seam, subst, refl, sym, ◌∙◌, ap, arith, rules, common_steps, Bool, true, false, false≢true, if◌then◌else◌, cases_Bool, cond-true, cond-false, not, ◌&&◌, ◌==◌, eq-eqb, eqb-true, Option, None, Some, option_map, option_map_or, is_some, option_or, IsSome, AllByRecursion, IsExtensionNumber, is_empty, ExtHeader, IsChain, AtMostOneOf, IsLongestUnder, leads_to, bytes_of, rest_after, fault_after}
use Rattle.ip_spec.proofs.UnderLemmas.{longest_ends_under}
use Rattle.ip_spec.proofs.DemandKinds.{at_most_one_of}
use Rattle.ip_base.specs.LenError.{too_short}
use Rattle.ip_base.specs.declared.len_source.LenSource.TheVariants.{Slice, Ipv4HeaderTotalLen}
use Rattle.ip_base.specs.declared.err.layer.Layer.TheVariants.{Ipv4Packet}
use Rattle.ip_base.specs.declared.err.ip.slice_error.SliceError.TheVariants.{Len}
use Rattle.ip_base.specs.Ipv4HeaderSlice as ipv4_header
use Rattle.ip_base.specs.Ipv6HeaderSlice as ipv6_header
use Rattle.ip_base.specs.Ipv4Header.{total_len, protocol, ipv4_fragment_offset}
use Rattle.ip_base.specs.Ipv6Header.{ipv6_next_header}
use Rattle.ip_ext_headers.specs.HeaderFault.{auth_fault, auth_in_packet}
use Rattle.ip_ext_headers.specs.declared.err.ip_auth.header_slice_error.HeaderSliceError.{HeaderSliceError as AuthError}
use Rattle.ip_ext_slices.specs.ChainFault.{Fault as ChainFault, slice_fault, auth_at}
use Rattle.ip_ext_slices.specs.Ipv4Fault.{ipv4_faults}
use Rattle.ip_ext_slices.proofs.FaultLemmas.{fault_at_end}
use Rattle.ip_ext_slices.specs.Ipv4Longest.{longest_ipv4_chain}
use Rattle.ip_ext_slices.proofs.Ipv4Lemmas.{ipv4_longest}
use Rattle.ip_dissect.specs.LaterDemand.{has_later, NothingAfterLater, nothing_after_later}
use Rattle.ip_dissect.specs.Extent.{after_base, ipv4_stated, ipv6_stated, ipv4_chain, ipv6_chain}
use Rattle.ip_dissect.specs.End.{has_error, auth_end, exts_end, is_too_short, ipv6_rest, ipv6_error, ipv6_end}
use Rattle.ip_dissect.specs.Fragment.{fragments}
use Rattle.ip_dissect.specs.Dissection.{DissectedParts, ipv4_dissected, ipv6_dissected, dissected}
use Rattle.ip_dissect.specs.Summary.{IsBaseOf, is_later_end}
use Rattle.ip_dissect.specs.declared.dissection.BaseHeader.{BaseHeader}
use Rattle.ip_dissect.specs.declared.dissection.BaseHeader.TheVariants.{Ipv4, Ipv6}
use Rattle.ip_dissect.specs.declared.end.End.{End}
use Rattle.ip_dissect.specs.declared.end.End.TheVariants.{Payload, LaterFragment, Truncated, Fault}
use Rattle.ip_dissect.proofs.LaterLemmas.{chain_to_later-longest, may_follow, met}
use Rattle.ip_dissect.proofs.SummaryLemmas.{auth_end_fails, end_with}
use Rattle.ip_dissect.proofs.DissectedLemmas.{BeginIpv4, begins4, BeginIpv6, begins6, BeginNone, begins_none, base_error}
use Rattle.ip_rewrite.specs.Headers.{number_of_first, linked_headers}
use Rattle.ip_rewrite.specs.Base.{number_offset, without_checksum, ipv4_stating, length_field, base_stating}
use Rattle.ip_rewrite.specs.Jumbogram.{is_unstated, jumbo_offset, stating_at}
use Rattle.ip_rewrite.specs.Rewritten.{base_for, joined, joined_parts, stating, rewritten, rewritten_len, rewritten_field, rewritten_parts, jumbo_fault, room_fault}
use Rattle.ip_rewrite.specs.Selection.{selects, selects_first, kept_from, kept, any_selected}
use Rattle.ip_rewrite.specs.Without.{packet_fault, selection_fault, without, parts_without, without_fault}
use Rattle.ip_rewrite.specs.Writing.{HasOption}
use Rattle.ip_rewrite.specs.declared.err.RewriteError.{RewriteError}
use Rattle.ip_rewrite.specs.declared.err.RewriteError.TheVariants.{NotAJumbogram}
use Rattle.ip_rewrite.specs.declared.which.Which.{Which}
use Rattle.ip_rewrite.specs.declared.which.Authentication.{Authentication}
use Rattle.ip_base.specs.Checksum.{checksum_of, with_word}
use Rattle.ip_base.proofs.ChecksumLemmas.{word_len}
use Rattle.ip_rewrite.proofs.FrontLemmas.{joined_len}
use Rattle.ip_rewrite.proofs.ChainLemmas.{AreHeaders, NoZero, all_kept, zero_kept, later_kept, demand_kept}
use Rattle.ip_rewrite.proofs.StatingLemmas.{has_others, stating_len, stating_count, stating_others, stating_numbers, stating_headers}
use Rattle.ip_rewrite.proofs.JumbogramLemmas.{has_option, later_stating, demand_stating}
use Rattle.ip_rewrite.proofs.Ipv6Lemmas.{same_parts, end_after, sent6_dissected}
use Rattle.ip_rewrite.proofs.Ipv4Lemmas.{sent4_dissected}

-- what is known of a packet that can be changed
pub none_first : (a b : Option RewriteError) → option_or a b ≡ None → (a ≡ None) × (b ≡ None)
none_first None b e = (refl, e)
none_first (Some x) b e = absurd (cc)

pub record IsWhole (p : DissectedParts) : Type 0 where
  pub no_error : has_error p.end ≡ false
  pub all_here : p.missing ≡ 0
  pub not_later : ((p.version == 4) && is_later_end p.end) ≡ false

pub whole_packet : (p : DissectedParts) → packet_fault p ≡ None → IsWhole p
whole_packet p e = record { no_error = grind (arith, common_steps); all_here = grind (arith, common_steps); not_later = grind (arith, common_steps) }

payload_end : (e : End) → has_error e ≡ false → is_later_end e ≡ false → e ≡ Payload
payload_end Payload a b = refl
payload_end LaterFragment a b = absurd (false≢true (sym b))
payload_end (Truncated e h) a b = absurd (false≢true (sym a))
payload_end (Fault e h) a b = absurd (false≢true (sym a))

record IsSelected (w : Which) (p : DissectedParts) : Type 0 where
  some : any_selected (λ h. true) w 0 p.headers ≡ true
  alone : any_selected fragments w 0 p.headers ≡ false
  no_header : ((p.version == 4) && (p.number == 51)) ≡ false

selected : (w : Which) (a : Authentication) (p : DissectedParts) → selection_fault w a p ≡ None → IsSelected w p
selected w a p e = record { some = grind (arith, common_steps); alone = grind (arith, common_steps); no_header = grind (arith, common_steps) }

pub field_fits : (p : DissectedParts) (c : List ExtHeader) (q : List ℕ) (room : ℕ) → room_fault p c q room ≡ None → rewritten_field p c q < 65536
field_fits p c q room e = grind (arith, common_steps)

-- IPv6
later_of : (later : Bool) (t : Option ℕ) (r : List ℕ) (o : Option ChainFault) → later ≡ is_later_end (if later then LaterFragment else option_map_or (exts_end t r) o Payload)
later_of later t r o = search rules

later_end : (e : End) → has_error e ≡ false → e ≡ end_after (is_later_end e)
later_end Payload a = refl
later_end LaterFragment a = refl
later_end (Truncated e h) a = absurd (false≢true (sym a))
later_end (Fault e h) a = absurd (false≢true (sym a))

module _ (b s : List ℕ) where
  abbrev x6 : List ℕ
  x6 = after_base b (ipv6_stated b) s

  abbrev c6 : List ExtHeader
  c6 = ipv6_chain b s

  abbrev m6 : ℕ
  m6 = leads_to (ipv6_next_header b) c6

  -- the number after the headers is no extension header's
  no_extension : has_later c6 ≡ false → has_error (ipv6_end b s) ≡ false → IsExtensionNumber m6 → ⊥
  no_extension later none is =
      let ends = longest_ends_under NothingAfterLater nothing_after_later (ipv6_next_header b) x6 c6 (chain_to_later-longest (ipv6_next_header b) x6) in
      let some : IsSome (slice_fault (40 + length (bytes_of c6)) (is_empty c6) m6 (rest_after c6 x6)) =
      fault_at_end Slice (length (rest_after c6 x6)) (rest_after c6 x6) (40 + length (bytes_of c6)) (is_empty c6) m6 is (λ h y. ends h y (may_follow c6 h later)) in
      false≢true (sym none ∙ end_with (has_later c6) (ipv6_stated b) (rest_after c6 x6) (slice_fault (40 + length (bytes_of c6)) (is_empty c6) m6 (rest_after c6 x6)) (fails (has_later c6) _ later some))
    where
      fails : {X : Type 0} (later : Bool) (o : Option X) → later ≡ false → IsSome o → (not later && is_some o) ≡ true
      fails later o e some = grind (arith, common_steps)

field6 : (unstated : Bool) (b : List ℕ) (n : ℕ) → (length_field 6 unstated b n ≡ 0) ⊎ (length_field 6 unstated b n ≡ n)
field6 true b n = inl refl
field6 false b n = inr refl

field4 : (unstated : Bool) (b : List ℕ) (n : ℕ) → (length_field 4 unstated b n ≡ 0) ⊎ (length_field 4 unstated b n ≡ length b + n)
field4 true b n = inl refl
field4 false b n = inr refl

-- IPv4
one_kept : (w : Which) (c : List ExtHeader) → length c ≤ 1 → any_selected (λ h. true) w 0 c ≡ true → kept w c ≡ []
one_kept w [] one some = refl
one_kept w (h ∷ []) one some = elim (cases_Bool (selects w 0 h)) [
  | inl s ↦ cond-true (selects w 0 h) [] (h ∷ []) s
  | inr s ↦ absurd (grind (arith, common_steps))
]
one_kept w (h ∷ g ∷ c) one some = absurd (omega (arith, one))

no_later : (c : List ExtHeader) → AllByRecursion (λ h. h.number ≡ 51) c → has_later c ≡ false
no_later [] a = refl
no_later (h ∷ c) a = rw (a.0, no_later c a.1) refl

zero_offset : (short : Bool) (k : ℕ) (x y : End) → has_error x ≡ true → has_error (if short then x else if not (k == 0) then LaterFragment else y) ≡ false
    → is_later_end (if short then x else if not (k == 0) then LaterFragment else y) ≡ false → k ≡ 0
zero_offset true k x y wrong none later = absurd (false≢true (sym none ∙ wrong))
zero_offset false k x y wrong none later = elim (cases_Bool (k == 0)) [
  | inl s ↦ eqb-true k 0 s
  | inr s ↦ absurd (false≢true (sym later ∙ ap (λ (b : Bool). is_later_end (if not b then LaterFragment else y)) s))
]

-- where no authentication header follows its number, there is an error
auth_error : (n : ℕ) (x : List ℕ) → n ≡ 51 → IsLongestUnder (AtMostOneOf 51) n x [] → IsSome (auth_fault Slice (length x) 0 x)
auth_error n x e longest =
    let ends = longest_ends_under (AtMostOneOf 51) (at_most_one_of 51) 51 x [] (subst (λ k. IsLongestUnder (AtMostOneOf 51) k x []) e longest) in
    let some : IsSome (option_map auth_at (auth_fault Slice (length x) 0 x)) = fault_at_end Slice (length x) x 0 true 51 (inr (inr refl)) (λ h y. ends h y (record { one = omega arith; number = (y.number, tt) })) in
    search rules

auth_ends_fail : (t : Option ℕ) (x : List ℕ) (k : ℕ) (o : Option AuthError) → IsSome o → has_error (option_map_or (auth_end t x) (option_map (auth_in_packet Slice k) o) Payload) ≡ true
auth_ends_fail t x k o some = search (rules, auth_end_fails t x)

some_header : (b : List ℕ) (t : Option ℕ) (offset n : ℕ) (x : List ℕ) (c : List ExtHeader) → IsLongestUnder (AtMostOneOf 51) n x c → leads_to n c ≡ 51 → offset ≡ 0
    → has_error (if is_too_short b then Fault (Len (too_short Ipv4HeaderTotalLen (total_len b) 0 Ipv4Packet (length b))) None else if not (offset == 0) then LaterFragment
    else option_map_or (auth_end t x) (option_map (auth_in_packet Slice (length b)) (fault_after (ipv4_faults Slice) c n x)) Payload) ≡ false → 1 ≤ length c
some_header b t offset n x (h ∷ c) longest auth zero none = omega arith
some_header b t offset n x [] longest auth zero none =
    absurd (false≢true (sym none ∙ rw (zero, auth) (either (is_too_short b) _ _ refl (auth_ends_fail t x (length b) (auth_fault Slice (length x) 0 x) (auth_error n x auth longest)))))
  where
    either : (first : Bool) (d e : End) → has_error d ≡ true → has_error e ≡ true → has_error (if first then d else e) ≡ true
    either true d e p q = p
    either false d e p q = q

-- The headers of a packet that can be changed, and the number after them.
pub record IsWholeChain (p : DissectedParts) : Type 0 where
  pub chain : IsChain (slice_index p.base (number_offset p.version)) p.headers
  pub number : p.number ≡ leads_to (slice_index p.base (number_offset p.version)) p.headers
  pub later : has_later p.headers ≡ is_later_end p.end
  pub demand : NothingAfterLater p.headers
  pub ipv6 : p.version ≡ 6 → is_later_end p.end ≡ false → IsExtensionNumber p.number → ⊥
  pub ipv4 : p.version ≡ 4 → AtMostOneOf 51 p.headers
  pub last : p.version ≡ 4 → p.number ≡ 51 → 1 ≤ length p.headers

-- The headers c can follow the base header of version v, and lead to the number m. They are those of a later fragment or not.
pub record CanFollow (v : ℕ) (l : Bool) (c : List ExtHeader) (m : ℕ) : Type 0 where
  pub headers : AreHeaders c
  pub zero : NoZero (drop 1 c)
  pub later : has_later c ≡ l
  pub demand : NothingAfterLater c
  pub ipv6 : v ≡ 6 → l ≡ false → IsExtensionNumber m → ⊥
  pub ipv4 : v ≡ 4 → AtMostOneOf 51 c
  pub last : v ≡ 4 → m ≡ 51 → 1 ≤ length c

-- as they are
pub as_is : (p : DissectedParts) → IsWholeChain p → CanFollow p.version (is_later_end p.end) p.headers p.number
as_is p chain = record {
  headers = chain.chain.headers;
  zero = chain.chain.zero_only_first;
  later = chain.later;
  demand = chain.demand;
  ipv6 = chain.ipv6;
  ipv4 = chain.ipv4;
  last = chain.last;
}

module _ (b s : List ℕ) where
  abbrev p4 : DissectedParts
  p4 = ipv4_dissected b s

  offset4 : IsWhole p4 → ipv4_fragment_offset b ≡ 0
  offset4 whole = zero_offset (is_too_short b) (ipv4_fragment_offset b) _ _ refl whole.no_error whole.not_later

  longest4 : IsWhole p4 → IsLongestUnder (AtMostOneOf 51) (protocol b) (after_base b (ipv4_stated b) s) p4.headers
  longest4 whole =
      let n : ℕ = protocol b in
      let x : List ℕ = after_base b (ipv4_stated b) s in
      subst (λ (c : List ExtHeader). IsLongestUnder (AtMostOneOf 51) n x c) (sym (cond-true (ipv4_fragment_offset b == 0) (longest_ipv4_chain n x) [] (eq-eqb (ipv4_fragment_offset b) 0 (offset4 whole)))) (ipv4_longest n x)

pub whole_chain6 : (s b : List ℕ) → BeginIpv6 s b → packet_fault (dissected s) ≡ None → IsWholeChain (dissected s)
whole_chain6 s b v = subst (λ (p : DissectedParts). packet_fault p ≡ None → IsWholeChain p) (sym v.is) (λ e.
    let whole : IsWhole (ipv6_dissected b s) = whole_packet (ipv6_dissected b s) e in
    let later : has_later (ipv6_chain b s) ≡ is_later_end (ipv6_end b s) = later_of (has_later (ipv6_chain b s)) (ipv6_stated b) (ipv6_rest b s) (ipv6_error b s) in
    let has = (chain_to_later-longest (ipv6_next_header b) (after_base b (ipv6_stated b) s)).has in
    record {
      chain = has.0.chain;
      number = refl;
      later = later;
      demand = has.1;
      ipv6 = λ _ none. no_extension b s (later ∙ none) whole.no_error;
      ipv4 = λ n. absurd (cc);
      last = λ n. absurd (cc);
    })

pub whole_chain4 : (s b : List ℕ) → BeginIpv4 s b → packet_fault (dissected s) ≡ None → IsWholeChain (dissected s)
whole_chain4 s b v = subst (λ (p : DissectedParts). packet_fault p ≡ None → IsWholeChain p) (sym v.is) (λ e.
    let whole : IsWhole (ipv4_dissected b s) = whole_packet (ipv4_dissected b s) e in
    let has = (longest4 b s whole).has in
    record {
      chain = has.0.chain;
      number = refl;
      later = no_later (ipv4_chain b s) has.1.number ∙ sym whole.not_later;
      demand = met (ipv4_chain b s) (no_later (ipv4_chain b s) has.1.number);
      ipv6 = λ n. absurd (cc);
      ipv4 = λ _. has.1;
      last = λ _ auth. some_header b (ipv4_stated b) (ipv4_fragment_offset b) (protocol b) (after_base b (ipv4_stated b) s) (ipv4_chain b s) (longest4 b s whole) auth (offset4 b s whole) whole.no_error;
    })

pub no_base : (s : List ℕ) → IsBaseOf s None → packet_fault (dissected s) ≡ None → ⊥
no_base s is e =
    let v : BeginNone s = begins_none s is in
    false≢true (sym (whole_packet (dissected s) e).no_error ∙ (ap (λ (p : DissectedParts). has_error p.end) v.is ∙ base_error s v.reason v.ends))

pub whole_chain : (s : List ℕ) (o : Option BaseHeader) → IsBaseOf s o → packet_fault (dissected s) ≡ None → IsWholeChain (dissected s)
whole_chain s None is = λ e. absurd (no_base s is e)
whole_chain s (Some (Ipv6 h)) is = whole_chain6 s (ipv6_header.bytes h) (begins6 s (Some (Ipv6 h)) (ipv6_header.bytes h) is refl refl)
whole_chain s (Some (Ipv4 h)) is = whole_chain4 s (ipv4_header.bytes h) (begins4 s (Some (Ipv4 h)) (ipv4_header.bytes h) is refl refl)

-- The packet with other headers, or with another payload, dissects as the old one with this change.
module _ (c : List ExtHeader) (m : ℕ) (q : List ℕ) where
  abbrev Dissects : DissectedParts → Type 0
  Dissects p = packet_fault p ≡ None → CanFollow p.version (is_later_end p.end) c m → rewritten_field p c q < 65536 → dissected (joined p c m q) ≡ joined_parts p c m q

  joined_dissects : (s : List ℕ) (o : Option BaseHeader) → IsBaseOf s o → Dissects (dissected s)
  joined_dissects s None is = λ e f r. absurd (no_base s is e)
  joined_dissects s (Some (Ipv6 h)) is =
      let b : List ℕ = ipv6_header.bytes h in
      let v : BeginIpv6 s b = begins6 s (Some (Ipv6 h)) b is refl refl in
      subst Dissects (sym v.is) (λ e f r.
      let p : DissectedParts = ipv6_dissected b s in
      let whole : IsWhole p = whole_packet p e in
      let t : ℕ = rewritten_field p c q in
      let end : p.end ≡ end_after (is_later_end p.end) = later_end p.end whole.no_error in
      sent6_dissected b v.header c m t q (is_later_end p.end) f.headers f.zero f.later f.demand (f.ipv6 refl) r (field6 (is_unstated p) b (length (bytes_of c) + length q))
      ∙ same_parts _ (joined_parts p c m q) refl refl refl refl refl refl refl (sym whole.all_here) refl (sym end))
  joined_dissects s (Some (Ipv4 h)) is =
      let b : List ℕ = ipv4_header.bytes h in
      let v : BeginIpv4 s b = begins4 s (Some (Ipv4 h)) b is refl refl in
      subst Dissects (sym v.is) (λ e f r.
      let p : DissectedParts = ipv4_dissected b s in
      let whole : IsWhole p = whole_packet p e in
      let t : ℕ = rewritten_field p c q in
      let end : p.end ≡ Payload = payload_end p.end whole.no_error whole.not_later in
      sent4_dissected b v.header c m t q (offset4 b s whole) f.headers (f.ipv4 refl) (f.last refl) r (field4 (is_unstated p) b (length (bytes_of c) + length q))
      ∙ same_parts _ (joined_parts p c m q) refl refl refl refl refl refl refl (sym whole.all_here) refl (sym end))

-- The length that a jumbogram's first header states changes nothing else.
follow_stating : (o : Option ℕ) (n v : ℕ) (l : Bool) (c : List ExtHeader) (m : ℕ) → HasOption o c → CanFollow v l c m → CanFollow v l (stating_at o n c) m
follow_stating o n v l c m a f = record {
  headers = stating_headers o n c a f.headers;
  zero = subst NoZero (sym (stating_others o n c)) f.zero;
  later = later_stating o n c a ∙ f.later;
  demand = demand_stating o n c a f.demand;
  ipv6 = f.ipv6;
  ipv4 = λ four. record { one = omega (arith, (f.ipv4 four).one, stating_count o n c); number = stating_numbers 51 o n c (f.ipv4 four).number };
  last = λ four auth. omega (arith, f.last four auth, stating_count o n c);
}

pub field_stating : (p : DissectedParts) (c : List ExtHeader) (q : List ℕ) → HasOption (jumbo_offset p) c → rewritten_field p (stating p c q) q ≡ rewritten_field p c q
field_stating p c q a = ap (λ n. length_field p.version (is_unstated p) p.base (n + length q)) (stating_len (jumbo_offset p) (length (bytes_of c) + length q) c a)

pub changed : (c : List ExtHeader) (m : ℕ) (q : List ℕ) (room : ℕ) (s : List ℕ) (o : Option BaseHeader) → IsBaseOf s o → packet_fault (dissected s) ≡ None
    → CanFollow (dissected s).version (is_later_end (dissected s).end) c m → HasOption (jumbo_offset (dissected s)) c → room_fault (dissected s) c q room ≡ None
    → dissected (rewritten (dissected s) c m q) ≡ rewritten_parts (dissected s) c m q
changed c m q room s o is e f a r =
    let p : DissectedParts = dissected s in
    joined_dissects (stating p c q) m q s o is e (follow_stating (jumbo_offset p) (length (bytes_of c) + length q) p.version (is_later_end p.end) c m a f)
    (omega (arith, field_fits p c q room r, field_stating p c q a))

-- The first header of a jumbogram is kept.
kept_option : (b : Bool) (o : Option ℕ) (h : ExtHeader) (c d : List ExtHeader) → (let x : Option RewriteError = if b && is_some o then Some NotAJumbogram else None in x) ≡ None → HasOption o (h ∷ c) → HasOption o (if b then d else h ∷ d)
kept_option true None h c d e a = tt
kept_option true (Some k) h c d e a = absurd (cc)
kept_option false o h c d e a = has_others o h c d a

pub has_kept : (w : Which) (o : Option ℕ) (c : List ExtHeader) → (let x : Option RewriteError = if selects_first w c && is_some o then Some NotAJumbogram else None in x) ≡ None → HasOption o c → HasOption o (kept w c)
has_kept w o [] e a = a
has_kept w o (h ∷ c) e a = kept_option (selects w 0 h) o h c (kept_from w (0 + 1) c) e a

pub without_option : (w : Which) (a : Authentication) (p : DissectedParts) (room : ℕ) → without_fault w a p room ≡ None → HasOption (jumbo_offset p) (kept w p.headers)
without_option w a p room e =
    let first = none_first (packet_fault p) _ e in
    let second = none_first (selection_fault w a p) _ first.1 in
    let third = none_first (jumbo_fault (selects_first w p.headers) p) _ second.1 in
    has_kept w (jumbo_offset p) p.headers third.0 (has_option p)

-- without some headers
pub follow_kept : (w : Which) (a : Authentication) (p : DissectedParts) → IsWholeChain p → selection_fault w a p ≡ None → CanFollow p.version (is_later_end p.end) (kept w p.headers) p.number
follow_kept w a p chain e =
    let here : IsSelected w p = selected w a p e in
    record {
      headers = all_kept _ w 0 p.headers chain.chain.headers;
      zero = zero_kept w 0 p.headers chain.chain.zero_only_first;
      later = later_kept w 0 p.headers here.alone ∙ chain.later;
      demand = demand_kept w 0 p.headers chain.demand;
      ipv6 = chain.ipv6;
      ipv4 = λ v. subst (λ (c : List ExtHeader). AtMostOneOf 51 c) (sym (one_kept w p.headers (chain.ipv4 v).one here.some)) (record { one = omega arith; number = tt });
      last = λ v n. absurd (false≢true (sym here.no_header ∙ both (p.version == 4) (p.number == 51) (eq-eqb p.version 4 v) (eq-eqb p.number 51 n)));
    }
  where
    both : (x y : Bool) → x ≡ true → y ≡ true → (x && y) ≡ true
    both x y first second = rw (first, second) refl

pub dissects : (w : Which) (a : Authentication) (room : ℕ) (s : List ℕ) (o : Option BaseHeader) → IsBaseOf s o → without_fault w a (dissected s) room ≡ None → dissected (without w (dissected s)) ≡ parts_without w (dissected s)
dissects w a room s o is e =
    let p : DissectedParts = dissected s in
    let first = none_first (packet_fault p) _ e in
    let second = none_first (selection_fault w a p) _ first.1 in
    let third = none_first (jumbo_fault (selects_first w p.headers) p) _ second.1 in
    changed (kept w p.headers) p.number p.payload room s o is first.0 (follow_kept w a p (whole_chain s o is first.0) second.0) (without_option w a p room e) third.1

-- the bytes that are written
pub stating_size : (v : ℕ) (b : List ℕ) (t : ℕ) → length (base_stating v b t) ≡ length b
stating_size v b t = elim (cases_Bool (v == 4)) [
  | inl s ↦ ap length (cond-true (v == 4) (ipv4_stating b t) (with_word b 4 t) s) ∙ (word_len (without_checksum b t) 10 (checksum_of (without_checksum b t)) ∙ (word_len (with_word b 2 t) 10 0 ∙ word_len b 2 t))
  | inr s ↦ ap length (cond-false (v == 4) (ipv4_stating b t) (with_word b 4 t) s) ∙ word_len b 4 t
]

pub joined_size : (p : DissectedParts) (c : List ExtHeader) (m : ℕ) (q : List ℕ) → length (joined p c m q) ≡ rewritten_len p c q
joined_size p c m q =
    let base : List ℕ = base_for p c m q in
    let size : length base ≡ length p.base = stating_size p.version (slice_set p.base (number_offset p.version) (number_of_first c m)) (rewritten_field p c q) ∙ length-set p.base (number_offset p.version) (number_of_first c m) in
    omega (arith, size, joined_len c m, length-append (base ++ bytes_of (linked_headers m c)) q, length-append base (bytes_of (linked_headers m c)))

pub rewritten_size : (p : DissectedParts) (c : List ExtHeader) (m : ℕ) (q : List ℕ) → HasOption (jumbo_offset p) c → length (rewritten p c m q) ≡ rewritten_len p c q
rewritten_size p c m q a = omega (arith, joined_size p (stating p c q) m q, stating_len (jumbo_offset p) (length (bytes_of c) + length q) c a)

pub written_front : (p : DissectedParts) (c : List ExtHeader) (m : ℕ) (q r out : List ℕ) (n : ℕ) → HasOption (jumbo_offset p) c → out ≡ rewritten p c m q ++ r → n ≡ rewritten_len p c q → take n out ≡ rewritten p c m q
written_front p c m q r out n a is size = ap (take n) is ∙ (ap (λ k. take k (rewritten p c m q ++ r)) (size ∙ sym (rewritten_size p c m q a)) ∙ take-append_seam (rewritten p c m q) r)
