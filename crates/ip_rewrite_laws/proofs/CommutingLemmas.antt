-- A fragment without headers before its fragment header is the fragment of the packet without them.
use Rattle.ip_spec.proofs.Common.{◌≡◌, ◌≢◌, ℕ, ◌+◌, ◌-◌, ◌/◌, ◌%◌, ◌≤◌, ◌<◌, List, [], ◌∷◌, ◌++◌, length, take, drop, refl, sym, ◌∙◌, ap, subst, arith, inl, inr, Bool, true, false, ◌==◌, if◌then◌else◌, slice_set, slice_index, length-take, length-drop, length-set, length-append, append_assoc, append-nil, append_cancel_left, take-append-drop, drop-append_seam, take-take, get_or-take, get_or-set_other, get_or-set_same, cases_eq, ne_eqb, lt-ltb, None, IsHeader, fragment, IsChain, AreLinked, next_header, ExtHeader, bytes_of, leads_to, offset_bits, flag_bit, AllByRecursion, AreBytes, All-take, All-drop, list_any, cleared_chain}
use Rattle.std.specs.Prelude.{nat_lt, not, ◌&&◌, Some}
use Rattle.std.proofs.lemmas.Bool.{or_left, or_right, not_from_false}
use Rattle.std.proofs.lemmas.Grind.{flat_map-append}
use Rattle.std.proofs.lemmas.List.{set-set, length-take-le}
use Rattle.ip_base.specs.Checksum.{with_word}
use Rattle.ip_base.specs.Ipv6Header.{IsIpv6Header, payload_length}
use Rattle.ip_base.specs.declared.ipv6_header_slice.Ipv6HeaderSlice.{Ipv6HeaderSlice}
use Rattle.ip_base.proofs.ChecksumLemmas.{word_len, word_other}
use Rattle.ip_spec.proofs.PrefixLemmas.{prefix_of-append}
use Rattle.ip_spec.proofs.StepLemmas.{all_more}
use Rattle.ip_dissect.specs.Dissection.{DissectedParts, dissected}
use Rattle.ip_dissect.specs.End.{has_error}
use Rattle.ip_dissect.specs.Fragment.{fragments, is_fragment_header}
use Rattle.ip_dissect.specs.Later.{chain_to_later}
use Rattle.ip_dissect.specs.Summary.{IsBaseOf}
use Rattle.ip_dissect.specs.declared.dissection.BaseHeader.TheVariants.{Ipv6}
use Rattle.ip_dissect.proofs.DissectedLemmas.{base_some6}
use Rattle.ip_dissect.proofs.LaterLemmas.{may_follow, met}
use Rattle.ip_defragmenter.specs.Sent.{IsSentIpv6}
use Rattle.ip_defragmenter.specs.Split.{link_after}
use Rattle.ip_defragmenter_laws.specs.Piece.{piece_from}
use Rattle.ip_defragmenter_laws.specs.Ipv6.{IsIpv6Fragment, IsIpv6Part, fragment_header_bytes, ipv6_fragment_bytes}
use Rattle.ip_defragmenter_laws.proofs.Ipv6Lemmas.{begins_chain, none_later, short6}
use Rattle.ip_defragmenter_laws.proofs.Ipv6FragmentLemmas.{flag_is, ipv6_made, offset_is}
use Rattle.ip_spec.proofs.ClearedLemmas.{cleared_is_chain}
use Rattle.ip_rewrite.specs.Base.{length_field}
use Rattle.ip_rewrite.specs.Clearing.{reserved_fragmented, clearing_fault}
use Rattle.ip_rewrite.specs.Headers.{is_options, number_of_first, linked_headers}
use Rattle.ip_rewrite.specs.Insertion.{inserted, header_fault, insertion_fault}
use Rattle.ip_rewrite.specs.Jumbogram.{following_len, is_unstated}
use Rattle.ip_rewrite.specs.Rewritten.{rewritten, rewritten_field, room_fault}
use Rattle.ip_rewrite.specs.Selection.{kept, any_selected, selects_fragmented}
use Rattle.ip_rewrite.specs.Without.{packet_fault, without, without_fault}
use Rattle.ip_rewrite.specs.Writing.{front_with}
use Rattle.ip_rewrite.specs.declared.which.Authentication.{Authentication}
use Rattle.ip_rewrite.specs.declared.which.Which.{Which}
use Rattle.ip_rewrite.proofs.ChainLemmas.{NoZero, all_kept, zero_kept, joined_chain, joined_leads, joined_later}
use Rattle.ip_rewrite.proofs.ClearingLemmas.{cleared_len, cleared_link, clearing_dissects}
use Rattle.ip_rewrite.proofs.DissectLemmas.{dissects, field_fits, none_first, whole_packet}
use Rattle.ip_rewrite.proofs.FieldLemmas.{word_is, range_same}
use Rattle.ip_rewrite.proofs.InsertionLemmas.{IsInserted, all_inserted, header_is, inserted_len, insertion_dissects, insertion_first}
use Rattle.ip_rewrite.proofs.FrontLemmas.{front_same, joined_len}
use Rattle.ip_rewrite.proofs.RestoringLemmas.{word_set, word_word}
use Rattle.ip_rewrite.proofs.SelectionLemmas.{kept_less}
use Rattle.ip_rewrite_laws.proofs.SelectionLemmas.{IsFree, free, kept_before, first_kept, linked_kept, first_append, linked_append}
use Rattle.ip_rewrite_laws.proofs.ClearedLemmas.{first_led, linked_cleared, cleared_append, later_stays, clearing}
use Rattle.ip_rewrite_laws.proofs.InsertedLemmas.{insertion, before_fragment, inserted_append, linked_count, first_inserted, linked_inserted, not_options, room_left}
use Rattle.ip_rewrite_laws.proofs.MadeLemmas.{dropped, link_is, made}
use Rattle.ip_rewrite_laws.proofs.CompleteLemmas.{IsComplete, complete, rewritten_front}
use Rattle.ip_rewrite_laws.proofs.SentLemmas.{HasBytes, cleared_bytes, front_bytes, have_bytes, header_small, is_part, is_sent, leads_small, none_among, none_cleared, none_inserted, zero_inserted}

-- headers after others
links_after : (n : ℕ) (c d : List ExtHeader) → AreLinked n (c ++ d) → AreLinked (leads_to n c) d
links_after n [] d links = links
links_after n (h ∷ c) d links = links_after (next_header h.bytes) c d links.1

leads_after : (n : ℕ) (c d : List ExtHeader) → leads_to n (c ++ d) ≡ leads_to (leads_to n c) d
leads_after n [] d = refl
leads_after n (h ∷ c) d = leads_after (next_header h.bytes) c d

-- hop-by-hop options come first, if there are any
no_zero : (c : List ExtHeader) (x : ExtHeader) → x.number ≢ 0 → NoZero c → NoZero (c ++ x ∷ [])
no_zero [] x own are = (own, tt)
no_zero (h ∷ c) x own are = (are.0, no_zero c x own are.1)

zero_first : (c : List ExtHeader) (x : ExtHeader) → x.number ≢ 0 → NoZero (drop 1 c) → NoZero (drop 1 (c ++ x ∷ []))
zero_first [] x own are = tt
zero_first (h ∷ c) x own are = no_zero c x own are

-- a base header with another number and another length, twice
twice : (b : List ℕ) (t u a k : ℕ) → slice_set (with_word (slice_set (with_word b 4 t) 6 a) 4 u) 6 k ≡ slice_set (with_word b 4 u) 6 k
twice b t u a k =
    ap (λ x. slice_set (with_word x 4 u) 6 k) (word_set b 4 t 6 a (λ e. omega (arith, e)) (λ e. omega (arith, e)))
    ∙ (ap (λ x. slice_set x 6 k) (word_word (slice_set b 6 a) 4 t u ∙ sym (word_set b 4 u 6 a (λ e. omega (arith, e)) (λ e. omega (arith, e))))
    ∙ set-set (with_word b 4 u) 6 a k)

-- A packet p can be fragmented after its first m bytes, the last next header field of which is at the offset l, and what
-- follows them is r. The bytes f are its fragment from one offset to another.
pub record IsRewritten (r : List ℕ) (id start end m l : ℕ) (p f : List ℕ) : Type 0 where
  pub sent : IsSentIpv6 p m l
  pub payload : drop m p ≡ r
  pub fragment : IsIpv6Fragment p m l id (piece_from r start end) f

-- A packet with the base header b, the headers c up to the fragmented part, and this part, the bytes r.
module _ (s : List ℕ) (id start end : ℕ) (c : List ExtHeader) (sent : IsSentIpv6 s (40 + length (bytes_of c)) (link_after 40 c)) (part : IsIpv6Part s (40 + length (bytes_of c)) (link_after 40 c) id start end c) where
  abbrev n : ℕ
  n = 40 + length (bytes_of c)

  abbrev b : List ℕ
  b = take 40 s

  abbrev r : List ℕ
  r = drop n s

  b_len : length b ≡ 40
  b_len = length-take-le 40 s (omega (arith, sent.base, sent.within))

  byte : (j : ℕ) → j < 40 → slice_index b j ≡ slice_index s j
  byte j less = get_or-take 40 s j 0 less

  header : IsIpv6Header b
  header = record { version = ap (λ k. k / 16) (byte 0 (omega arith)) ∙ sent.version; len = b_len }

  chain : IsChain (slice_index b 6) c
  chain = subst (λ (k : ℕ). IsChain k c) (sym (byte 6 (omega arith))) part.chain

  abbrev g : ℕ
  g = leads_to (slice_index b 6) c

  front : take n s ≡ b ++ bytes_of c
  front =
      sym (take-append-drop 40 (take n s))
      ∙ (ap (λ x. x ++ drop 40 (take n s)) (take-take 40 n s (omega arith)) ∙ ap (λ x. b ++ x) (sym part.headers))

  split : s ≡ b ++ (bytes_of c ++ r)
  split = sym (take-append-drop n s) ∙ (ap (λ x. x ++ r) front ∙ append_assoc b (bytes_of c) r)

  begun : s ≡ front_with 6 b c g ++ r
  begun = sym (take-append-drop n s) ∙ ap (λ x. x ++ r) (front ∙ sym (front_same 6 b c chain.links))

  stated : 40 + payload_length b ≡ length s
  stated = ap (λ k. 40 + k) (range_same s b 4 (byte 4 (omega arith)) (byte 5 (omega arith))) ∙ sent.stated

  some : 1 ≤ length r
  some = elim (cases_eq start 0) [
    | inl zero ↦ (let less : end < length r = part.several zero in omega (arith, less))
    | inr other ↦ (let least : (start ≡ 0 → ⊥) → 1 ≤ start = λ d. omega (arith, d) in omega (arith, least other, part.order, part.within))
  ]

  abbrev p : DissectedParts
  p = dissected s

  parts : IsComplete b (bytes_of c ++ r) p
  parts = complete s b (bytes_of c ++ r) split header stated (omega (arith, some, length-append (bytes_of c) r))

  abbrev d : List ExtHeader
  d = drop (length c) p.headers

  headers : p.headers ≡ c ++ d
  headers =
      let found = begins_chain (slice_index b 6) c r chain (met c (none_later c part.none)) in
      let is : p.headers ≡ c ++ found.0 = parts.headers ∙ found.1 in
      is ∙ ap (λ e. c ++ e) (sym (ap (drop (length c)) is ∙ drop-append_seam c found.0))

  links : AreLinked g d
  links = links_after (slice_index b 6) c d (subst (AreLinked (slice_index b 6)) headers parts.links)

  number : p.number ≡ leads_to g d
  number = parts.number ∙ (ap (leads_to (slice_index b 6)) headers ∙ leads_after (slice_index b 6) c d)

  bytes : bytes_of d ++ p.payload ≡ r
  bytes = append_cancel_left (bytes_of c) (bytes_of d ++ p.payload) r
      (sym (append_assoc (bytes_of c) (bytes_of d) p.payload)
      ∙ (ap (λ x. x ++ p.payload) (sym (flat_map-append (λ (h : ExtHeader). h.bytes) c d))
      ∙ (ap (λ e. bytes_of e ++ p.payload) (sym headers) ∙ parts.bytes)))

  -- its fragment
  abbrev more : Bool
  more = nat_lt end (length r)

  abbrev piece : List ℕ
  piece = take (end - start) (drop start r)

  abbrev x : ExtHeader
  x = record { number = 44; bytes = fragment_header_bytes g start more id }

  abbrev rest : List ℕ
  rest = x.bytes ++ piece

  rest_len : length rest ≡ 8 + (end - start)
  rest_len =
      let eight : length x.bytes ≡ 8 = refl in
      omega (arith, length-append x.bytes piece, eight, length-take (end - start) (drop start r), length-drop start r, part.within, part.order)

  abbrev t : ℕ
  t = n - 40 + 8 + (end - start)

  abbrev f : List ℕ
  f = ipv6_fragment_bytes s n (link_after 40 c) id start end

  f_is : f ≡ front_with 6 (with_word b 4 t) c 44 ++ rest
  f_is = made s b c g r begun b_len chain.headers id start end

  abbrev a : List ℕ
  a = slice_set (with_word b 4 t) 6 (number_of_first c 44)

  abbrev led : List ExtHeader
  led = linked_headers 44 c

  f_split : f ≡ a ++ (bytes_of led ++ rest)
  f_split = f_is ∙ append_assoc a (bytes_of led) rest

  a_len : length a ≡ 40
  a_len = length-set (with_word b 4 t) 6 (number_of_first c 44) ∙ (word_len b 4 t ∙ b_len)

  a_header : IsIpv6Header a
  a_header = record {
    version = ap (λ k. k / 16) (get_or-set_other (with_word b 4 t) 6 0 (number_of_first c 44) 0 (λ e. cc) ∙ word_other b 4 t 0 (λ e. cc) (λ e. cc)) ∙ header.version;
    len = a_len;
  }

  a_states : payload_length a ≡ t
  a_states =
      ap payload_length (word_set b 4 t 6 (number_of_first c 44) (λ e. omega (arith, e)) (λ e. omega (arith, e)))
      ∙ word_is (slice_set b 6 (number_of_first c 44)) 4 t (omega (arith, b_len, length-set b 6 (number_of_first c 44))) (omega (arith, part.fits))

  a_leads : slice_index a 6 ≡ number_of_first c 44
  a_leads = get_or-set_same (with_word b 4 t) 6 (number_of_first c 44) 0 (omega (arith, word_len b 4 t, b_len))

  after_len : length (bytes_of led ++ rest) ≡ length (bytes_of c) + (8 + (end - start))
  after_len = length-append (bytes_of led) rest ∙ (ap (λ k. k + length rest) (joined_len c 44) ∙ ap (λ k. length (bytes_of c) + k) rest_len)

  f_len : length f ≡ 40 + (length (bytes_of c) + (8 + (end - start)))
  f_len = ap length f_split ∙ (length-append a (bytes_of led ++ rest) ∙ (ap (λ k. k + length (bytes_of led ++ rest)) a_len ∙ ap (λ k. 40 + k) after_len))

  abbrev q : DissectedParts
  q = dissected f

  f_parts : IsComplete a (bytes_of led ++ rest) q
  f_parts = complete f a (bytes_of led ++ rest) f_split a_header (omega (arith, a_states, f_len)) (omega (arith, after_len))

  led_chain : IsChain (slice_index a 6) (led ++ x ∷ [])
  led_chain =
      let own : IsHeader 44 x.bytes = fragment refl (record { len = refl }) in
      let linked : IsChain (number_of_first (c ++ x ∷ []) g) (linked_headers g (c ++ x ∷ [])) =
      joined_chain g (c ++ x ∷ []) (all_more (λ (h : ExtHeader). IsHeader h.number h.bytes) c x chain.headers own) (zero_first c x (λ e. cc) chain.zero_only_first) in
      let first : number_of_first (c ++ x ∷ []) g ≡ slice_index a 6 = first_append c (x ∷ []) g ∙ sym a_leads in
      subst (λ (k : ℕ). IsChain k (led ++ x ∷ [])) first (subst (IsChain (number_of_first (c ++ x ∷ []) g)) (linked_append c (x ∷ []) g) linked)

  after_is : bytes_of (led ++ x ∷ []) ++ piece ≡ bytes_of led ++ rest
  after_is =
      ap (λ y. y ++ piece) (flat_map-append (λ (h : ExtHeader). h.bytes) led (x ∷ []) ∙ ap (λ y. bytes_of led ++ y) (append-nil x.bytes))
      ∙ append_assoc (bytes_of led) x.bytes piece

  found : (e : List ExtHeader) × (chain_to_later (slice_index a 6) (bytes_of (led ++ x ∷ []) ++ piece) ≡ (led ++ x ∷ []) ++ e)
  found = begins_chain (slice_index a 6) (led ++ x ∷ []) piece led_chain (may_follow led x (joined_later 44 c ∙ none_later c part.none))

  abbrev later : List ExtHeader
  later = x ∷ found.0

  f_headers : q.headers ≡ led ++ later
  f_headers = f_parts.headers ∙ (ap (chain_to_later (slice_index a 6)) (sym after_is) ∙ (found.1 ∙ append_assoc led (x ∷ []) found.0))

  led_to : leads_to (slice_index a 6) led ≡ 44
  led_to = ap (λ k. leads_to k led) a_leads ∙ joined_leads 44 c chain.headers

  f_links : AreLinked 44 later
  f_links = subst (λ (k : ℕ). AreLinked k later) led_to (links_after (slice_index a 6) led later (subst (AreLinked (slice_index a 6)) f_headers f_parts.links))

  f_number : q.number ≡ leads_to 44 later
  f_number = f_parts.number ∙ (ap (leads_to (slice_index a 6)) f_headers ∙ (leads_after (slice_index a 6) led later ∙ ap (λ k. leads_to k later) led_to))

  f_bytes : bytes_of later ++ q.payload ≡ rest
  f_bytes = append_cancel_left (bytes_of led) (bytes_of later ++ q.payload) rest
      (sym (append_assoc (bytes_of led) (bytes_of later) q.payload)
      ∙ (ap (λ y. y ++ q.payload) (sym (flat_map-append (λ (h : ExtHeader). h.bytes) led later))
      ∙ (ap (λ e. bytes_of e ++ q.payload) (sym f_headers) ∙ f_parts.bytes)))

  fragmenting : fragments x ≡ true
  fragmenting =
      let low : ℕ = start % 256 + (if more then 1 else 0) in
      elim (cases_eq start 0) [
        | inl zero ↦ or_left (flag_bit low) (not (offset_bits (start / 256) low == 0)) (flag_is start more part.units ∙ lt-ltb end (length r) (part.several zero))
        | inr other ↦ or_right (flag_bit low) (not (offset_bits (start / 256) low == 0))
            (not_from_false (offset_bits (start / 256) low == 0) (ne_eqb (offset_bits (start / 256) low) 0 (λ e. other (omega (arith, e, offset_is start more part.units)))))
      ]

  base_bytes : AreBytes b
  base_bytes = All-take (λ y. y < 256) 40 s sent.bytes

  six : slice_index b 6 < 256
  six = base_bytes 6 0 (omega (arith, b_len))

  have : AllByRecursion HasBytes c
  have = have_bytes (slice_index b 6) c six chain.headers chain.links (subst AreBytes (sym part.headers) (All-drop (λ y. y < 256) 40 (take n s) (All-take (λ y. y < 256) n s sent.bytes)))

  -- The fragment, without an error, can be written with other headers, and has none then.
  abbrev f_slice : Ipv6HeaderSlice
  f_slice = record { slice = record { ref_ptr = (0, 0); now = a }; header = a_header }

  f_base : IsBaseOf f (Some (Ipv6 f_slice))
  f_base = base_some6 f f_slice a_header (prefix_of-append a (bytes_of led ++ rest) f f_split)

  abbrev Ends : List ExtHeader → Type 0
  Ends e = has_error (dissected (rewritten q e q.number q.payload)).end ≡ false

  ends_without : (w : Which) (m : Authentication) (room : ℕ) → without_fault w m q room ≡ None → Ends (kept w q.headers)
  ends_without w m room e = ap (λ (y : DissectedParts). has_error y.end) (dissects w m room f (Some (Ipv6 f_slice)) f_base e) ∙ (whole_packet q (none_first (packet_fault q) _ e).0).no_error

  ends_inserted : (i : ℕ) (h : ExtHeader) (m : Authentication) (room : ℕ) → insertion_fault m i h q room ≡ None → Ends (inserted i h q.headers)
  ends_inserted i h m room e = ap (λ (y : DissectedParts). has_error y.end) (insertion_dissects m i h room f (Some (Ipv6 f_slice)) f_base e) ∙ (whole_packet q (none_first (packet_fault q) _ e).0).no_error

  ends_cleared : (m : Authentication) (room : ℕ) → clearing_fault m q room ≡ None → Ends (cleared_chain q.headers)
  ends_cleared m room e = ap (λ (y : DissectedParts). has_error y.end) (clearing_dissects m room f (Some (Ipv6 f_slice)) f_base e) ∙ (whole_packet q (none_first (packet_fault q) _ e).0).no_error

  fragment_fits : (e : List ExtHeader) (room : ℕ) → room_fault q e q.payload room ≡ None → length (bytes_of e) + length q.payload < 65536
  fragment_fits e room accepted =
      let stated : is_unstated q ≡ false = ap (λ y. not y && not (following_len q == 0)) f_parts.stated in
      let field : rewritten_field q e q.payload ≡ length (bytes_of e) + length q.payload =
      ap (λ y. length_field q.version y q.base (length (bytes_of e) + length q.payload)) stated ∙ ap (λ v. length_field v false q.base (length (bytes_of e) + length q.payload)) f_parts.version in
      omega (arith, field_fits q e q.payload room accepted, field)

  -- New headers k before the fragmented part, and j, which are k but for the numbers that lead from one to the next.
  module _ (k j : List ExtHeader) (first : number_of_first j 44 ≡ number_of_first k 44) (same : linked_headers 44 j ≡ linked_headers 44 k) (are : AllByRecursion (λ h. IsHeader h.number h.bytes) k) where
    abbrev fragment_len : ℕ
    fragment_len = 40 + length (bytes_of k) - 40 + 8 + (end - start)

    same_len : length (bytes_of j) + length rest ≡ fragment_len
    same_len = omega (arith, ap (λ e. length (bytes_of e)) same, joined_len j 44, joined_len k 44, rest_len)

    same_front : front_with 6 (with_word a 4 fragment_len) j 44 ≡ front_with 6 (with_word b 4 fragment_len) k 44
    same_front =
        ap (λ m. slice_set (with_word a 4 fragment_len) 6 m ++ bytes_of (linked_headers 44 j)) first
        ∙ (ap (λ e. slice_set (with_word a 4 fragment_len) 6 (number_of_first k 44) ++ bytes_of e) same
        ∙ ap (λ y. y ++ bytes_of (linked_headers 44 k)) (twice b t fragment_len (number_of_first c 44) (number_of_first k 44)))

    fragment_with : rewritten q (j ++ later) q.number q.payload ≡ front_with 6 (with_word b 4 fragment_len) k 44 ++ rest
    fragment_with =
        rewritten_front q j later 44 rest f_parts.version f_parts.stated f_links f_number f_bytes
        ∙ (ap (λ y. front_with 6 (with_word y 4 (length (bytes_of j) + length rest)) j 44 ++ rest) f_parts.base
        ∙ (ap (λ m. front_with 6 (with_word a 4 m) j 44 ++ rest) same_len ∙ ap (λ y. y ++ rest) same_front))

    abbrev packet_len : ℕ
    packet_len = length (bytes_of k) + length r

    packet_with : rewritten p (k ++ d) p.number p.payload ≡ front_with 6 (with_word b 4 packet_len) k g ++ r
    packet_with = rewritten_front p k d g r parts.version parts.stated links number bytes ∙ ap (λ y. front_with 6 (with_word y 4 packet_len) k g ++ r) parts.base

    alike : rewritten q (j ++ later) q.number q.payload ≡ ipv6_fragment_bytes (rewritten p (k ++ d) p.number p.payload) (40 + length (bytes_of k)) (link_after 40 k) id start end
    alike =
        fragment_with
        ∙ (ap (λ y. front_with 6 y k 44 ++ rest) (sym (word_word b 4 packet_len fragment_len))
        ∙ sym (made (rewritten p (k ++ d) p.number p.payload) (with_word b 4 packet_len) k g r packet_with (word_len b 4 packet_len ∙ b_len) are id start end))

    -- The packet can be fragmented after its new headers, and this is its fragment.
    abbrev whole : List ℕ
    whole = rewritten p (k ++ d) p.number p.payload

    payload_with : drop (40 + length (bytes_of k)) whole ≡ r
    payload_with = dropped whole (with_word b 4 packet_len) k g r packet_with (word_len b 4 packet_len ∙ b_len) are

    module _ (own : AllByRecursion HasBytes k) (small : packet_len < 65536) where
      header_with : IsIpv6Header (with_word b 4 packet_len)
      header_with = record {
        version = ap (λ y. y / 16) (word_other b 4 packet_len 0 (λ e. cc) (λ e. cc)) ∙ header.version;
        len = word_len b 4 packet_len ∙ b_len;
      }

      states_with : payload_length (with_word b 4 packet_len) ≡ packet_len
      states_with = word_is b 4 packet_len (omega (arith, b_len)) small

      sent_with : IsSentIpv6 whole (40 + length (bytes_of k)) (link_after 40 k)
      sent_with = is_sent whole (with_word b 4 packet_len) k g r packet_with header_with are states_with (subst AreBytes (sym packet_with)
          (front_bytes b packet_len g k r base_bytes small (leads_small (slice_index b 6) c six chain.headers have) own (All-drop (λ y. y < 256) n s sent.bytes)))

      module _ (zero : NoZero (drop 1 k)) (none : list_any is_fragment_header k ≡ false) (fits : length (bytes_of k) + 8 + (end - start) ≤ 65535) (ends : Ends (j ++ later)) where
        part_with : IsIpv6Part whole (40 + length (bytes_of k)) (link_after 40 k) id start end (linked_headers g k)
        part_with = is_part whole (with_word b 4 packet_len) k g r packet_with header_with are states_with id start end n (link_after 40 c) s c part refl fits zero none

        rewritten_with : IsRewritten r id start end (40 + length (bytes_of k)) (link_after 40 k) whole (rewritten q (j ++ later) q.number q.payload)
        rewritten_with =
            let all : List ℕ = ipv6_fragment_bytes whole (40 + length (bytes_of k)) (link_after 40 k) id start end in
            let same : all ++ [] ≡ rewritten q (j ++ later) q.number q.payload = append-nil all ∙ sym alike in
            record {
              sent = sent_with;
              payload = payload_with;
              fragment = subst (λ (y : List ℕ). IsIpv6Fragment whole (40 + length (bytes_of k)) (link_after 40 k) id (piece_from y start end) (rewritten q (j ++ later) q.number q.payload)) payload_with
                  (subst (λ (y : List ℕ). IsIpv6Fragment whole (40 + length (bytes_of k)) (link_after 40 k) id (piece_from (drop (40 + length (bytes_of k)) whole) start end) y) same
                  (ipv6_made whole (40 + length (bytes_of k)) (link_after 40 k) id start end (linked_headers g k) sent_with part_with [] (λ zero. ap (λ y. has_error (dissected y).end) same ∙ ends)));
            }

  -- What is known of the headers that are written is known of those that they are.
  abbrev Becomes : ℕ → ℕ → List ExtHeader → List ExtHeader → Type 0
  Becomes m l e i = IsRewritten r id start end m l (rewritten p e p.number p.payload) (rewritten q i q.number q.payload)

  becomes : (m l : ℕ) (e x i y : List ExtHeader) → e ≡ x → i ≡ y → Becomes m l x y → Becomes m l e i
  becomes m l e x i y first second it = subst (λ (z : List ExtHeader). Becomes m l z i) (sym first) (subst (Becomes m l x) (sym second) it)

  -- with one more header
  inserted_fragment : (i : ℕ) (h : ExtHeader) → IsInserted i h q → i ≤ length led
  inserted_fragment i h it = before_fragment i led x found.0 fragmenting (ap (λ e. list_any fragments (take i e)) (sym f_headers) ∙ it.before)

  q_inserted : (i : ℕ) (h : ExtHeader) → IsInserted i h q → inserted i h q.headers ≡ inserted i h led ++ later
  q_inserted i h it = ap (inserted i h) f_headers ∙ inserted_append i h led later (inserted_fragment i h it)

  p_inserted : (i : ℕ) (h : ExtHeader) → IsInserted i h q → inserted i h p.headers ≡ inserted i h c ++ d
  p_inserted i h it = ap (inserted i h) headers ∙ inserted_append i h c d (omega (arith, inserted_fragment i h it, linked_count 44 c))

  inserted_are : (i : ℕ) (h : ExtHeader) → IsInserted i h q → AllByRecursion (λ g. IsHeader g.number g.bytes) (inserted i h c)
  inserted_are i h it = all_inserted (λ (g : ExtHeader). IsHeader g.number g.bytes) i c h chain.headers (header_is h.number h.bytes it.whole)

  pub inserts : (i : ℕ) (h : ExtHeader) → IsInserted i h q → rewritten q (inserted i h q.headers) q.number q.payload
      ≡ ipv6_fragment_bytes (rewritten p (inserted i h p.headers) p.number p.payload) (40 + length (bytes_of (inserted i h c))) (link_after 40 (inserted i h c)) id start end
  inserts i h it =
      ap (λ e. rewritten q e q.number q.payload) (q_inserted i h it)
      ∙ (alike (inserted i h c) (inserted i h led) (first_inserted i 44 44 h c) (linked_inserted i 44 44 h c) (inserted_are i h it)
      ∙ ap (λ e. ipv6_fragment_bytes (rewritten p e p.number p.payload) (40 + length (bytes_of (inserted i h c))) (link_after 40 (inserted i h c)) id start end) (sym (p_inserted i h it)))

  pub inserts_sent : (i : ℕ) (h : ExtHeader) (m : Authentication) (room : ℕ) → insertion_fault m i h q room ≡ None → AreBytes h.bytes → is_fragment_header h ≡ false → length s + length h.bytes ≤ 65575
      → Becomes (40 + length (bytes_of (inserted i h c))) (link_after 40 (inserted i h c)) (inserted i h p.headers) (inserted i h q.headers)
  inserts_sent i h m room accepted bytes other fits =
      let it : IsInserted i h q = insertion m i h q room accepted in
      let free : header_fault m i h q ≡ None = (none_first (header_fault m i h q) _ (none_first (packet_fault q) _ accepted).1).0 in
      let k : List ExtHeader = inserted i h c in
      let grown : length (bytes_of k) ≡ length (bytes_of c) + length h.bytes = inserted_len i c h in
      let small : length (bytes_of k) + length r < 65536 = omega (arith, grown, fits, length-drop n s, sent.within) in
      let zero : NoZero (drop 1 k) =
      zero_inserted i h c later 44 chain.zero_only_first (λ first. ap (λ e. list_any is_options (take 1 e)) (sym f_headers) ∙ insertion_first m i h q free first) (not_options m i h q free) in
      let field : length (bytes_of (inserted i h q.headers)) + length q.payload < 65536 = fragment_fits (inserted i h q.headers) room (room_left m i h q room accepted) in
      let size : length (bytes_of k) + 8 + (end - start) ≤ 65535 =
      omega (arith, field, grown, inserted_len i q.headers h, after_len, ap length f_parts.bytes, length-append (bytes_of q.headers) q.payload) in
      becomes (40 + length (bytes_of k)) (link_after 40 k) (inserted i h p.headers) (k ++ d) (inserted i h q.headers) (inserted i h led ++ later) (p_inserted i h it) (q_inserted i h it)
      (rewritten_with k (inserted i h led) (first_inserted i 44 44 h c) (linked_inserted i 44 44 h c) (inserted_are i h it)
      (all_inserted HasBytes i c h have (header_small h.number h.bytes (header_is h.number h.bytes it.whole), bytes)) small zero (none_inserted is_fragment_header i c h other part.none) size
      (subst Ends (q_inserted i h it) (ends_inserted i h m room accepted)))

  -- with cleared reserved bits
  q_cleared : reserved_fragmented false q.headers ≡ false → cleared_chain q.headers ≡ cleared_chain led ++ later
  q_cleared free =
      ap cleared_chain f_headers ∙ (cleared_append led later ∙ ap (λ e. cleared_chain led ++ e) (later_stays led g start id more found.0 part.units fragmenting (ap (reserved_fragmented false) (sym f_headers) ∙ free)))

  cleared_size : 40 + length (bytes_of (cleared_chain c)) ≡ n
  cleared_size = ap (λ m. 40 + m) (cleared_len c)

  cleared_place : link_after 40 (cleared_chain c) ≡ link_after 40 c
  cleared_place = link_is b (cleared_chain c) b_len ∙ (cleared_link 6 b c ∙ sym (link_is b c b_len))

  cleared_are : IsChain (slice_index b 6) (cleared_chain c)
  cleared_are = cleared_is_chain (slice_index b 6) c chain

  pub clears : reserved_fragmented false q.headers ≡ false → cleared_chain p.headers ≡ cleared_chain c ++ d → rewritten q (cleared_chain q.headers) q.number q.payload
      ≡ ipv6_fragment_bytes (rewritten p (cleared_chain p.headers) p.number p.payload) n (link_after 40 c) id start end
  clears free which =
      let k : List ExtHeader = cleared_chain c in
      ap (λ e. rewritten q e q.number q.payload) (q_cleared free)
      ∙ (alike k (cleared_chain led) (first_led 44 44 c) (linked_cleared 44 44 c) cleared_are.headers
      ∙ (ap (λ e. ipv6_fragment_bytes (rewritten p e p.number p.payload) (40 + length (bytes_of k)) (link_after 40 k) id start end) (sym which)
      ∙ (ap (λ m. ipv6_fragment_bytes (rewritten p (cleared_chain p.headers) p.number p.payload) m (link_after 40 k) id start end) cleared_size
      ∙ ap (λ l. ipv6_fragment_bytes (rewritten p (cleared_chain p.headers) p.number p.payload) n l id start end) cleared_place)))

  pub clears_sent : (m : Authentication) (room : ℕ) → clearing_fault m q room ≡ None → cleared_chain p.headers ≡ cleared_chain c ++ d → Becomes n (link_after 40 c) (cleared_chain p.headers) (cleared_chain q.headers)
  clears_sent m room accepted which =
      let free : reserved_fragmented false q.headers ≡ false = clearing m q room accepted in
      let k : List ExtHeader = cleared_chain c in
      let small : length (bytes_of k) + length r < 65536 = omega (arith, cleared_len c, short6 s n (link_after 40 c) sent, length-drop n s, sent.within) in
      let fits : length (bytes_of k) + 8 + (end - start) ≤ 65535 = omega (arith, cleared_len c, part.fits) in
      let it : Becomes (40 + length (bytes_of k)) (link_after 40 k) (k ++ d) (cleared_chain led ++ later) =
      rewritten_with k (cleared_chain led) (first_led 44 44 c) (linked_cleared 44 44 c) cleared_are.headers (cleared_bytes c have) small cleared_are.zero_only_first (none_cleared c ∙ part.none) fits
      (subst Ends (q_cleared free) (ends_cleared m room accepted)) in
      subst (λ (y : ℕ). Becomes y (link_after 40 c) (cleared_chain p.headers) (cleared_chain q.headers)) cleared_size
      (subst (λ (l : ℕ). Becomes (40 + length (bytes_of k)) l (cleared_chain p.headers) (cleared_chain q.headers)) cleared_place
      (becomes (40 + length (bytes_of k)) (link_after 40 k) (cleared_chain p.headers) (k ++ d) (cleared_chain q.headers) (cleared_chain led ++ later) which (q_cleared free) it))

  -- without headers
  module _ (w : Which) (which : kept w p.headers ≡ kept w c ++ d) (m : Authentication) (room : ℕ) (accepted : without_fault w m q room ≡ None) where
    abbrev k : List ExtHeader
    k = kept w c

    abbrev j : List ExtHeader
    j = kept w led

    kept_headers : AllByRecursion (λ h. IsHeader h.number h.bytes) k
    kept_headers = all_kept (λ (h : ExtHeader). IsHeader h.number h.bytes) w 0 c chain.headers

    q_kept : kept w q.headers ≡ j ++ later
    q_kept =
        let allowed : IsFree w q = free w m q room accepted in
        ap (kept w) f_headers ∙ kept_before w 0 false led x found.0 fragmenting
        (ap (any_selected fragments w 0) (sym f_headers) ∙ allowed.alone) (ap (selects_fragmented w 0 false) (sym f_headers) ∙ allowed.unfragmented)

    pub commutes : without w q ≡ ipv6_fragment_bytes (without w p) (40 + length (bytes_of k)) (link_after 40 k) id start end
    commutes =
        ap (λ e. rewritten q e q.number q.payload) q_kept
        ∙ (alike k j (first_kept w 0 44 44 c) (linked_kept w 0 44 44 c) kept_headers
        ∙ ap (λ e. ipv6_fragment_bytes (rewritten p e p.number p.payload) (40 + length (bytes_of k)) (link_after 40 k) id start end) (sym which))

    pub commutes_sent : Becomes (40 + length (bytes_of k)) (link_after 40 k) (kept w p.headers) (kept w q.headers)
    commutes_sent =
        let small : length (bytes_of k) + length r < 65536 = omega (arith, kept_less w 0 c, short6 s n (link_after 40 c) sent, length-drop n s, sent.within) in
        becomes (40 + length (bytes_of k)) (link_after 40 k) (kept w p.headers) (k ++ d) (kept w q.headers) (j ++ later) which q_kept
        (rewritten_with k j (first_kept w 0 44 44 c) (linked_kept w 0 44 44 c) kept_headers (all_kept HasBytes w 0 c have) small
        (zero_kept w 0 c chain.zero_only_first) (none_among is_fragment_header w 0 c part.none) (omega (arith, kept_less w 0 c, part.fits)) (subst Ends q_kept (ends_without w m room accepted)))

-- The first n bytes of a packet that is fragmented after the headers c, and the offset of the last next header field in them.
of_headers : (s : List ℕ) (n link id start end : ℕ) (c : List ExtHeader) (P : ℕ → ℕ → Type 0) → IsSentIpv6 s n link → IsIpv6Part s n link id start end c
    → (IsSentIpv6 s (40 + length (bytes_of c)) (link_after 40 c) → IsIpv6Part s (40 + length (bytes_of c)) (link_after 40 c) id start end c → P (40 + length (bytes_of c)) (link_after 40 c)) → P n link
of_headers s n link id start end c P sent part law =
    let size : n ≡ 40 + length (bytes_of c) = omega (arith, ap length part.headers, length-drop 40 (take n s), length-take n s, sent.within, sent.base) in
    let Law : ℕ → ℕ → Type 0 = λ y l. IsSentIpv6 s y l → IsIpv6Part s y l id start end c → P y l in
    subst (λ (y : ℕ). Law y link) (sym size) (subst (λ (l : ℕ). Law (40 + length (bytes_of c)) l) part.place law) sent part

-- the packet and its fragment
module _ (s : List ℕ) (n link id start end : ℕ) (c : List ExtHeader) where
  abbrev packet : DissectedParts
  packet = dissected s

  abbrev fragment_of : ℕ → ℕ → DissectedParts
  fragment_of y l = dissected (ipv6_fragment_bytes s y l id start end)

  abbrev written : DissectedParts → List ExtHeader → List ℕ
  written q e = rewritten q e q.number q.payload

  module _ (w : Which) (a : Authentication) (room : ℕ) (sent : IsSentIpv6 s n link) (part : IsIpv6Part s n link id start end c) (which : kept w packet.headers ≡ kept w c ++ drop (length c) packet.headers) where
    pub without_alike : without_fault w a (fragment_of n link) room ≡ None → without w (fragment_of n link) ≡ ipv6_fragment_bytes (without w packet) (40 + length (bytes_of (kept w c))) (link_after 40 (kept w c)) id start end
    without_alike = of_headers s n link id start end c
        (λ y l. without_fault w a (fragment_of y l) room ≡ None → without w (fragment_of y l) ≡ ipv6_fragment_bytes (without w packet) (40 + length (bytes_of (kept w c))) (link_after 40 (kept w c)) id start end)
        sent part (λ t i e. commutes s id start end c t i w which a room e)

    pub without_sent : without_fault w a (fragment_of n link) room ≡ None
        → IsRewritten (drop n s) id start end (40 + length (bytes_of (kept w c))) (link_after 40 (kept w c)) (without w packet) (without w (fragment_of n link))
    without_sent = of_headers s n link id start end c
        (λ y l. without_fault w a (fragment_of y l) room ≡ None → IsRewritten (drop y s) id start end (40 + length (bytes_of (kept w c))) (link_after 40 (kept w c)) (without w packet) (without w (fragment_of y l)))
        sent part (λ t i e. commutes_sent s id start end c t i w which a room e)

  module _ (i : ℕ) (h : ExtHeader) (a : Authentication) (room : ℕ) (sent : IsSentIpv6 s n link) (part : IsIpv6Part s n link id start end c) where
    pub inserted_alike : insertion_fault a i h (fragment_of n link) room ≡ None → written (fragment_of n link) (inserted i h (fragment_of n link).headers)
        ≡ ipv6_fragment_bytes (written packet (inserted i h packet.headers)) (40 + length (bytes_of (inserted i h c))) (link_after 40 (inserted i h c)) id start end
    inserted_alike = of_headers s n link id start end c
        (λ y l. insertion_fault a i h (fragment_of y l) room ≡ None → written (fragment_of y l) (inserted i h (fragment_of y l).headers)
        ≡ ipv6_fragment_bytes (written packet (inserted i h packet.headers)) (40 + length (bytes_of (inserted i h c))) (link_after 40 (inserted i h c)) id start end)
        sent part (λ t m e. inserts s id start end c t m i h (insertion a i h (fragment_of (40 + length (bytes_of c)) (link_after 40 c)) room e))

    pub inserted_sent : AreBytes h.bytes → h.number ≢ 44 → length s + length h.bytes ≤ 65575 → insertion_fault a i h (fragment_of n link) room ≡ None
        → IsRewritten (drop n s) id start end (40 + length (bytes_of (inserted i h c))) (link_after 40 (inserted i h c)) (written packet (inserted i h packet.headers)) (written (fragment_of n link) (inserted i h (fragment_of n link).headers))
    inserted_sent bytes other fits = of_headers s n link id start end c
        (λ y l. insertion_fault a i h (fragment_of y l) room ≡ None
        → IsRewritten (drop y s) id start end (40 + length (bytes_of (inserted i h c))) (link_after 40 (inserted i h c)) (written packet (inserted i h packet.headers)) (written (fragment_of y l) (inserted i h (fragment_of y l).headers)))
        sent part (λ t m e. inserts_sent s id start end c t m i h a room e bytes (ne_eqb h.number 44 other) fits)

  module _ (a : Authentication) (room : ℕ) (sent : IsSentIpv6 s n link) (part : IsIpv6Part s n link id start end c) (which : cleared_chain packet.headers ≡ cleared_chain c ++ drop (length c) packet.headers) where
    pub cleared_alike : clearing_fault a (fragment_of n link) room ≡ None
        → written (fragment_of n link) (cleared_chain (fragment_of n link).headers) ≡ ipv6_fragment_bytes (written packet (cleared_chain packet.headers)) n link id start end
    cleared_alike = of_headers s n link id start end c
        (λ y l. clearing_fault a (fragment_of y l) room ≡ None → written (fragment_of y l) (cleared_chain (fragment_of y l).headers) ≡ ipv6_fragment_bytes (written packet (cleared_chain packet.headers)) y l id start end)
        sent part (λ t m e. clears s id start end c t m (clearing a (fragment_of (40 + length (bytes_of c)) (link_after 40 c)) room e) which)

    pub cleared_sent : clearing_fault a (fragment_of n link) room ≡ None
        → IsRewritten (drop n s) id start end n link (written packet (cleared_chain packet.headers)) (written (fragment_of n link) (cleared_chain (fragment_of n link).headers))
    cleared_sent = of_headers s n link id start end c
        (λ y l. clearing_fault a (fragment_of y l) room ≡ None → IsRewritten (drop y s) id start end y l (written packet (cleared_chain packet.headers)) (written (fragment_of y l) (cleared_chain (fragment_of y l).headers)))
        sent part (λ t m e. clears_sent s id start end c t m a room e which)
