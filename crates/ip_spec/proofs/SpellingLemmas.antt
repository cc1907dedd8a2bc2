-- The encoding of a value, what it parses to, and its walk's result.
use Rattle.ip_spec.proofs.Common.{Err, ◌≡◌, ℕ, ◌<◌, List, [], ◌∷◌, ◌++◌, refl, ap, sym, ◌∙◌, arith, Bool, rules, Option, None, is_some, ◌==◌, ◌&&◌, ◌↔◌, if◌then◌else◌, option_map, option_map_or, AllByRecursion, find, common_steps, IsLongestOf, All-append, IsExtensionNumber, AreBytes, IsCleared, cleared_chain, ExtHeader, leads_to, bytes_of, IsChain, IsLongestUnder, FitsPlaces, IsOccupied, Place, hop_by_hop, places, number_in, header_in, fields_of, IsEncodable, IsParsed, PlacedFields, IsValueOf, IsSpelling, IsReachable, answer_at, IsWalkAnswer}
use Rattle.ip_base.specs.declared.err.ipv6_exts.exts_walk_error.ExtsWalkError.TheVariants.{HopByHopNotAtStart, ExtNotReferenced}
use Rattle.ip_spec.proofs.LongestOfLemmas.{longest_where_none_next}
use Rattle.ip_spec.proofs.StepLemmas.{by_more, bytes_of-more}
use Rattle.ip_spec.proofs.FitsLemmas.{fits_places}
use Rattle.ip_spec.proofs.ParsedLemmas.{has_parsed_before, parsed_longest_under, whole_parsed}
use Rattle.ip_spec.proofs.ChainLemmas.{whole_longest, one_longest}
use Rattle.ip_spec.proofs.ClearedLemmas.{cleared_is_chain, cleared_fits, cleared_are, cleared_leads, value-cleared}
use Rattle.ip_spec.proofs.HeaderLemmas.{header_number}
use Rattle.ip_spec.proofs.EncodedLemmas.{one_header_says}
use Rattle.ip_spec.proofs.PlaceLemmas.{place_number, occupied_breaks}
use Rattle.ip_spec.proofs.WalkLemmas.{WalkAnswer, leads, unreached, Next, next_shown, shown_grows, one_reach}

-- bytes s parse as the value v of six places
abbrev pub IsParsedAs : PlacedFields → ℕ → ℕ → List ℕ → Type 0
IsParsedAs v f m s = IsParsed FitsPlaces (λ c. IsValueOf c v) f m s

-- a chain with the value v encodes it
pub value_spelled : (v : PlacedFields) (f : ℕ) (c : List ExtHeader) → IsChain f c → FitsPlaces c → IsValueOf c v → AllByRecursion IsCleared c → IsSpelling v f c
value_spelled v f c chain fits value cleared = search rules

-- A chain that encodes v is all that v reaches.
pub spelling_is_reach : (v : PlacedFields) (f : ℕ) (c : List ExtHeader) → IsSpelling v f c → IsLongestOf (IsReachable v f) c
spelling_is_reach v f c s =
    longest_where_none_next (IsReachable v f) (shown_grows v f) c s.reachable
    (λ x k. let n : Next v f c x = next_shown v f c x k in cc (s.value n.joins.place))

pub one_spelling : (v : PlacedFields) (f : ℕ) (c d : List ExtHeader) → IsSpelling v f c → IsSpelling v f d → c ≡ d
one_spelling v f c d s t = one_reach v f c d (spelling_is_reach v f c s) (spelling_is_reach v f d t)

-- the first place, in order, in which u has a header
abbrev first_filled : PlacedFields → Option Place
first_filled u = find (λ p. is_some (u p)) places

-- If nothing is left, each place of v is that of the chain.
pub nothing_filled : (u : PlacedFields) → first_filled u ≡ None → (p : Place) → u p ≡ None
nothing_filled u e p = search rules

-- a result that leads on means that nothing is left, and vice versa; the result is computed from what is left:
-- hop-by-hop options, and the first place
abbrev fault_or_number : ℕ → Bool → Option Place → WalkAnswer
fault_or_number m b o = option_map_or (λ p. Err (if (m == 0) && b then HopByHopNotAtStart else ExtNotReferenced (record { 0 = number_in p }))) o (leads m)

leads_told : (m k : ℕ) (b : Bool) (o : Option Place) → leads k ≡ fault_or_number m b o → (o ≡ None) × (m ≡ k)
leads_told m k b o e = search rules

pub leads_where_none : (m : ℕ) (u : PlacedFields) → ((p : Place) → u p ≡ None) → answer_at m u ≡ leads m
leads_where_none m u e = search rules

module _ (v : PlacedFields) (f : ℕ) where
  shown_whole : (c : List ExtHeader) → IsReachable v f c → ((p : Place) → unreached v c p ≡ None) → IsSpelling v f c
  shown_whole c s none = search rules

  pub one_answer : (a b : WalkAnswer) → IsWalkAnswer v f a → IsWalkAnswer v f b → a ≡ b
  one_answer a b x y = grind (arith, common_steps, one_reach v f x.reach y.reach x.is_reach y.is_reach)

  -- A result that leads on has an encoding, and an encoding has that result.
  pub leads_spelled : (m : ℕ) → IsWalkAnswer v f (leads m) → (c : List ExtHeader) × IsSpelling v f c × (leads_to f c ≡ m)
  leads_spelled m a =
      let told = leads_told (leads_to f a.reach) m (is_some (unreached v a.reach hop_by_hop)) (first_filled (unreached v a.reach)) a.answer in
      (a.reach, shown_whole a.reach a.is_reach.has (nothing_filled (unreached v a.reach) told.0), told.1)

  none_unreached : (c : List ExtHeader) → IsValueOf c v → (p : Place) → unreached v c p ≡ None
  none_unreached c value p = search rules

  pub spelled_leads : (c : List ExtHeader) → IsSpelling v f c → IsWalkAnswer v f (leads (leads_to f c))
  spelled_leads c s = search (rules, spelling_is_reach, none_unreached)

  -- A chain of bytes, cleared, encodes its value.
  pub cleared_spells : (c : List ExtHeader) → IsChain f c → FitsPlaces c → AreBytes (bytes_of c) → IsValueOf c v → IsSpelling v f (cleared_chain c)
  cleared_spells c k fits bytes value = search (rules, value_spelled, cleared_is_chain, cleared_fits, value-cleared, cleared_are)

  pub parsed_leads : (m : ℕ) (s : List ℕ) → IsParsedAs v f m s → IsWalkAnswer v f (leads m)
  parsed_leads m s r =
      let chain = r.longest.has.0.chain in
      let spelled = cleared_spells r.chain chain r.longest.has.1 (rw r.all r.bytes) r.value in
      rw (cleared_leads f r.chain chain.headers, r.number) at (spelled_leads (cleared_chain r.chain) spelled)

  module _ (e : IsEncodable v) where
    said_bytes : (c : List ExtHeader) (x : ExtHeader) → Next v f c x → AreBytes x.bytes
    said_bytes c x n =
        let it = e.encoded n.joins.place (fields_of x) n.said in
        let same : it.0.number ≡ x.number = cc (it.1.number, place_number x.number n.joins.place _ n.joins.at) in
        rw (one_header_says it.0 x same (rw it.1.number it.1.header) n.header it.1.cleared n.cleared it.1.fields) at it.1.bytes

    pub shown_bytes : (c : List ExtHeader) → IsReachable v f c → AreBytes (bytes_of c)
    shown_bytes = by_more (λ c. IsReachable v f c → AreBytes (bytes_of c)) (λ s k d l. omega arith)
        (λ c x before s.
        let all = All-append (λ y. y < 256) (bytes_of c) x.bytes (before ((shown_grows v f).begins c (x ∷ []) s)) in
        rw bytes_of-more (all (said_bytes c x (next_shown v f c x s))))

    -- the value is parsed from the bytes of the chain that encodes it
    pub spelled_whole : (c : List ExtHeader) → IsSpelling v f c → IsParsedAs v f (leads_to f c) (bytes_of c)
    spelled_whole c s = search (rules, whole_parsed, fits_places, shown_bytes)

    -- so a result leads on if and only if the value is parsed from some bytes
    pub leads_parsed : (m : ℕ) → IsWalkAnswer v f (leads m) → (s : List ℕ) × IsParsedAs v f m s
    leads_parsed m a = let it = leads_spelled m a in (bytes_of it.0, rw it.2 at (spelled_whole it.0 it.1))

    pub leads_exactly : (a : WalkAnswer) → IsWalkAnswer v f a → (m : ℕ) → (a ≡ leads m) ↔ ((s : List ℕ) × IsParsedAs v f m s)
    leads_exactly a x m = ((λ e. leads_parsed m (rw e at x)), (λ r. one_answer a (leads m) x (parsed_leads m r.0 r.1)))

-- An encoding parses again, whatever follows it, unless an extension number follows whose place is free.
pub spelled_is_parsed : (v : PlacedFields) (f : ℕ) (c : List ExtHeader) (r : List ℕ) → IsSpelling v f c → (IsExtensionNumber (leads_to f c) → IsOccupied (leads_to f c) c) → IsLongestUnder FitsPlaces f (bytes_of c ++ r) c
spelled_is_parsed v f c r s occupied =
    parsed_longest_under FitsPlaces fits_places f (bytes_of c ++ r) c (leads_to f c) r (has_parsed_before FitsPlaces fits_places f (leads_to f c) c r s.reachable.chain s.reachable.fits refl)
    (λ h x. occupied_breaks c (leads_to f c) (occupied (header_number (leads_to f c) h.bytes x.header)) h x.number)

-- Writing a parsed value returns the parsed bytes, cleared.
pub spelled_is_cleared : (v : PlacedFields) (f : ℕ) (c d : List ExtHeader) → IsChain f c → FitsPlaces c → AreBytes (bytes_of c) → IsValueOf c v → IsSpelling v f d → d ≡ cleared_chain c
spelled_is_cleared v f c d k fits bytes value s = one_spelling v f d (cleared_chain c) s (cleared_spells v f c k fits bytes value)

-- Equal encodings have equal values.
pub spelled_alike : (v w : PlacedFields) (f : ℕ) (c d : List ExtHeader) → IsSpelling v f c → IsSpelling w f d → (bytes_of c ≡ bytes_of d) ↔ ((p : Place) → v p ≡ w p)
spelled_alike v w f c d s t = (
  (λ e p. s.value p ∙ ap (λ l. option_map fields_of (header_in p l)) (search (rules, one_longest, whole_longest)) ∙ sym (t.value p)),
  (λ e. ap bytes_of (one_spelling w f c d (value_spelled w f c s.reachable.chain s.reachable.fits (λ p. sym (e p) ∙ s.value p) s.reachable.cleared) t)),
)
