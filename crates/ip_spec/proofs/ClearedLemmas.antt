-- Chains whose reserved bits are set to zero: they lead to the same number, and have the same places and fields.
use Rattle.ip_spec.proofs.Common.{◌≡◌, ◌≢◌, ℕ, ◌<◌, List, [], ◌∷◌, ◌++◌, length, take, drop, refl, ap, ◌∙◌, arith, subst, Bool, rules, Option, Some, None, All, slice_range, AllByRecursion, find, option_map, ForSome, none-some, take-append_seam, drop-append_seam, recursion_from_All, All-take, All-drop, common_steps, IsHeader, IsFragmentHeader, IsAuthHeader, next_header, cleared_header, AreBytes, fixed_len, IsCleared, cleared_chain, ExtHeader, AreLinked, leads_to, bytes_of, IsChain, FitsPlaces, Place, header_in, fields_of, IsEncodingOf, and_assoc}
use Rattle.ip_spec.proofs.FirstLemmas.{find-map}
use Rattle.ip_spec.proofs.PlaceLemmas.{is_of, side}
use Rattle.ip_spec.proofs.FitsLemmas.{side-map, fits-map}
use Rattle.ip_spec.proofs.HeaderLemmas.{header_number, header-least, by_number, fragment_of, auth_of}
use Rattle.ip_spec.proofs.FragmentBitLemmas.{reserved_part}
use Rattle.ip_spec.proofs.EncodingLemmas.{FirstFour, first_four, byte_at, three_before}
use Rattle.ip_spec.proofs.EncodedLemmas.{cleared_is_encoding}

-- The properties of a header that clearing leaves unchanged.
pub record ClearedSame (n : ℕ) (b : List ℕ) : Type 0 where
  pub header : IsHeader n (cleared_header n b)
  pub fields : fields_of (record { number = n; bytes = cleared_header n b }) ≡ fields_of (record { number = n; bytes = b })
  pub next : next_header (cleared_header n b) ≡ next_header b
  pub len : length (cleared_header n b) ≡ length b
  pub again : cleared_header n (cleared_header n b) ≡ cleared_header n b
  pub bytes : AreBytes (slice_range b 1 (fixed_len n)) → AreBytes (slice_range (cleared_header n b) 1 (fixed_len n))

module _ (x0 x1 x2 x3 : ℕ) (rest : List ℕ) where
  abbrev four_and : List ℕ
  four_and = x0 ∷ x1 ∷ x2 ∷ x3 ∷ rest

  fragment_same : IsFragmentHeader four_and → ClearedSame 44 four_and
  fragment_same h = search (rules, reserved_part, and_assoc)

  auth_same : IsAuthHeader four_and → ClearedSame 51 four_and
  auth_same h =
      let fixed : List ℕ = slice_range four_and 1 12 in
      let bytes : AreBytes fixed → AreBytes (x1 ∷ 0 ∷ 0 ∷ take 8 rest) =
      λ a. three_before x1 0 0 (take 8 rest) (byte_at fixed a 0) (omega arith) (omega arith) (All-drop (λ x. x < 256) 3 fixed a) in
      search (rules, bytes)

module _ (b : List ℕ) where
  abbrev Same : ℕ → Type 0
  Same n = IsHeader n b → ClearedSame n b

  pub cleared_same : (n : ℕ) → Same n
  cleared_same n h =
      let f : FirstFour b = first_four b (omega (arith, header-least n b h)) in
      let F : List ℕ → Type 0 = λ l. IsFragmentHeader l → ClearedSame 44 l in
      let A : List ℕ → Type 0 = λ l. IsAuthHeader l → ClearedSame 51 l in
      by_number Same (search rules) (search rules) (search rules)
      (λ g. subst F f.joined (fragment_same f.x0 f.x1 f.x2 f.x3 f.rest) (fragment_of 44 b refl g))
      (λ g. subst A f.joined (auth_same f.x0 f.x1 f.x2 f.x3 f.rest) (auth_of 51 b refl g))
      n (header_number n b h) h

-- So the cleared header encodes the fields.
pub cleared_encodes : (n : ℕ) (b : List ℕ) → IsHeader n b → AreBytes (slice_range b 1 (fixed_len n)) → IsEncodingOf (fields_of (record { number = n; bytes = b })) (cleared_header n b)
cleared_encodes n b h bytes =
    let same = cleared_same b n h in
    rw same.fields at (cleared_is_encoding n (cleared_header n b) same.header (search (rules, same)))

-- the header h with its reserved bits set to zero
abbrev pub cleared_of : ExtHeader → ExtHeader
cleared_of h = record { number = h.number; bytes = cleared_header h.number h.bytes }

abbrev AreHeaders : List ExtHeader → Type 0
AreHeaders c = AllByRecursion (λ h. IsHeader h.number h.bytes) c

-- Clearing a chain's reserved bits.
pub cleared_leads : (n : ℕ) (c : List ExtHeader) → AreHeaders c → leads_to n (cleared_chain c) ≡ leads_to n c
cleared_leads n [] a = refl
cleared_leads n (h ∷ c) a = ap (λ m. leads_to m (cleared_chain c)) (cleared_same h.bytes h.number a.0).next ∙ cleared_leads (next_header h.bytes) c a.1

cleared_links : (n : ℕ) (c : List ExtHeader) → AreHeaders c → AreLinked n c → AreLinked n (cleared_chain c)
cleared_links n [] a l = tt
cleared_links n (h ∷ c) a l = grind (arith, common_steps, cleared_same h.bytes h.number a.0, cleared_links (next_header h.bytes) c a.1 l.1)

cleared_headers : (c : List ExtHeader) → AreHeaders c → AreHeaders (cleared_chain c)
cleared_headers [] a = tt
cleared_headers (h ∷ c) a = ((cleared_same h.bytes h.number a.0).header, cleared_headers c a.1)

cleared_not_zero : (c : List ExtHeader) → AllByRecursion (λ h. h.number ≢ 0) c → AllByRecursion (λ h. h.number ≢ 0) (cleared_chain c)
cleared_not_zero [] a = tt
cleared_not_zero (h ∷ c) a = (a.0, cleared_not_zero c a.1)

pub cleared_is_chain : (n : ℕ) (c : List ExtHeader) → IsChain n c → IsChain n (cleared_chain c)
cleared_is_chain n c k = grind (arith, common_steps, cleared_headers, cleared_links, cleared_not_zero)

-- a cleared chain of bytes is a chain of bytes
pub cleared_are : (c : List ExtHeader) → AreHeaders c → AreBytes (bytes_of c) → AllByRecursion IsCleared (cleared_chain c)
cleared_are [] a b = tt
cleared_are (h ∷ c) a b =
    let same = cleared_same h.bytes h.number a.0 in
    let P : ℕ → Type 0 = λ x. x < 256 in
    let mine : AreBytes h.bytes = subst AreBytes (take-append_seam h.bytes (bytes_of c)) (All-take P (length h.bytes) (h.bytes ++ bytes_of c) b) in
    let others : AreBytes (bytes_of c) = subst AreBytes (drop-append_seam h.bytes (bytes_of c)) (All-drop P (length h.bytes) (h.bytes ++ bytes_of c) b) in
    (record { reserved = same.again; bytes = same.bytes (All-take P _ (drop 1 h.bytes) (All-drop P 1 h.bytes mine)) }, cleared_are c a.1 others)

pub cleared_fits : (c : List ExtHeader) → FitsPlaces c → FitsPlaces (cleared_chain c)
cleared_fits c = (fits-map cleared_of (λ h. h.number) c).1

-- A property of each header is a property of the one in a place.
find_has : (P : ExtHeader → Type 0) (t : ExtHeader → Bool) (c : List ExtHeader) → All P c → ForSome (find t c) P
find_has P t [] a h e = absurd (none-some h e)
find_has P t (g ∷ c) a h e = grind (arith, common_steps, find_has P t c, recursion_from_All P (g ∷ c) a)

pub header_in_has : (P : ExtHeader → Type 0) (p : Place) (c : List ExtHeader) → AllByRecursion P c → ForSome (header_in p c) P
header_in_has P p c a = find_has P (is_of p) (side p c) (grind (arith, common_steps))

-- So a cleared chain has the same fields.
fields-cleared : (o : Option ExtHeader) → ForSome o (λ h. IsHeader h.number h.bytes) → option_map fields_of (option_map cleared_of o) ≡ option_map fields_of o
fields-cleared None a = refl
fields-cleared (Some h) a = ap Some (cleared_same h.bytes h.number (a h refl)).fields

pub value-cleared : (p : Place) (c : List ExtHeader) → AreHeaders c → option_map fields_of (header_in p (cleared_chain c)) ≡ option_map fields_of (header_in p c)
value-cleared p c a = search (rules, fields-cleared, header_in_has, side-map, find-map)
