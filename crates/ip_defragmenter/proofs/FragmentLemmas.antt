-- Where a fragment's headers and bytes are in a packet.
use Rattle.ip_spec.proofs.Common.{◌≡◌, ℕ, ◌+◌, ◌-◌, ◌≤◌, List, [], ◌∷◌, ◌++◌, refl, sym, ◌∙◌, ap, arith, common_steps, length, length-append, append_assoc, take, drop, drop-append_seam, take-append_seam, flat_map-append, Option, Some, None, option_map, ExtHeader, bytes_of, find}
use Rattle.ip_dissect.specs.Fragment.{fragments}
use Rattle.ip_dissect.specs.Dissection.{dissected}
use Rattle.ip_dissect.specs.Summary.{IsBaseOf}
use Rattle.ip_dissect.specs.declared.dissection.BaseHeader.{BaseHeader}
use Rattle.ip_dissect.specs.declared.summary.Summary.{Summary}
use Rattle.ip_dissect.specs.declared.packet.Packet.{Packet}
use Rattle.ip_dissect.proofs.JoinedLemmas.{parts_joined}
use Rattle.ip_dissect.proofs.PacketLemmas.{summary_fits}
use Rattle.ip_defragmenter.specs.Split.{before_fragment, after_fragment}
use Rattle.ip_defragmenter.specs.Finder.{found_at, found_after}
use Rattle.ip_defragmenter.specs.FragmentOf.{FragmentParts}
use Rattle.ip_defragmenter.specs.declared.finder.FoundHeader.{FoundHeader}
use Rattle.ip_defragmenter.specs.declared.finder.Finder.{Finder}

-- the headers before the fragment header, it and those after it
pub headers_split : (c : List ExtHeader) (h : ExtHeader) → find fragments c ≡ Some h → c ≡ before_fragment c ++ h ∷ after_fragment c
headers_split [] h e = absurd (cc)
headers_split (g ∷ c) h e = grind (arith, common_steps, headers_split c h)

-- The bytes of two joined parts at the start of s, and of the part between a and c.
pub front_is : (a b s : List ℕ) (i : ℕ) → a ++ b ≡ s → i ≡ length a → take i s ≡ a
front_is a b s i whole at = ap (take i) (sym whole) ∙ (ap (λ (n : ℕ). take n (a ++ b)) at ∙ take-append_seam a b)

pub middle_is : (a b c s : List ℕ) (i j : ℕ) → a ++ (b ++ c) ≡ s → i ≡ length a → j ≡ length a + length b → take (j - i) (drop i s) ≡ b
middle_is a b c s i j whole at to =
    let size : j - i ≡ length b = omega (arith, at, to) in
    let rest : drop i s ≡ b ++ c = ap (drop i) (sym whole) ∙ (ap (λ (n : ℕ). drop n (a ++ (b ++ c))) at ∙ drop-append_seam a (b ++ c)) in
    ap (take (j - i)) rest ∙ (ap (λ (n : ℕ). take n (b ++ c)) size ∙ take-append_seam b c)

-- the packet's bytes after the base header
module _ (s : List ℕ) (b : Option BaseHeader) (is : IsBaseOf s b) where
  after_base_joined : (dissected s).base ++ ((bytes_of (dissected s).headers ++ (dissected s).payload) ++ (dissected s).padding) ≡ s
  after_base_joined =
      ap (λ (x : List ℕ). (dissected s).base ++ x) (append_assoc (bytes_of (dissected s).headers) (dissected s).payload (dissected s).padding)
      ∙ (sym (append_assoc (dissected s).base (bytes_of (dissected s).headers) ((dissected s).payload ++ (dissected s).padding))
      ∙ (sym (append_assoc ((dissected s).base ++ bytes_of (dissected s).headers) (dissected s).payload (dissected s).padding) ∙ parts_joined s b is))

  pub ipv4_bytes : (i j : ℕ) → i ≡ length (dissected s).base → j ≡ length (dissected s).base + length (bytes_of (dissected s).headers) + length (dissected s).payload
      → take (j - i) (drop i s) ≡ bytes_of (dissected s).headers ++ (dissected s).payload
  ipv4_bytes i j at to = middle_is (dissected s).base (bytes_of (dissected s).headers ++ (dissected s).payload) (dissected s).padding s i j after_base_joined at
      (omega (arith, to, length-append (bytes_of (dissected s).headers) (dissected s).payload))

  module _ (h : ExtHeader) (found : find fragments (dissected s).headers ≡ Some h) where
    bytes_split : bytes_of (dissected s).headers ≡ bytes_of (before_fragment (dissected s).headers) ++ (h.bytes ++ bytes_of (after_fragment (dissected s).headers))
    bytes_split = ap bytes_of (headers_split (dissected s).headers h found) ∙ flat_map-append (λ (g : ExtHeader). g.bytes) (before_fragment (dissected s).headers) (h ∷ after_fragment (dissected s).headers)

    pub split_length : length (bytes_of (dissected s).headers) ≡ length (bytes_of (before_fragment (dissected s).headers)) + length h.bytes + length (bytes_of (after_fragment (dissected s).headers))
    split_length = omega (arith, ap length bytes_split, length-append (bytes_of (before_fragment (dissected s).headers)) (h.bytes ++ bytes_of (after_fragment (dissected s).headers)), length-append h.bytes (bytes_of (after_fragment (dissected s).headers)))

    pub ipv6_headers : (i : ℕ) → i ≡ length (dissected s).base + length (bytes_of (before_fragment (dissected s).headers)) → take i s ≡ (dissected s).base ++ bytes_of (before_fragment (dissected s).headers)
    ipv6_headers i at =
        let x = (dissected s).base in
        let y = bytes_of (before_fragment (dissected s).headers) in
        let z = h.bytes ++ bytes_of (after_fragment (dissected s).headers) in
        let w = (dissected s).payload ++ (dissected s).padding in
        let whole : (x ++ y) ++ (z ++ w) ≡ s =
        append_assoc x y (z ++ w) ∙ (ap (λ (u : List ℕ). x ++ u) (sym (append_assoc y z w)) ∙ (ap (λ (u : List ℕ). x ++ (u ++ w)) (sym bytes_split)
        ∙ (ap (λ (u : List ℕ). x ++ u) (sym (append_assoc (bytes_of (dissected s).headers) (dissected s).payload (dissected s).padding)) ∙ after_base_joined))) in
        front_is (x ++ y) (z ++ w) s i whole (omega (arith, at, length-append x y))

    pub ipv6_bytes : (i j : ℕ) → i ≡ length (dissected s).base + length (bytes_of (before_fragment (dissected s).headers)) + length h.bytes → j ≡ length (dissected s).base + length (bytes_of (dissected s).headers) + length (dissected s).payload
        → take (j - i) (drop i s) ≡ bytes_of (after_fragment (dissected s).headers) ++ (dissected s).payload
    ipv6_bytes i j at to =
        let x = (dissected s).base in
        let y = bytes_of (before_fragment (dissected s).headers) in
        let z = h.bytes in
        let v = bytes_of (after_fragment (dissected s).headers) in
        let w = (dissected s).payload in
        let q = (dissected s).padding in
        let whole : (x ++ (y ++ z)) ++ ((v ++ w) ++ q) ≡ s =
        append_assoc x (y ++ z) ((v ++ w) ++ q)
        ∙ (ap (λ (u : List ℕ). x ++ u) (sym (append_assoc (y ++ z) (v ++ w) q) ∙ ap (λ (u : List ℕ). u ++ q) (sym (append_assoc (y ++ z) v w) ∙ ap (λ (u : List ℕ). u ++ w) (append_assoc y z v ∙ sym bytes_split)))
        ∙ after_base_joined) in
        middle_is (x ++ (y ++ z)) (v ++ w) q s i j whole (omega (arith, at, length-append x (y ++ z), length-append y z))
        (omega (arith, to, split_length, length-append x (y ++ z), length-append y z, length-append v w))

-- fragments with equal parts
pub same_parts : (f g : FragmentParts) → f.key ≡ g.key → f.headers ≡ g.headers → f.link ≡ g.link → f.number ≡ g.number → f.ecn ≡ g.ecn → f.offset ≡ g.offset → f.more ≡ g.more → f.bytes ≡ g.bytes → f ≡ g
same_parts f g a b c d e h i j = rw (a, b, c, d, e, h, i, j) refl

-- the header that was found
pub found_is : (k : ℕ) (o : Option ExtHeader) (x : FoundHeader) → Some x ≡ option_map (found_at k) o → (h : ExtHeader) × ((o ≡ Some h) × (x ≡ found_at k h))
found_is k None x e = absurd (cc)
found_is k (Some h) x e = (h, (refl, let same : Some x ≡ Some (found_at k h) = e in cc))

pub none_is : (k : ℕ) (o : Option ExtHeader) → (let n : Option FoundHeader = None in n) ≡ option_map (found_at k) o → o ≡ None
none_is k None e = refl
none_is k (Some h) e = absurd (cc)

-- where a fragment header that was found lies
pub record FragmentLies (p : Packet) (x : FoundHeader) : Type 0 where
  pub header : ExtHeader
  pub found : find fragments (dissected p.bytes.now).headers ≡ Some header
  pub is : x ≡ found_at (length (dissected p.bytes.now).base + length (bytes_of (before_fragment (dissected p.bytes.now).headers))) header
  pub start : x.start ≤ length p.bytes.now
  pub end : x.start + x.len ≤ length p.bytes.now
  pub before : x.start + x.len ≤ length (dissected p.bytes.now).base + length (bytes_of (dissected p.bytes.now).headers) + length (dissected p.bytes.now).payload

pub fragment_lies : (p : Packet) (x : FoundHeader) (f : Finder) → f ≡ found_after (length (dissected p.bytes.now).base) (dissected p.bytes.now).headers → f.header ≡ Some x → FragmentLies p x
fragment_lies p x f after here =
    let s = p.bytes.now in
    let k = length (dissected s).base + length (bytes_of (before_fragment (dissected s).headers)) in
    let found = found_is k (find fragments (dissected s).headers) x (sym here ∙ ap (λ (g : Finder). g.header) after) in
    let start : x.start ≡ length (dissected s).base + length (bytes_of (before_fragment (dissected s).headers)) = ap (λ (y : FoundHeader). y.start) found.1.1 in
    let len : x.len ≡ length found.0.bytes = ap (λ (y : FoundHeader). y.len) found.1.1 in
    let split = split_length s p.base p.base_is found.0 found.1.0 in
    let fits = summary_fits s p.base p.summary p.base_is p.summary_is in
    let base : p.summary.base_len ≡ length (dissected s).base = ap (λ (o : Summary). o.base_len) p.summary_is in
    let extensions : p.summary.extensions_len ≡ length (bytes_of (dissected s).headers) = ap (λ (o : Summary). o.extensions_len) p.summary_is in
    record {
      header = found.0;
      found = found.1.0;
      is = found.1.1;
      start = omega (arith, start, split, fits, base, extensions);
      end = omega (arith, start, len, split, fits, base, extensions);
      before = omega (arith, start, len, split);
    }
