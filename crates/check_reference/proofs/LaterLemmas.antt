-- A chain parsed by the plain program: one more header, and the end at a later fragment's.
use Rattle.ip_spec.proofs.Common.{◌≡◌, ℕ, length, map, List, [], ◌∷◌, ◌++◌, ap, ◌∙◌, Bool, true, false, drop, slice_index, map-append, ExtHeader, is_empty, bytes_of, IsNext, IsEnd, IsLongestUnder}
use Rattle.ip_spec.proofs.ParsedLemmas.{HasParsed, has_parsed_next, parsed_longest_under}
use Rattle.ip_spec.proofs.UnderLemmas.{one_longest_under}
use Rattle.ip_dissect.specs.LaterDemand.{is_later, has_later, NothingAfterLater, nothing_after_later}
use Rattle.ip_dissect.specs.Later.{chain_to_later}
use Rattle.ip_dissect.proofs.LaterLemmas.{has_later-more, may_follow, met, none_follows, chain_to_later-longest}
use Rattle.check_reference.proofs.AnswerLemmas.{length-prefix}
use Rattle.check_reference.specs.PlainHeader.{plain_header_of}
use Rattle.check_reference.specs.PlainDissection.{IsToLater}
use Rattle.check_reference.specs.declared.chain.PlainHeader.{PlainHeader}
use Rattle.check_reference.specs.declared.chain.PlainChain.{PlainChain}

pub one_pushed : (n : ℕ) (s : List ℕ) (items pushed : List PlainHeader) (header : PlainHeader) (first : Bool) (m : ℕ) (r prefix after : List ℕ)
    → HasParsed n s (map plain_header_of items) m r → first ≡ is_empty (map plain_header_of items) → IsNext first m r (record { number = m; bytes = prefix }) → drop (length prefix) r ≡ after
    → plain_header_of header ≡ record { number = m; bytes = prefix } → pushed ≡ items ++ header ∷ []
    → HasParsed n s (map plain_header_of pushed) (slice_index prefix 0) after
one_pushed n s items pushed header first m r prefix after read f next rest is e =
    let h : ExtHeader = record { number = m; bytes = prefix } in
    let all : map plain_header_of pushed ≡ map plain_header_of items ++ h ∷ [] = cc (map-append plain_header_of items (header ∷ [])) in
    rw (all, ← rest) (has_parsed_next n s (map plain_header_of items) m r h read (rw f at next))

-- the chain c has been parsed and has no later fragment's header
pub record BeforeLater (n : ℕ) (s : List ℕ) (c : List ExtHeader) (m : ℕ) (r : List ℕ) : Type 0 where
  pub read : HasParsed n s c m r
  pub none : has_later c ≡ false

-- if it is the longest, it is the chain to a later fragment's header
to_later : (n : ℕ) (s : List ℕ) (c : List ExtHeader) (m : ℕ) (r : List ℕ) → HasParsed n s c m r → IsLongestUnder NothingAfterLater n s c → (x : PlainChain) → map plain_header_of x.headers.items ≡ c → x.number ≡ m → x.rest.now ≡ r → IsToLater n s x
to_later n s c m r read longest x xh xn xr =
    let is : c ≡ chain_to_later n s = one_longest_under NothingAfterLater nothing_after_later n s c (chain_to_later n s) longest (chain_to_later-longest n s) in
    let within = length-prefix (bytes_of (chain_to_later n s)) s (chain_to_later-longest n s).has.0.prefix in
    record { headers = cc; number = cc (read.number); rest = cc (read.rest); within = within }

-- where no header follows
pub ends_here : (n : ℕ) (s : List ℕ) (c : List ExtHeader) (m : ℕ) (r : List ℕ) → BeforeLater n s c m r → IsEnd (is_empty c) m r → (x : PlainChain) → map plain_header_of x.headers.items ≡ c → x.number ≡ m → x.rest.now ≡ r → IsToLater n s x
ends_here n s c m r w e = to_later n s c m r w.read (parsed_longest_under NothingAfterLater nothing_after_later n s c m r (record { read = w.read; meets = met c w.none }) (λ h x q. e h x))

-- one more header
module _ (n : ℕ) (s : List ℕ) (items pushed : List PlainHeader) (header : PlainHeader) (first : Bool) (m : ℕ) (r prefix after : List ℕ) (w : BeforeLater n s (map plain_header_of items) m r)
    (f : first ≡ is_empty (map plain_header_of items)) (next : IsNext first m r (record { number = m; bytes = prefix })) (rest : drop (length prefix) r ≡ after)
    (is : plain_header_of header ≡ record { number = m; bytes = prefix }) (e : pushed ≡ items ++ header ∷ []) (later : Bool) (told : later ≡ is_later (record { number = m; bytes = prefix })) where
  abbrev more : List ExtHeader
  more = map plain_header_of items ++ (record { number = m; bytes = prefix }) ∷ []

  read : HasParsed n s (map plain_header_of pushed) (slice_index prefix 0) after
  read = one_pushed n s items pushed header first m r prefix after w.read f next rest is e

  all : map plain_header_of pushed ≡ more
  all = ap (map plain_header_of) e ∙ map-append plain_header_of items (header ∷ []) ∙ ap (λ h. map plain_header_of items ++ h ∷ []) is

  has : has_later (map plain_header_of pushed) ≡ later
  has = cc (all, has_later-more (map plain_header_of items) (record { number = m; bytes = prefix }), w.none)

  pub goes_on : later ≡ false → BeforeLater n s (map plain_header_of pushed) (slice_index prefix 0) after
  goes_on not_later = record { read = read; none = has ∙ not_later }

  meets : NothingAfterLater (map plain_header_of pushed)
  meets = rw all (may_follow (map plain_header_of items) (record { number = m; bytes = prefix }) w.none)

  pub stops_here : later ≡ true → (x : PlainChain) → x.headers.items ≡ pushed → x.number ≡ slice_index prefix 0 → x.rest.now ≡ after → IsToLater n s x
  stops_here is_one x xh =
      to_later n s (map plain_header_of pushed) (slice_index prefix 0) after read
      (parsed_longest_under NothingAfterLater nothing_after_later n s (map plain_header_of pushed) (slice_index prefix 0) after (record { read = read; meets = meets }) (λ g y q. none_follows (map plain_header_of pushed) g (has ∙ is_one) q))
      x (ap (map plain_header_of) xh)
