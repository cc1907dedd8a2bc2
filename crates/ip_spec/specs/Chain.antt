-- Chains of extension headers (RFC 8200, section 4).
use Rattle.std.specs.Prelude.{◌≡◌, ◌≢◌, ℕ, ◌-◌, nat_lt, List, [], ◌∷◌, length, drop, ⊤, Bool, true, false, IsTrue, ◌==◌, ◌&&◌, if◌then◌else◌}
use Rattle.std.specs.List.{flat_map, AllByRecursion, list_any}
use Rattle.ip_base.specs.Prefix.{IsPrefix}
use Rattle.ip_spec.specs.Numbers.{HOP_BY_HOP, FRAGMENT}
use Rattle.ip_spec.specs.LongestOf.{IsLongestOf}
use Rattle.ip_spec.specs.Header.{IsHeader}
use Rattle.ip_spec.specs.Fields.{next_header, is_fragmenting}

-- a number and the bytes of a header of that number
pub record ExtHeader : Type 0 where
  pub number : ℕ
  pub bytes : List ℕ

-- the first number is n, and each later one is byte 0 of the header before it
abbrev pub AreLinked : ℕ → List ExtHeader → Type 0
AreLinked n [] = ⊤
AreLinked n (h ∷ c) = (h.number ≡ n) × AreLinked (next_header h.bytes) c

-- c is a chain from n: linked headers, with hop-by-hop options (0) only first
pub record IsChain (n : ℕ) (c : List ExtHeader) : Type 0 where
  pub headers : AllByRecursion (λ h. IsHeader h.number h.bytes) c
  pub links : AreLinked n c
  pub zero_only_first : AllByRecursion (λ h. h.number ≢ HOP_BY_HOP) (drop 1 c)

-- byte 0 of the last header, or n if there is none
abbrev pub leads_to : ℕ → List ExtHeader → ℕ
leads_to n [] = n
leads_to n (h ∷ c) = leads_to (next_header h.bytes) c

-- the headers joined
abbrev pub bytes_of : List ExtHeader → List ℕ
bytes_of c = flat_map (λ h. h.bytes) c

-- of headers that follow one another, those that lie wholly within the first j bytes
abbrev pub headers_within : ℕ → List ExtHeader → List ExtHeader
headers_within j [] = []
headers_within j (h ∷ c) = if nat_lt j (length h.bytes) then [] else h ∷ headers_within (j - length h.bytes) c

-- there is no header
abbrev pub is_empty : List ExtHeader → Bool
is_empty [] = true
is_empty (h ∷ c) = false

-- some fragment header fragments the payload
abbrev pub has_fragmenting : List ExtHeader → Bool
has_fragmenting c = list_any (λ h. (h.number == FRAGMENT) && is_fragmenting h.bytes) c

-- c is a chain from n, and s starts with its bytes
pub record IsPrefixChain (n : ℕ) (s : List ℕ) (c : List ExtHeader) : Type 0 where
  pub chain : IsChain n c
  pub prefix : IsPrefix (bytes_of c) s

-- the chain from n at the start of s that is longer than any other
abbrev pub IsLongestChain : ℕ → List ℕ → List ExtHeader → Type 0
IsLongestChain n s c = IsLongestOf (IsPrefixChain n s) c

-- Header h of number m is at the start of bytes r. `first` says that no header precedes it: only there may its number
-- be 0.
pub record IsNext (first : Bool) (m : ℕ) (r : List ℕ) (h : ExtHeader) : Type 0 where
  pub number : h.number ≡ m
  pub header : IsHeader m h.bytes
  pub prefix : IsPrefix h.bytes r
  pub zero_only_first : m ≡ HOP_BY_HOP → IsTrue first

-- no header follows
abbrev pub IsEnd : Bool → ℕ → List ℕ → Type 0
IsEnd first m r = (h : ExtHeader) → IsNext first m r h → ⊥
