-- The number of bytes to request for a header, given its bytes so far: in a stream, only those show how long the
-- header is. No more bytes are requested if they are a header, or can't become one.
use Rattle.std.specs.Prelude.{◌≡◌, ℕ, ◌+◌, ◌-◌, ◌*◌, ◌≤◌, List, [], length, slice_index}
use Rattle.ip_spec.specs.Numbers.{FRAGMENT, AUTHENTICATION}
use Rattle.ip_spec.specs.Header.{IsRawNumber}

-- of hop-by-hop options, routing and destination options (RFC 8200, sections 4.3, 4.4, 4.6): the next header and the
-- length, then the number of bytes that the length states
pub data RawAsks (done : List ℕ) (count : ℕ) : Type 0 where
  raw_start : done ≡ [] → count ≡ 2 → RawAsks done count
  raw_rest : length done ≡ 2 → count ≡ 8 * slice_index done 1 + 6 → RawAsks done count

-- of a fragment header (RFC 8200, section 4.5): all 8 bytes
pub data FragmentAsks (done : List ℕ) (count : ℕ) : Type 0 where
  fragment_whole : done ≡ [] → count ≡ 8 → FragmentAsks done count

-- of an authentication header (RFC 4302, section 2): the bytes before the check value, then, if the length is not 0,
-- the check value
pub data AuthAsks (done : List ℕ) (count : ℕ) : Type 0 where
  auth_start : done ≡ [] → count ≡ 12 → AuthAsks done count
  auth_icv : length done ≡ 12 → 1 ≤ slice_index done 1 → count ≡ 4 * (slice_index done 1 - 1) → AuthAsks done count

-- of a header of number m
pub data Asks (m : ℕ) (done : List ℕ) (count : ℕ) : Type 0 where
  asks_raw : IsRawNumber m → RawAsks done count → Asks m done count
  asks_fragment : m ≡ FRAGMENT → FragmentAsks done count → Asks m done count
  asks_auth : m ≡ AUTHENTICATION → AuthAsks done count → Asks m done count

-- these are the first bytes of an authentication header, and its length is 0
pub record IsZeroLength (done : List ℕ) : Type 0 where
  pub len : length done ≡ 12
  pub zero : slice_index done 1 ≡ 0
