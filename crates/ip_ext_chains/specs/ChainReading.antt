-- Reading a chain, one header after the other, each by its requests.
use Rattle.std.specs.Prelude.{ℕ, ◌≡◌, ◌+◌, ◌==◌, Bool, false, IsTrue, List, [], ◌∷◌, ◌++◌, length, Option, Some, None, if◌then◌else◌, refl}
use Rattle.std.specs.Option.{option_map}
use Rattle.std.specs.Io.KnownBytes.{Consumes}
use Rattle.ip_base.specs.declared.err.layer.Layer.{Layer}
use Rattle.ip_base.specs.declared.err.layer.Layer.TheVariants.{Ipv6ExtHeader, Ipv6FragHeader, IpAuthHeader}
use Rattle.ip_spec.specs.Numbers.{HOP_BY_HOP, FRAGMENT, AUTHENTICATION}
use Rattle.ip_spec.specs.Header.{IsHeader}
use Rattle.ip_spec.specs.Fields.{next_header, raw_fields, fragment_fields, auth_fields}
use Rattle.ip_spec.specs.Requests.{Asks}
use Rattle.ip_spec.specs.Chain.{ExtHeader, IsChain, leads_to, bytes_of, is_empty}
use Rattle.ip_spec.specs.Fits.{FitsPlaces, IsOccupied}
use Rattle.ip_spec.specs.Places.{Place, hop_by_hop, destination, routing, fragment, authentication, final_destination, number_in}
use Rattle.ip_base.specs.Limits.{Limits, left, started, advanced}
use Rattle.ip_base.specs.LimitedReader.{inner_of, limits_of, window}
use Rattle.ip_base.specs.Reading.{IsRefused, IsConsumedInLayer, IsPastLimit, IsRefusedWithin}
use Rattle.ip_base.specs.declared.io.limited_reader.LimitedReader.{LimitedReader}
use Rattle.ip_ext_headers.specs.AuthReading.{IsZeroConsumed}
use Rattle.ip_base.specs.declared.err.ipv6_exts.header_error.HeaderError.TheVariants.{HopByHopNotAtStart, IpAuth}
use Rattle.ip_ext_chains.specs.Fitting.{IsFittingAnswer}
use Rattle.ip_ext_chains.specs.declared.ipv6_exts.Ipv6Extensions.{Ipv6Extensions}
use Rattle.ip_ext_chains.specs.declared.ipv6_routing_exts.Ipv6RoutingExtensions.{Ipv6RoutingExtensions}
use Rattle.ip_ext_chains.specs.declared.err.ipv6_exts.header_read_error.HeaderReadError.{HeaderReadError}
use Rattle.ip_ext_chains.specs.declared.err.ipv6_exts.header_read_error.HeaderReadError.TheVariants as read
use Rattle.ip_ext_chains.specs.declared.err.ipv6_exts.header_limited_read_error.HeaderLimitedReadError.{HeaderLimitedReadError}
use Rattle.ip_ext_chains.specs.declared.err.ipv6_exts.header_limited_read_error.HeaderLimitedReadError.TheVariants as limited

-- the layer that a header of number m starts
abbrev pub layer_of : ℕ → Layer
layer_of m = if m == FRAGMENT then Ipv6FragHeader else if m == AUTHENTICATION then IpAuthHeader else Ipv6ExtHeader

-- the limit after headers c, each of which started a layer of its own
abbrev pub limits_after : List ExtHeader → Limits → Limits
limits_after [] l = l
limits_after (h ∷ c) l = limits_after c (advanced (length h.bytes) (started (layer_of h.number) l))

-- the limit after one more header
pub limits_after-more : (c : List ExtHeader) (h : ExtHeader) (l : Limits) → limits_after (c ++ h ∷ []) l ≡ advanced (length h.bytes) (started (layer_of h.number) (limits_after c l))
limits_after-more [] h l = refl
limits_after-more (g ∷ c) h l = limits_after-more c h (advanced (length g.bytes) (started (layer_of g.number) l))

-- Headers were read. Whatever follows them, their parse from number n has the value v, the number m, no error, and
-- leaves what follows. `Consumed` says which headers a reader returned.
pub record IsChainConsumed {R : Type 0} (Consumed : R → R → List ExtHeader → Type 0) (old new : R) (n : ℕ) (v : Ipv6Extensions) (m : ℕ) : Type 0 where
  pub headers : List ExtHeader
  pub chain : IsChain n headers
  pub consumed : Consumed old new headers
  pub answer : (rest : List ℕ) → IsFittingAnswer n (bytes_of headers ++ rest) v m rest None

-- After headers that were read, no header of the number to which they lead could be read, although its place is free.
-- `Refused` says why, from whether it would be the first, its number, and the reader before and after.
pub record IsChainRefused {R : Type 0} (Consumed : R → R → List ExtHeader → Type 0) (Refused : Bool → ℕ → R → R → Type 0) (old new : R) (n : ℕ) : Type 0 where
  pub headers : List ExtHeader
  pub chain : IsChain n headers
  pub fits : FitsPlaces headers
  pub free : IsOccupied (leads_to n headers) headers → ⊥
  pub between : R
  pub consumed : Consumed old between headers
  pub refused : Refused (is_empty headers) (leads_to n headers) between new

module _ {T : Type 0} (bytes_left : T → Option (List ℕ)) (is_steady has_failed : T → Bool) where
  -- these headers were read; if there are none, nothing has changed
  pub record AreConsumed (old new : T) (c : List ExtHeader) : Type 0 where
    pub bytes : Consumes (bytes_left old) (bytes_left new) (bytes_of c)
    pub steady : is_steady new ≡ is_steady old
    pub kept : has_failed new ≡ has_failed old
    pub none : c ≡ [] → new ≡ old

  -- They were read within the limit, each in a layer of its own. `left_over` says that the limit allowed these bytes.
  pub record AreConsumedInLayers (old new : LimitedReader T) (c : List ExtHeader) : Type 0 where
    pub left_over : left (limits_of new) + length (bytes_of c) ≡ left (limits_of old)
    pub limits : limits_of new ≡ limits_after c (limits_of old)
    pub bytes : Consumes (bytes_left (inner_of old)) (bytes_left (inner_of new)) (bytes_of c)
    pub window : Consumes (window bytes_left old) (window bytes_left new) (bytes_of c)
    pub steady : is_steady (inner_of new) ≡ is_steady (inner_of old)
    pub kept : has_failed (inner_of new) ≡ has_failed (inner_of old)
    pub none : c ≡ [] → new ≡ old

  -- these bytes of a header were read, without a failure
  abbrev pub IsRead : T → T → List ℕ → Type 0
  IsRead old new bytes = Consumes (bytes_left old) (bytes_left new) bytes × (is_steady new ≡ is_steady old) × (has_failed new ≡ has_failed old)

  -- they were read within the limit, in a layer of their own
  abbrev pub IsReadInLayer : Layer → LimitedReader T → LimitedReader T → List ℕ → Type 0
  IsReadInLayer layer old new bytes =
      IsConsumedInLayer bytes_left layer old new bytes × (is_steady (inner_of new) ≡ is_steady (inner_of old)) × (has_failed (inner_of new) ≡ has_failed (inner_of old))

  -- Why a header of number m isn't read. Hop-by-hop options (0) are read only first; later they are an error, and
  -- nothing is read.
  abbrev pub IsHeaderRefused : HeaderReadError → Bool → ℕ → T → T → Type 0
  IsHeaderRefused (read.Io e) first m old new =
      (m ≡ HOP_BY_HOP → IsTrue first) × IsRefused (Asks m) (is_steady old) (bytes_left old) (has_failed new)
  IsHeaderRefused (read.Content HopByHopNotAtStart) first m old new = (m ≡ HOP_BY_HOP) × (first ≡ false) × (new ≡ old)
  IsHeaderRefused (read.Content (IpAuth e)) first m old new =
      (m ≡ AUTHENTICATION) × IsZeroConsumed (Consumes (bytes_left old) (bytes_left new)) (has_failed old) (has_failed new)

  abbrev pub IsHeaderRefusedInLayer : HeaderLimitedReadError → Bool → ℕ → LimitedReader T → LimitedReader T → Type 0
  IsHeaderRefusedInLayer (limited.Io e) first m old new =
      (m ≡ HOP_BY_HOP → IsTrue first) × IsRefusedWithin bytes_left is_steady has_failed (Asks m) (layer_of m) old new
  IsHeaderRefusedInLayer (limited.Len e) first m old new =
      (m ≡ HOP_BY_HOP → IsTrue first) × IsPastLimit bytes_left is_steady has_failed (Asks m) (layer_of m) old new e
  IsHeaderRefusedInLayer (limited.Content HopByHopNotAtStart) first m old new = (m ≡ HOP_BY_HOP) × (first ≡ false) × (new ≡ old)
  IsHeaderRefusedInLayer (limited.Content (IpAuth e)) first m old new =
      (m ≡ AUTHENTICATION) × IsZeroConsumed (IsConsumedInLayer bytes_left (layer_of m) old new) (has_failed (inner_of old)) (has_failed (inner_of new))

-- a routing header without destination options after it
abbrev pub routing_fields : List ℕ → Ipv6RoutingExtensions
routing_fields b = record { routing = raw_fields b; final_destination_options = None }

-- v with the header of these bytes in a place
abbrev pub with_header : Place → List ℕ → Ipv6Extensions → Ipv6Extensions
with_header hop_by_hop b v = record v { hop_by_hop_options = Some (raw_fields b) }
with_header destination b v = record v { destination_options = Some (raw_fields b) }
with_header routing b v = record v { routing = Some (routing_fields b) }
with_header fragment b v = record v { fragment = Some (fragment_fields b) }
with_header authentication b v = record v { auth = Some (auth_fields b) }
with_header final_destination b v = record v { routing = option_map {T = Ipv6RoutingExtensions} {U = Ipv6RoutingExtensions} (λ r. record r { final_destination_options = Some (raw_fields b) }) v.routing }

-- A header was read into the place p, and leads to number m.
pub record IsReadInto (Consumed : List ℕ → Type 0) (p : Place) (m : ℕ) (old new : Ipv6Extensions) : Type 0 where
  pub bytes : List ℕ
  pub header : IsHeader (number_in p) bytes
  pub consumed : Consumed bytes
  pub next : m ≡ next_header bytes
  pub value : new ≡ with_header p bytes old

-- A header was read into a place of its own, and leads to number m.
pub record IsHeaderRead {V : Type 0} (IsOne : List ℕ → Type 0) (fields_of : List ℕ → V) (Consumed : List ℕ → Type 0) (m : ℕ) (place : Option V) : Type 0 where
  pub bytes : List ℕ
  pub header : IsOne bytes
  pub consumed : Consumed bytes
  pub next : m ≡ next_header bytes
  pub value : place ≡ Some (fields_of bytes)
