-- The number to which IPv4 extension headers lead, and their encoding.
use Rattle.std.specs.Prelude.{◌≡◌, ℕ, ◌==◌, if◌then◌else◌, List, Option, Some, None, Ok, Err}
use Rattle.std.specs.List.{AllByRecursion}
use Rattle.std.specs.declared.result.Result.{Result}
use Rattle.ip_base.specs.declared.ip_number_impl.IpNumber.{IpNumber}
use Rattle.ip_spec.specs.Numbers.{AUTHENTICATION}
use Rattle.ip_spec.specs.Fields.{AuthFields}
use Rattle.ip_spec.specs.Demand.{AtMostOneOf}
use Rattle.ip_spec.specs.Encoding.{IsCleared}
use Rattle.ip_spec.specs.Parse.{IsParsed}
use Rattle.ip_ext_chains.specs.Ipv4Parse.{ipv4_value}
use Rattle.ip_base.specs.declared.err.ipv4_exts.exts_walk_error.ExtsWalkError.{ExtsWalkError}
use Rattle.ip_base.specs.declared.err.ipv4_exts.exts_walk_error.ExtsWalkError.TheVariants.{ExtNotReferenced}

-- the number to which the headers lead from number f, or the error that f doesn't refer to the header
abbrev pub ipv4_walk : Option AuthFields → ℕ → Result IpNumber ExtsWalkError
ipv4_walk None f = Ok (record { 0 = f })
ipv4_walk (Some v) f = if f == AUTHENTICATION then Ok (record { 0 = v.next_header }) else Err (ExtNotReferenced (record { 0 = AUTHENTICATION }))

-- from number f, bytes b parse as v with nothing left, and their reserved bits are zero
abbrev pub IsIpv4Encoding : ℕ → Option AuthFields → List ℕ → Type 0
IsIpv4Encoding f v b = (m : ℕ) × IsParsed (AtMostOneOf AUTHENTICATION) (λ c. (ipv4_value c ≡ v) × AllByRecursion IsCleared c) f m b
