-- The words for codes are those that filters read.
use Rattle.ip_spec.proofs.Common.{◌≡◌, [], ◌+◌, refl, true, false≢true, Some}
use Rattle.std.specs.Prelude.{slice_index_or}
use Rattle.ip_base.specs.declared.err.layer.Layer.{Layer}
use Rattle.ip_base.specs.declared.err.layer.Layer.TheVariants as layer
use Rattle.ip_codes.specs.Codes.{layer_code}
use Rattle.ip_codes.specs.CodeWords.{kind_words, layer_words}
use Rattle.ip_filter.specs.Layers.{can_be_truncated, can_be_too_short}
use Rattle.ip_filter.specs.Numbers.{fault_kind_of, layer_named}
use Rattle.ip_filter.specs.Truth.{kind_index}
use Rattle.ip_filter.specs.declared.term.FaultKind.{FaultKind}
use Rattle.ip_filter.specs.declared.term.FaultKind.TheVariants as kind

pub layer_of_word : (l : Layer) → can_be_truncated l ≡ true → layer_named (slice_index_or layer_words (layer_code l) []) ≡ Some l
layer_of_word layer.IpHeader e = refl
layer_of_word layer.Ipv4Header e = refl
layer_of_word layer.Ipv4Packet e = refl
layer_of_word layer.IpAuthHeader e = refl
layer_of_word layer.Ipv6Header e = refl
layer_of_word layer.Ipv6Packet e = absurd (false≢true e)
layer_of_word layer.Ipv6ExtHeader e = refl
layer_of_word layer.Ipv6HopByHopHeader e = refl
layer_of_word layer.Ipv6DestOptionsHeader e = refl
layer_of_word layer.Ipv6RouteHeader e = refl
layer_of_word layer.Ipv6FragHeader e = refl
layer_of_word layer.Icmpv4 e = absurd (false≢true e)

pub layer_of_short_word : (l : Layer) → can_be_too_short l ≡ true → layer_named (slice_index_or layer_words (layer_code l) []) ≡ Some l
layer_of_short_word layer.IpHeader e = refl
layer_of_short_word layer.Ipv4Header e = refl
layer_of_short_word layer.Ipv4Packet e = refl
layer_of_short_word layer.IpAuthHeader e = refl
layer_of_short_word layer.Ipv6Header e = refl
layer_of_short_word layer.Ipv6Packet e = absurd (false≢true e)
layer_of_short_word layer.Ipv6ExtHeader e = refl
layer_of_short_word layer.Ipv6HopByHopHeader e = refl
layer_of_short_word layer.Ipv6DestOptionsHeader e = refl
layer_of_short_word layer.Ipv6RouteHeader e = refl
layer_of_short_word layer.Ipv6FragHeader e = refl
layer_of_short_word layer.Icmpv4 e = absurd (false≢true e)

pub kind_of_word : (k : FaultKind) → fault_kind_of (slice_index_or kind_words (kind_index k + 1) []) ≡ Some k
kind_of_word kind.TooShort = refl
kind_of_word kind.HopByHopNotAtStart = refl
kind_of_word kind.ZeroPayloadLen = refl
kind_of_word kind.UnsupportedIpVersion = refl
kind_of_word kind.Ipv4HeaderLength = refl
