-- Where the parts of a packet lie, by its summary.
use Rattle.ip_spec.proofs.Common.{◌≡◌, ℕ, ◌+◌, ◌-◌, List, length, take, drop, ap, ◌∙◌, Option, bytes_of, arith, common_steps}
use Rattle.ip_dissect.specs.Dissection.{dissected}
use Rattle.ip_dissect.specs.Summary.{summary_of, IsBaseOf}
use Rattle.ip_dissect.specs.declared.dissection.BaseHeader.{BaseHeader}
use Rattle.ip_dissect.specs.declared.summary.Summary.{Summary}
use Rattle.ip_dissect.proofs.JoinedLemmas as joined

all_left : (s : List ℕ) (k : ℕ) → take (length s - k) (drop k s) ≡ drop k s
all_left s k = grind (arith, common_steps)

module _ (s : List ℕ) (b : Option BaseHeader) (o : Summary) (base : IsBaseOf s b) (is : o ≡ summary_of (dissected s)) where
  abbrev base_len : o.base_len ≡ length (dissected s).base
  base_len = ap (λ (x : Summary). x.base_len) is

  abbrev extensions_len : o.extensions_len ≡ length (bytes_of (dissected s).headers)
  extensions_len = ap (λ (x : Summary). x.extensions_len) is

  abbrev payload_len : o.payload_len ≡ length (dissected s).payload
  payload_len = ap (λ (x : Summary). x.payload_len) is

  abbrev padding_len : o.padding_len ≡ length (dissected s).padding
  padding_len = ap (λ (x : Summary). x.padding_len) is

  pub summary_fits : o.base_len + o.extensions_len + o.payload_len + o.padding_len ≡ length s
  summary_fits = joined.parts_fit _ _ _ _ s (joined.parts_joined s b base) _ _ _ _ base_len extensions_len payload_len padding_len

  pub extensions_are : take (o.base_len + o.extensions_len - o.base_len) (drop o.base_len s) ≡ bytes_of (dissected s).headers
  extensions_are = joined.second_part _ _ _ _ s (joined.parts_joined s b base) _ _ _ _ base_len extensions_len payload_len padding_len

  pub payload_is : take (o.base_len + o.extensions_len + o.payload_len - (o.base_len + o.extensions_len)) (drop (o.base_len + o.extensions_len) s) ≡ (dissected s).payload
  payload_is = joined.third_part _ _ _ _ s (joined.parts_joined s b base) _ _ _ _ base_len extensions_len payload_len padding_len

  pub padding_is : take (length s - (length s - o.padding_len)) (drop (length s - o.padding_len) s) ≡ (dissected s).padding
  padding_is = all_left s (length s - o.padding_len) ∙ joined.last_part _ _ _ _ s (joined.parts_joined s b base) _ _ _ _ base_len extensions_len payload_len padding_len
