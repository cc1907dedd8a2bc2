-- The bytes of a packet.
use Rattle.std.proofs.lemmas.List.{length-append, take_at}
use Rattle.ip_spec.proofs.Common.{◌≡◌, ℕ, ◌-◌, ◌+◌, List, ◌++◌, length, take, sym, ap, ◌∙◌, arith, Option}
use Rattle.ip_dissect.specs.Dissection.{dissected}
use Rattle.ip_dissect.specs.Summary.{IsBaseOf}
use Rattle.ip_dissect.specs.declared.dissection.BaseHeader.{BaseHeader}
use Rattle.ip_dissect.proofs.JoinedLemmas.{parts_joined}
use Rattle.ip_filter.specs.Access.{bytes_of_packet}

front_of : (front padding s : List ℕ) (n : ℕ) → front ++ padding ≡ s → n ≡ length padding → take (length s - n) s ≡ front
front_of front padding s n joined is =
    let len : length s ≡ length front + length padding = ap length (sym joined) ∙ length-append front padding in
    let k : length front ≡ length s - n = omega (arith, len, is) in
    ap (take (length s - n)) (sym joined) ∙ take_at front padding (length s - n) k

-- those before the padding
pub packet_begins : (s : List ℕ) (b : Option BaseHeader) → IsBaseOf s b → (n : ℕ) → n ≡ length (dissected s).padding → take (length s - n) s ≡ bytes_of_packet (dissected s)
packet_begins s b is n padding = front_of (bytes_of_packet (dissected s)) (dissected s).padding s n (parts_joined s b is) padding
