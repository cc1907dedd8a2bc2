use Rattle.ip_spec.proofs.Common.{◌≡◌, ℕ, List, ap, ◌∙◌, subst, RawFields, IsRawNumber, raw_header, ExtHeader, IsEncoded}
use Rattle.ip_ext_headers.proofs.ipv6_raw_ext_header.Ipv6RawExtHeader.header_len.Goals as goal

pub returns-clause-encodable : goal.returns-clause-encodable
returns-clause-encodable c =
    let CanBe : RawFields → Type 0 = λ v. (n : ℕ) → IsRawNumber n → (h : ExtHeader) × IsEncoded n (raw_header v) h in
    let made : ℕ → List ℕ → RawFields = λ n b. record { next_header = n; payload = b } in
    let next = ap (λ (v : RawFields). v.next_header) c.self.view_is in
    subst CanBe (ap (made _) c.payload-payload.ensures.payload ∙ ap (λ n. made n c.args.self.now.payload) next) c.raw_encodable.ensures
