-- The parts of the answer to `dissect HEX`, joined.
use Rattle.ip_spec.proofs.Common.{◌≡◌, ℕ, List, ◌++◌, length, rules, append_assoc, sym, inl, inr, Option, None, Some, IfSome, codes, ne_eqb, eqb_tells, ◌==◌, false}
use Rattle.ip_base.specs.declared.err.layer.Layer.{Layer}
use Rattle.ip_base.specs.declared.err.len_error.LenError.{LenError}
use Rattle.ip_ext_headers.specs.declared.ip_auth_header_slice.IpAuthHeaderSlice.{IpAuthHeaderSlice}
use Rattle.ip_ext_slices.specs.Ipv4Longest.{authentication_chain}
use Rattle.ip_dissect.specs.declared.end.End.{End}
use Rattle.ip_dissect.specs.declared.end.End.TheVariants.{Truncated}
use Rattle.ip_dissect.specs.Dissection.{HasParts, dissected, version_of, version_in, base_bytes}
use Rattle.ip_dissect.specs.declared.dissection.BaseHeader.{BaseHeader}
use Rattle.ip_dissect.specs.declared.dissection.Dissection.{Dissection}
use Rattle.ip_dissect.proofs.DissectedLemmas.{no_headers}
use Rattle.ipexts_tool.specs.Parts.{header_lines, next_line}
use Rattle.ipexts_tool.specs.DissectAnswer.{base_line, fragment_line, missing_line, in_header, truncated_text, end_line, dissected_lines, dissect_answer}

-- without a base header the answer is the end
pub answer_none : (s : List ℕ) (d : Dissection) → HasParts (dissected s) d → d.base ≡ None → dissect_answer s ≡ end_line d.end
unfolding dissect_answer
answer_none s d h none = rw (← h.version, none, ← h.end)

-- with one, it is all lines
answer_some : (s : List ℕ) (d : Dissection) (b : BaseHeader) → HasParts (dissected s) d → d.base ≡ Some b → dissect_answer s ≡ dissected_lines (dissected s)
unfolding dissect_answer
answer_some s d b h some = search (rules, ne_eqb)

pub six_joined : (old a b c d e f t₁ t₂ t₃ t₄ t₅ t₆ : List ℕ) → t₁ ≡ old ++ a → t₂ ≡ t₁ ++ b → t₃ ≡ t₂ ++ c → t₄ ≡ t₃ ++ d → t₅ ≡ t₄ ++ e → t₆ ≡ t₅ ++ f → t₆ ≡ old ++ (a ++ b ++ c ++ d ++ e ++ f)
six_joined old a b c d e f t₁ t₂ t₃ t₄ t₅ t₆ p q r u v w = rw (w, v, u, r, q, p) (simp append_assoc)

pub answer_joined : (s : List ℕ) (d : Dissection) (b : BaseHeader) (h : HasParts (dissected s) d) (some : d.base ≡ Some b) (old t₁ t₂ t₃ t₄ t₅ t₆ : List ℕ)
    → t₁ ≡ old ++ base_line (version_in b) (length (base_bytes b)) d.stated_len → t₂ ≡ t₁ ++ header_lines (length (base_bytes b)) (dissected s).headers
    → t₃ ≡ t₂ ++ fragment_line d.fragment → t₄ ≡ t₃ ++ next_line d.next_header.0 (length d.payload.now) → t₅ ≡ t₄ ++ missing_line d.missing (length d.padding.now) → t₆ ≡ t₅ ++ end_line d.end
    → t₆ ≡ old ++ dissect_answer s
answer_joined s d b h some old t₁ t₂ t₃ t₄ t₅ t₆ p q r u v w =
    let lines = six_joined old _ _ _ _ _ _ t₁ t₂ t₃ t₄ t₅ t₆ p q r u v w in
    rw (answer_some s d b h some, ← h.version, ← h.base, some, ← h.stated, ← h.fragment, ← h.number, ← h.payload, ← h.missing, ← h.padding, ← h.end) lines

-- the headers of a packet that isn't IPv6 are its authentication header, if there is one
pub ipv4_headers : (d : Dissection) (h : Option IpAuthHeaderSlice) → false ≡ (version_of d == 6) → IfSome h (λ _. version_of d ≡ 4)
    → (version_of d ≡ 4 → (s : List ℕ) → HasParts (dissected s) d → authentication_chain h ≡ (dissected s).headers)
    → (s : List ℕ) → HasParts (dissected s) d → authentication_chain h ≡ (dissected s).headers
ipv4_headers d (Some x) six four are s p = are four s p
ipv4_headers d None six four are s p = elim (eqb_tells (version_of d) 4) [
  | inl is ↦ are is.1 s p
  | inr other ↦ sym (no_headers s d p six (sym other.0))
]

-- the end at a header that is incomplete here
pub truncated_joined : (old t new : List ℕ) (e : LenError) (header : Option Layer) (end : End) → end ≡ Truncated e header → t ≡ old ++ truncated_text e → new ≡ t ++ (in_header header ++ codes "\n") → new ≡ old ++ end_line end
truncated_joined old t new e header end is p q = rw (q, p, is) (simp append_assoc)
