-- The answer to `exts4`, in the form in which the plain program computes it.
use Rattle.ip_spec.proofs.Common.{common_steps, rules, ◌≡◌, ℕ, ◌≤◌, List, [], ◌∷◌, ◌++◌, length, take, drop, get_or, true, refl, arith, append_assoc, length-take-le, IsNext, IsEnd, leads_to, bytes_of, NoPrefix, IsAuthHeader, auth}
use Rattle.std.proofs.Common.{append-nil}
use Rattle.ip_base.specs.declared.len_source.LenSource.TheVariants.{Slice}
use Rattle.ip_spec.proofs.HeaderLemmas.{header-least, auth_of}
use Rattle.ip_ext_headers.specs.HeaderFault.{auth_fault}
use Rattle.ip_ext_slices.specs.Ipv4Longest.{longest_ipv4_chain}
use Rattle.ip_ext_slices.proofs.Ipv4Lemmas.{one_longest, none_longest}
use Rattle.ipexts_tool.specs.Exts4.{exts4_answer}
use Rattle.ipexts_tool.specs.Parts.{header_line, next_line, ipv4_end_line, ok_line}

pub first_byte : (k : ℕ) (s : List ℕ) → 8 ≤ k → get_or (take k s) 0 0 ≡ get_or s 0 0
first_byte k s few = grind (arith, common_steps)

-- An authentication header of length k at the start of s is the chain.
module _ (s : List ℕ) (k : ℕ) (enough : k ≤ length s) (next : IsNext true 51 s (record { number = 51; bytes = take k s })) where
  pub one_header : longest_ipv4_chain 51 s ≡ record { number = 51; bytes = take k s } ∷ []
  one_header = one_longest 51 s (take k s) refl (auth_of 51 (take k s) refl next.header) next.prefix

  pub one_len : k ≡ length (bytes_of (longest_ipv4_chain 51 s))
  one_len = rw one_header (simp (append-nil, length-take-le))

  pub one_leads : get_or s 0 0 ≡ leads_to 51 (longest_ipv4_chain 51 s)
  one_leads = rw one_header (search (rules, first_byte, header-least))

pub exts4_one : (n : ℕ) (s : List ℕ) (k : ℕ) → n ≡ 51 → k ≤ length s → IsNext true 51 s (record { number = 51; bytes = take k s })
    → exts4_answer n s ≡ header_line 0 51 k ++ next_line (get_or s 0 0) (length (drop k s)) ++ ok_line
exts4_one n s k e enough next =
    let len : length (take k s) ≡ k = length-take-le k s enough in
    let least : 8 ≤ k = omega (arith, header-least 51 (take k s) next.header, len) in
    rw (e, one_header s k enough next) (simp (append-nil, len, first_byte k s least))

pub exts4_none : (n : ℕ) (s : List ℕ) → n ≡ 51 → IsEnd true 51 s → exts4_answer n s ≡ next_line 51 (length s) ++ ipv4_end_line (auth_fault Slice (length s) 0 s)
exts4_none n s e end =
    let none : NoPrefix IsAuthHeader s = λ b h p. end (record { number = 51; bytes = b }) (record { number = refl; header = auth refl h; prefix = p; zero_only_first = λ z. refl }) in
    rw (e, none_longest 51 s (λ z. none)) refl

-- Parts appended one after the other.
pub two_joined : (text next end t₁ t₂ : List ℕ) → t₁ ≡ text ++ next → t₂ ≡ t₁ ++ end → t₂ ≡ text ++ (next ++ end)
two_joined text next end t₁ t₂ a b = rw (b, a) (simp append_assoc)

pub three_joined : (text line next end t₁ t₂ t₃ : List ℕ) → t₁ ≡ text ++ line → t₂ ≡ t₁ ++ next → t₃ ≡ t₂ ++ end → t₃ ≡ text ++ (line ++ next ++ end)
three_joined text line next end t₁ t₂ t₃ a b c = rw (c, b, a) (simp append_assoc)
