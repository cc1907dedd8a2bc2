-- The request and the answer for `dissect`, in the form in which the plain program computes them.
use Rattle.ip_spec.proofs.Common.{rules, ◌≡◌, ◌≢◌, ℕ, ◌<◌, ◌≤◌, List, [], ◌∷◌, ◌++◌, length, map, refl, arith, Option, None, ne_eqb, ◌==◌, if◌then◌else◌, Bool, Bor}
use Rattle.ip_dissect.specs.Dissection.{dissected}
use Rattle.ipexts_tool.specs.Request.{Request, request_of_form, request_of_fields}
use Rattle.ipexts_tool.specs.LineFields.{number_and_bytes, bytes_alone}
use Rattle.ipexts_tool.specs.Parts.{header_lines, next_line}
use Rattle.ipexts_tool.specs.DissectAnswer.{base_line, fragment_line, missing_line, end_line, dissected_lines, dissect_answer}
use Rattle.ipexts_tool.proofs.DissectLemmas.{six_joined}
use Rattle.check_reference.specs.PlainHeader.{plain_header_of}
use Rattle.check_reference.specs.PlainDissection.{HasFieldsOf}
use Rattle.check_reference.specs.declared.plain_dissection.PlainDissection.{PlainDissection}

-- ---- lines with neither two nor three fields

none_in : (a b c d e f : Bool) → ◌≡◌ {A = Option Request} None (if a then None else if b then None else if c then None else if d then None else if e then None else if f then None else None)
none_in a b c d e f = search rules

no_form : (form : List ℕ) (arguments : List (List ℕ)) → number_and_bytes arguments ≡ None → bytes_alone arguments ≡ None → None ≡ request_of_form form arguments
no_form form arguments two one = search (rules, none_in)

pub no_request_few : (fields : List (Bor (List ℕ))) → length fields < 2 → None ≡ request_of_fields (map (λ field. field.now) fields)
no_request_few [] few = refl
no_request_few (form ∷ []) few = no_form form.now [] refl refl
no_request_few (form ∷ a ∷ fields) few = absurd (omega arith)

pub no_request_many : (fields : List (Bor (List ℕ))) → 4 ≤ length fields → None ≡ request_of_fields (map (λ field. field.now) fields)
no_request_many (form ∷ a ∷ b ∷ c ∷ fields) many = no_form form.now (a.now ∷ b.now ∷ c.now ∷ map (λ field. field.now) fields) refl refl
no_request_many fields many = absurd (omega arith)

-- ---- the answer

-- without a base header the answer is the end
pub answer_none : (s : List ℕ) (x : PlainDissection) → HasFieldsOf (dissected s) x → x.version ≡ 0 → dissect_answer s ≡ end_line x.end
unfolding dissect_answer
answer_none s x h none = rw (← h.version, none, ← h.end) refl

lines_if : (v : ℕ) (a b : List ℕ) → v ≢ 0 → (if v == 0 then a else b) ≡ b
lines_if v a b some = rw (ne_eqb v 0 some) refl

-- with one, it is all lines
answer_some : (s : List ℕ) (x : PlainDissection) → HasFieldsOf (dissected s) x → x.version ≢ 0 → dissect_answer s ≡ dissected_lines (dissected s)
unfolding dissect_answer
answer_some s x h some = search (rules, lines_if)

pub plain_joined : (s : List ℕ) (x : PlainDissection) → HasFieldsOf (dissected s) x → x.version ≢ 0 → (old t₁ t₂ t₃ t₄ t₅ t₆ : List ℕ) → t₁ ≡ old ++ base_line x.version x.base_len x.stated
    → t₂ ≡ t₁ ++ header_lines x.base_len (map plain_header_of x.headers.items) → t₃ ≡ t₂ ++ fragment_line x.fragment → t₄ ≡ t₃ ++ next_line x.number x.payload_len → t₅ ≡ t₄ ++ missing_line x.missing x.padding_len
    → t₆ ≡ t₅ ++ end_line x.end → t₆ ≡ old ++ dissect_answer s
plain_joined s x h some old t₁ t₂ t₃ t₄ t₅ t₆ p q r u v w =
    let lines = six_joined old _ _ _ _ _ _ t₁ t₂ t₃ t₄ t₅ t₆ p q r u v w in
    rw (answer_some s x h some, ← h.version, ← h.base, ← h.stated, ← h.headers, ← h.fragment, ← h.number, ← h.payload, ← h.missing, ← h.padding, ← h.end) lines
