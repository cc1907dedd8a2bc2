-- The fragment header of a later fragment, and the demand that nothing follows it (RFC 8200, section 4.5): the bytes
-- after it continue the payload of an earlier fragment, so they are no headers.
use Rattle.std.specs.Prelude.{◌≡◌, List, [], ◌∷◌, ◌++◌, ◌⊎◌, ⊤, Bool, true, refl, ◌==◌, ◌&&◌, not}
use Rattle.std.specs.List.{list_any}
use Rattle.std.proofs.Common.{ap, sym, ◌∙◌, inl, inr}
use Rattle.std.proofs.lemmas.Bool.{cases_Bool, false≢true}
use Rattle.ip_spec.specs.Numbers.{FRAGMENT}
use Rattle.ip_spec.specs.Fields.{fragment_fields}
use Rattle.ip_spec.specs.Chain.{ExtHeader, is_empty}
use Rattle.ip_spec.specs.Demand.{IsDemand}

-- a fragment header whose offset is not 0
abbrev pub is_later : ExtHeader → Bool
is_later h = (h.number == FRAGMENT) && not ((fragment_fields h.bytes).fragment_offset == 0)

-- some header is one
abbrev pub has_later : List ExtHeader → Bool
has_later c = list_any is_later c

-- the demand: no header but the last of the list is one
abbrev pub NothingAfterLater : List ExtHeader → Type 0
NothingAfterLater [] = ⊤
NothingAfterLater (h ∷ c) = (is_later h ≡ true → c ≡ []) × NothingAfterLater c

-- It is a demand.
none_within : (c d : List ExtHeader) → c ++ d ≡ [] → c ≡ []
none_within [] d e = refl
none_within (h ∷ c) d e = absurd (false≢true (ap is_empty e))

begins : (c d : List ExtHeader) → NothingAfterLater (c ++ d) → NothingAfterLater c
begins [] d q = tt
begins (h ∷ c) d q = (λ t. none_within c d (q.0 t), begins c d q.1)

decided_first : (h : ExtHeader) (c : List ExtHeader) → NothingAfterLater c → NothingAfterLater (h ∷ c) ⊎ (NothingAfterLater (h ∷ c) → ⊥)
decided_first h [] rest = inl (λ t. refl, rest)
decided_first h (g ∷ c) rest = elim (cases_Bool (is_later h)) [
  | inl t ↦ inr (λ q. false≢true (ap is_empty (q.0 t)))
  | inr f ↦ inl (λ t. absurd (false≢true (sym f ∙ t)), rest)
]

decided : (c : List ExtHeader) → NothingAfterLater c ⊎ (NothingAfterLater c → ⊥)
decided [] = inl tt
decided (h ∷ c) = elim (decided c) [
  | inl rest ↦ decided_first h c rest
  | inr fails ↦ inr (λ q. fails q.1)
]

pub nothing_after_later : IsDemand NothingAfterLater
nothing_after_later = record { empty = tt; begins = begins; decided = decided }
