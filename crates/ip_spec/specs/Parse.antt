-- The result of a parse in any form: the value of a chain, the number to which it leads, the bytes after it, and the
-- error there.
use Rattle.std.specs.Prelude.{◌≡◌, ℕ, List, Option, length, drop}
use Rattle.ip_spec.specs.Encoding.{AreBytes}
use Rattle.ip_spec.specs.Chain.{ExtHeader, leads_to, bytes_of}
use Rattle.ip_spec.specs.Demand.{IsLongestUnder}

-- the rest of s after the chain c, whose bytes are its prefix
abbrev pub rest_after : List ExtHeader → List ℕ → List ℕ
rest_after c s = drop (length (bytes_of c)) s

-- The error after the chain c from n, whose bytes are a prefix of s. `faults` computes it for each chain, from the
-- number to which the chain leads and the rest after it.
abbrev pub fault_after : {F : Type 0} → (List ExtHeader → ℕ → List ℕ → Option F) → List ExtHeader → ℕ → List ℕ → Option F
fault_after faults c n s = faults c (leads_to n c) (rest_after c s)

-- The result for the chain c from number n at the start of bytes s: its value x, the number m to which it leads, the
-- rest r after it, and the error f there.
pub record IsAnswer {X F : Type 0} (value_of : List ExtHeader → X) (faults : List ExtHeader → ℕ → List ℕ → Option F) (c : List ExtHeader) (n : ℕ) (s : List ℕ) (x : X) (m : ℕ) (r : List ℕ) (f : Option F) : Type 0 where
  pub value : x ≡ value_of c
  pub number : m ≡ leads_to n c
  pub rest : r ≡ rest_after c s
  pub fault : f ≡ faults c (leads_to n c) (rest_after c s)

-- Bytes s parse from number n with nothing left: the longest chain under the demand Q is all of them and leads to m,
-- and its value meets V. `bytes` is needed since a list may have numbers that are no bytes.
pub record IsParsed (Q V : List ExtHeader → Type 0) (n m : ℕ) (s : List ℕ) : Type 0 where
  pub bytes : AreBytes s
  pub chain : List ExtHeader
  pub longest : IsLongestUnder Q n s chain
  pub value : V chain
  pub number : leads_to n chain ≡ m
  pub all : bytes_of chain ≡ s
