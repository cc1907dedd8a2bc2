-- Networks, as text writes them.
use Rattle.std.proofs.Common.{Some, None, codes}
use Rattle.std.proofs.lemmas.Fmt.{decimal_digit}
use Rattle.std.proofs.Math.Pow.{pow_mono, pow-lt}
use Rattle.std.proofs.NetLemmas.Ipv6.{IsDotted-not_colon_hex}
use Rattle.std.proofs.NetLemmas.Theorems.{IsIpv4Text_unique, IsIpv6Text_unique}
use Rattle.std.specs.Net.Addr.{ipv4_bits, ipv6_bits}
use Rattle.std.specs.Prelude.{Option}
use Rattle.std.specs.Net.Grammar.{IsIpv4Text, IsIpv6Text}
use Rattle.std.specs.declared.net.ipv4_addr.Ipv4Addr.{Ipv4Addr}
use Rattle.std.specs.declared.net.ipv6_addr.Ipv6Addr.{Ipv6Addr}
use Rattle.ip_spec.proofs.Common.{◌≡◌, ℕ, ◌<◌, ◌≤◌, ◌-◌, ◌^◌, List, [], ◌∷◌, ◌++◌, length, take, drop, refl, sym, ap, subst, ◌∙◌, arith, take_rest, inl, inr}
use Rattle.ip_filter.specs.Numbers.{slash_index, prefix_bits, mask_of, IsNetworkText, IsNetworkOrFront, IsFrontText, IsMaskText, IsHostText}
use Rattle.ip_filter.specs.declared.network.Network.{Network}
use Rattle.ip_filter.specs.declared.network.Network.TheVariants as network

module _ (w : List ℕ) (i : ℕ) (at : i ≡ slash_index w) where
  -- an address of neither version
  pub no_address : (n : Network) → IsNetworkText w n → ((a : Ipv4Addr) → ¬ (IsIpv4Text (take i w) a)) → ((a : Ipv6Addr) → ¬ (IsIpv6Text (take i w) a)) → ⊥
  no_address (network.Ipv4 address len) is none4 none6 = none4 is.0 (rw at is.1)
  no_address (network.Ipv6 address len) is none4 none6 = none6 is.0 (rw at is.1)

  bits_after : (bits : ℕ) → prefix_bits bits (take (length w - i) (drop i w)) ≡ prefix_bits bits (drop (slash_index w) w)
  bits_after bits = ap (prefix_bits bits) (take_rest w i ∙ ap (λ k. drop k w) at)

  -- no number of bits after an address
  pub no_ipv4_len : (n : Network) (a : Ipv4Addr) → IsNetworkText w n → IsIpv4Text (take i w) a → None ≡ prefix_bits 32 (take (length w - i) (drop i w)) → ⊥
  no_ipv4_len (network.Ipv4 address len) a is writes none = cc (none ∙ bits_after 32 ∙ is.3)
  no_ipv4_len (network.Ipv6 address len) a is writes none = IsDotted-not_colon_hex _ _ _ (rw at at writes) is.1

  pub no_ipv6_len : (n : Network) → IsNetworkText w n → ((a : Ipv4Addr) → ¬ (IsIpv4Text (take i w) a)) → None ≡ prefix_bits 128 (take (length w - i) (drop i w)) → ⊥
  no_ipv6_len (network.Ipv4 address len) is none4 none = none4 is.0 (rw at is.1)
  no_ipv6_len (network.Ipv6 address len) is none4 none = cc (none ∙ bits_after 128 ∙ is.3)

-- some word writes a network
unfoldable pub some_network : (w : List ℕ) × (n : Network) × IsNetworkText w n
some_network =
    let a : Ipv4Addr = record { octets = 0 ∷ 0 ∷ 0 ∷ 0 ∷ [] } in
    let text : IsIpv4Text (codes "0.0.0.0") a = record {
      a = 0;
      b = 0;
      c = 0;
      d = 0;
      fit = omega arith;
      value = refl;
      spelled = sym (ap (λ x. x ++ codes "." ++ x ++ codes "." ++ x ++ codes "." ++ x) (decimal_digit 0 (omega arith)));
    } in
    (codes "0.0.0.0", network.Ipv4 (ipv4_bits a) 32, (a, text, refl, refl))

unfoldable pub some_host : (w : List ℕ) × (n : Network) × IsHostText w n
unfolding some_network
some_host =
    let few : length (codes "0.0.0.0") ≤ slash_index (codes "0.0.0.0") = omega arith in
    (codes "0.0.0.0", some_network.1, (some_network.2, few))

same_bits : (a b : Option ℕ) (m n : ℕ) → a ≡ b → a ≡ Some m → b ≡ Some n → m ≡ n
same_bits a b m n same left right = cc

-- a word writes one network
pub one_network : (w : List ℕ) (m n : Network) → IsNetworkText w m → IsNetworkText w n → m ≡ n
one_network w (network.Ipv4 a j) (network.Ipv4 b k) p q =
    let same = IsIpv4Text_unique _ _ _ p.1 q.1 in
    let address : a ≡ b = p.2 ∙ ap ipv4_bits same ∙ sym q.2 in
    let len : j ≡ k = same_bits _ _ j k refl p.3 q.3 in
    cc
one_network w (network.Ipv4 a j) (network.Ipv6 b k) p q = absurd (IsDotted-not_colon_hex _ _ _ p.1 q.1)
one_network w (network.Ipv6 a j) (network.Ipv4 b k) p q = absurd (IsDotted-not_colon_hex _ _ _ q.1 p.1)
one_network w (network.Ipv6 a j) (network.Ipv6 b k) p q =
    let same = IsIpv6Text_unique _ _ _ p.1 q.1 in
    let address : a ≡ b = p.2 ∙ ap ipv6_bits same ∙ sym q.2 in
    let len : j ≡ k = same_bits _ _ j k refl p.3 q.3 in
    cc

-- a word writes one network or front
pub one_network_or_front : (w : List ℕ) (m n : Network) → IsNetworkOrFront w m → IsNetworkOrFront w n → m ≡ n
one_network_or_front w m n p q = elim p [
  | inl x ↦ elim q [ inl y ↦ one_network w m n x y | inr y ↦ absurd (y.0 m x) ]
  | inr x ↦ elim q [ inl y ↦ absurd (x.0 n y) | inr y ↦ cc (sym x.1 ∙ y.1) ]
]

-- ---- masks

same_ipv4 : (a b j k : ℕ) → network.Ipv4 a j ≡ network.Ipv4 b k → a ≡ b
same_ipv4 a b j k e = cc e

-- a word writes one address
pub one_front : (w : List ℕ) (a b : ℕ) → IsFrontText w a → IsFrontText w b → a ≡ b
one_front w a b p q = same_ipv4 a b p.0 q.0 (one_network_or_front w (network.Ipv4 a p.0) (network.Ipv4 b q.0) p.1 q.1)

-- an address of the other version, or none
pub no_ipv4 : (w : List ℕ) (m : Network) → IsNetworkOrFront w m → ((a len : ℕ) → m ≡ network.Ipv4 a len → ⊥) → (a : ℕ) → IsFrontText w a → ⊥
no_ipv4 w m p none a q = none a q.0 (one_network_or_front w m (network.Ipv4 a q.0) p q.1)

pub ipv4_front_text : (w : List ℕ) (m : Network) (a len : ℕ) → IsNetworkOrFront w m → m ≡ network.Ipv4 a len → length w ≤ slash_index w → IsFrontText w a
ipv4_front_text w m a len p same short = (len, subst (IsNetworkOrFront w) same p, short)

pub no_front : (w : List ℕ) → ((n : Network) → IsNetworkOrFront w n → ⊥) → (a : ℕ) → IsFrontText w a → ⊥
no_front w none a q = none (network.Ipv4 a q.0) q.1

-- no mask
pub no_length : (w : List ℕ) (m : ℕ) → IsFrontText w m → ((len : ℕ) → len ≤ 32 → m ≡ mask_of len → ⊥) → (len : ℕ) → IsMaskText w len → ⊥
no_length w m is none len q = none len q.0 (one_front w m (mask_of len) is q.1)

pub no_mask : (w : List ℕ) → ((a : ℕ) → IsFrontText w a → ⊥) → (len : ℕ) → IsMaskText w len → ⊥
no_mask w none len q = none (mask_of len) q.1

no_fewer : (n j k : ℕ) → j < k → k ≤ n → 2 ^ n - 2 ^ (n - j) ≡ 2 ^ n - 2 ^ (n - k) → ⊥
no_fewer n j k below within same =
    let smaller : 2 ^ (n - k) < 2 ^ (n - j) = pow-lt (let f : n - k < n - j = omega (arith, below, within) in f) in
    let fits : 2 ^ (n - j) ≤ 2 ^ n = pow_mono (let f : n - j ≤ n = omega arith in f) in
    omega (arith, smaller, fits, same)

one_len : (n j k : ℕ) → j ≤ n → k ≤ n → 2 ^ n - 2 ^ (n - j) ≡ 2 ^ n - 2 ^ (n - k) → j ≡ k
one_len n j k first second same =
    let above : j < k → ⊥ = λ below. no_fewer n j k below second same in
    let below : k < j → ⊥ = λ below. no_fewer n k j below first (sym same) in
    omega (arith, above, below)

-- a word writes one mask
pub one_mask : (w : List ℕ) (j k : ℕ) → IsMaskText w j → IsMaskText w k → j ≡ k
one_mask w j k p q = one_len 32 j k p.0 q.0 (one_front w (mask_of j) (mask_of k) p.1 q.1)

-- some word is a mask
pub some_mask : (w : List ℕ) × (len : ℕ) × IsMaskText w len
unfolding some_network ipv4_bits
some_mask =
    let few : length (codes "0.0.0.0") ≤ slash_index (codes "0.0.0.0") = omega arith in
    (codes "0.0.0.0", 0, (let f : 0 ≤ 32 = omega arith in f, (32, inl some_network.2, few)))
