-- Tests, and where they lead.
use Rattle.std.proofs.Common.{◌≡◌, ◌≢◌, ◌⊎◌, ℕ, ◌+◌, ◌-◌, ◌*◌, ◌/◌, ◌^◌, ◌<◌, ◌≤◌, Bool, true, false, cond, ◌&&◌, ◌||◌, nat_le, inl, inr, refl, sym, ap, ◌∙◌, ne_eqb}
use Rattle.std.specs.Prelude.{Option, Some, None, ◌==◌}
use Rattle.std.specs.Option.{option_map_or}
use Rattle.std.proofs.lemmas.Bool.{lt-ltb, le-leb, lt-leb}
use Rattle.std.proofs.Math.Bool.{or-true, and-false}
use Rattle.ip_dissect.specs.Dissection.{DissectedParts}
use Rattle.ip_filter.specs.Network.{ipv4_lies_in, ipv6_lies_in}
use Rattle.ip_filter.specs.Tests.{meets, network_in}
use Rattle.ip_filter.specs.Truth.{has_source, has_destination}
use Rattle.ip_filter.specs.declared.filter.Test.{Test}
use Rattle.ip_filter.specs.declared.network.Network.{Network}
use Rattle.ip_filter.specs.declared.network.Network.TheVariants.{Ipv4, Ipv6}
use Rattle.ip_filter_bpf.specs.Fields.{compares_field}
use Rattle.ip_filter_bpf.specs.Verdict.{is_decided}

in4 : (x : Test) → x.version ≡ 4 → x.address_low < 2 ^ 32 → network_in x ≡ Some (Ipv4 x.address_low x.prefix_len)
in4 x four small = rw (four, lt-ltb x.address_low (2 ^ 32) small) refl

in6 : (x : Test) → x.version ≡ 6 → network_in x ≡ Some (Ipv6 (x.address_high * 2 ^ 64 + x.address_low) x.prefix_len)
in6 x six = rw six refl

pub tells4 : (x : Test) (w k : ℕ) → x.version ≡ 4 → x.address_low < 2 ^ 32 → k ≡ 32 - x.prefix_len → option_map_or (λ n. ipv4_lies_in n w) (network_in x) false ≡ (w / 2 ^ k == x.address_low / 2 ^ k)
tells4 x w k four small e =
    ap (λ (o : Option Network). option_map_or (λ n. ipv4_lies_in n w) o false) (in4 x four small)
    ∙ ap (λ (j : ℕ). w / 2 ^ j == x.address_low / 2 ^ j) (sym e)

pub tells6 : (x : Test) (w k : ℕ) → x.version ≡ 6 → k ≡ 128 - x.prefix_len → option_map_or (λ n. ipv6_lies_in n w) (network_in x) false ≡ (w / 2 ^ k == (x.address_high * 2 ^ 64 + x.address_low) / 2 ^ k)
tells6 x w k six e =
    ap (λ (o : Option Network). option_map_or (λ n. ipv6_lies_in n w) o false) (in6 x six)
    ∙ ap (λ (j : ℕ). w / 2 ^ j == (x.address_high * 2 ^ 64 + x.address_low) / 2 ^ j) (sym e)

pub same_of_network : (o : Option Network) (f g : Network → Bool) → ((n : Network) → f n ≡ g n) → option_map_or f o false ≡ option_map_or g o false
same_of_network None f g same = refl
same_of_network (Some n) f g same = same n

pub either_of_network : (o : Option Network) (f g : Network → Bool) → option_map_or (λ n. f n || g n) o false ≡ (option_map_or f o false || option_map_or g o false)
either_of_network None f g = refl
either_of_network (Some n) f g = refl

-- where a test leads by its kind
module _ (x : Test) (p : DissectedParts) (if_met if_not if_undecided : ℕ) where
  pub by_source : x.kind ≡ 8 → cond (is_decided x) (cond (meets x p) if_met if_not) if_undecided ≡ cond (option_map_or (λ n. has_source n p) (network_in x) false) if_met if_not
  by_source kind = rw kind refl

  pub by_destination : x.kind ≡ 9 → cond (is_decided x) (cond (meets x p) if_met if_not) if_undecided ≡ cond (option_map_or (λ n. has_destination n p) (network_in x) false) if_met if_not
  by_destination kind = rw kind refl

  pub by_either : x.kind ≡ 10 → cond (is_decided x) (cond (meets x p) if_met if_not) if_undecided ≡ cond (option_map_or (λ n. has_source n p || has_destination n p) (network_in x) false) if_met if_not
  by_either kind = rw kind refl

  pub by_quantity : compares_field x.kind ≡ true → cond (is_decided x) (cond (meets x p) if_met if_not) if_undecided ≡ cond (meets x p) if_met if_not
  by_quantity compares = ap (λ t. cond t (cond (meets x p) if_met if_not) if_undecided) (ap (λ t. (((x.kind == 8) || (x.kind == 9)) || (x.kind == 10)) || t) compares ∙ or-true (((x.kind == 8) || (x.kind == 9)) || (x.kind == 10)))

  pub by_none : x.kind ≢ 8 → x.kind ≢ 9 → x.kind ≢ 10 → compares_field x.kind ≡ false → cond (is_decided x) (cond (meets x p) if_met if_not) if_undecided ≡ if_undecided
  by_none a b c d =
      ap (λ t. cond t (cond (meets x p) if_met if_not) if_undecided)
      (ap (λ t. ((t || (x.kind == 9)) || (x.kind == 10)) || compares_field x.kind) (ne_eqb x.kind 8 a)
      ∙ ap (λ t. (t || (x.kind == 10)) || compares_field x.kind) (ne_eqb x.kind 9 b)
      ∙ ap (λ t. t || compares_field x.kind) (ne_eqb x.kind 10 c)
      ∙ d)

pub field_kind : (k : ℕ) → 12 ≤ k → k ≤ 15 → compares_field k ≡ true
field_kind k low high = ap (λ t. t && nat_le k 15) (le-leb 12 k low) ∙ le-leb k 15 high

pub other_kind : (k : ℕ) → (k < 12) ⊎ (15 < k) → compares_field k ≡ false
other_kind k (inl low) = ap (λ t. t && nat_le k 15) (lt-leb 12 k low)
other_kind k (inr high) = ap (λ t. nat_le 12 k && t) (lt-leb k 15 high) ∙ and-false (nat_le 12 k)
