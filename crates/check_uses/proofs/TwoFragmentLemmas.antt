-- The two fragments of a packet, which arrived at one time.
use Rattle.std.proofs.Common.{◌≡◌, ℕ, ◌+◌, List, [], ◌∷◌, true, false, sym, ap, ◌∙◌, arith, refl}
use Rattle.std.proofs.Common.{Option, Some, Ok, inl, inr}
use Rattle.std.proofs.lemmas.Grind.{common_steps}
use Rattle.std.specs.Prelude.{◌==◌}
use Rattle.std.specs.List.{list_any}
use Rattle.std.proofs.lemmas.Bool.{ne_eqb, or_left, or_right}
use Rattle.ip_dissect.specs.Dissection.{dissected}
use Rattle.ip_reassembly.specs.Fragment.{Fragment, is_same}
use Rattle.ip_reassembly.specs.Split.{IsSplit, are_among}
use Rattle.ip_reassembly.proofs.FragmentLemmas.{is_same_self}
use Rattle.ip_defragmenter.specs.FragmentOf.{FragmentParts, packet_fragment}
use Rattle.ip_defragmenter.specs.Slots.{is_expired}
use Rattle.ip_defragmenter.specs.declared.key.FragmentKey.{FragmentKey}
use Rattle.ip_defragmenter_laws.specs.Room.{PacketName, IsNamed, IsTime, IsTimely}
use Rattle.ip_defragmenter_laws.specs.Run.{Adds, Call, Step}

-- the second piece is another one than the first
other : (payload : List ℕ) (p q : Fragment) → IsSplit payload (p ∷ q ∷ []) → is_same q p ≡ false
other payload p q split =
    let first : p.offset ≡ 0 = ap (λ (f : Fragment). f.offset) split.4 in
    let second : q.offset ≡ 0 + split.0 = ap (λ (f : Fragment). f.offset) split.5 in
    let differs : (q.offset == p.offset) ≡ false = ne_eqb q.offset p.offset (λ e. omega (arith, e, first, second, split.1)) in
    rw differs refl

pub one_missing : (payload : List ℕ) (p q : Fragment) → IsSplit payload (p ∷ q ∷ []) → are_among (p ∷ q ∷ []) (p ∷ []) ≡ false
one_missing payload p q split = rw (is_same_self p, other payload p q split) refl

pub both_there : (p q : Fragment) → are_among (p ∷ q ∷ []) (q ∷ p ∷ []) ≡ true
both_there p q =
    let first : list_any (is_same p) (q ∷ p ∷ []) ≡ true = or_right (is_same p q) (list_any (is_same p) (p ∷ [])) (or_left (is_same p p) false (is_same_self p)) in
    let second : list_any (is_same q) (q ∷ p ∷ []) ≡ true = or_left (is_same q q) (list_any (is_same q) (p ∷ [])) (is_same_self q) in
    rw (first, second) refl

pub first_among : (p q : Fragment) → list_any (is_same p) (p ∷ q ∷ []) ≡ true
first_among p q = or_left (is_same p p) (list_any (is_same p) (q ∷ [])) (is_same_self p)

pub second_among : (p q : Fragment) → list_any (is_same q) (p ∷ q ∷ []) ≡ true
second_among p q = or_right (is_same q p) (list_any (is_same q) (q ∷ [])) (or_left (is_same q q) false (is_same_self q))

-- A fragment that is read has the name of its packet.
pub named : (context : ℕ) (k : FragmentKey) (x : List ℕ) (r f : FragmentParts) → packet_fragment (dissected x) ≡ Ok (Some r) → r.key ≡ k → packet_fragment (dissected x) ≡ Ok (Some f)
    → IsNamed (record { context = context; key = k } ∷ []) context f.key
named context k x r f read own is =
    let same : r ≡ f = cc in
    (0, ap (λ (y : FragmentKey). let o : Option PacketName = Some (record { context = context; key = y }) in o) (sym own ∙ ap (λ (z : FragmentParts). z.key) same))

-- No time passed since the only packet that arrived.
never : (timeout time : ℕ) → is_expired timeout time time ≡ false
never timeout time = grind (arith, common_steps)

only_time : (x : Call) (xs : List Step) (since : ℕ) → ((t : ℕ) → IsTime xs t → ⊥) → IsTime (Adds x ∷ xs) since → x.time ≡ since
only_time x xs since none (inl at) = at
only_time x xs since none (inr at) = absurd (none since at)

pub timely : (timeout : ℕ) (x : Call) (xs : List Step) → ((t : ℕ) → IsTime xs t → ⊥) → IsTimely timeout x.time (Adds x ∷ xs)
timely timeout x xs none = λ since at. ap (λ (t : ℕ). is_expired timeout t x.time) (sym (only_time x xs since none at)) ∙ never timeout x.time
