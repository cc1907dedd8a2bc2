-- The start of a program.
use Rattle.std.proofs.Common.{◌≡◌, ℕ, ◌*◌, ◌/◌, ◌%◌, ◌^◌, Bool, true, false, cond, nat_le, List, length, refl, ap, ◌∙◌}
use Rattle.std.specs.Prelude.{◌==◌, slice_index}
use Rattle.ip_bpf.specs.declared.instruction.Instruction.{Instruction}
use Rattle.ip_dissect.specs.Dissection.{dissected}
use Rattle.ip_filter_bpf.proofs.PacketLemmas.{version_by, by_bytes}
use Rattle.ip_filter_bpf.specs.Blocks.{Returns}
use Rattle.ip_filter_bpf.specs.Compiled.{label_of}

label_by : (none ipv4 ipv6 : ℕ) (a b c d e f : Bool) → label_of none ipv4 ipv6 (by_bytes a b c d e f) ≡ cond a (cond b (cond c (cond d ipv4 none) none) (cond e (cond f ipv6 none) none)) none
label_by none ipv4 ipv6 false b c d e f = refl
label_by none ipv4 ipv6 true true true true e f = refl
label_by none ipv4 ipv6 true true true false e f = refl
label_by none ipv4 ipv6 true true false d e f = refl
label_by none ipv4 ipv6 true false c d true true = refl
label_by none ipv4 ipv6 true false c d true false = refl
label_by none ipv4 ipv6 true false c d false f = refl

pub start_label : (none ipv4 ipv6 : ℕ) (s : List ℕ) → label_of none ipv4 ipv6 (dissected s).version ≡ cond (nat_le 1 (length s)) (cond (slice_index s 0 / 2 ^ 4 == 4) (cond (nat_le 20 (4 * (slice_index s 0 % 16))) (cond (nat_le (4 * (slice_index s 0 % 16)) (length s)) ipv4 none) none) (cond (slice_index s 0 / 2 ^ 4 == 6) (cond (nat_le 40 (length s)) ipv6 none) none)) none
start_label none ipv4 ipv6 s =
    ap (label_of none ipv4 ipv6) (version_by s)
    ∙ label_by none ipv4 ipv6 (nat_le 1 (length s)) (slice_index s 0 / 2 ^ 4 == 4) (nat_le 20 (4 * (slice_index s 0 % 16))) (nat_le (4 * (slice_index s 0 % 16)) (length s)) (slice_index s 0 / 2 ^ 4 == 6) (nat_le 40 (length s))

-- a condition, whose two sides are code for further ones
pub cond_leads : (code old : List Instruction) (packet : List ℕ) (r : ℕ) (t : Bool) (a b met not' : ℕ) → Returns old (cond t a b) packet r → (Returns old a packet r → Returns code met packet r) → (Returns old b packet r → Returns code not' packet r) → Returns code (cond t met not') packet r
cond_leads code old packet r true a b met not' h go_met go_not = go_met h
cond_leads code old packet r false a b met not' h go_met go_not = go_not h

-- the same, where what holds when the condition does is known
pub cond_leads_by : (code old : List Instruction) (packet : List ℕ) (r : ℕ) (t : Bool) (a b met not' : ℕ) → Returns old (cond t a b) packet r → (t ≡ true → Returns old a packet r → Returns code met packet r) → (Returns old b packet r → Returns code not' packet r) → Returns code (cond t met not') packet r
cond_leads_by code old packet r true a b met not' h go_met go_not = go_met refl h
cond_leads_by code old packet r false a b met not' h go_met go_not = go_not h
