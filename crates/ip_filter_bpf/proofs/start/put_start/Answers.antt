use Rattle.std.proofs.Common.{◌≡◌, ℕ, ◌*◌, ◌/◌, ◌%◌, ◌^◌, ◌≤◌, Bool, cond, nat_le, List, length, sym, subst, arith}
use Rattle.std.specs.Prelude.{◌==◌, slice_index}
use Rattle.std.proofs.lemmas.Bool.{leb-true}
use Rattle.ip_bpf.proofs.AssemblyLemmas.{extends-trans}
use Rattle.ip_bpf.specs.Assembly.{Extends}
use Rattle.ip_bpf.specs.declared.instruction.Instruction.{Instruction}
use Rattle.ip_filter_bpf.specs.Blocks.{Returns, NeedsNothing}
use Rattle.ip_filter_bpf.proofs.BlockLemmas.{returns_kept, nothing_kept}
use Rattle.ip_filter_bpf.proofs.StartLemmas.{start_label, cond_leads, cond_leads_by}
use Rattle.ip_filter_bpf.proofs.start.put_start.Goals as goal

pub returns-clause-front : goal.returns-clause-front
returns-clause-front c =
    let old = c.args.code.now in
    let c1 = c.put_whole_ipv4-all_there.new.code in
    let c2 = c.put_header_len-long_enough.new.code in
    let c3 = c.put_length-whole.new.code in
    let c4 = c.put_version-is_ipv6.new.code in
    let c5 = c.put_version-is_ipv4.new.code in
    let f1 : Extends c1 old = c.put_whole_ipv4-all_there.ensures.front in
    let f2 : Extends c2 old = extends-trans c2 c1 old c.put_header_len-long_enough.ensures.front f1 in
    let f3 : Extends c3 old = extends-trans c3 c2 old c.put_length-whole.ensures.front f2 in
    let f4 : Extends c4 old = extends-trans c4 c3 old c.put_version-is_ipv6.ensures.front f3 in
    let f5 : Extends c5 old = extends-trans c5 c4 old c.put_version-is_ipv4.ensures.front f4 in
    let l1 = c.put_whole_ipv4-all_there.result in
    let l2 = c.put_header_len-long_enough.result in
    let l3 = c.put_length-whole.result in
    let l4 = c.put_version-is_ipv6.result in
    let l5 = c.put_version-is_ipv4.result in
    let e1 : l1 ≡ length c1 = c.put_whole_ipv4-all_there.ensures.label in
    let e2 : l2 ≡ length c2 = c.put_header_len-long_enough.ensures.label in
    let e3 : l3 ≡ length c3 = c.put_length-whole.ensures.label in
    let e4 : l4 ≡ length c4 = c.put_version-is_ipv6.ensures.label in
    let e5 : l5 ≡ length c5 = c.put_version-is_ipv4.ensures.label in
    extends-trans c.put_length.new.code c5 old c.put_length.ensures.front f5

pub returns-clause-words : goal.returns-clause-words
returns-clause-words c = λ none ipv4 ipv6.
    let old = c.args.code.now in
    let c1 = c.put_whole_ipv4-all_there.new.code in
    let c2 = c.put_header_len-long_enough.new.code in
    let c3 = c.put_length-whole.new.code in
    let c4 = c.put_version-is_ipv6.new.code in
    let c5 = c.put_version-is_ipv4.new.code in
    let f1 : Extends c1 old = c.put_whole_ipv4-all_there.ensures.front in
    let f2 : Extends c2 old = extends-trans c2 c1 old c.put_header_len-long_enough.ensures.front f1 in
    let f3 : Extends c3 old = extends-trans c3 c2 old c.put_length-whole.ensures.front f2 in
    let f4 : Extends c4 old = extends-trans c4 c3 old c.put_version-is_ipv6.ensures.front f3 in
    let f5 : Extends c5 old = extends-trans c5 c4 old c.put_version-is_ipv4.ensures.front f4 in
    let l1 = c.put_whole_ipv4-all_there.result in
    let l2 = c.put_header_len-long_enough.result in
    let l3 = c.put_length-whole.result in
    let l4 = c.put_version-is_ipv6.result in
    let l5 = c.put_version-is_ipv4.result in
    let e1 : l1 ≡ length c1 = c.put_whole_ipv4-all_there.ensures.label in
    let e2 : l2 ≡ length c2 = c.put_header_len-long_enough.ensures.label in
    let e3 : l3 ≡ length c3 = c.put_length-whole.ensures.label in
    let e4 : l4 ≡ length c4 = c.put_version-is_ipv6.ensures.label in
    let e5 : l5 ≡ length c5 = c.put_version-is_ipv4.ensures.label in
    let at : (code : List Instruction) (l : ℕ) → l ≡ length code → NeedsNothing code (length code) → NeedsNothing code l = λ code l e h. subst (λ (n : ℕ). NeedsNothing code n) (sym e) h in
    let w1 : NeedsNothing c1 l1 = at c1 l1 e1 (c.put_whole_ipv4-all_there.ensures.words ipv4 none) in
    let w2 : NeedsNothing c2 l2 = at c2 l2 e2 (c.put_header_len-long_enough.ensures.words w1 (nothing_kept c1 old c.args.none f1 c.requires.none_there none)) in
    let w3 : NeedsNothing c3 l3 = at c3 l3 e3 (c.put_length-whole.ensures.words (nothing_kept c2 old c.args.ipv6 f2 c.requires.ipv6_there ipv6) (nothing_kept c2 old c.args.none f2 c.requires.none_there none)) in
    let w4 : NeedsNothing c4 l4 = at c4 l4 e4 (c.put_version-is_ipv6.ensures.words w3 (nothing_kept c3 old c.args.none f3 c.requires.none_there none)) in
    let there2 : l2 ≤ length c2 = omega arith in
    let x42 : Extends c4 c2 = extends-trans c4 c3 c2 c.put_version-is_ipv6.ensures.front c.put_length-whole.ensures.front in
    let w5 : NeedsNothing c5 l5 = at c5 l5 e5 (c.put_version-is_ipv4.ensures.words (nothing_kept c4 c2 l2 x42 there2 w2) w4) in
    c.put_length.ensures.words w5 (nothing_kept c5 old c.args.none f5 c.requires.none_there none)

pub returns-clause-leads : goal.returns-clause-leads
returns-clause-leads c = λ packet r bytes short h.
    let old = c.args.code.now in
    let c1 = c.put_whole_ipv4-all_there.new.code in
    let c2 = c.put_header_len-long_enough.new.code in
    let c3 = c.put_length-whole.new.code in
    let c4 = c.put_version-is_ipv6.new.code in
    let c5 = c.put_version-is_ipv4.new.code in
    let f1 : Extends c1 old = c.put_whole_ipv4-all_there.ensures.front in
    let f2 : Extends c2 old = extends-trans c2 c1 old c.put_header_len-long_enough.ensures.front f1 in
    let f3 : Extends c3 old = extends-trans c3 c2 old c.put_length-whole.ensures.front f2 in
    let f4 : Extends c4 old = extends-trans c4 c3 old c.put_version-is_ipv6.ensures.front f3 in
    let f5 : Extends c5 old = extends-trans c5 c4 old c.put_version-is_ipv4.ensures.front f4 in
    let l1 = c.put_whole_ipv4-all_there.result in
    let l2 = c.put_header_len-long_enough.result in
    let l3 = c.put_length-whole.result in
    let l4 = c.put_version-is_ipv6.result in
    let l5 = c.put_version-is_ipv4.result in
    let e1 : l1 ≡ length c1 = c.put_whole_ipv4-all_there.ensures.label in
    let e2 : l2 ≡ length c2 = c.put_header_len-long_enough.ensures.label in
    let e3 : l3 ≡ length c3 = c.put_length-whole.ensures.label in
    let e4 : l4 ≡ length c4 = c.put_version-is_ipv6.ensures.label in
    let e5 : l5 ≡ length c5 = c.put_version-is_ipv4.ensures.label in
    let none = c.args.none in
    let ipv4 = c.args.ipv4 in
    let ipv6 = c.args.ipv6 in
    let at : (code : List Instruction) (l : ℕ) → l ≡ length code → Returns code (length code) packet r → Returns code l packet r = λ code l e g. subst (λ (n : ℕ). Returns code n packet r) (sym e) g in
    let keep : (code : List Instruction) (l : ℕ) → Extends code old → l ≤ length old → Returns old l packet r → Returns code l packet r = λ code l f there g. returns_kept code old l packet r f there g in
    let byte = slice_index packet 0 in
    let len = length packet in
    let t1 : Bool = nat_le 1 len in
    let t4 : Bool = byte / 2 ^ 4 == 4 in
    let t6 : Bool = byte / 2 ^ 4 == 6 in
    let t20 : Bool = nat_le 20 (4 * (byte % 16)) in
    let whole : Bool = nat_le (4 * (byte % 16)) len in
    let t40 : Bool = nat_le 40 len in
    let side4 : ℕ = cond t20 (cond whole ipv4 none) none in
    let side6 : ℕ = cond t6 (cond t40 ipv6 none) none in
    let x42 : Extends c4 c2 = extends-trans c4 c3 c2 c.put_version-is_ipv6.ensures.front c.put_length-whole.ensures.front in
    let there2 : l2 ≤ length c2 = omega arith in
    let all : Returns old (cond t1 (cond t4 side4 side6) none) packet r = subst (λ (l : ℕ). Returns old l packet r) (start_label none ipv4 ipv6 packet) h in
    c.put_length.ensures.leads packet r short
    (cond_leads_by c5 old packet r t1 (cond t4 side4 side6) none l5 none all
    (λ some inner.
    let one : 1 ≤ len = leb-true 1 len some in
    at c5 l5 e5 (c.put_version-is_ipv4.ensures.leads packet r one
    (cond_leads c4 old packet r t4 side4 side6 l2 l4 inner
    (λ g. returns_kept c4 c2 l2 packet r x42 there2 (at c2 l2 e2 (c.put_header_len-long_enough.ensures.leads packet r one
    (cond_leads c1 old packet r t20 (cond whole ipv4 none) none l1 none g
    (λ k. at c1 l1 e1 (c.put_whole_ipv4-all_there.ensures.leads packet r one short k))
    (keep c1 none f1 c.requires.none_there)))))
    (λ g. at c4 l4 e4 (c.put_version-is_ipv6.ensures.leads packet r one
    (cond_leads c3 old packet r t6 (cond t40 ipv6 none) none l3 none g
    (λ k. at c3 l3 e3 (c.put_length-whole.ensures.leads packet r short
    (cond_leads c2 old packet r t40 ipv6 none ipv6 none k (keep c2 ipv6 f2 c.requires.ipv6_there) (keep c2 none f2 c.requires.none_there))))
    (keep c3 none f3 c.requires.none_there)))))))
    (keep c5 none f5 c.requires.none_there))
