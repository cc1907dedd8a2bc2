use Rattle.std.proofs.Common.{◌≡◌, ℕ, ◌+◌, ◌*◌, ◌/◌, ◌%◌, ◌^◌, ◌<◌, ◌&&◌, Bool, cond, sym, ap, ◌∙◌, subst, arith, mod-lt, pow_pos}
use Rattle.std.specs.Prelude.{◌==◌}
use Rattle.ip_bpf.proofs.AssemblyLemmas.{extends-trans}
use Rattle.ip_bpf.specs.Assembly.{Extends}
use Rattle.ip_filter_bpf.specs.Blocks.{Returns, word_at, address_at}
use Rattle.ip_filter_bpf.proofs.BlockLemmas.{returns_kept, nothing_kept, and_leads, words_tell, word_small, address_parts}
use Rattle.ip_filter_bpf.proofs.blocks.put_address.Goals as goal

pub returns-clause-front : goal.returns-clause-front
returns-clause-front c =
    let old = c.args.code.now in
    let two = extends-trans c.put_word-third.new.code c.put_word-last.new.code old c.put_word-third.ensures.front c.put_word-last.ensures.front in
    let three = extends-trans c.put_word-second.new.code c.put_word-third.new.code old c.put_word-second.ensures.front two in
    extends-trans c.put_word.new.code c.put_word-second.new.code old c.put_word.ensures.front three

pub returns-clause-words : goal.returns-clause-words
returns-clause-words c = λ met not'.
    let old = c.args.code.now in
    let one : Extends c.put_word-last.new.code old = c.put_word-last.ensures.front in
    let two = extends-trans c.put_word-third.new.code c.put_word-last.new.code old c.put_word-third.ensures.front one in
    let three = extends-trans c.put_word-second.new.code c.put_word-third.new.code old c.put_word-second.ensures.front two in
    c.put_word.ensures.words
    (c.put_word-second.ensures.words
    (c.put_word-third.ensures.words
    (c.put_word-last.ensures.words met not')
    (nothing_kept c.put_word-last.new.code old c.args.if_not one c.requires.not_there not'))
    (nothing_kept c.put_word-third.new.code old c.args.if_not two c.requires.not_there not'))
    (nothing_kept c.put_word-second.new.code old c.args.if_not three c.requires.not_there not')

pub returns-clause-leads : goal.returns-clause-leads
returns-clause-leads c = λ packet r there bytes h.
    let old = c.args.code.now in
    let o = c.args.offset in
    let k = c.args.ignored in
    let k1 = c.saturating_sub.result in
    let k2 = c.saturating_sub-2.result in
    let k3 = c.saturating_sub-3.result in
    let high = c.args.high in
    let low = c.args.low in
    let met = c.args.if_met in
    let not' = c.args.if_not in
    let one : Extends c.put_word-last.new.code old = c.put_word-last.ensures.front in
    let two = extends-trans c.put_word-third.new.code c.put_word-last.new.code old c.put_word-third.ensures.front one in
    let three = extends-trans c.put_word-second.new.code c.put_word-third.new.code old c.put_word-second.ensures.front two in
    let t0 : Bool = word_at packet o / 2 ^ k3 == high / 2 ^ 32 / 2 ^ k3 in
    let t1 : Bool = word_at packet (o + 4) / 2 ^ k2 == high % 2 ^ 32 / 2 ^ k2 in
    let t2 : Bool = word_at packet (o + 8) / 2 ^ k1 == low / 2 ^ 32 / 2 ^ k1 in
    let t3 : Bool = word_at packet (o + 12) / 2 ^ k == low % 2 ^ 32 / 2 ^ k in
    let low_small : low / 2 ^ 32 < 2 ^ 32 = let fits : low < 2 ^ 64 = c.ranges.low.fits in omega arith in
    let tell : (t0 && (t1 && (t2 && t3))) ≡ (address_at packet o / 2 ^ k == (high * 2 ^ 64 + low) / 2 ^ k) =
    words_tell (word_at packet o) (word_at packet (o + 4)) (word_at packet (o + 8)) (word_at packet (o + 12)) (high / 2 ^ 32) (high % 2 ^ 32) (low / 2 ^ 32) (low % 2 ^ 32) k k1 k2 k3
    c.saturating_sub.ensures c.saturating_sub-2.ensures c.saturating_sub-3.ensures
    (word_small packet (o + 4) bytes) (word_small packet (o + 8) bytes) (word_small packet (o + 12) bytes)
    (mod-lt high (pow_pos 32)) low_small (mod-lt low (pow_pos 32))
    ∙ ap (λ (n : ℕ). address_at packet o / 2 ^ k == n / 2 ^ k) (address_parts high low) in
    let all : Returns old (cond (t0 && (t1 && (t2 && t3))) met not') packet r = subst (λ (t : Bool). Returns old (cond t met not') packet r) (sym tell) h in
    c.put_word.ensures.leads packet r (omega arith) (word_small packet o bytes)
    (and_leads c.put_word-second.new.code old packet r c.put_word-second.result met not' (t1 && (t2 && t3)) t0 all
    (λ h1. c.put_word-second.ensures.leads packet r (omega arith) (word_small packet (o + 4) bytes)
    (and_leads c.put_word-third.new.code old packet r c.put_word-third.result met not' (t2 && t3) t1 h1
    (λ h2. c.put_word-third.ensures.leads packet r (omega arith) (word_small packet (o + 8) bytes)
    (and_leads c.put_word-last.new.code old packet r c.put_word-last.result met not' t3 t2 h2
    (λ h3. c.put_word-last.ensures.leads packet r (omega arith) (word_small packet (o + 12) bytes) h3)
    (returns_kept c.put_word-last.new.code old not' packet r one c.requires.not_there)))
    (returns_kept c.put_word-third.new.code old not' packet r two c.requires.not_there)))
    (returns_kept c.put_word-second.new.code old not' packet r three c.requires.not_there))
