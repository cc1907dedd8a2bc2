use Rattle.ip_spec.proofs.Common.{◌≡◌, ◌+◌, ◌≤◌, length, slice_set, subst, ap, sym, ◌∙◌, arith, IsHeader, ExtHeader, bytes_of}
use Rattle.ip_rewrite.proofs.FrontLemmas.{written_more, link_within, out_len, more_len}
use Rattle.ip_rewrite.proofs.buffer.append.Goals as goal

pub returns : goal.returns
returns c = λ l b buffer d h is w fits small.
    let header : IsHeader h.number h.bytes = subst (λ (g : ExtHeader). IsHeader g.number g.bytes) (sym is) c.requires in
    let bytes : h.bytes ≡ c.args.header.now = ap (λ (g : ExtHeader). g.bytes) is in
    let more = more_len d h in
    let before : length b + length (bytes_of d) ≤ length buffer = omega (arith, more, fits) in
    let size = out_len l b buffer d h c.args.out.now c.args.len c.args.link w before in
    let less = link_within l b buffer d h c.args.out.now c.args.len c.args.link w before in
    let stored = c.set.ensures.stored less in
    let room : c.args.len + length c.args.header.now ≤ length c.set.new.out = omega (arith, w.len, size, c.set.ensures.len, more, fits, ap length bytes) in
    let put = rw (← bytes) at (c.put_at.ensures room) in
    let number : h.number ≡ c.args.number.0 = ap (λ (g : ExtHeader). g.number) is in
    written_more l b buffer d h c.args.out.now c.args.len c.args.link w header fits c.set.new.out c.put_at.new.out (c.args.len + length c.args.header.now)
    (stored ∙ ap (slice_set c.args.out.now c.args.link) (sym number)) put
    (omega (arith, ap length bytes))
