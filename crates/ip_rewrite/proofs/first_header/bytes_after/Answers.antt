use Rattle.ip_spec.proofs.Common.{rules, ◌≡◌, ℕ, List, length, ap, arith, bytes_of}
use Rattle.ip_dissect.specs.Dissection.{DissectedParts, dissected}
use Rattle.ip_dissect.specs.declared.summary.Summary.{Summary}
use Rattle.ip_dissect.proofs.PacketLemmas.{summary_fits, extensions_are, payload_is}
use Rattle.ip_rewrite.proofs.FirstHeaderLemmas.{rest_of_part}
use Rattle.ip_rewrite.proofs.first_header.bytes_after.Goals as goal

pub overflow_add-start : goal.overflow_add-start
overflow_add-start c =
    let fits = summary_fits c.args.packet.now.bytes.now _ _ c.args.packet.now.base_is c.args.packet.now.summary_is in
    let size : c.args.packet.now.summary.extensions_len ≡ length (bytes_of (dissected c.args.packet.now.bytes.now).headers) = ap (λ (x : Summary). x.extensions_len) c.args.packet.now.summary_is in
    let asked = c.requires in
    search (rules, fits, size, asked)

pub overflow_add-end : goal.overflow_add-end
overflow_add-end c = let fits = summary_fits c.args.packet.now.bytes.now _ _ c.args.packet.now.base_is c.args.packet.now.summary_is in search (rules, fits)

pub overflow_add-end-2 : goal.overflow_add-end-2
overflow_add-end-2 c = let fits = summary_fits c.args.packet.now.bytes.now _ _ c.args.packet.now.base_is c.args.packet.now.summary_is in search (rules, fits)

pub slice_bounds-result-end : goal.slice_bounds-result-end
slice_bounds-result-end c =
    let fits = summary_fits c.args.packet.now.bytes.now _ _ c.args.packet.now.base_is c.args.packet.now.summary_is in
    let size : c.args.packet.now.summary.extensions_len ≡ length (bytes_of (dissected c.args.packet.now.bytes.now).headers) = ap (λ (x : Summary). x.extensions_len) c.args.packet.now.summary_is in
    let asked = c.requires in
    search (rules, fits, size, asked)

pub returns : goal.returns
returns c =
    let s : List ℕ = c.args.packet.now.bytes.now in
    let p : DissectedParts = dissected s in
    let o : Summary = c.args.packet.now.summary in
    let size : o.extensions_len ≡ length (bytes_of p.headers) = ap (λ (x : Summary). x.extensions_len) c.args.packet.now.summary_is in
    rest_of_part s o.base_len o.extensions_len o.payload_len c.args.len (bytes_of p.headers) p.payload (omega (arith, size, c.requires))
    (extensions_are s _ _ c.args.packet.now.base_is c.args.packet.now.summary_is) (payload_is s _ _ c.args.packet.now.base_is c.args.packet.now.summary_is)
