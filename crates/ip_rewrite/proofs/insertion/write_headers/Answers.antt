use Rattle.ip_spec.proofs.Common.{◌≡◌, ◌+◌, ◌≤◌, ℕ, [], ◌∷◌, ◌++◌, length, subst, sym, ◌∙◌, ap, arith, List, ExtHeader, bytes_of}
use Rattle.ip_dissect.specs.Dissection.{DissectedParts, dissected}
use Rattle.ip_dissect.specs.declared.summary.Summary.{Summary}
use Rattle.ip_rewrite.specs.Insertion.{inserted}
use Rattle.ip_rewrite.specs.Writing.{AreWritten, inserted_so_far}
use Rattle.ip_rewrite.proofs.FrontLemmas.{more_len}
use Rattle.ip_rewrite.proofs.InsertionLemmas.{header_is, inserted_len, so_far_end, so_far_whole}
use Rattle.ip_rewrite.proofs.insertion.write_headers.Goals as goal

pub append-requires : goal.append-requires
append-requires c = header_is c.args.number.0 c.args.header.now c.requires.header

pub returns-then-index-count : goal.returns-then-index-count
returns-then-index-count c = λ h is.
    let p : DissectedParts = dissected c.args.packet.now.bytes.now in
    let i : ℕ = c.args.index in
    let b : List ℕ = p.base in
    let buffer : List ℕ = c.args.out.now in
    let d : List ExtHeader = inserted i h p.headers in
    let e : List ExtHeader = inserted_so_far i h p.headers in
    let count : c.args.packet.now.summary.header_count ≡ length p.headers = ap (λ (o : Summary). o.header_count) c.args.packet.now.summary_is in
    let so : d ≡ e ++ h ∷ [] = so_far_end i p.headers h (c.if-index-count.true ∙ count) in
    let bytes : length h.bytes ≡ length c.args.header.now = ap (λ (g : ExtHeader). length g.bytes) is in
    let all : length (bytes_of d) ≡ length (bytes_of (e ++ h ∷ [])) = ap (λ (x : List ExtHeader). length (bytes_of x)) so in
    let w = c.write_so_far-written.ensures h is in
    let room : length b + length (bytes_of (e ++ h ∷ [])) ≤ length buffer = omega (arith, c.requires.fits, all, inserted_len i p.headers h, bytes) in
    let more = c.append.ensures c.args.offset b buffer e h is w room c.requires.small in
    let size : c.write_so_far-written.result.len + length c.args.header.now ≡ length b + length (bytes_of d) = omega (arith, w.len, more_len e h, all, bytes) in
    subst (λ (x : List ExtHeader). AreWritten c.args.offset b buffer x c.append.new.out (length b + length (bytes_of d)) c.write_so_far-written.result.len) (sym so)
    (subst (λ (k : ℕ). AreWritten c.args.offset b buffer (e ++ h ∷ []) c.append.new.out k c.write_so_far-written.result.len) size more)

pub returns : goal.returns
returns c = λ h is.
    let p : DissectedParts = dissected c.args.packet.now.bytes.now in
    let i : ℕ = c.args.index in
    let b : List ℕ = p.base in
    let d : List ExtHeader = inserted i h p.headers in
    let count : c.args.packet.now.summary.header_count ≡ length p.headers = ap (λ (o : Summary). o.header_count) c.args.packet.now.summary_is in
    let so : inserted_so_far i h p.headers ≡ d = so_far_whole i p.headers h c.requires.index (λ e. c.if-index-count.false (e ∙ sym count)) in
    let w : AreWritten c.args.offset b c.args.out.now d c.write_so_far-written.new.out c.write_so_far-written.result.len c.write_so_far-written.result.link =
    subst (λ (x : List ExtHeader). AreWritten c.args.offset b c.args.out.now x c.write_so_far-written.new.out c.write_so_far-written.result.len c.write_so_far-written.result.link) so (c.write_so_far-written.ensures h is) in
    subst (λ (k : ℕ). AreWritten c.args.offset b c.args.out.now d c.write_so_far-written.new.out k c.write_so_far-written.result.link) w.len w
