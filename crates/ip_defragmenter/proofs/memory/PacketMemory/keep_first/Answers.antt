use Rattle.std.proofs.Common.{ℕ, List, ap, ◌∙◌, length, leb}
use Rattle.std.specs.Prelude.{Some, None}
use Rattle.std.proofs.lemmas.Bool.{cond-true, le-leb}
use Rattle.ip_defragmenter.specs.Memory.{FirstParts}
use Rattle.ip_defragmenter.proofs.memory.PacketMemory.keep_first.Goals as goal

pub returns-clause-first : goal.returns-clause-first
returns-clause-first c =
    let m = c.keep_headers.new.self in
    cond-true (leb m.head_len (length m.head)) _ None (le-leb m.head_len (length m.head) c.keep_headers.ensures.within)
    ∙ ap (λ (headers : List ℕ). Some (let p : FirstParts = record { headers = headers; link = c.args.fragment.now.link; number = c.args.fragment.now.next_header.0 } in p)) c.keep_headers.ensures.headers
