use Rattle.ip_spec.proofs.Common.{ap, ◌∙◌, Option, option_map, AuthFields}
use Rattle.check_uses.proofs.ipv4.put_before.Goals as goal

pub returns-in-Ok-clause-read : goal.returns-in-Ok-clause-read
returns-in-Ok-clause-read c = λ b appended.
    let linked : Option AuthFields → Option AuthFields = option_map (λ (v : AuthFields). record v { next_header = c.args.last.0 }) in
    let value = c.set_next_headers-first.ensures.links ∙ ap linked c.from_slice_lax-headers.ensures.answer.value in
    rw value at (c.in-Ok.ensures.parsed_whole b c.args.last appended c.set_next_headers-first.ensures.leads)
