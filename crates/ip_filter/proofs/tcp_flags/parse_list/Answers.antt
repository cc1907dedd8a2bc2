use Rattle.ip_spec.proofs.Common.{◌∙◌, sym, ap, rules, arith, take_rest, length, ◌-◌, take, drop}
use Rattle.std.specs.Prelude.{bit_or}
use Rattle.ip_filter.specs.Numbers.{names_in, with_flags}
use Rattle.ip_filter.proofs.TcpFlagLemmas.{last_name, next_name}
use Rattle.ip_filter.proofs.tcp_flags.parse_list.Goals as goal

pub returns-in-empty : goal.returns-in-empty
returns-in-empty c = sym (last_name c.names.flags c.index_of-comma.result c.names.rest.now c.index_of-comma.ensures.index _ (omega (arith, c.in-empty.len_below)) (search rules)) ∙ c.names.invariant

pub names-preserved : goal.names-preserved
names-preserved c =
    let from = c.index_of-comma.result in
    let w = c.names.rest.now in
    let rest = take_rest (take (length w - from) (drop from w)) 1 ∙ ap (drop 1) (take_rest w from) in
    ap (λ r. with_flags (bit_or c.names.flags c.in_ok-flags.field-0) (names_in r)) rest ∙ sym (next_name c.names.flags from w c.index_of-comma.ensures.index c.in_ok-flags.field-0 (omega (arith, c.in-len1-up.len_at_least)) (search rules)) ∙ c.names.invariant
