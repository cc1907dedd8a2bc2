use Rattle.std.proofs.Common.{arith, length, ap, sym, ◌-◌, ◌+◌, ◌∙◌}
use Rattle.std.specs.Prelude.{slice_range}
use Rattle.std.specs.Option.{option_or}
use Rattle.ip_captures.specs.Numbers.{number_at}
use Rattle.ip_captures.specs.Options.{padded, options_error}
use Rattle.ip_captures.proofs.BlockLemmas.{packet_right}
use Rattle.ip_captures.proofs.packet_block.packet.Goals as goal

pub returns-clause-right : goal.returns-clause-right
returns-clause-right c =
    let b = c.args.block.now in
    let fits = packet_right c.args.interfaces.now c.args.interface (number_at c.args.order b 20) (length b - 32) c.in_ok-described.ensures.within (omega (arith, c.u32_at-captured_len.ensures)) in
    ap (λ x. option_or x (options_error c.args.order (slice_range b (28 + padded (number_at c.args.order b 20)) (length b - 4)))) fits
    ∙ ap (λ n. options_error c.args.order (slice_range b (28 + padded n) (length b - 4))) (sym c.u32_at-captured_len.ensures) ∙ c.in_ok-check_options.ensures.right
