use Rattle.ip_spec.proofs.Common.{arith, ap, ◌∙◌, rules, ◌||◌, ◌&&◌, ◌==◌, not, list_any}
use Rattle.ip_dissect.specs.Dissection.{dissected}
use Rattle.ip_filter.specs.Truth.{is_first_kind, is_later_kind}
use Rattle.ip_filter.specs.Flags.{base_fragment}
use Rattle.ip_filter.proofs.FlagLemmas.{of_version, flags_joined}
use Rattle.ip_filter.proofs.FragmentLemmas.{by_headers}
use Rattle.ip_filter.proofs.flags.Flags.of.Goals as goal

pub returns : goal.returns
returns c = λ n less.
    let packet = c.args.packet.now in
    let p = dissected packet.bytes.now in
    rw (
      c.with-3.ensures n less,
      c.with_fragment.ensures n less,
      c.with-2.ensures n less,
      c.with.ensures n less,
      c.requires n less,
      of_version packet.summary.version 4 p (search rules) (omega arith),
      of_version packet.summary.version 6 p (search rules) (omega arith),
      c.base_fragment.ensures ∙ ap base_fragment packet.summary_is,
      ap (λ o. o.missing) packet.summary_is,
      by_headers (λ x. is_first_kind x.kind) packet.bytes.now,
      by_headers (λ x. is_later_kind x.kind) packet.bytes.now,
    )
    (ap (λ b. b || ((n == 10) && not (p.missing == 0))) (flags_joined (list_any (λ h. h.number == n) p.headers) _ _ (n == 8) (n == 9) _ _ _ _))
