use Rattle.std.proofs.Common.{rules, ap, ◌*◌, ◌^◌, ◌%◌, bit_or, slice_index, slice_set}
use Rattle.ip_filter.proofs.OptionTypeLemmas.{inserted}
use Rattle.ip_filter.proofs.option_types.OptionTypes.insert.Goals as goal

pub returns : goal.returns
returns c = λ n.
    let words = c.args.self.now.words in
    inserted words c.args.option_type n (search rules) (search rules) _ (ap (λ i. slice_set words i (bit_or (slice_index words i) (1 * 2 ^ (c.args.option_type % 64) % 2 ^ 64))) c.from.ensures)
