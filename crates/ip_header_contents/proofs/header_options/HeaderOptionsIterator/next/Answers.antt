use Rattle.ip_spec.proofs.Common.{rules}
use Rattle.ip_header_contents.specs.Options.{header_bytes, position}
use Rattle.ip_header_contents.proofs.OptionLemmas.{first_from}
use Rattle.ip_header_contents.proofs.header_options.HeaderOptionsIterator.next.Goals as goal

pub returns-clause-steps : goal.returns-clause-steps
returns-clause-steps c =
    let steps = first_from (header_bytes c.args.self.now) _ (position c.args.self.now) _ _ c.left.ensures c.in-Some.ensures.some c.encoded_len.ensures in
    search (rules, steps)

pub returns-clause-goes : goal.returns-clause-goes
returns-clause-goes c =
    let steps = first_from (header_bytes c.args.self.now) _ (position c.args.self.now) _ _ c.left.ensures c.in-Some.ensures.some c.encoded_len.ensures in
    search (rules, steps)
