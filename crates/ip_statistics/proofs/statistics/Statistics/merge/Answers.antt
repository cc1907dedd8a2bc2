use Rattle.std.proofs.Common.{◌≡◌, ◌∙◌, sym, rules}
use Rattle.ip_statistics.specs.Statistics.{merged}
use Rattle.ip_statistics.specs.Lists.{statistics_of}
use Rattle.ip_statistics.proofs.MergeLemmas.{statistics_of-append}
use Rattle.ip_statistics.proofs.statistics.Statistics.merge.Goals as goal

pub returns-clause-packets : goal.returns-clause-packets
returns-clause-packets c = λ xs ys e f. let sum : c.merge_lists.new.self ≡ merged c.args.self.now c.args.other.now = search rules in
    let parts : merged c.args.self.now c.args.other.now ≡ merged (statistics_of xs) (statistics_of ys) = cc (e, f) in
    sum ∙ parts ∙ sym (statistics_of-append xs ys)
