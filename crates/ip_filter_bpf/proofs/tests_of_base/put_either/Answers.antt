use Rattle.std.proofs.Common.{Bool, false, cond, ◌||◌, subst}
use Rattle.std.specs.Option.{option_map_or}
use Rattle.ip_bpf.proofs.AssemblyLemmas.{extends-trans}
use Rattle.ip_dissect.specs.Dissection.{dissected}
use Rattle.ip_filter.specs.Tests.{network_in}
use Rattle.ip_filter.specs.Truth.{has_source, has_destination}
use Rattle.ip_filter_bpf.specs.Blocks.{Returns}
use Rattle.ip_filter_bpf.proofs.BlockLemmas.{returns_kept, nothing_kept, or_leads}
use Rattle.ip_filter_bpf.proofs.TestLemmas.{either_of_network}
use Rattle.ip_filter_bpf.proofs.tests_of_base.put_either.Goals as goal

pub returns-clause-front : goal.returns-clause-front
returns-clause-front c = extends-trans c.put_source.new.code c.put_destination-destination.new.code c.args.code.now c.put_source.ensures.front c.put_destination-destination.ensures.front

pub returns-clause-words : goal.returns-clause-words
returns-clause-words c = λ met not'.
    c.put_source.ensures.words
    (nothing_kept c.put_destination-destination.new.code c.args.code.now c.args.if_met c.put_destination-destination.ensures.front c.requires.met_there met)
    (c.put_destination-destination.ensures.words met not')

pub returns-clause-leads : goal.returns-clause-leads
returns-clause-leads c = λ packet r of_version bytes h.
    let n = network_in c.args.test.now in
    let t : Bool = option_map_or (λ n. has_source n (dissected packet)) n false in
    let u : Bool = option_map_or (λ n. has_destination n (dissected packet)) n false in
    let both : Returns c.args.code.now (cond (t || u) c.args.if_met c.args.if_not) packet r =
    subst (λ (b : Bool). Returns c.args.code.now (cond b c.args.if_met c.args.if_not) packet r) (either_of_network n (λ n. has_source n (dissected packet)) (λ n. has_destination n (dissected packet))) h in
    c.put_source.ensures.leads packet r of_version bytes
    (or_leads c.put_destination-destination.new.code c.args.code.now packet r c.put_destination-destination.result c.args.if_met c.args.if_not u t both
    (λ g. c.put_destination-destination.ensures.leads packet r of_version bytes g)
    (returns_kept c.put_destination-destination.new.code c.args.code.now c.args.if_met packet r c.put_destination-destination.ensures.front c.requires.met_there))
