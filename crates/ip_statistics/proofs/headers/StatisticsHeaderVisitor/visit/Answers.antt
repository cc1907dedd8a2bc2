use Rattle.std.proofs.Common.{ap, ◌∙◌, ◌++◌, ◌∷◌, [], ◌==◌, ◌&&◌, true, length}
use Rattle.ip_spec.specs.Chain.{ExtHeader}
use Rattle.ip_statistics.specs.Counts.{all_added, each_below, one_if}
use Rattle.ip_statistics.specs.HeaderCounts.{number_counts}
use Rattle.ip_statistics.specs.declared.statistics.Statistics.{Statistics}
use Rattle.ip_statistics.proofs.HeaderLemmas.{counted_more}
use Rattle.ip_statistics.proofs.headers.StatisticsHeaderVisitor.visit.Goals as goal

pub returns : goal.returns
returns c = λ old k d before index offset are.
    let now = c.args.self.now in
    let h : ExtHeader = record { number = c.args.number.0; bytes = c.args._header.now } in
    let one = c.count_at.ensures ∙ ap (λ m. all_added now.headers (each_below (length now.headers) (λ i. one_if (true && (m == i))))) c.from.ensures in
    ap (λ hs. record now { headers = hs }) (counted_more old.headers now.headers _ d h are.len (ap (λ (a : Statistics). a.headers) (before are)) one)
    ∙ ap (λ (a : Statistics). record a { headers = all_added old.headers (number_counts (d ++ h ∷ [])) }) (before are)
