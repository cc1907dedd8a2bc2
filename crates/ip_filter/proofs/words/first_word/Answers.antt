use Rattle.ip_spec.proofs.Common.{rules, ◌<◌, length}
use Rattle.ip_filter.proofs.WordLemmas.{begins_with, place_of, end_of}
use Rattle.ip_filter.proofs.words.first_word.Goals as goal

pub returns-clause-some : goal.returns-clause-some
returns-clause-some c =
    let from = c.skip_spaces-from in
    let n = c.len_of_word-len in
    let some : 0 < length from.result.now = search rules in
    let plain = from.ensures.no_space some in
    record {
      begins = begins_with _ _ _ from.ensures.words from.ensures.shorter from.ensures.rest some plain n.ensures.within n.ensures.len;
      place = place_of _ _ _ from.ensures.words from.ensures.shorter from.ensures.rest some plain n.ensures.within;
      end = end_of _ _ _ from.ensures.words from.ensures.shorter from.ensures.rest some plain n.ensures.within;
    }
