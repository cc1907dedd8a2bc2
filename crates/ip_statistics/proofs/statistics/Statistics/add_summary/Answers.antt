use Rattle.std.proofs.Common.{◌≡◌, length, rules, refl}
use Rattle.ip_statistics.proofs.statistics.Statistics.add_summary.Goals as goal

pub returns : goal.returns
returns c =
    let chain_headers : length c.args.self.now.chain_headers ≡ 17 = search rules in
    let payload_numbers : length c.args.self.now.payload_numbers ≡ 256 = search rules in
    let later_fragment_numbers : length c.args.self.now.later_fragment_numbers ≡ 256 = search rules in
    let truncated_headers : length c.args.self.now.truncated_headers ≡ 16 = search rules in
    let faults : length c.args.self.now.faults ≡ 128 = search rules in
    λ p h ends. rw (
      c.count_if.ensures,
      c.count_if-2.ensures,
      c.count_if-3.ensures,
      c.add.ensures.sum,
      c.count_if-4.ensures,
      c.count_if-5.ensures,
      c.count_if-6.ensures,
      c.count_if-7.ensures,
      c.count_if-8.ensures,
      c.is_of_kind.ensures,
      c.is_of_kind-2.ensures,
      c.is_of_kind-3.ensures,
      c.is_of_kind-4.ensures,
      c.count_at.ensures,
      c.min-header_count.ensures,
      c.count_length.ensures,
      c.count_if-9.ensures,
      c.count_if-10.ensures,
      c.count_if-11.ensures,
      c.count_if-12.ensures,
      c.count_at-2.ensures,
      c.from-layer.ensures,
      c.layer_code_at.ensures,
      c.count_at-3.ensures,
      c.index_of.ensures,
      c.add-2.ensures.sum,
      c.payload_bytes.ensures,
      c.count_at-4.ensures,
      c.count_at-5.ensures,
      c.from-number.ensures,
      c.end_code_of-code.ensures,
      h,
      ends,
      chain_headers,
      payload_numbers,
      later_fragment_numbers,
      truncated_headers,
      faults,
    ) refl
