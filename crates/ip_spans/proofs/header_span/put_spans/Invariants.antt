use Rattle.ip_spec.proofs.Common.{◌≡◌, ◌++◌, ◌+◌, ◌≤◌, length, take, drop, bytes_of}
use Rattle.ip_ext_slices.specs.Ipv6ExtensionsSlice.{bytes, headers_in}
use Rattle.ip_ext_slices.specs.Ipv6ExtensionSliceIter.{headers_left}
use Rattle.ip_spans.specs.HeaderSpan.{spans_from, filled}
use Rattle.ip_spans.proofs.header_span.put_spans.Given as goal

-- the spans already stored and the remaining ones fill the array
abbrev pub invariant-loop-header : goal.invariant-loop-header
invariant-loop-header l = record {
  can : (goal.iterator-loop-header).can_next l.header-iterator;
  ends : (goal.iterator-loop-header).is_finite l.header-iterator;
  after : l.at + length (bytes_of (headers_left l.header-iterator)) ≡ l.fn.offset + length (bytes l.fn.headers);
  counted : l.count + length (headers_left l.header-iterator) ≡ length (headers_in l.fn.headers);
  few : length (headers_in l.fn.headers) ≤ length (bytes l.fn.headers);
  spans : take l.count l.spans ++ filled (spans_from l.at (headers_left l.header-iterator)) (drop l.count l.spans)
      ≡ filled (spans_from l.fn.offset (headers_in l.fn.headers)) l.fn.spans;
}
