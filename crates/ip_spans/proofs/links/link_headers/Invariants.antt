use Rattle.ip_spec.proofs.Common.{◌≡◌, ◌≤◌, length, take, drop}
use Rattle.ip_spans.specs.LinkedSpans.{number_of_first_span, linked_spans}
use Rattle.ip_spans.proofs.links.link_headers.Given as goal

-- the headers from here on are linked, and those before are unchanged
abbrev pub invariant-headers : goal.invariant-headers
invariant-headers l = record {
  within : l.left ≤ length l.fn.spans;
  before : take l.left l.spans ≡ take l.left l.fn.spans;
  linked : drop l.left l.spans ≡ linked_spans l.fn.last (drop l.left l.fn.spans);
  next : l.next ≡ number_of_first_span l.fn.last (drop l.left l.fn.spans);
}

abbrev pub decreases-headers : goal.decreases-headers
decreases-headers l = l.left
