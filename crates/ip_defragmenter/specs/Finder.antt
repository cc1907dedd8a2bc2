-- What the finder of fragment headers holds.
use Rattle.std.specs.Prelude.{ℕ, ◌+◌, List, length}
use Rattle.std.specs.Option.{option_map}
use Rattle.std.specs.List.{find}
use Rattle.ip_spec.specs.Chain.{ExtHeader, bytes_of}
use Rattle.ip_spec.specs.Fields.{fragment_fields}
use Rattle.ip_dissect.specs.Fragment.{fragments}
use Rattle.ip_defragmenter.specs.Split.{before_fragment, link_after}
use Rattle.ip_defragmenter.specs.declared.finder.FoundHeader.{FoundHeader}
use Rattle.ip_defragmenter.specs.declared.finder.Finder.{Finder}

-- the fields of a fragment header at this offset
abbrev pub found_at : ℕ → ExtHeader → FoundHeader
found_at start h = record {
  start = start;
  len = length h.bytes;
  next_header = record { 0 = (fragment_fields h.bytes).next_header };
  offset = (fragment_fields h.bytes).fragment_offset;
  more = (fragment_fields h.bytes).more_fragments;
  identification = (fragment_fields h.bytes).identification;
}

-- after these headers, of which the first is at the offset k
abbrev pub found_after : ℕ → List ExtHeader → Finder
found_after k c = record {
  header = option_map (found_at (k + length (bytes_of (before_fragment c)))) (find fragments c);
  link = link_after k (before_fragment c);
}
