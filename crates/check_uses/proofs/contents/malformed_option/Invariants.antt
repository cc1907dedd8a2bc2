use Rattle.ip_spec.proofs.Common.{◌≡◌, ◌+◌, drop, length}
use Rattle.ip_ext_headers.specs.Ipv6RawExtHeaderSlice.{bytes}
use Rattle.ip_header_contents.specs.Options.{options_in, options_left, options_len, header_bytes, position}
use Rattle.check_uses.proofs.contents.malformed_option.Given as goal

-- the options so far and those that are left are all options of the header
abbrev pub invariant-options : goal.invariant-options
invariant-options l = record {
  same : header_bytes l.options ≡ bytes l.header;
  all : position l.options + options_len (options_left l.options) ≡ 2 + options_len (options_in (drop 2 (bytes l.header)));
}

abbrev pub decreases-options : goal.decreases-options
decreases-options l = length (options_left l.options)
