use Rattle.ip_ext_slices.proofs.ParseLemmas.{parse_goes_on, at_end}
use Rattle.ip_ext_slices.proofs.ipv6_exts_slice.Ipv6ExtensionsSlice.scan.Goals as goal
use Rattle.ip_ext_slices.proofs.ipv6_exts_slice.Ipv6ExtensionsSlice.scan.Goals.{then-fragmented, else-fragmented}

pub headers-preserved : goal.headers-preserved
headers-preserved c =
    parse_goes_on _ _ _ _ _ _ _ _ _ _ c.headers.invariant c.in-Some.ensures.next c.next_header-number.ensures c.slice.ensures.bytes c.split_at.ensures.back
    (elim c.if-fragmented.branch [
      | then-fragmented w ↦ rw (w.if-fragmented.true, w.fragmented-is) w.if-fragmented.true
      | else-fragmented w ↦ rw (w.if-fragmented.false, w.fragmented-is) w.is_fragmenting_payload-fragmented.ensures
    ])

pub returns : goal.returns
returns c =
    let end = at_end _ _ _ _ _ c.headers.invariant c.in_default.ensures.end in
    record { number = end.number; rest = end.rest; flag = end.fragmented; len = end.len }
