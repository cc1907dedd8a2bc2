use Rattle.ip_spec.proofs.Common.{rules}
use Rattle.ip_ext_slices.proofs.LongestLemmas.{goes_after}
use Rattle.ip_ext_slices.proofs.ipv6_exts_cursor.Ipv6ExtensionsCursorIterator.next.Goals as goal

pub invariant_of-self : goal.invariant_of-self
invariant_of-self c =
    let goes = goes_after _ _ _ _ _ _ _ c.args.self.now.within c.in-Some.ensures.next c.next_header-self.ensures c.slice.ensures.bytes c.split_at.ensures.back in
    search (rules, goes)
