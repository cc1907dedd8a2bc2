use Rattle.ip_spec.proofs.Common.{◌≡◌, ℕ, Bool, ◌+◌, ◌/◌, ◌%◌, ◌++◌, List, Some, Ok, arith, ap, ◌∙◌, length, take, drop, length-set, length-take, length-drop, slice_set, slice_index, on_ok_weaker}
use Rattle.ip_base.specs.Checksum.{with_word}
use Rattle.ip_defragmenter.specs.Ecn.{marked}
use Rattle.ip_defragmenter.specs.Whole.{whole_packet}
use Rattle.ip_defragmenter.specs.Sent.{IsSentIpv6, ipv6_first}
use Rattle.check_uses.proofs.fragments.packet_that_was_sent.Goals as goal

-- The headers of the first fragment have as many bytes as those that were sent.
all_len : (s : List ℕ) (n link t : ℕ) → IsSentIpv6 s n link → length (ipv6_first s n link t) + length (drop n s) ≡ length s
all_len s n link t sent =
    omega (arith, sent.within, length-take n s, length-drop n s, length-set (take n s) 4 (t / 256), length-set (slice_set (take n s) 4 (t / 256)) 5 (t % 256), length-set (with_word (take n s) 4 t) link 44)

pub returns : goal.returns
returns c = λ s n link t limit pieces given sent stored split fits among joinable all clear first.
    let size = all_len s n link t sent in
    on_ok_weaker c.write.result
    (λ w. (
      w.0 ∙ ap (λ (k : ℕ). Ok (Some k)) size,
      w.1 ∙ (ap (λ (x : List ℕ). x ++ drop (length (ipv6_first s n link t) + length (drop n s)) c.args.out.now)
          (ap (λ (b : Bool). whole_packet (marked b (ipv6_first s n link t)) link (slice_index s link) (drop n s)) clear ∙ c.whole_packet_is_the_one_sent.ensures.ipv6 s n link t sent)
          ∙ ap (λ (k : ℕ). s ++ drop k c.args.out.now) size),
    ))
    (c.write.ensures.pieces (drop n s) pieces limit given (record { headers = ipv6_first s n link t; link = link; number = slice_index s link }) stored split fits among joinable all first)
