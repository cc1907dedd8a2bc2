-- The checksum of the base header of a written IPv4 packet.
use Rattle.ip_spec.proofs.Common.{◌≡◌, ℕ, ◌/◌, ◌%◌, ◌≤◌, ◌<◌, List, length, take, subst, refl, sym, ap, ◌∙◌, arith, ◌==◌, None, AreBytes, ExtHeader, cond-true, eq-eqb, slice_set, length-set, ◌+◌}
use Rattle.std.proofs.lemmas.List.Elements.{All-set, All-take}
use Rattle.ip_base.specs.Checksum.{with_word, ones_sum, checksum_of}
use Rattle.ip_base.proofs.ChecksumLemmas.{word_len, whole_sum}
use Rattle.ip_base.specs.Ipv4Header.{ipv4_header_len}
use Rattle.ip_dissect.specs.Dissection.{DissectedParts, ipv4_dissected, dissected}
use Rattle.ip_dissect.proofs.DissectedLemmas.{BeginIpv4, begin_ipv4}
use Rattle.ip_rewrite.specs.Headers.{number_of_first}
use Rattle.ip_rewrite.specs.Base.{number_offset, ipv4_stating, base_stating}
use Rattle.ip_rewrite.specs.Rewritten.{base_for, rewritten_field, room_fault}
use Rattle.ip_rewrite.proofs.DissectLemmas.{field_fits}
use Rattle.ip_rewrite.proofs.RestoringLemmas.{word_word}

word_bytes : (b : List ℕ) (i n : ℕ) → AreBytes b → n < 65536 → AreBytes (with_word b i n)
word_bytes b i n bytes small = All-set (λ x. x < 256) (slice_set b i (n / 256)) (i + 1) (n % 256) (omega arith) (All-set (λ x. x < 256) b i (n / 256) (omega (arith, small)) bytes)

stating_sum : (b : List ℕ) (t : ℕ) → AreBytes b → 12 ≤ length b → t < 65536 → ones_sum (ipv4_stating b t) ≡ 65535
stating_sum b t bytes long small =
    let d : List ℕ = with_word b 2 t in
    ap ones_sum (word_word d 10 0 (checksum_of (with_word d 10 0))) ∙ whole_sum d 5 (word_bytes b 2 t bytes small) (omega (arith, word_len b 2 t, long))

version_sum : (v : ℕ) (b : List ℕ) (k t : ℕ) → v ≡ 4 → AreBytes b → 20 ≤ length b → k < 256 → t < 65536 → ones_sum (base_stating v (slice_set b (number_offset v) k) t) ≡ 65535
version_sum v b k t four bytes long number small =
    let n : ℕ = number_offset v in
    ap ones_sum (cond-true (v == 4) (ipv4_stating (slice_set b n k) t) (with_word (slice_set b n k) 4 t) (eq-eqb v 4 four))
    ∙ stating_sum (slice_set b n k) t (All-set (λ x. x < 256) b n k number bytes) (omega (arith, length-set b n k, long)) small

pub written_sum : (s : List ℕ) (c : List ExtHeader) (m : ℕ) (q : List ℕ) (room : ℕ) → AreBytes s → (dissected s).version ≡ 4 → number_of_first c m < 256
    → room_fault (dissected s) c q room ≡ None → ones_sum (base_for (dissected s) c m q) ≡ 65535
written_sum s c m q room bytes four number fits =
    let b : List ℕ = take (ipv4_header_len s) s in
    let v : BeginIpv4 s b = begin_ipv4 s four in
    let P : DissectedParts → Type 0 = λ p. room_fault p c q room ≡ None → ones_sum (base_for p c m q) ≡ 65535 in
    subst P (sym v.is)
    (λ e. version_sum 4 b (number_of_first c m) (rewritten_field (ipv4_dissected b s) c q) refl (All-take (λ x. x < 256) (ipv4_header_len s) s bytes) (omega (arith, v.header.least, v.header.len)) number (field_fits (ipv4_dissected b s) c q room e)) fits
