-- Headers that are written one after the other.
use Rattle.ip_spec.proofs.Common.{common_steps, ◌≡◌, refl, ℕ, ◌+◌, ◌≤◌, ◌<◌, ◌≢◌, List, [], ◌∷◌, ◌++◌, length, take, drop, slice_index_or, slice_set, true, arith, rules, subst, drop_more, drop-drop, length-take-le, length-drop, length-set, get_or-set_other, get_or-set_same, AllByRecursion, take-put_mid, drop-put_mid, take-length, put_mid, HOP_BY_HOP, IsHeader, next_header, IsEnd, IsChain, AreLinked}
use Rattle.std.proofs.Common.{length-append}
use Rattle.ip_spec.proofs.HeaderLemmas.{header-least}
use Rattle.ip_spec.proofs.ClearedLemmas.{cleared_same}
use Rattle.ip_spans.specs.Written.{bytes_at, LiesIn, AllLieIn, written_header, written_spans, written_chain, begun_with, AreSpansLinked, AreChainSpans}
use Rattle.ip_spans.specs.declared.header_span.HeaderSpan.{HeaderSpan}

-- bytes at which a chain ends are not a header
pub none_at_end : (n : ℕ) (b : List ℕ) → IsEnd true n b → IsHeader n b → ⊥
none_at_end n b end header =
    end (record { number = n; bytes = b }) (record { number = refl; header = header; prefix = take-length b; zero_only_first = λ _. refl })

-- a written header has the length of the original
pub written_len : (s : List ℕ) (x : HeaderSpan) → LiesIn s x → length (written_header x.number x.next_header (bytes_at s x)) ≡ x.len
written_len s x lies = search (rules, length-set, cleared_same (bytes_at s x) x.number lies.header, length-take-le, length-drop)

-- one more header is stored where those before it end
pub put_more : (at k j : ℕ) (out b ws : List ℕ) → length b ≡ k → j ≡ k → at + k ≤ length out → take (at + k) (put_mid at j out b) ++ begun_with ws (drop (at + k) (put_mid at j out b)) ≡ take at out ++ begun_with (b ++ ws) (drop at out)
put_more at k j out b ws len same room = grind (arith, common_steps, take-put_mid at j out b (at + k), drop-put_mid at j out b (at + k), drop-drop)

-- The invariant of `put_headers`: the headers from place i on lie in s, there is room for them from `at` on, and
-- together with those already stored they are all.
pub record Putting (s : List ℕ) (spans : List HeaderSpan) (old : List ℕ) (i at : ℕ) (out : List ℕ) : Type 0 where
  pub lie : AllLieIn s (drop i spans)
  pub room : at + length (written_spans s (drop i spans)) ≤ length old
  pub put : take at out ++ begun_with (written_spans s (drop i spans)) (drop at out) ≡ begun_with (written_spans s spans) old

pub putting_more : (s : List ℕ) (spans : List HeaderSpan) (old : List ℕ) (i at j : ℕ) (out b : List ℕ) (d : HeaderSpan) → Putting s spans old i at out → length out ≡ length old → i < length spans → j ≡ (slice_index_or spans i d).len → b ≡ written_header (slice_index_or spans i d).number (slice_index_or spans i d).next_header (bytes_at s (slice_index_or spans i d)) → Putting s spans old (i + 1) (at + (slice_index_or spans i d).len) (put_mid at j out b)
putting_more s spans old i at j out b d putting same there j_len is =
    let x : HeaderSpan = slice_index_or spans i d in
    let ws : List ℕ = written_spans s (drop (i + 1) spans) in
    let split : drop i spans ≡ x ∷ drop (i + 1) spans = drop_more spans i d there in
    let lie : AllLieIn s (x ∷ drop (i + 1) spans) = subst (AllLieIn s) split putting.lie in
    let all : written_spans s (drop i spans) ≡ b ++ ws = cc (split, is) in
    search (rules, lie, length-append b ws, written_len s x lie.0, put_more at x.len j out b ws, all, putting)

-- A header with another next header is still a header,
relinked_header : (n m : ℕ) (b : List ℕ) → IsHeader n b → IsHeader n (slice_set b 0 m)
relinked_header n m b header = search (rules, length-set, get_or-set_other)

-- and leads to that next header.
relinked_leads : (n m : ℕ) (b : List ℕ) → IsHeader n b → next_header (slice_set b 0 m) ≡ m
relinked_leads n m b header = search (rules, header-least, get_or-set_same)

-- So headers that are linked are written as a chain.
module _ (s : List ℕ) where
  written_headers : (xs : List HeaderSpan) → AllLieIn s xs → AllByRecursion (λ h. IsHeader h.number h.bytes) (written_chain s xs)
  written_headers [] lie = lie
  written_headers (x ∷ xs) lie = (relinked_header x.number x.next_header _ (cleared_same (bytes_at s x) x.number lie.0.header).header, written_headers xs lie.1)

  written_links : (n : ℕ) (xs : List HeaderSpan) → AllLieIn s xs → AreSpansLinked n xs → AreLinked n (written_chain s xs)
  written_links n [] lie links = links
  written_links n (x ∷ xs) lie links =
      let header = (cleared_same (bytes_at s x) x.number lie.0.header).header in
      (links.0, rw (relinked_leads x.number x.next_header _ header) (written_links x.next_header xs lie.1 links.1))

  written_not_zero : (xs : List HeaderSpan) → AllByRecursion (λ x. x.number ≢ HOP_BY_HOP) xs → AllByRecursion (λ h. h.number ≢ HOP_BY_HOP) (written_chain s xs)
  written_not_zero [] none = none
  written_not_zero (x ∷ xs) none = (none.0, written_not_zero xs none.1)

  pub written_is_chain : (n : ℕ) (xs : List HeaderSpan) → AllLieIn s xs → AreChainSpans n xs → IsChain n (written_chain s xs)
  written_is_chain n xs lie spans = search (rules, written_headers, written_links, written_not_zero)
