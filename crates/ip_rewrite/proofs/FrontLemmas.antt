-- The headers at the front of a packet that is written, one after another.
use Rattle.ip_spec.proofs.Common.{◌≡◌, ℕ, ◌+◌, ◌-◌, ◌≤◌, ◌<◌, List, [], ◌∷◌, ◌++◌, length, take, drop, slice_set, slice_index, refl, sym, ◌∙◌, ap, arith, append_assoc, append-nil, length-append, length-drop, length-set, take-append_seam, drop-append_seam, drop-drop, AllByRecursion, IsHeader, next_header, ExtHeader, AreLinked, IsChain, bytes_of, leads_to}
use Rattle.std.proofs.lemmas.List.{set-append_left, set-append_right, set-set, set-get_or}
use Rattle.ip_spec.proofs.HeaderLemmas.{header-least}
use Rattle.ip_spec.proofs.StepLemmas.{bytes_of-more, leads_to-more, all_more}
use Rattle.ip_rewrite.specs.Headers.{number_of_first, leading_to, linked_headers}
use Rattle.ip_rewrite.specs.Base.{base_stating}
use Rattle.ip_rewrite.specs.Writing.{front_with, link_of, AreWritten}

abbrev AreHeaders : List ExtHeader → Type 0
AreHeaders c = AllByRecursion (λ h. IsHeader h.number h.bytes) c

front_first : (l : ℕ) (b : List ℕ) (h : ExtHeader) (c : List ExtHeader) (m : ℕ) → front_with l b (h ∷ c) m ≡ slice_set b l h.number ++ front_with 0 h.bytes c m
front_first l b h c m = refl

pub joined_len : (c : List ExtHeader) (m : ℕ) → length (bytes_of (linked_headers m c)) ≡ length (bytes_of c)
joined_len [] m = refl
joined_len (h ∷ c) m = omega (arith, joined_len c m, length-append (slice_set h.bytes 0 (number_of_first c m)) (bytes_of (linked_headers m c)), length-append h.bytes (bytes_of c), length-set h.bytes 0 (number_of_first c m))

pub front_len : (l : ℕ) (b : List ℕ) (c : List ExtHeader) (m : ℕ) → length (front_with l b c m) ≡ length b + length (bytes_of c)
front_len l b c m = omega (arith, joined_len c m, length-append (slice_set b l (number_of_first c m)) (bytes_of (linked_headers m c)), length-set b l (number_of_first c m))

-- the number of what follows is within them
pub link_less : (l : ℕ) (b : List ℕ) (c : List ExtHeader) → l < length b → AreHeaders c → link_of l b c < length b + length (bytes_of c)
link_less l b [] less a = omega arith
link_less l b (h ∷ c) less a =
    let least : 0 < length h.bytes = omega (arith, header-least h.number h.bytes a.0) in
    omega (arith, link_less 0 h.bytes c least a.1, length-append h.bytes (bytes_of c))

-- another number of what follows
pub front_set : (l : ℕ) (b : List ℕ) (c : List ExtHeader) (m n : ℕ) (r : List ℕ) → l < length b → AreHeaders c → slice_set (front_with l b c m ++ r) (link_of l b c) n ≡ front_with l b c n ++ r
front_set l b [] m n r less a =
    let within : l < length (slice_set b l m) = omega (arith, less, length-set b l m) in
    ap (λ x. slice_set (x ++ r) l n) (append-nil (slice_set b l m))
    ∙ (set-append_left (slice_set b l m) r l n within ∙ (ap (λ x. x ++ r) (set-set b l m n) ∙ ap (λ x. x ++ r) (sym (append-nil (slice_set b l n)))))
front_set l b (h ∷ c) m n r less a =
    let first : List ℕ = slice_set b l h.number in
    let size : length first ≡ length b = length-set b l h.number in
    let least : 0 < length h.bytes = omega (arith, header-least h.number h.bytes a.0) in
    let beyond : length b + link_of 0 h.bytes c - length b ≡ link_of 0 h.bytes c = omega arith in
    let after : length b ≤ length b + link_of 0 h.bytes c = omega arith in
    ap (λ x. slice_set x (length b + link_of 0 h.bytes c) n) (append_assoc first (front_with 0 h.bytes c m) r)
    ∙ (set-append_right first (front_with 0 h.bytes c m ++ r) (length b) (length b + link_of 0 h.bytes c) n size after
    ∙ (ap (λ i. first ++ slice_set (front_with 0 h.bytes c m ++ r) i n) beyond
    ∙ (ap (λ x. first ++ x) (front_set 0 h.bytes c m n r least a.1) ∙ sym (append_assoc first (front_with 0 h.bytes c n) r))))

-- one more header
pub front_more : (l : ℕ) (b : List ℕ) (c : List ExtHeader) (h : ExtHeader) → front_with l b (c ++ h ∷ []) (next_header h.bytes) ≡ front_with l b c h.number ++ h.bytes
front_more l b [] h =
    let same : slice_set h.bytes 0 (slice_index h.bytes 0) ≡ h.bytes = set-get_or h.bytes 0 0 in
    ap (λ x. slice_set b l h.number ++ x) (append-nil (slice_set h.bytes 0 (slice_index h.bytes 0)) ∙ same) ∙ ap (λ x. x ++ h.bytes) (sym (append-nil (slice_set b l h.number)))
front_more l b (g ∷ c) h =
    ap (λ x. slice_set b l g.number ++ x) (front_more 0 g.bytes c h) ∙ sym (append_assoc (slice_set b l g.number) (front_with 0 g.bytes c h.number) h.bytes)

pub link_more : (l : ℕ) (b : List ℕ) (c : List ExtHeader) (h : ExtHeader) → link_of l b (c ++ h ∷ []) ≡ length b + length (bytes_of c)
link_more l b [] h = omega arith
link_more l b (g ∷ c) h = omega (arith, link_more 0 g.bytes c h, length-append g.bytes (bytes_of c))

pub more_len : (c : List ExtHeader) (h : ExtHeader) → length (bytes_of (c ++ h ∷ [])) ≡ length (bytes_of c) + length h.bytes
more_len c h = ap length (bytes_of-more c h) ∙ length-append (bytes_of c) h.bytes

-- One more header is written after them.
module _ (l : ℕ) (b buffer : List ℕ) (c : List ExtHeader) (h : ExtHeader) (out : List ℕ) (len link : ℕ) (w : AreWritten l b buffer c out len link) where
  abbrev whole : List ℕ
  whole = front_with l b c (leads_to (slice_index b l) c)

  whole_len : length whole ≡ length b + length (bytes_of c)
  whole_len = front_len l b c (leads_to (slice_index b l) c)

  pub out_len : length b + length (bytes_of c) ≤ length buffer → length out ≡ length buffer
  out_len fits =
      omega (arith, fits, whole_len, ap length w.bytes, length-append whole (drop (length b + length (bytes_of c)) buffer), length-drop (length b + length (bytes_of c)) buffer)

  pub link_within : length b + length (bytes_of c) ≤ length buffer → link < length out
  link_within fits =
      let size : length out ≡ length whole + length (drop (length b + length (bytes_of c)) buffer) = ap length w.bytes ∙ length-append whole (drop (length b + length (bytes_of c)) buffer) in
      omega (arith, size, whole_len, link_less l b c w.at w.headers, w.link)

  pub set_link : (n : ℕ) → slice_set out link n ≡ front_with l b c n ++ drop len buffer
  set_link n =
      ap (λ x. slice_set x link n) w.bytes
      ∙ (ap (λ i. slice_set (whole ++ drop (length b + length (bytes_of c)) buffer) i n) w.link
      ∙ (front_set l b c (leads_to (slice_index b l) c) n (drop (length b + length (bytes_of c)) buffer) w.at w.headers
      ∙ ap (λ k. front_with l b c n ++ drop k buffer) (sym w.len)))

  module _ (header : IsHeader h.number h.bytes) (fits : length b + length (bytes_of (c ++ h ∷ [])) ≤ length buffer) where
    pub put_more : (x y : List ℕ) → x ≡ slice_set out link h.number → y ≡ take len x ++ h.bytes ++ drop (len + length h.bytes) x
        → y ≡ front_with l b (c ++ h ∷ []) (leads_to (slice_index b l) (c ++ h ∷ [])) ++ drop (length b + length (bytes_of (c ++ h ∷ []))) buffer
    put_more x y is put =
        let f : List ℕ = front_with l b c h.number in
        let size : length f ≡ len = front_len l b c h.number ∙ sym w.len in
        let begins : x ≡ f ++ drop len buffer = is ∙ set_link h.number in
        let taken : take len x ≡ f = ap (take len) begins ∙ (ap (λ k. take k (f ++ drop len buffer)) (sym size) ∙ take-append_seam f (drop len buffer)) in
        let dropped : drop len x ≡ drop len buffer = ap (drop len) begins ∙ (ap (λ k. drop k (f ++ drop len buffer)) (sym size) ∙ drop-append_seam f (drop len buffer)) in
        let after : drop (len + length h.bytes) x ≡ drop (length b + length (bytes_of (c ++ h ∷ []))) buffer =
        sym (drop-drop (length h.bytes) len x) ∙ (ap (drop (length h.bytes)) dropped ∙ (drop-drop (length h.bytes) len buffer
        ∙ ap (λ k. drop k buffer) (omega (arith, more_len c h, w.len)))) in
        put ∙ (ap (λ k. k ++ h.bytes ++ drop (len + length h.bytes) x) taken
        ∙ (ap (λ k. f ++ h.bytes ++ k) after
        ∙ ap (λ k. k ++ drop (length b + length (bytes_of (c ++ h ∷ []))) buffer) (sym (front_more l b c h) ∙ ap (front_with l b (c ++ h ∷ [])) (sym (leads_to-more (slice_index b l) c h)))))

    pub written_more : (x y : List ℕ) (k : ℕ) → x ≡ slice_set out link h.number → y ≡ take len x ++ h.bytes ++ drop (len + length h.bytes) x → k ≡ len + length h.bytes → AreWritten l b buffer (c ++ h ∷ []) y k len
    written_more x y k is put size = record {
      at = w.at;
      headers = all_more (λ g. IsHeader g.number g.bytes) c h w.headers header;
      bytes = put_more x y is put;
      len = omega (arith, size, more_len c h, w.len);
      link = w.len ∙ sym (link_more l b c h);
    }

-- no header is written after the base header
pub written_none : (l : ℕ) (b buffer out : List ℕ) (k : ℕ) → l < length b → out ≡ b ++ drop (0 + length b) buffer → k ≡ length b → AreWritten l b buffer [] out k l
written_none l b buffer out k less is size = record {
  at = less;
  headers = tt;
  bytes = is ∙ (ap (λ n. b ++ drop n buffer) (omega arith) ∙ ap (λ x. x ++ drop (length b + 0) buffer) (sym (append-nil (slice_set b l (slice_index b l)) ∙ set-get_or b l 0)));
  len = omega (arith, size);
  link = refl;
}

pub written_as : (l : ℕ) (b buffer : List ℕ) (c : List ExtHeader) (out new : List ℕ) (k n link : ℕ) → new ≡ out → n ≡ k → AreWritten l b buffer c out k link → AreWritten l b buffer c new n link
written_as l b buffer c out new k n link same size w = rw (same, size) w

-- bytes e copied after bytes b
pub copied_after : (b e buffer x y : List ℕ) → x ≡ b ++ drop (length b) buffer → y ≡ take (length b) x ++ e ++ drop (length b + length e) x → y ≡ b ++ e ++ drop (length b + length e) buffer
copied_after b e buffer x y is put =
    let taken : take (length b) x ≡ b = ap (take (length b)) is ∙ take-append_seam b (drop (length b) buffer) in
    let dropped : drop (length b) x ≡ drop (length b) buffer = ap (drop (length b)) is ∙ drop-append_seam b (drop (length b) buffer) in
    let after : drop (length b + length e) x ≡ drop (length b + length e) buffer = sym (drop-drop (length e) (length b) x) ∙ (ap (drop (length e)) dropped ∙ drop-drop (length e) (length b) buffer) in
    put ∙ (ap (λ k. k ++ e ++ drop (length b + length e) x) taken ∙ ap (λ k. b ++ e ++ k) after)

-- headers that are linked already
pub first_is : (n : ℕ) (c : List ExtHeader) → AreLinked n c → number_of_first c (leads_to n c) ≡ n
first_is n [] a = refl
first_is n (h ∷ c) a = a.0

pub linked_same : (n : ℕ) (c : List ExtHeader) → AreLinked n c → linked_headers (leads_to n c) c ≡ c
linked_same n [] a = refl
linked_same n (h ∷ c) a =
    let k : ℕ = next_header h.bytes in
    let first : leading_to (number_of_first c (leads_to k c)) h ≡ h = ap (λ j. leading_to j h) (first_is k c a.1) ∙ ap (λ (x : List ℕ). let g : ExtHeader = record { number = h.number; bytes = x } in g) (set-get_or h.bytes 0 0) in
    ap (λ g. g ∷ linked_headers (leads_to k c) c) first ∙ ap (λ d. h ∷ d) (linked_same k c a.1)

pub front_same : (l : ℕ) (b : List ℕ) (c : List ExtHeader) → AreLinked (slice_index b l) c → front_with l b c (leads_to (slice_index b l) c) ≡ b ++ bytes_of c
front_same l b c a =
    let n : ℕ = slice_index b l in
    let d : List ExtHeader = linked_headers (leads_to n c) c in
    ap (λ k. slice_set b l k ++ bytes_of d) (first_is n c a) ∙ (ap (λ x. x ++ bytes_of d) (set-get_or b l 0) ∙ ap (λ e. b ++ bytes_of e) (linked_same n c a))

pub written_whole : (l : ℕ) (b buffer : List ℕ) (c : List ExtHeader) (out : List ℕ) (k link : ℕ) → l < length b → IsChain (slice_index b l) c → out ≡ b ++ bytes_of c ++ drop (length b + length (bytes_of c)) buffer
    → k ≡ length b + length (bytes_of c) → link ≡ link_of l b c → AreWritten l b buffer c out k link
written_whole l b buffer c out k link less chain is size at = record {
  at = less;
  headers = chain.headers;
  bytes = is ∙ ap (λ x. x ++ drop (length b + length (bytes_of c)) buffer) (sym (front_same l b c chain.links));
  len = size;
  link = at;
}

-- The offset of the last header is that of the number of what follows, if there is one.
pub link_none : (l : ℕ) (b : List ℕ) (c : List ExtHeader) → length c ≡ 0 → link_of l b c ≡ l
link_none l b [] none = refl
link_none l b (h ∷ c) none = absurd (omega (arith, none))

pub link_some : (l k : ℕ) (b : List ℕ) (c : List ExtHeader) → 1 ≤ length c → link_of l b c ≡ link_of k b c
link_some l k b [] some = absurd (omega (arith, some))
link_some l k b (h ∷ c) some = refl

-- Bytes are written after them.
module _ (l : ℕ) (b buffer : List ℕ) (c : List ExtHeader) (out : List ℕ) (len link : ℕ) (w : AreWritten l b buffer c out len link) (m : ℕ) (q x y : List ℕ) (is : x ≡ slice_set out link m) (put : y ≡ take len x ++ q ++ drop (len + length q) x) where
  pub after_headers : y ≡ front_with l b c m ++ q ++ drop (length b + length (bytes_of c) + length q) buffer
  after_headers =
      let f : List ℕ = front_with l b c m in
      let size : length f ≡ len = front_len l b c m ∙ sym w.len in
      let begins : x ≡ f ++ drop len buffer = is ∙ set_link l b buffer c (record { number = 0; bytes = [] }) out len link w m in
      let taken : take len x ≡ f = ap (take len) begins ∙ (ap (λ k. take k (f ++ drop len buffer)) (sym size) ∙ take-append_seam f (drop len buffer)) in
      let dropped : drop len x ≡ drop len buffer = ap (drop len) begins ∙ (ap (λ k. drop k (f ++ drop len buffer)) (sym size) ∙ drop-append_seam f (drop len buffer)) in
      let after : drop (len + length q) x ≡ drop (length b + length (bytes_of c) + length q) buffer = sym (drop-drop (length q) len x) ∙ (ap (drop (length q)) dropped ∙ (drop-drop (length q) len buffer ∙ ap (λ k. drop k buffer) (omega (arith, w.len)))) in
      put ∙ (ap (λ k. k ++ q ++ drop (len + length q) x) taken ∙ ap (λ k. f ++ q ++ k) after)

-- The base header before them is changed.
module _ (l : ℕ) (b buffer : List ℕ) (c : List ExtHeader) (m : ℕ) (q y : List ℕ) (begins : y ≡ front_with l b c m ++ q ++ drop (length b + length (bytes_of c) + length q) buffer) where
  abbrev first : List ℕ
  first = slice_set b l (number_of_first c m)

  first_len : length first ≡ length b
  first_len = length-set b l (number_of_first c m)

  abbrev rest : List ℕ
  rest = bytes_of (linked_headers m c) ++ (q ++ drop (length b + length (bytes_of c) + length q) buffer)

  split : y ≡ first ++ rest
  split = begins ∙ (append_assoc (front_with l b c m) q (drop (length b + length (bytes_of c) + length q) buffer) ∙ append_assoc first (bytes_of (linked_headers m c)) (q ++ drop (length b + length (bytes_of c) + length q) buffer))

  base_taken : take (length b) y ≡ first
  base_taken = ap (take (length b)) split ∙ (ap (λ k. take k (first ++ rest)) (sym first_len) ∙ take-append_seam first rest)

  base_dropped : drop (length b) y ≡ rest
  base_dropped = ap (drop (length b)) split ∙ (ap (λ k. drop k (first ++ rest)) (sym first_len) ∙ drop-append_seam first rest)

  base_changed : (z : List ℕ) → z ++ drop (length b) y ≡ z ++ bytes_of (linked_headers m c) ++ q ++ drop (length b + length (bytes_of c) + length q) buffer
  base_changed z =
      ap (λ k. z ++ k) base_dropped
      ∙ (sym (append_assoc z (bytes_of (linked_headers m c)) (q ++ drop (length b + length (bytes_of c) + length q) buffer))
      ∙ sym (append_assoc (z ++ bytes_of (linked_headers m c)) q (drop (length b + length (bytes_of c) + length q) buffer)))

  pub whole_written : (v field : ℕ) (z r : List ℕ) → z ≡ base_stating v (take (length b) y) field → r ≡ drop (length b) y
      → z ++ r ≡ base_stating v first field ++ bytes_of (linked_headers m c) ++ q ++ drop (length b + length (bytes_of c) + length q) buffer
  whole_written v field z r base after = ap (λ k. k ++ r) (base ∙ ap (λ k. base_stating v k field) base_taken) ∙ (ap (λ k. base_stating v first field ++ k) after ∙ base_changed (base_stating v first field))
