-- Headers of which the first states the length of a jumbogram.
use Rattle.ip_spec.proofs.Common.{◌≡◌, ℕ, ◌+◌, ◌-◌, ◌*◌, ◌≤◌, List, [], ◌∷◌, ◌++◌, length, take, drop, slice_set, slice_index, refl, sym, ap, ◌∙◌, arith, Bool, true, false, false≢true, or-false, zero, suc, ◌||◌, list_any, Option, None, Some, append_assoc, length-append, length-set, length-take, drop-drop, drop-append-le, AllByRecursion, IsHeader, raw, fragment, auth, ExtHeader, bytes_of}
use Rattle.std.proofs.lemmas.List.{drop-take, drop-set-lt}
use Rattle.ip_header_contents.specs.Options.{option_bytes, options_in}
use Rattle.ip_rewrite.specs.Headers.{number_of_first, leading_to, linked_headers, is_options}
use Rattle.ip_rewrite.specs.Jumbogram.{jumbo_payload, only_jumbo_payload, stating_offset, with_option, stating_at}
use Rattle.ip_rewrite.specs.Insertion.{inserted}
use Rattle.ip_rewrite.specs.Writing.{HasOption}
use Rattle.ip_rewrite.proofs.OptionLemmas.{only_least, IsStated, option_fits, stated_has, stated_back, changed_only, option_len, option_same, option_set, option_there, option_again, option_as_is}

-- The first header keeps its place, and the others may be any.
pub has_others : (o : Option ℕ) (h : ExtHeader) (c d : List ExtHeader) → HasOption o (h ∷ c) → HasOption o (h ∷ d)
has_others None h c d a = tt
has_others (Some k) h c d a = a

pub has_linked : (o : Option ℕ) (m : ℕ) (c : List ExtHeader) → HasOption o c → HasOption o (linked_headers m c)
has_linked None m c a = tt
has_linked (Some k) m [] a = a
has_linked (Some k) m (h ∷ c) a = (a.0, a.1, omega (arith, a.2, length-set h.bytes 0 (number_of_first c m)))

pub has_stating : (o : Option ℕ) (n : ℕ) (c : List ExtHeader) → HasOption o c → HasOption o (stating_at o n c)
has_stating None n c a = tt
has_stating (Some k) n [] a = a
has_stating (Some k) n (h ∷ c) a = (a.0, a.1, omega (arith, a.2, option_len h.bytes k n a.2))

-- what another length leaves
pub stating_len : (o : Option ℕ) (n : ℕ) (c : List ExtHeader) → HasOption o c → length (bytes_of (stating_at o n c)) ≡ length (bytes_of c)
stating_len None n c a = refl
stating_len (Some k) n [] a = refl
stating_len (Some k) n (h ∷ c) a = omega (arith, option_len h.bytes k n a.2, length-append (with_option h.bytes k (jumbo_payload n)) (bytes_of c), length-append h.bytes (bytes_of c))

pub stating_first : (o : Option ℕ) (n m : ℕ) (c : List ExtHeader) → number_of_first (stating_at o n c) m ≡ number_of_first c m
stating_first None n m c = refl
stating_first (Some k) n m [] = refl
stating_first (Some k) n m (h ∷ c) = refl

pub stating_count : (o : Option ℕ) (n : ℕ) (c : List ExtHeader) → length (stating_at o n c) ≡ length c
stating_count None n c = refl
stating_count (Some k) n [] = refl
stating_count (Some k) n (h ∷ c) = refl

pub stating_others : (o : Option ℕ) (n : ℕ) (c : List ExtHeader) → drop 1 (stating_at o n c) ≡ drop 1 c
stating_others None n c = refl
stating_others (Some k) n [] = refl
stating_others (Some k) n (h ∷ c) = refl

pub stating_linked : (o : Option ℕ) (n m : ℕ) (c : List ExtHeader) → HasOption o c → linked_headers m (stating_at o n c) ≡ stating_at o n (linked_headers m c)
stating_linked None n m c a = refl
stating_linked (Some k) n m [] a = refl
stating_linked (Some k) n m (h ∷ c) a =
    ap (λ (b : List ℕ). let g : ExtHeader = record { number = h.number; bytes = b } in g ∷ linked_headers m c) (option_set h.bytes k n a.2 0 (number_of_first c m) (omega (arith, a.1)))

pub stating_numbers : (i : ℕ) (o : Option ℕ) (n : ℕ) (c : List ExtHeader) → AllByRecursion (λ h. h.number ≡ i) c → AllByRecursion (λ h. h.number ≡ i) (stating_at o n c)
stating_numbers i None n c a = a
stating_numbers i (Some k) n [] a = a
stating_numbers i (Some k) n (h ∷ c) a = a

header_stating : (i : ℕ) (b : List ℕ) (k n : ℕ) → 2 ≤ k → k + 6 ≤ length b → IsHeader i b → IsHeader i (with_option b k (jumbo_payload n))
header_stating i b k n least fits (raw j h) = raw j (record { len = option_len b k n fits ∙ (h.len ∙ ap (λ x. 8 * (x + 1)) (sym (option_same b k n fits 1 (omega (arith, least))))) })
header_stating i b k n least fits (fragment j h) = fragment j (record { len = option_len b k n fits ∙ h.len })
header_stating i b k n least fits (auth j h) =
    let same : slice_index (with_option b k (jumbo_payload n)) 1 ≡ slice_index b 1 = option_same b k n fits 1 (omega (arith, least)) in
    auth j (record { not_zero = omega (arith, same, h.not_zero); len = option_len b k n fits ∙ (h.len ∙ ap (λ x. 4 * (x + 2)) (sym same)) })

pub stating_headers : (o : Option ℕ) (n : ℕ) (c : List ExtHeader) → HasOption o c → AllByRecursion (λ h. IsHeader h.number h.bytes) c → AllByRecursion (λ h. IsHeader h.number h.bytes) (stating_at o n c)
stating_headers None n c a x = x
stating_headers (Some k) n [] a x = x
stating_headers (Some k) n (h ∷ c) a x = (header_stating h.number h.bytes k n a.1 a.2 x.0, x.1)

-- one length after another, and the one that is stated already
pub stating_again : (o : Option ℕ) (n m : ℕ) (c : List ExtHeader) → HasOption o c → stating_at o m (stating_at o n c) ≡ stating_at o m c
stating_again None n m c a = refl
stating_again (Some k) n m [] a = refl
stating_again (Some k) n m (h ∷ c) a = ap (λ (b : List ℕ). let g : ExtHeader = record { number = h.number; bytes = b } in g ∷ c) (option_again h.bytes k n a.2 m)

pub stating_as_is : (n k : ℕ) (c : List ExtHeader) → IsStated n k c → stating_at (Some k) n c ≡ c
stating_as_is n k c s =
    ap (stating_at (Some k) n) s.all
    ∙ (ap (λ (b : List ℕ). let g : ExtHeader = record { number = s.first.number; bytes = b } in g ∷ s.others) (option_as_is s.first.bytes k n s.there) ∙ sym s.all)

abbrev head : List ExtHeader → ExtHeader
head [] = record { number = 0; bytes = [] }
head (h ∷ c) = h

-- bytes after the first two
dropped : (b : List ℕ) (k m : ℕ) → 2 ≤ k → k + 6 ≤ length b → drop 2 (with_option b k (jumbo_payload m)) ≡ with_option (drop 2 b) (k - 2) (jumbo_payload m)
dropped b k m least fits =
    let o : List ℕ = option_bytes (jumbo_payload m) in
    let r : List ℕ = drop (k + 6) b in
    let long : 2 ≤ length (take k b) = omega (arith, least, fits, length-take k b) in
    let back : r ≡ drop (k - 2 + 6) (drop 2 b) = ap (λ i. drop i b) (omega (arith, least)) ∙ sym (drop-drop (k - 2 + 6) 2 b) in
    ap (drop 2) (append_assoc (take k b) o r)
    ∙ (drop-append-le 2 (take k b) (o ++ r) long ∙ (sym (append_assoc (drop 2 (take k b)) o r)
    ∙ (ap (λ y. y ++ o ++ r) (ap (λ i. drop 2 (take i b)) (omega (arith, least)) ∙ drop-take 2 (k - 2) b) ∙ ap (λ y. take (k - 2) (drop 2 b) ++ o ++ y) back)))

-- The first header states another length in the same place, also after it is linked to others.
pub stated_anew : (n m k x : ℕ) (h : ExtHeader) (c d : List ExtHeader) → IsStated n k (h ∷ c) → stating_offset m (linked_headers x (stating_at (Some k) m (h ∷ d))) ≡ Some k
stated_anew n m k x h c d s =
    let b : List ℕ = h.bytes in
    let same : s.first ≡ h = sym (ap head s.all) in
    let is : is_options h ≡ true = sym (ap is_options same) ∙ s.options in
    let only : only_jumbo_payload 2 (options_in (drop 2 b)) ≡ Some k = sym (ap (λ (g : ExtHeader). only_jumbo_payload 2 (options_in (drop 2 g.bytes))) same) ∙ s.only in
    let there : take 6 (drop k b) ≡ option_bytes (jumbo_payload n) = sym (ap (λ (g : ExtHeader). take 6 (drop k g.bytes)) same) ∙ s.there in
    let fits : k + 6 ≤ length b = option_fits b n k there in
    let least : 2 ≤ k = only_least 2 k (options_in (drop 2 b)) only in
    let w : List ℕ = with_option b k (jumbo_payload m) in
    let y : ℕ = number_of_first d x in
    let back : drop 2 (slice_set w 0 y) ≡ with_option (drop 2 b) (k - 2) (jumbo_payload m) = drop-set-lt 2 w 0 y (omega arith) ∙ dropped b k m least fits in
    let moved : take 6 (drop (k - 2) (drop 2 b)) ≡ option_bytes (jumbo_payload n) = ap (take 6) (drop-drop (k - 2) 2 b ∙ ap (λ i. drop i b) (omega (arith, least))) ∙ there in
    let at : k ≡ 2 + (k - 2) = omega (arith, least) in
    let still : only_jumbo_payload 2 (options_in (drop 2 (slice_set w 0 y))) ≡ Some k =
    ap (λ r. only_jumbo_payload 2 (options_in r)) back ∙ (changed_only n m (drop 2 b) 2 (k - 2) moved (only ∙ ap (λ i. Some i) at) ∙ ap (λ i. Some i) (sym at)) in
    let new : take 6 (drop k (slice_set w 0 y)) ≡ option_bytes (jumbo_payload m) = ap (take 6) (drop-set-lt k w 0 y (omega (arith, least))) ∙ option_there b k m fits in
    stated_back m k (leading_to y (record { number = h.number; bytes = w })) (linked_headers x d) is still new

-- with one more header after the first
pub stating_inserted : (o : Option ℕ) (n i : ℕ) (h : ExtHeader) (c : List ExtHeader) → HasOption o c → (i ≡ 0 → list_any is_options (take 1 c) ≡ false) → stating_at o n (inserted i h c) ≡ inserted i h (stating_at o n c)
stating_inserted None n i h c a first = refl
stating_inserted (Some k) n i h [] a first = absurd a
stating_inserted (Some k) n zero h (g ∷ c) a first = absurd (false≢true (sym (first refl) ∙ (or-false (is_options g) ∙ a.0)))
stating_inserted (Some k) n (suc i) h (g ∷ c) a first = refl

pub stated_new : (n m k x i : ℕ) (h : ExtHeader) (c : List ExtHeader) → IsStated n k c → (i ≡ 0 → list_any is_options (take 1 c) ≡ false) → stating_offset m (linked_headers x (stating_at (Some k) m (inserted i h c))) ≡ Some k
stated_new n m k x i h [] s first = absurd (stated_has n k [] s)
stated_new n m k x zero h (g ∷ c) s first = absurd (false≢true (sym (first refl) ∙ (or-false (is_options g) ∙ (stated_has n k (g ∷ c) s).0)))
stated_new n m k x (suc i) h (g ∷ c) s first = stated_anew n m k x g c (inserted i h c) s

-- tests of the numbers
pub any_stating : (t : ExtHeader → Bool) (o : Option ℕ) (n : ℕ) (c : List ExtHeader) → ((h : ExtHeader) (b : List ℕ) → t (record { number = h.number; bytes = b }) ≡ t h) → list_any t (stating_at o n c) ≡ list_any t c
any_stating t None n c f = refl
any_stating t (Some k) n [] f = refl
any_stating t (Some k) n (h ∷ c) f = ap (λ b. b || list_any t c) (f h (with_option h.bytes k (jumbo_payload n)))

pub any_joined : (t : ExtHeader → Bool) (m : ℕ) (c : List ExtHeader) → ((h : ExtHeader) (b : List ℕ) → t (record { number = h.number; bytes = b }) ≡ t h) → list_any t (linked_headers m c) ≡ list_any t c
any_joined t m [] f = refl
any_joined t m (h ∷ c) f = ap (λ b. b || list_any t (linked_headers m c)) (f h (slice_set h.bytes 0 (number_of_first c m))) ∙ ap (λ b. t h || b) (any_joined t m c f)

pub none_inserted : (t : ExtHeader → Bool) (i : ℕ) (h : ExtHeader) (c : List ExtHeader) → list_any t c ≡ false → t h ≡ false → list_any t (inserted i h c) ≡ false
none_inserted t zero h c none other = rw other none
none_inserted t (suc i) h [] none other = rw other refl
none_inserted t (suc i) h (g ∷ c) none other = neither (t g) (list_any t c) (list_any t (inserted i h c)) none (λ e. none_inserted t i h c e other)
  where
    neither : (x y z : Bool) → (x || y) ≡ false → (y ≡ false → z ≡ false) → (x || z) ≡ false
    neither true y z e f = absurd (false≢true (sym e))
    neither false y z e f = f e
