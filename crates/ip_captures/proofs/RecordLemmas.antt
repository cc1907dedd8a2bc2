-- The record of a classic file that begins some bytes.
use Rattle.std.proofs.Common.{◌≡◌, ℕ, ◌≤◌, List, [], ◌∷◌, ◌++◌, map, length, take, drop, ap, arith, refl, ◌∙◌, sym, subst}
use Rattle.std.proofs.lemmas.List.{length-append, length-take-le, length-drop, take-append-drop, append_assoc, append-nil}
use Rattle.std.proofs.lemmas.Bool.{false≢true}
use Rattle.std.proofs.lemmas.Bool.Decides.{nat_tests}
use Rattle.std.specs.Prelude.{Some, None, IsSome}
use Rattle.std.specs.List.{concat}
use Rattle.ip_captures.proofs.NumberLemmas.{number_at-append, number_at-take}
use Rattle.ip_captures.proofs.PieceLemmas.{Finds, none_begins, no_piece, first_piece, longest_with_rest, rest_after_first, same_first, one_longest, first_of_longest}
use Rattle.ip_captures.specs.Frame.{FrameContents, contents}
use Rattle.ip_captures.specs.Pieces.{ArePieces}
use Rattle.ip_captures.specs.Next.{contents_of, error_of}
use Rattle.ip_captures.specs.ClassicNext.{IsNext}
use Rattle.ip_captures.specs.declared.err.CaptureError.{CaptureError}
use Rattle.ip_captures.specs.declared.err.CaptureError.TheVariants.{LongRecord}
use Rattle.ip_captures.specs.declared.classic_capture.ClassicCapture.{ClassicCapture}
use Rattle.ip_captures.specs.declared.next.Next.{Next}
use Rattle.ip_captures.specs.declared.next.Next.TheVariants as next
use Rattle.ip_captures.specs.declared.frame.Frame.{Frame}
use Rattle.ip_captures.specs.ClassicRecord.{frame_in, IsRecord, header_len, captured_len, record_len, first_len, same_header, records_in, rest_of, AreLongestRecords}
use Rattle.ip_captures.specs.declared.classic_header.Variant.{Variant}
use Rattle.ip_captures.specs.declared.classic_header.Variant.TheVariants.{Microseconds, Nanoseconds, Modified}
use Rattle.ip_captures.specs.declared.classic_header.ClassicHeader.{ClassicHeader}

pub header_len-least : (v : Variant) → 16 ≤ header_len v
header_len-least Microseconds = omega arith
header_len-least Nanoseconds = omega arith
header_len-least Modified = omega arith

-- a record of which all bytes are there
pub record_at : (limit : ℕ) (h : ClassicHeader) (s : List ℕ) (k : ℕ) → k ≡ record_len h s → k ≤ length s → captured_len h s ≤ limit → IsRecord limit h (take k s)
record_at limit h s k e l c =
    let least = header_len-least h.variant in
    let same : captured_len h (take k s) ≡ captured_len h s = number_at-take h.byte_order s k 8 (omega arith) l in
    let len : length (take k s) ≡ k = length-take-le k s l in
    record { header = omega arith; len = omega arith; short = omega arith }

-- the answer for that record
pub frame_of_first : (limit : ℕ) (h : ClassicHeader) (s : List ℕ) (k : ℕ) (f : Frame) → k ≡ record_len h s → k ≤ length s → captured_len h s ≤ limit → contents f ≡ frame_in h (take k s)
    → (f.record_len ≤ length s) × IsRecord limit h (take f.record_len s) × (contents f ≡ frame_in h (take f.record_len s))
frame_of_first limit h s k f e l c g =
    let len : f.record_len ≡ k = ap (λ (x : FrameContents). x.record_len) g ∙ length-take-le k s l in
    let P : ℕ → Type 0 = λ n. (n ≤ length s) × IsRecord limit h (take n s) × (contents f ≡ frame_in h (take n s)) in
    subst P (sym len) (l, record_at limit h s k e l c, g)

-- what the test for a record says
record Begins (limit : ℕ) (h : ClassicHeader) (s : List ℕ) (k : ℕ) : Type 0 where
  len : k ≡ record_len h s
  fits : k ≤ length s
  short : captured_len h s ≤ limit

begins : (limit : ℕ) (h : ClassicHeader) (s : List ℕ) (k : ℕ) → first_len limit h s ≡ Some k → Begins limit h s k
begins limit h s k e = grind (arith, nat_tests, e)

first_len-is : (limit : ℕ) (h : ClassicHeader) (s : List ℕ) → header_len h.variant ≤ length s → record_len h s ≤ length s → captured_len h s ≤ limit → first_len limit h s ≡ Some (record_len h s)
first_len-is limit h s a b c = grind (arith, nat_tests)

pub finds_records : (limit : ℕ) → Finds (IsRecord limit) (first_len limit)
finds_records limit = record {
  found = λ h s k e.
      let b = begins limit h s k e in
      let least = header_len-least h.variant in
      (record_at limit h s k b.len b.fits b.short, omega arith, b.fits);
  only = λ h p q r.
      let least = header_len-least h.variant in
      let same : captured_len h (p ++ q) ≡ captured_len h p = number_at-append h.byte_order p q 8 (omega (arith, r.header)) in
      let x = first_len-is limit h (p ++ q) (omega (arith, r.header, length-append p q)) (omega (arith, r.len, length-append p q)) (omega (arith, r.short)) in
      x ∙ ap Some (omega (arith, r.len));
}

-- what comes next is no frame
abbrev pub NoFrame : Next → Type 0
NoFrame (next.Frame f) = ⊥
NoFrame (next.Block b) = Unit {0}
NoFrame (next.Needs k) = Unit {0}
NoFrame next.Ended = Unit {0}
NoFrame (next.Error e) = Unit {0}

-- no record begins bytes of which a reader returns no frame
pub no_len : (c : ClassicCapture) (s : List ℕ) (x : Next) → IsNext c s x → NoFrame x → first_len c.limit c.header s ≡ None
no_len c s (next.Frame f) i n = absurd n
no_len c s (next.Block b) i n = absurd i
no_len c s (next.Needs k) i n = let least = header_len-least c.header.variant in grind (arith, nat_tests)
no_len c s next.Ended i n = let least = header_len-least c.header.variant in let e : length s ≡ 0 = ap length i in grind (arith, nat_tests)
no_len c s (next.Error e) i n = grind (arith, nat_tests)

pub records_longest : (limit : ℕ) (h : ClassicHeader) (s : List ℕ) → AreLongestRecords limit h s (records_in limit h s) (rest_of limit h s)
records_longest limit h s = longest_with_rest (IsRecord limit) same_header (first_len limit) (finds_records limit) h s

-- what a frame leaves
pub record GoesOn (limit : ℕ) (h : ClassicHeader) (s : List ℕ) (f : Frame) (q : List ℕ) : Type 0 where
  pub frames : map (frame_in h) (records_in limit h s) ≡ contents f ∷ map (frame_in h) (records_in limit h q)
  pub rest : rest_of limit h q ≡ rest_of limit h s
  pub shorter : length q ≤ length s

pub goes_on : (limit : ℕ) (h : ClassicHeader) (s : List ℕ) (f : Frame) (q : List ℕ) → (f.record_len ≤ length s) × IsRecord limit h (take f.record_len s) × (contents f ≡ frame_in h (take f.record_len s))
    → q ≡ drop f.record_len s → GoesOn limit h s f q
goes_on limit h s f q i e =
    let split : s ≡ take f.record_len s ++ q = sym (take-append-drop f.record_len s) ∙ ap (λ t. take f.record_len s ++ t) (sym e) in
    let first = first_piece (IsRecord limit) same_header (first_len limit) (finds_records limit) h s (take f.record_len s) q i.1 split in
    record {
      frames = ap (map (frame_in h)) first ∙ ap (λ x. x ∷ map (frame_in h) (records_in limit h q)) (sym i.2);
      rest = sym (rest_after_first (IsRecord limit) same_header (first_len limit) (finds_records limit) h s (take f.record_len s) q i.1 split);
      shorter = omega (arith, ap length e, length-drop f.record_len s);
    }

pub goes_on-some : (limit : ℕ) (h : ClassicHeader) (s : List ℕ) (f : Frame) (q : List ℕ) → GoesOn limit h s f q → map (frame_in h) (records_in limit h s) ≡ [] → ⊥
goes_on-some limit h s f q g e = let x : contents f ∷ map (frame_in h) (records_in limit h q) ≡ [] = sym g.frames ∙ e in cc

no_frame : (x : Next) → ((f : Frame) → x ≡ next.Frame f → ⊥) → NoFrame x
no_frame (next.Frame f) n = n f refl
no_frame (next.Block b) n = tt
no_frame (next.Needs k) n = tt
no_frame next.Ended n = tt
no_frame (next.Error e) n = tt

-- what no frame leaves
pub record Stays (limit : ℕ) (h : ClassicHeader) (s : List ℕ) : Type 0 where
  pub frames : map (frame_in h) (records_in limit h s) ≡ []
  pub rest : rest_of limit h s ≡ s

pub stays : (c : ClassicCapture) (s : List ℕ) (x : Next) → IsNext c s x → ((f : Frame) → x ≡ next.Frame f → ⊥) → Stays c.limit c.header s
stays c s x i n =
    let none = no_piece (IsRecord c.limit) same_header (first_len c.limit) (finds_records c.limit) c.header s
    (none_begins (IsRecord c.limit) same_header (first_len c.limit) (finds_records c.limit) c.header s (no_len c s x i (no_frame x n))) in
    record { frames = ap (map (frame_in c.header)) none; rest = ap (λ ps. drop (length (concat ps)) s) none }

pub one_longest_list : (limit : ℕ) (h : ClassicHeader) (s : List ℕ) (records others : List (List ℕ)) (rest other : List ℕ) → AreLongestRecords limit h s records rest → AreLongestRecords limit h s others other
    → (others ≡ records) × (other ≡ rest)
one_longest_list limit h s records others rest other k l =
    one_longest (IsRecord limit) same_header (first_len limit) (finds_records limit) others records h s other rest l k

pub first_records : (limit : ℕ) (h : ClassicHeader) (s t rest : List ℕ) (records others : List (List ℕ)) → AreLongestRecords limit h s records rest → ArePieces (IsRecord limit) same_header h others → s ≡ concat others ++ t
    → (more : List (List ℕ)) × (records ≡ others ++ more)
first_records limit h s t rest records others l a e =
    first_of_longest (IsRecord limit) same_header (first_len limit) (finds_records limit) others records h s t [] rest a e
    (rw append-nil l)

pub more_records : (limit : ℕ) (h : ClassicHeader) (s t rest other : List ℕ) (records others : List (List ℕ)) → AreLongestRecords limit h s records rest → AreLongestRecords limit h (s ++ t) others other
    → (more : List (List ℕ)) × (others ≡ records ++ more)
more_records limit h s t rest other records others k l =
    first_of_longest (IsRecord limit) same_header (first_len limit) (finds_records limit) records others h s rest t other k.pieces k.joined l

-- the record that begins some bytes begins more bytes too
split_more : (s t : List ℕ) (k : ℕ) → s ++ t ≡ take k s ++ (drop k s ++ t)
split_more s t k = ap (λ x. x ++ t) (sym (take-append-drop k s)) ∙ append_assoc (take k s) (drop k s) t

record_stays : (c : ClassicCapture) (s t : List ℕ) (f : Frame) (y : Next) → IsNext c s (next.Frame f) → IsNext c (s ++ t) y → NoFrame y → ⊥
record_stays c s t f y i j n =
    none_begins (IsRecord c.limit) same_header (first_len c.limit) (finds_records c.limit) c.header (s ++ t) (no_len c (s ++ t) y j n)
    (take f.record_len s, drop f.record_len s ++ t, i.1, split_more s t f.record_len)

captured_more : (c : ClassicCapture) (s t : List ℕ) → header_len c.header.variant ≤ length s → captured_len c.header (s ++ t) ≡ captured_len c.header s
captured_more c s t h = let least = header_len-least c.header.variant in number_at-append c.header.byte_order s t 8 (omega arith)

error_stays : (c : ClassicCapture) (s t : List ℕ) (e : CaptureError) (y : Next) → IsNext c s (next.Error e) → IsNext c (s ++ t) y → captured_len c.header (s ++ t) ≡ captured_len c.header s → error_of y ≡ Some e
error_stays c s t e (next.Frame f) i j m =
    let least = header_len-least c.header.variant in
    let same : captured_len c.header (take f.record_len (s ++ t)) ≡ captured_len c.header (s ++ t) = number_at-take c.header.byte_order (s ++ t) f.record_len 8 (omega (arith, j.1.header, length-take-le f.record_len (s ++ t) j.0)) j.0 in
    absurd (omega (arith, j.1.short, i.1))
error_stays c s t e (next.Block b) i j m = absurd j
error_stays c s t e (next.Needs n) i j m = absurd (omega (arith, i.1, j.3 (omega (arith, i.0, length-append s t))))
error_stays c s t e next.Ended i j m = let least = header_len-least c.header.variant in absurd (omega (arith, i.0, ap length j, length-append s t))
error_stays c s t e (next.Error d) i j m = ap Some (j.2 ∙ ap (λ n. LongRecord c.offset n c.limit) m ∙ sym i.2)

pub same_frame : (c : ClassicCapture) (s t : List ℕ) (x y : Next) → IsNext c s x → IsNext c (s ++ t) y → IsSome (contents_of x) → contents_of y ≡ contents_of x
same_frame c s t (next.Frame f) (next.Frame g) i j some =
    let e : take f.record_len s ++ (drop f.record_len s ++ t) ≡ take g.record_len (s ++ t) ++ drop g.record_len (s ++ t) =
    sym (split_more s t f.record_len) ∙ sym (take-append-drop g.record_len (s ++ t)) in
    let same = same_first (IsRecord c.limit) same_header (first_len c.limit) (finds_records c.limit) c.header (take f.record_len s) (take g.record_len (s ++ t)) _ _ i.1 j.1 e in
    ap Some (j.2 ∙ ap (frame_in c.header) (sym same) ∙ sym i.2)
same_frame c s t (next.Frame f) (next.Block b) i j some = absurd j
same_frame c s t (next.Frame f) (next.Needs n) i j some = absurd (record_stays c s t f (next.Needs n) i j tt)
same_frame c s t (next.Frame f) next.Ended i j some = absurd (record_stays c s t f next.Ended i j tt)
same_frame c s t (next.Frame f) (next.Error e) i j some = absurd (record_stays c s t f (next.Error e) i j tt)
same_frame c s t (next.Block b) y i j some = absurd i
same_frame c s t (next.Needs n) y i j some = absurd (false≢true some)
same_frame c s t next.Ended y i j some = absurd (false≢true some)
same_frame c s t (next.Error e) y i j some = absurd (false≢true some)

pub same_error : (c : ClassicCapture) (s t : List ℕ) (x y : Next) → IsNext c s x → IsNext c (s ++ t) y → IsSome (error_of x) → error_of y ≡ error_of x
same_error c s t (next.Error e) y i j some = error_stays c s t e y i j (captured_more c s t i.0)
same_error c s t (next.Frame f) y i j some = absurd (false≢true some)
same_error c s t (next.Block b) y i j some = absurd i
same_error c s t (next.Needs n) y i j some = absurd (false≢true some)
same_error c s t next.Ended y i j some = absurd (false≢true some)
