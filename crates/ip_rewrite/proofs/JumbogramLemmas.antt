-- Jumbograms, whose first header states their length.
use Rattle.ip_spec.proofs.Common.{◌≡◌, ◌≢◌, ℕ, ◌+◌, ◌≤◌, ◌<◌, List, [], ◌∷◌, length, length-append, refl, sym, ap, ◌∙◌, arith, common_steps, Bool, true, false, false≢true, cases_Bool, eqb-true, cond-true, cond-false, if◌then◌else◌, ◌==◌, ◌&&◌, ◌||◌, not, nat_lt, inl, inr, list_any, find, option_map, option_or, Option, None, Some, none-some, is_some, AllByRecursion, ExtHeader, bytes_of}
use Rattle.ip_dissect.specs.LaterDemand.{is_later, has_later, NothingAfterLater}
use Rattle.ip_dissect.specs.Fragment.{fragments, fragment_of, is_fragment_header, ipv6_fragment}
use Rattle.ip_dissect.specs.Dissection.{DissectedParts}
use Rattle.ip_rewrite.specs.Headers.{is_options}
use Rattle.ip_rewrite.specs.Jumbogram.{following_len, is_unstated, jumbo_payload, stating_offset, jumbo_offset, with_option, stating_at}
use Rattle.ip_rewrite.specs.Rewritten.{jumbo_fault}
use Rattle.ip_rewrite.specs.Selection.{selects, selects_first}
use Rattle.ip_rewrite.specs.Writing.{HasOption}
use Rattle.ip_rewrite.specs.declared.err.RewriteError.{RewriteError}
use Rattle.ip_rewrite.specs.declared.err.RewriteError.TheVariants.{NotAJumbogram}
use Rattle.ip_rewrite.specs.declared.which.Which.{Which}
use Rattle.ip_rewrite.proofs.OptionLemmas.{stated_is, stated_has}
use Rattle.ip_rewrite.proofs.StatingLemmas.{stating_as_is}

-- what is known of a jumbogram
pub record IsJumbogram (p : DissectedParts) (k : ℕ) : Type 0 where
  pub unstated : is_unstated p ≡ true
  pub whole : is_some p.fragment ≡ false
  pub long : nat_lt 0xffff (following_len p) ≡ true
  pub fits : nat_lt (following_len p) 0x1_0000_0000 ≡ true
  pub stated : stating_offset (following_len p) p.headers ≡ Some k

all_true : (a b d e : Bool) (o : Option ℕ) (k : ℕ) → (let x : Option ℕ = if a && not b && d && e then o else None in x) ≡ Some k → (a ≡ true) × (b ≡ false) × (d ≡ true) × (e ≡ true) × (o ≡ Some k)
all_true true false true true o k e = (refl, refl, refl, refl, e)
all_true true false true false o k e = absurd (none-some _ e)
all_true true false false e o k s = absurd (none-some _ s)
all_true true true d e o k s = absurd (none-some _ s)
all_true false b d e o k s = absurd (none-some _ s)

pub jumbogram_is : (p : DissectedParts) (k : ℕ) → jumbo_offset p ≡ Some k → IsJumbogram p k
unfolding jumbo_offset
jumbogram_is p k e =
    let all = all_true (is_unstated p) (is_some p.fragment) (nat_lt 0xffff (following_len p)) (nat_lt (following_len p) 0x1_0000_0000) (stating_offset (following_len p) p.headers) k e in
    record { unstated = all.0; whole = all.1; long = all.2; fits = all.3; stated = all.4 }

pub offset_is : (p : DissectedParts) (k : ℕ) → IsJumbogram p k → jumbo_offset p ≡ Some k
unfolding jumbo_offset
offset_is p k j = rw (j.unstated, j.whole, j.long, j.fits) j.stated

-- what a jumbogram isn't
no_jumbogram : (p : DissectedParts) → (is_unstated p && not (is_some p.fragment) && nat_lt 0xffff (following_len p) && nat_lt (following_len p) 0x1_0000_0000) ≡ false → jumbo_offset p ≡ None
unfolding jumbo_offset
no_jumbogram p e = cond-false (is_unstated p && not (is_some p.fragment) && nat_lt 0xffff (following_len p) && nat_lt (following_len p) 0x1_0000_0000) (stating_offset (following_len p) p.headers) None e

first_off : (a b d e : Bool) → a ≡ false → (a && b && d && e) ≡ false
first_off a b d e off = rw off refl

second_off : (a b d e : Bool) → b ≡ true → (a && not b && d && e) ≡ false
second_off true b d e on = rw on refl
second_off false b d e on = refl

third_off : (a b d e : Bool) → d ≡ false → (a && b && d && e) ≡ false
third_off true true d e off = rw off refl
third_off true false d e off = refl
third_off false b d e off = refl

last_off : (a b d e : Bool) → e ≡ false → (a && b && d && e) ≡ false
last_off true true true e off = off
last_off true true false e off = refl
last_off true false d e off = refl
last_off false b d e off = refl

is_stated : (stated zero : Bool) → stated ≡ true → (not stated && not zero) ≡ false
is_stated stated zero e = rw e refl

-- of a packet whose length field isn't 0
pub stated_no_jumbogram : (p : DissectedParts) → is_some p.stated ≡ true → jumbo_offset p ≡ None
stated_no_jumbogram p e = no_jumbogram p (first_off (is_unstated p) _ _ _ (is_stated (is_some p.stated) (following_len p == 0) e))

pub unstated_no_jumbogram : (p : DissectedParts) → is_unstated p ≡ false → jumbo_offset p ≡ None
unstated_no_jumbogram p e = no_jumbogram p (first_off (is_unstated p) _ _ _ e)

pub fragment_no_jumbogram : (p : DissectedParts) → is_some p.fragment ≡ true → jumbo_offset p ≡ None
fragment_no_jumbogram p e = no_jumbogram p (second_off (is_unstated p) (is_some p.fragment) _ _ e)

not_less : (a b : ℕ) → b ≤ a → nat_lt a b ≡ false
not_less a b less = grind (arith, common_steps)

is_less : (a b : ℕ) → a < b → nat_lt a b ≡ true
is_less a b less = grind (arith, common_steps)

pub short_no_jumbogram : (p : DissectedParts) → following_len p ≤ 0xffff → jumbo_offset p ≡ None
short_no_jumbogram p short = no_jumbogram p (third_off (is_unstated p) (not (is_some p.fragment)) _ _ (not_less 0xffff (following_len p) short))

pub long_no_jumbogram : (p : DissectedParts) → 0x1_0000_0000 ≤ following_len p → jumbo_offset p ≡ None
long_no_jumbogram p long = no_jumbogram p (last_off (is_unstated p) (not (is_some p.fragment)) (nat_lt 0xffff (following_len p)) _ (not_less (following_len p) 0x1_0000_0000 long))

unstated_by : (stated : Bool) (n : ℕ) → stated ≡ false → 0xffff < n → (not stated && not (n == 0)) ≡ true
unstated_by stated n none long = rw none (grind (arith, common_steps))

-- if nothing but the option decides
pub offset_by : (p : DissectedParts) → is_some p.stated ≡ false → is_some p.fragment ≡ false → 0xffff < following_len p → following_len p < 0x1_0000_0000
    → jumbo_offset p ≡ stating_offset (following_len p) p.headers
unfolding jumbo_offset
offset_by p stated whole long fits =
    rw (unstated_by (is_some p.stated) (following_len p) stated long, whole, is_less 0xffff (following_len p) long, is_less (following_len p) 0x1_0000_0000 fits) refl

-- the option is in the first header
has_by : (p : DissectedParts) (o : Option ℕ) → jumbo_offset p ≡ o → HasOption o p.headers
has_by p None e = tt
has_by p (Some k) e = stated_has (following_len p) k p.headers (stated_is (following_len p) k p.headers (jumbogram_is p k e).stated)

pub has_within : (k : ℕ) (c : List ExtHeader) → HasOption (Some k) c → k + 6 ≤ length (bytes_of c)
has_within k [] a = absurd a
has_within k (h ∷ c) a = omega (arith, a.2, length-append h.bytes (bytes_of c))

pub has_option : (p : DissectedParts) → HasOption (jumbo_offset p) p.headers
has_option p = has_by p (jumbo_offset p) refl

-- It states its length.
same_by : (p : DissectedParts) (o : Option ℕ) → jumbo_offset p ≡ o → stating_at o (following_len p) p.headers ≡ p.headers
same_by p None e = refl
same_by p (Some k) e = stating_as_is (following_len p) k p.headers (stated_is (following_len p) k p.headers (jumbogram_is p k e).stated)

pub stating_same : (p : DissectedParts) → stating_at (jumbo_offset p) (following_len p) p.headers ≡ p.headers
stating_same p = same_by p (jumbo_offset p) refl

-- Hop-by-hop options are no fragment header.
later_options : (h : ExtHeader) → is_options h ≡ true → is_later h ≡ false
later_options h is = rw (eqb-true h.number 0 is) refl

pub later_stating : (o : Option ℕ) (n : ℕ) (c : List ExtHeader) → HasOption o c → has_later (stating_at o n c) ≡ has_later c
later_stating None n c a = refl
later_stating (Some k) n [] a = refl
later_stating (Some k) n (h ∷ c) a = rw (eqb-true h.number 0 a.0) refl

pub demand_stating : (o : Option ℕ) (n : ℕ) (c : List ExtHeader) → HasOption o c → NothingAfterLater c → NothingAfterLater (stating_at o n c)
demand_stating None n c a d = d
demand_stating (Some k) n [] a d = d
demand_stating (Some k) n (h ∷ c) a d = (λ t. absurd (false≢true (sym (later_options (record { number = h.number; bytes = with_option h.bytes k (jumbo_payload n) }) a.0) ∙ t)), d.1)

-- Headers without hop-by-hop options state no length.
pub no_option : (o : Option ℕ) (n : ℕ) (c : List ExtHeader) → HasOption o c → AllByRecursion (λ h. h.number ≢ 0) c → stating_at o n c ≡ c
no_option None n c a z = refl
no_option (Some k) n [] a z = absurd a
no_option (Some k) n (h ∷ c) a z = absurd (z.0 (eqb-true h.number 0 a.0))

-- The first header of a jumbogram is selected if hop-by-hop options would be.
jumbo_selected : (w : Which) (p : DissectedParts) (b : Bool) (o : Option ℕ) → jumbo_offset p ≡ o → ((h : ExtHeader) → h.number ≡ 0 → b ≡ selects w 0 h) → (b && is_some o) ≡ (selects_first w p.headers && is_some o)
jumbo_selected w p b None e is = neither b (selects_first w p.headers)
  where
    neither : (x y : Bool) → (x && false) ≡ (y && false)
    neither true true = refl
    neither true false = refl
    neither false true = refl
    neither false false = refl
jumbo_selected w p b (Some k) e is =
    let s = stated_is (following_len p) k p.headers (jumbogram_is p k e).stated in
    ap (λ x. x && true) (is s.first (eqb-true s.first.number 0 s.options) ∙ sym (ap (selects_first w) s.all))

pub selected_fault : (w : Which) (p : DissectedParts) (b : Bool) → ((h : ExtHeader) → h.number ≡ 0 → b ≡ selects w 0 h) → jumbo_fault b p ≡ jumbo_fault (selects_first w p.headers) p
selected_fault w p b is = ap (λ x. let o : Option RewriteError = if x then Some NotAJumbogram else None in o) (jumbo_selected w p b (jumbo_offset p) refl is)

-- no fragment header
none_of_either : {X Y : Type 0} (f : X → Y) (a b : Option X) → is_some (option_map f (option_or a b)) ≡ false → b ≡ None
none_of_either f None None e = refl
none_of_either f None (Some y) e = absurd (false≢true (sym e))
none_of_either f (Some x) b e = absurd (false≢true (sym e))

none_found : (t : ExtHeader → Bool) (c : List ExtHeader) → find t c ≡ None → list_any t c ≡ false
none_found t [] e = refl
none_found t (h ∷ c) e = elim (cases_Bool (t h)) [
  | inl s ↦ absurd (none-some _ (sym e ∙ cond-true (t h) (Some h) (find t c) s))
  | inr s ↦ rw s (none_found t c (sym (cond-false (t h) (Some h) (find t c) s) ∙ e))
]

found_none : (t : ExtHeader → Bool) (c : List ExtHeader) → list_any t c ≡ false → find t c ≡ None
found_none t [] e = refl
found_none t (h ∷ c) e = elim (cases_Bool (t h)) [
  | inl s ↦ absurd (false≢true (sym e ∙ ap (λ b. b || list_any t c) s))
  | inr s ↦ cond-false (t h) (Some h) (find t c) s ∙ found_none t c (sym (ap (λ b. b || list_any t c) s) ∙ e)
]

none_fragments : (c : List ExtHeader) → list_any is_fragment_header c ≡ false → list_any fragments c ≡ false
none_fragments [] e = refl
none_fragments (h ∷ c) e = elim (cases_Bool (is_fragment_header h)) [
  | inl s ↦ absurd (false≢true (sym e ∙ ap (λ b. b || list_any is_fragment_header c) s))
  | inr s ↦ rw s (none_fragments c (sym (ap (λ b. b || list_any is_fragment_header c) s) ∙ e))
]

pub no_fragment_header : (c : List ExtHeader) → is_some (ipv6_fragment c) ≡ false → list_any is_fragment_header c ≡ false
no_fragment_header c e = none_found is_fragment_header c (none_of_either fragment_of (find fragments c) (find is_fragment_header c) e)

pub no_fragment : (c : List ExtHeader) → list_any is_fragment_header c ≡ false → is_some (ipv6_fragment c) ≡ false
no_fragment c e = rw (found_none fragments c (none_fragments c e), found_none is_fragment_header c e) refl
