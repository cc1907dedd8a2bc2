-- The headers that are kept, linked again, are a chain.
use Rattle.ip_spec.proofs.Common.{◌≡◌, ◌≢◌, ℕ, ◌+◌, ◌*◌, List, [], ◌∷◌, drop, subst, refl, sym, ◌∙◌, ap, arith, common_steps, Bool, true, false, false≢true, ◌||◌, ◌&&◌, if◌then◌else◌, slice_set, slice_index, length-set, get_or-set_other, get_or-set_same, AllByRecursion, IsHeader, raw, auth, fragment, next_header, ExtHeader, AreLinked, IsChain, leads_to}
use Rattle.ip_spec.proofs.HeaderLemmas.{header-least}
use Rattle.ip_dissect.specs.LaterDemand.{is_later, has_later, NothingAfterLater}
use Rattle.ip_dissect.specs.Fragment.{fragments}
use Rattle.ip_rewrite.specs.Headers.{number_of_first, leading_to, linked_headers}
use Rattle.ip_rewrite.specs.Selection.{selects, kept_from, any_selected}
use Rattle.ip_rewrite.specs.declared.which.Which.{Which}

abbrev pub AreHeaders : List ExtHeader → Type 0
AreHeaders c = AllByRecursion (λ h. IsHeader h.number h.bytes) c

abbrev pub NoZero : List ExtHeader → Type 0
NoZero c = AllByRecursion (λ h. h.number ≢ 0) c

-- a header with another next header is one
header_leading : (n : ℕ) (b : List ℕ) (m : ℕ) → IsHeader n b → IsHeader n (slice_set b 0 m)
header_leading n b m (raw k h) = raw k (record { len = length-set b 0 m ∙ (h.len ∙ ap (λ x. 8 * (x + 1)) (sym (get_or-set_other b 0 1 m 0 (λ e. cc)))) })
header_leading n b m (fragment k h) = fragment k (record { len = length-set b 0 m ∙ h.len })
header_leading n b m (auth k h) =
    let same : slice_index (slice_set b 0 m) 1 ≡ slice_index b 1 = get_or-set_other b 0 1 m 0 (λ e. cc) in
    auth k (record { not_zero = omega (arith, same, h.not_zero); len = length-set b 0 m ∙ (h.len ∙ ap (λ x. 4 * (x + 2)) (sym same)) })

later_leading : (h : ExtHeader) (m : ℕ) → is_later (leading_to m h) ≡ is_later h
later_leading h m =
    let high : slice_index (slice_set h.bytes 0 m) 2 ≡ slice_index h.bytes 2 = get_or-set_other h.bytes 0 2 m 0 (λ e. cc) in
    let low : slice_index (slice_set h.bytes 0 m) 3 ≡ slice_index h.bytes 3 = get_or-set_other h.bytes 0 3 m 0 (λ e. cc) in
    rw (high, low) refl

-- linked headers
joined_headers : (m : ℕ) (c : List ExtHeader) → AreHeaders c → AreHeaders (linked_headers m c)
joined_headers m [] a = tt
joined_headers m (h ∷ c) a = (header_leading h.number h.bytes (number_of_first c m) a.0, joined_headers m c a.1)

next_is : (h : ExtHeader) (m : ℕ) → IsHeader h.number h.bytes → next_header (slice_set h.bytes 0 m) ≡ m
next_is h m x = get_or-set_same h.bytes 0 m 0 (omega (arith, header-least h.number h.bytes x))

joined_links : (m : ℕ) (c : List ExtHeader) → AreHeaders c → AreLinked (number_of_first c m) (linked_headers m c)
joined_links m [] a = tt
joined_links m (h ∷ c) a = (refl, subst (λ n. AreLinked n (linked_headers m c)) (sym (next_is h (number_of_first c m) a.0)) (joined_links m c a.1))

pub joined_leads : (m : ℕ) (c : List ExtHeader) → AreHeaders c → leads_to (number_of_first c m) (linked_headers m c) ≡ m
joined_leads m [] a = refl
joined_leads m (h ∷ c) a = ap (λ n. leads_to n (linked_headers m c)) (next_is h (number_of_first c m) a.0) ∙ joined_leads m c a.1

joined_no_zero : (m : ℕ) (c : List ExtHeader) → NoZero c → NoZero (linked_headers m c)
joined_no_zero m [] a = tt
joined_no_zero m (h ∷ c) a = (a.0, joined_no_zero m c a.1)

joined_zero : (m : ℕ) (c : List ExtHeader) → NoZero (drop 1 c) → NoZero (drop 1 (linked_headers m c))
joined_zero m [] a = tt
joined_zero m (h ∷ c) a = joined_no_zero m c a

pub joined_chain : (m : ℕ) (c : List ExtHeader) → AreHeaders c → NoZero (drop 1 c) → IsChain (number_of_first c m) (linked_headers m c)
joined_chain m c a z = record { headers = joined_headers m c a; links = joined_links m c a; zero_only_first = joined_zero m c z }

pub joined_later : (m : ℕ) (c : List ExtHeader) → has_later (linked_headers m c) ≡ has_later c
joined_later m [] = refl
joined_later m (h ∷ c) = ap (λ b. b || has_later (linked_headers m c)) (later_leading h (number_of_first c m)) ∙ ap (λ b. is_later h || b) (joined_later m c)

pub joined_demand : (m : ℕ) (c : List ExtHeader) → NothingAfterLater c → NothingAfterLater (linked_headers m c)
joined_demand m [] q = tt
joined_demand m (h ∷ c) q = (λ t. ap (linked_headers m) (q.0 (sym (later_leading h (number_of_first c m)) ∙ t)), joined_demand m c q.1)

-- The fragment header of a later fragment fragments the payload.
pub not_later : (h : ExtHeader) → fragments h ≡ false → is_later h ≡ false
not_later h e = grind (arith, common_steps)

-- kept headers
pub all_kept : (P : ExtHeader → Type 0) (w : Which) (i : ℕ) (c : List ExtHeader) → AllByRecursion P c → AllByRecursion P (kept_from w i c)
all_kept P w i [] a = tt
all_kept P w i (h ∷ c) a = pick (selects w i h) (all_kept P w (i + 1) c a.1)
  where
    pick : (b : Bool) → AllByRecursion P (kept_from w (i + 1) c) → AllByRecursion P (if b then kept_from w (i + 1) c else h ∷ kept_from w (i + 1) c)
    pick true r = r
    pick false r = (a.0, r)

fewer : (P : ExtHeader → Type 0) (c : List ExtHeader) → AllByRecursion P c → AllByRecursion P (drop 1 c)
fewer P [] a = tt
fewer P (h ∷ c) a = a.1

pub zero_kept : (w : Which) (i : ℕ) (c : List ExtHeader) → NoZero (drop 1 c) → NoZero (drop 1 (kept_from w i c))
zero_kept w i [] a = tt
zero_kept w i (h ∷ c) a = pick (selects w i h) (all_kept (λ g. g.number ≢ 0) w (i + 1) c a)
  where
    pick : (b : Bool) → NoZero (kept_from w (i + 1) c) → NoZero (drop 1 (if b then kept_from w (i + 1) c else h ∷ kept_from w (i + 1) c))
    pick true r = fewer (λ g. g.number ≢ 0) (kept_from w (i + 1) c) r
    pick false r = r

pub later_kept : (w : Which) (i : ℕ) (c : List ExtHeader) → any_selected fragments w i c ≡ false → has_later (kept_from w i c) ≡ has_later c
later_kept w i [] f = refl
later_kept w i (h ∷ c) f =
    let off = neither (selects w i h) (fragments h) (any_selected fragments w (i + 1) c) f in
    pick (selects w i h) (λ s. not_later h (off.0 s)) (later_kept w (i + 1) c off.1)
  where
    neither : (s x y : Bool) → (s && x || y) ≡ false → (s ≡ true → x ≡ false) × (y ≡ false)
    neither true true y e = absurd (false≢true (sym e))
    neither true false y e = (λ s. refl, e)
    neither false x y e = (λ s. absurd (false≢true s), e)

    pick : (b : Bool) → (b ≡ true → is_later h ≡ false) → has_later (kept_from w (i + 1) c) ≡ has_later c
        → has_later (if b then kept_from w (i + 1) c else h ∷ kept_from w (i + 1) c) ≡ (is_later h || has_later c)
    pick true f r = rw (f refl) r
    pick false f r = ap (λ b. is_later h || b) r

pub demand_kept : (w : Which) (i : ℕ) (c : List ExtHeader) → NothingAfterLater c → NothingAfterLater (kept_from w i c)
demand_kept w i [] q = tt
demand_kept w i (h ∷ c) q = pick (selects w i h) (demand_kept w (i + 1) c q.1)
  where
    pick : (b : Bool) → NothingAfterLater (kept_from w (i + 1) c) → NothingAfterLater (if b then kept_from w (i + 1) c else h ∷ kept_from w (i + 1) c)
    pick true r = r
    pick false r = (λ t. ap (kept_from w (i + 1)) (q.0 t), r)
