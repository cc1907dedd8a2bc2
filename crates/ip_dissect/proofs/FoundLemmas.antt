-- One more header, and what the fragment headers say.
use Rattle.ip_spec.proofs.Common.{◌≡◌, ℕ, ◌+◌, ◌*◌, List, [], ◌∷◌, ◌++◌, refl, sym, ◌∙◌, ap, arith, common_steps, Bool, true, false, rules, length, length-append, or-false, eqb_tells, cases_Bool, Option, Some, None, option_or, option_map, ◌||◌, ◌==◌, if◌then◌else◌, not, ExtHeader, fragment_fields, is_fragmenting, cond, find, find-append}
use Rattle.ip_spec.proofs.FirstLemmas.{find_passes}
use Rattle.ip_dissect.specs.LaterDemand.{is_later}
use Rattle.ip_dissect.specs.Fragment.{fragment_of, fragment_in, fragments, is_fragment_header, is_atomic, is_kept, ipv6_fragment}
use Rattle.ip_dissect.specs.Found.{found_in}
use Rattle.ip_dissect.specs.declared.walk.Found.{Found}
use Rattle.ip_dissect.specs.declared.fragment.Fragment.{Fragment}
use Rattle.ip_dissect.proofs.LaterLemmas.{has_later-more}

same_found : (f : Found) (a : Option Fragment) (l : Bool) (k : ℕ) → f.fragment ≡ a → f.later ≡ l → f.count ≡ k → f ≡ record { fragment = a; later = l; count = k }
same_found f a l k p r t = rw (← p, ← r, ← t) refl

one_more : (c : List ExtHeader) (h : ExtHeader) (k : ℕ) → k ≡ length c → k + 1 ≡ length (c ++ h ∷ [])
one_more c h k e = omega (arith, e, length-append c (h ∷ []))

-- it is atomic unless it fragments the payload
atomic_is : (h : ExtHeader) → is_atomic (fragment_of h) ≡ not (is_fragmenting h.bytes)
atomic_is h = search rules

eight : (k : ℕ) → (8 * k == 0) ≡ (k == 0)
eight k = search (rules, eqb_tells)

-- If no header fragments the payload, the first fragment header is atomic.
first_atomic : (c : List ExtHeader) (b : ExtHeader) → find fragments c ≡ None → find is_fragment_header c ≡ Some b → is_fragmenting b.bytes ≡ false
first_atomic [] b none some = search rules
first_atomic (g ∷ c) b none some = grind (arith, common_steps, first_atomic c b)

-- the fragment with one more fragment header, by what was found before
found_with : (a b : Option ExtHeader) (h : ExtHeader) → is_fragment_header h ≡ true
    → ((g : ExtHeader) → a ≡ Some g → is_fragmenting g.bytes ≡ true)
    → ((g : ExtHeader) → a ≡ None → b ≡ Some g → is_fragmenting g.bytes ≡ false)
    → option_map fragment_of (option_or (option_or a (cond (fragments h) (Some h) None)) (option_or b (cond (is_fragment_header h) (Some h) None)))
    ≡ (if is_kept (option_map fragment_of (option_or a b)) (fragment_of h) then option_map fragment_of (option_or a b) else Some (fragment_of h))
found_with (Some g) b h t p q = let whole : is_atomic (fragment_of g) ≡ false = atomic_is g ∙ ap not (p g refl) in rw whole refl
found_with None (Some g) h t p q = let atomic : is_atomic (fragment_of g) ≡ true = atomic_is g ∙ ap not (q g refl refl) in rw atomic (search (rules, t, atomic_is h, cases_Bool (is_fragmenting h.bytes)))
found_with None None h t p q = search (rules, t, cases_Bool (is_fragmenting h.bytes))

or_none : {A : Type 0} (o : Option A) → option_or o None ≡ o
or_none o = search rules

module _ (h : ExtHeader) where
  pub record Adds (x : Fragment) : Type 0 where
    pub header : is_fragment_header h ≡ true
    pub is : x ≡ fragment_of h
    pub later : is_later h ≡ not (x.offset == 0)

  adds_of : is_fragment_header h ≡ true → Adds (fragment_of h)
  adds_of t = record {
    header = t;
    is = refl;
    later = rw (t, eight (fragment_fields h.bytes).fragment_offset) refl;
  }

  adds : (x : Fragment) → fragment_in h ≡ Some x → Adds x
  adds x e = search (rules, adds_of, cases_Bool (is_fragment_header h))

  fragment_more : (c : List ExtHeader) → is_fragment_header h ≡ true → ipv6_fragment (c ++ h ∷ []) ≡ (if is_kept (ipv6_fragment c) (fragment_of h) then ipv6_fragment c else Some (fragment_of h))
  fragment_more c t = rw (find-append fragments c (h ∷ []), find-append is_fragment_header c (h ∷ [])) (found_with (find fragments c) (find is_fragment_header c) h t (λ g e. search (rules, find_passes fragments c g e)) (λ g. first_atomic c g))

  none_more : (c : List ExtHeader) → is_fragment_header h ≡ false → ipv6_fragment (c ++ h ∷ []) ≡ ipv6_fragment c
  none_more c n = rw (find-append fragments c (h ∷ []), find-append is_fragment_header c (h ∷ []), n, or_none (find fragments c), or_none (find is_fragment_header c)) refl

  no_fragment_of : (c : List ExtHeader) (f : Found) → is_fragment_header h ≡ false → f ≡ found_in c → record f { count = f.count + 1 } ≡ found_in (c ++ h ∷ [])
  no_fragment_of c f n told = let more = none_more c n in search (rules, has_later-more c h, or-false, length-append)

  pub no_fragment : (c : List ExtHeader) (f : Found) → fragment_in h ≡ None → f ≡ found_in c → record f { count = f.count + 1 } ≡ found_in (c ++ h ∷ [])
  no_fragment c f e told = no_fragment_of c f (search (rules, cases_Bool (is_fragment_header h))) told

  pub one_fragment : (c : List ExtHeader) (f more : Found) (x : Fragment) → fragment_in h ≡ Some x → f ≡ found_in c
      → more.fragment ≡ (if is_kept f.fragment x then f.fragment else Some x) → more.later ≡ (f.later || not (x.offset == 0))
      → more.count ≡ f.count + 1 → more ≡ found_in (c ++ h ∷ [])
  one_fragment c f more x e told p r t =
      let add : Adds x = adds x e in
      same_found more _ _ _
      (p ∙ rw (told, add.is) (sym (fragment_more c add.header)))
      (cc (has_later-more c h, add.later))
      (cc (one_more c h f.count (ap (λ (g : Found). g.count) told)))
