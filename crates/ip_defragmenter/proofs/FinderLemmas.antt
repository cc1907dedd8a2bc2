-- One more header, and what the finder of fragment headers holds.
use Rattle.ip_spec.proofs.Common.{◌≡◌, ℕ, ◌+◌, ◌-◌, List, [], ◌∷◌, ◌++◌, refl, sym, ◌∙◌, ap, arith, common_steps, true, false, length, length-append, append-nil, take, take-append_seam, Option, Some, None, is_some, option_or, option_map, cond-true, cond-false, ExtHeader, bytes_of, is_empty, find, find-append}
use Rattle.ip_dissect.specs.Fragment.{fragments}
use Rattle.ip_defragmenter.specs.Split.{before_fragment, link_after}
use Rattle.ip_defragmenter.specs.Finder.{found_at, found_after}
use Rattle.ip_defragmenter.specs.declared.finder.FoundHeader.{FoundHeader}
use Rattle.ip_defragmenter.specs.declared.finder.Finder.{Finder}

-- If a header fragments the payload, more headers don't change which are before it; if none does, all are.
before_found : (c d : List ExtHeader) (g : ExtHeader) → find fragments c ≡ Some g → before_fragment (c ++ d) ≡ before_fragment c
before_found [] d g e = absurd (cc)
before_found (h ∷ c) d g e = grind (arith, common_steps, before_found c d g)

before_none : (c d : List ExtHeader) → find fragments c ≡ None → before_fragment (c ++ d) ≡ c ++ before_fragment d
before_none [] d e = refl
before_none (h ∷ c) d e = grind (arith, common_steps, before_none c d)

-- The next header field after these headers and one more is that one's first byte.
not_empty : (c : List ExtHeader) (h : ExtHeader) → is_empty (c ++ h ∷ []) ≡ false
not_empty [] h = refl
not_empty (g ∷ c) h = refl

all_but_last : (c : List ExtHeader) (h : ExtHeader) → take (length (c ++ h ∷ []) - 1) (c ++ h ∷ []) ≡ c
all_but_last c h =
    let size : length (c ++ h ∷ []) - 1 ≡ length c = omega (arith, length-append c (h ∷ [])) in
    ap (λ (n : ℕ). take n (c ++ h ∷ [])) size ∙ take-append_seam c (h ∷ [])

link_of_last : (k : ℕ) (c : List ExtHeader) (h : ExtHeader) → link_after k (c ++ h ∷ []) ≡ k + length (bytes_of c)
link_of_last k c h =
    cond-false (is_empty (c ++ h ∷ [])) 6 (k + length (bytes_of (take (length (c ++ h ∷ []) - 1) (c ++ h ∷ [])))) (not_empty c h)
    ∙ ap (λ (d : List ExtHeader). k + length (bytes_of d)) (all_but_last c h)

same_finder : (f : Finder) (a : Option FoundHeader) (l : ℕ) → f.header ≡ a → f.link ≡ l → f ≡ record { header = a; link = l }
same_finder f a l p q = rw (← p, ← q) refl

-- after one more header, if one was found
pub found_stays : (k : ℕ) (c : List ExtHeader) (h : ExtHeader) → is_some (found_after k c).header ≡ true → found_after k c ≡ found_after k (c ++ h ∷ [])
found_stays k c h some = stays (find fragments c) refl some
  where
    stays : (o : Option ExtHeader) → find fragments c ≡ o → is_some (option_map (found_at (k + length (bytes_of (before_fragment c)))) o) ≡ true → found_after k c ≡ found_after k (c ++ h ∷ [])
    stays None e s = absurd (cc)
    stays (Some g) e s =
        let before : before_fragment (c ++ h ∷ []) ≡ before_fragment c = before_found c (h ∷ []) g e in
        let found : find fragments (c ++ h ∷ []) ≡ find fragments c = find-append fragments c (h ∷ []) ∙ (ap (λ (o : Option ExtHeader). option_or o (find fragments (h ∷ []))) e ∙ sym e) in
        same_finder (found_after k c) _ _ (cc) (cc)

none_found : (k : ℕ) (c : List ExtHeader) → is_some (found_after k c).header ≡ false → find fragments c ≡ None
none_found k c none = go (find fragments c) refl none
  where
    go : (o : Option ExtHeader) → find fragments c ≡ o → is_some (option_map (found_at (k + length (bytes_of (before_fragment c)))) o) ≡ false → find fragments c ≡ None
    go None e s = e
    go (Some g) e s = absurd (cc)

-- if none was found: by whether it fragments the payload
module _ (k : ℕ) (c : List ExtHeader) (h : ExtHeader) (at : ℕ) (f : Finder) (here : at ≡ k + length (bytes_of c)) (is : f ≡ found_after k c) (none : is_some f.header ≡ false) where
  unfound : find fragments c ≡ None
  unfound = none_found k c (ap (λ (x : Finder). is_some x.header) (sym is) ∙ none)

  all_before : before_fragment c ≡ c
  all_before = ap before_fragment (sym (append-nil c)) ∙ (before_none c [] unfound ∙ append-nil c)

  pub found_now : fragments h ≡ true → record f { header = Some (found_at at h) } ≡ found_after k (c ++ h ∷ [])
  found_now t =
      let before : before_fragment (c ++ h ∷ []) ≡ c = before_none c (h ∷ []) unfound ∙ (ap (λ (d : List ExtHeader). c ++ d) (cond-true (fragments h) [] (h ∷ []) t) ∙ append-nil c) in
      let found : find fragments (c ++ h ∷ []) ≡ Some h = find-append fragments c (h ∷ []) ∙ (ap (λ (o : Option ExtHeader). option_or o (find fragments (h ∷ []))) unfound ∙ cond-true (fragments h) (Some h) None t) in
      let link : f.link ≡ link_after k (before_fragment c) = ap (λ (x : Finder). x.link) is in
      let header : option_map (found_at (k + length (bytes_of (before_fragment (c ++ h ∷ []))))) (find fragments (c ++ h ∷ [])) ≡ Some (found_at at h) =
      ap (option_map (found_at (k + length (bytes_of (before_fragment (c ++ h ∷ [])))))) found
      ∙ (ap (λ (d : List ExtHeader). let o : Option FoundHeader = Some (found_at (k + length (bytes_of d)) h) in o) before ∙ ap (λ (n : ℕ). let o : Option FoundHeader = Some (found_at n h) in o) (sym here)) in
      same_finder _ _ _ (sym header) (link ∙ ap (link_after k) (all_before ∙ sym before))

  pub not_found : fragments h ≡ false → record f { link = at } ≡ found_after k (c ++ h ∷ [])
  not_found u =
      let before : before_fragment (c ++ h ∷ []) ≡ c ++ h ∷ [] = before_none c (h ∷ []) unfound ∙ ap (λ (d : List ExtHeader). c ++ d) (cond-false (fragments h) [] (h ∷ []) u) in
      let found : find fragments (c ++ h ∷ []) ≡ None = find-append fragments c (h ∷ []) ∙ (ap (λ (o : Option ExtHeader). option_or o (find fragments (h ∷ []))) unfound ∙ cond-false (fragments h) (Some h) None u) in
      let header : f.header ≡ None = ap (λ (x : Finder). x.header) is ∙ ap (option_map (found_at (k + length (bytes_of (before_fragment c))))) unfound in
      let link : link_after k (before_fragment (c ++ h ∷ [])) ≡ k + length (bytes_of c) = ap (link_after k) before ∙ link_of_last k c h in
      same_finder _ _ _ (cc) (cc)
