-- The first header of a packet is left out, and no other.
use Rattle.ip_spec.proofs.Common.{◌≡◌, ℕ, ◌+◌, ◌-◌, ◌≤◌, ◌<◌, List, [], ◌∷◌, ◌++◌, length, take, drop, slice_set, refl, sym, ◌∙◌, subst, ap, arith, common_steps, false≢true, true, cond-true, cond-false, false, Bool, ◌||◌, ◌&&◌, ◌==◌, not, if◌then◌else◌, or-false, and-true, or_assoc, ne_eqb, list_any, append_assoc, drop-drop, length-append, length-set, Option, None, Some, ExtHeader, AreLinked, bytes_of, leads_to}
use Rattle.std.proofs.Math.Seq.{take-add}
use Rattle.std.proofs.lemmas.List.{drop-take, set-append_left}
use Rattle.ip_dissect.specs.Fragment.{fragments}
use Rattle.ip_dissect.specs.Summary.{is_later_end}
use Rattle.ip_dissect.specs.End.{has_error}
use Rattle.ip_dissect.specs.Dissection.{DissectedParts}
use Rattle.ip_rewrite.specs.Headers.{linked_headers}
use Rattle.std.specs.Prelude.{is_some}
use Rattle.ip_rewrite.specs.Jumbogram.{is_unstated, jumbo_offset}
use Rattle.ip_rewrite.specs.Rewritten.{jumbo_fault, room_fault, rewritten_field}
use Rattle.ip_rewrite.specs.Selection.{selects, selects_first, kept_from, kept, any_selected, selects_fragmented}
use Rattle.ip_rewrite.specs.Without.{is_authentication, has_segments, packet_fault, selection_fault, without_fault, len_without, keeps_checksums}
use Rattle.ip_rewrite.specs.Writing.{front_with, SelectsFirst, first_len, first_segments, is_otherwise, selects_otherwise, restricts, is_unrestricted}
use Rattle.ip_rewrite.specs.declared.which.Which.{Which}
use Rattle.ip_rewrite.specs.declared.which.Authentication.{Authentication}
use Rattle.ip_rewrite.specs.declared.err.RewriteError.{RewriteError}
use Rattle.ip_rewrite.specs.declared.err.RewriteError.TheVariants.{NotAJumbogram}
use Rattle.ip_rewrite.proofs.JumbogramLemmas.{unstated_no_jumbogram}
use Rattle.ip_rewrite.proofs.ResultLemmas.{all_none}
use Rattle.ip_rewrite.proofs.SelectionLemmas.{or_none, all_stay, none_passes}
use Rattle.ip_rewrite.proofs.FrontLemmas.{first_is, linked_same, copied_after}

-- one more header, which is the first one or isn't
pub first_here : (n j : ℕ) (b : Bool) (c : List ExtHeader) (h : ExtHeader) → j ≡ length c → j ≡ 0 → (first_len n (c ++ h ∷ []) ≡ length h.bytes) × (first_segments b (c ++ h ∷ []) ≡ has_segments h)
first_here n j b [] h at is = (refl, refl)
first_here n j b (g ∷ c) h at is = absurd (let f : ⊥ = omega (arith, is, at) in f)

pub first_before : (n j : ℕ) (b : Bool) (c : List ExtHeader) (h : ExtHeader) → j ≡ length c → 0 < j → (first_len n (c ++ h ∷ []) ≡ first_len n c) × (first_segments b (c ++ h ∷ []) ≡ first_segments b c)
first_before n j b [] h at less = absurd (let f : ⊥ = omega (arith, less, at) in f)
first_before n j b (g ∷ c) h at less = (refl, refl)

pub otherwise_more : (w : Which) (i j : ℕ) (c : List ExtHeader) (h : ExtHeader) → j ≡ i + length c → selects_otherwise w i (c ++ h ∷ []) ≡ (selects_otherwise w i c || is_otherwise w j h)
otherwise_more w i j [] h at = let e : j ≡ i = omega arith in or-false (is_otherwise w i h) ∙ ap (λ k. is_otherwise w k h) (sym e)
otherwise_more w i j (g ∷ c) h at =
    let e : j ≡ i + 1 + length c = omega arith in
    ap (λ x. is_otherwise w i g || x) (otherwise_more w (i + 1) j c h e) ∙ sym (or_assoc (is_otherwise w i g) (selects_otherwise w (i + 1) c) (is_otherwise w j h))

-- After the first header, those that are selected are.
later_otherwise : (w : Which) (i : ℕ) (c : List ExtHeader) → 0 < i → selects_otherwise w i c ≡ any_selected (λ h. true) w i c
later_otherwise w i [] less = refl
later_otherwise w i (h ∷ c) less =
    let later : (i == 0) ≡ false = ne_eqb i 0 (λ e. omega (arith, e, less)) in
    ap (λ b. b || selects_otherwise w (i + 1) c) (cond-false (i == 0) (not (selects w i h)) (selects w i h) later ∙ sym (and-true (selects w i h)))
    ∙ ap (λ b. selects w i h && true || b) (later_otherwise w (i + 1) c (omega (arith, less)))

not_none : (b : Bool) → not b ≡ false → b ≡ true
not_none true e = refl
not_none false e = absurd (false≢true (sym e))

pub first_alone : (w : Which) (c : List ExtHeader) (len : ℕ) → selects_otherwise w 0 c ≡ false → len ≡ first_len 0 c → 0 < len → SelectsFirst w c len
first_alone w [] len is size some = absurd (let f : ⊥ = omega (arith, size, some) in f)
first_alone w (h ∷ c) len is size some =
    let parts = or_none (not (selects w 0 h)) (selects_otherwise w (0 + 1) c) is in
    let selected : selects w 0 h ≡ true = not_none (selects w 0 h) parts.0 in
    let alone : any_selected (λ h. true) w (0 + 1) c ≡ false = sym (later_otherwise w (0 + 1) c (omega arith)) ∙ parts.1 in
    record {
      first = h;
      others = c;
      all = refl;
      selected = selected;
      alone = alone;
      kept = cond-true (selects w 0 h) (kept_from w (0 + 1) c) (h ∷ kept_from w (0 + 1) c) selected ∙ all_stay w (0 + 1) c alone;
      size = size;
    }

-- Without fragment and authentication headers there is nothing that a change has to leave alone.
none_restricts : (h : ExtHeader) → restricts h ≡ false → (fragments h ≡ false) × (is_authentication h ≡ false)
none_restricts h e = let parts = or_none (h.number == 44) (is_authentication h) e in (rw parts.0 refl, parts.1)

pub no_authentication : (c : List ExtHeader) → list_any restricts c ≡ false → list_any is_authentication c ≡ false
no_authentication [] e = refl
no_authentication (h ∷ c) e =
    let parts = or_none (restricts h) (list_any restricts c) e in
    ap (λ b. b || list_any is_authentication c) (none_restricts h parts.0).1 ∙ no_authentication c parts.1

no_fragmenting : (w : Which) (i : ℕ) (c : List ExtHeader) → list_any restricts c ≡ false → any_selected fragments w i c ≡ false
no_fragmenting w i [] e = refl
no_fragmenting w i (h ∷ c) e =
    let parts = or_none (restricts h) (list_any restricts c) e in
    ap (λ b. selects w i h && b || any_selected fragments w (i + 1) c) (none_restricts h parts.0).0
    ∙ (ap (λ b. b || any_selected fragments w (i + 1) c) (and_false (selects w i h)) ∙ no_fragmenting w (i + 1) c parts.1)
  where
    and_false : (b : Bool) → (b && false) ≡ false
    and_false true = refl
    and_false false = refl

no_fragmented : (w : Which) (i : ℕ) (c : List ExtHeader) → list_any restricts c ≡ false → selects_fragmented w i false c ≡ false
no_fragmented w i [] e = refl
no_fragmented w i (h ∷ c) e =
    let parts = or_none (restricts h) (list_any restricts c) e in
    ap (λ b. selects_fragmented w (i + 1) b c) (none_restricts h parts.0).0 ∙ no_fragmented w (i + 1) c parts.1

-- What is known of a packet whose first header can be left out.
pub record IsFree (p : DissectedParts) : Type 0 where
  pub no_error : has_error p.end ≡ false
  pub whole : (p.missing == 0) ≡ true
  pub not_later : is_later_end p.end ≡ false
  pub ipv6 : (p.version == 4) ≡ false
  pub stated : is_unstated p ≡ false

pub free : (p : DissectedParts) → is_unrestricted p ≡ true → IsFree p
free p e = record { no_error = grind (arith, common_steps); whole = grind (arith, common_steps); not_later = grind (arith, common_steps); ipv6 = grind (arith, common_steps); stated = grind (arith, common_steps) }

pub free_packet : (p : DissectedParts) → is_unrestricted p ≡ true → packet_fault p ≡ None
free_packet p e = let f = free p e in rw (f.no_error, f.whole, f.ipv6) refl

free_selection : (w : Which) (a : Authentication) (p : DissectedParts) (len : ℕ) → SelectsFirst w p.headers len → list_any restricts p.headers ≡ false → IsFree p → selection_fault w a p ≡ None
free_selection w a p len f r free =
    let some : any_selected (λ h. true) w 0 p.headers ≡ true = ap (any_selected (λ h. true) w 0) f.all ∙ ap (λ b. b && true || any_selected (λ h. true) w (0 + 1) f.others) f.selected in
    let others : list_any is_authentication f.others ≡ false =
    (or_none (is_authentication f.first) (list_any is_authentication f.others) (sym (ap (list_any is_authentication) f.all) ∙ no_authentication p.headers r)).1 in
    let kept_none : list_any is_authentication (kept w p.headers) ≡ false = ap (list_any is_authentication) f.kept ∙ others in
    rw (some, no_fragmenting w 0 p.headers r, no_fragmented w 0 p.headers r, kept_none, free.not_later, free.ipv6) refl

free_room : (p : DissectedParts) (c : List ExtHeader) (q : List ℕ) (room : ℕ) → IsFree p → length (bytes_of c) + length q ≤ 65535 → length p.base + length (bytes_of c) + length q ≤ room → room_fault p c q room ≡ None
free_room p c q room free short fits = rw (free.stated, free.ipv6) (grind (arith, common_steps))

pub free_field : (p : DissectedParts) (c : List ExtHeader) (q : List ℕ) → is_unrestricted p ≡ true → rewritten_field p c q ≡ length (bytes_of c) + length q
free_field p c q e = let f = free p e in rw (f.stated, f.ipv6) refl

no_jumbo : (b : Bool) (p : DissectedParts) → jumbo_offset p ≡ None → jumbo_fault b p ≡ None
no_jumbo b p e = ap (λ (o : Option ℕ). let x : Option RewriteError = if b && is_some o then Some NotAJumbogram else None in x) e ∙ no_end b
  where
    no_end : (b : Bool) → (let x : Option RewriteError = if b && false then Some NotAJumbogram else None in x) ≡ None
    no_end true = refl
    no_end false = refl

pub free_fault : (w : Which) (a : Authentication) (p : DissectedParts) (len room : ℕ) → SelectsFirst w p.headers len → list_any restricts p.headers ≡ false → is_unrestricted p ≡ true
    → length (bytes_of (kept w p.headers)) + length p.payload ≤ 65535 → len_without w p ≤ room → without_fault w a p room ≡ None
free_fault w a p len room f r e short fits =
    let is : IsFree p = free p e in
    all_none (packet_fault p) (selection_fault w a p) (jumbo_fault (selects_first w p.headers) p) (room_fault p (kept w p.headers) p.payload room) (free_packet p e) (free_selection w a p len f r is) (no_jumbo (selects_first w p.headers) p (unstated_no_jumbogram p is.stated))
    ∙ free_room p (kept w p.headers) p.payload room is short fits

pub free_checksums : (w : Which) (p : DissectedParts) (len : ℕ) → SelectsFirst w p.headers len → keeps_checksums w p ≡ not (first_segments false p.headers)
free_checksums w p len f =
    let some : any_selected has_segments w 0 p.headers ≡ has_segments f.first =
    ap (any_selected has_segments w 0) f.all
    ∙ (ap (λ b. b && has_segments f.first || any_selected has_segments w (0 + 1) f.others) f.selected
    ∙ (ap (λ b. has_segments f.first || b) (none_passes has_segments w (0 + 1) f.others f.alone) ∙ or-false (has_segments f.first))) in
    ap (λ b. not b) (some ∙ sym (ap (first_segments false) f.all))

-- The others and q are written after the base header.
pub written_after : (l : ℕ) (b buffer : List ℕ) (c : List ExtHeader) (k : ℕ) (q r x y : List ℕ) → l < length b → AreLinked k c → r ≡ bytes_of c ++ q
    → x ≡ slice_set (b ++ drop (length b) buffer) l k
    → y ≡ take (length b) x ++ r ++ drop (length b + length r) x
    → y ≡ front_with l b c (leads_to k c) ++ q ++ drop (length b + length (bytes_of c) + length q) buffer
written_after l b buffer c k q r x y less links is base put =
    let e : List ℕ = bytes_of c in
    let f : List ℕ = slice_set b l k in
    let size : length f ≡ length b = length-set b l k in
    let x_is : x ≡ f ++ drop (length f) buffer = base ∙ (set-append_left b (drop (length b) buffer) l k less ∙ ap (λ n. f ++ drop n buffer) (sym size)) in
    let y_put : y ≡ take (length f) x ++ r ++ drop (length f + length r) x = subst (λ n. y ≡ take n x ++ r ++ drop (n + length r) x) (sym size) put in
    let y_is : y ≡ f ++ r ++ drop (length f + length r) buffer = copied_after f r buffer x y x_is y_put in
    let front_is : front_with l b c (leads_to k c) ≡ f ++ e = ap (λ n. slice_set b l n ++ bytes_of (linked_headers (leads_to k c) c)) (first_is k c links) ∙ ap (λ d. f ++ bytes_of d) (linked_same k c links) in
    let at : length f + length r ≡ length b + length e + length q = omega (arith, size, ap length is, length-append e q) in
    y_is ∙ (ap (λ n. f ++ r ++ drop n buffer) at ∙ (ap (λ t. f ++ t ++ drop (length b + length e + length q) buffer) is
    ∙ (ap (λ t. t ++ drop (length b + length e + length q) buffer) (sym (append_assoc f e q)) ∙ ap (λ t. t ++ q ++ drop (length b + length e + length q) buffer) (sym front_is))))

-- what follows the first n bytes of e, and q after it
pub rest_of_part : (s : List ℕ) (start size more n : ℕ) (e q : List ℕ) → n ≤ size → take (start + size - start) (drop start s) ≡ e → take (start + size + more - (start + size)) (drop (start + size) s) ≡ q
    → take (start + size + more - (start + n)) (drop (start + n) s) ≡ drop n e ++ q
rest_of_part s start size more n e q fits first second =
    let t : List ℕ = drop start s in
    let a : ℕ = size - n in
    let whole : n + a ≡ size = omega (arith, fits) in
    let count : start + size + more - (start + n) ≡ a + more = omega (arith, fits) in
    let from : drop (start + n) s ≡ drop n t = sym (drop-drop n start s) in
    let all : take size t ≡ e = ap (λ k. take k t) (omega arith) ∙ first in
    let front_with : take a (drop n t) ≡ drop n e = sym (drop-take n a t) ∙ (ap (λ k. drop n (take k t)) whole ∙ ap (drop n) all) in
    let rest : drop a (drop n t) ≡ drop (start + size) s = drop-drop a n t ∙ (ap (λ k. drop k t) whole ∙ drop-drop size start s) in
    let back : take more (drop a (drop n t)) ≡ q = ap (take more) rest ∙ (ap (λ k. take k (drop (start + size) s)) (omega arith) ∙ second) in
    ap (λ k. take k (drop (start + n) s)) count ∙ (ap (take (a + more)) from ∙ (take-add a more (drop n t) ∙ (ap (λ x. x ++ take more (drop a (drop n t))) front_with ∙ ap (λ x. drop n e ++ x) back)))
