-- Several changes at once.
use Rattle.ip_spec.proofs.Common.{◌≡◌, ℕ, ◌+◌, ◌≤◌, List, [], ◌∷◌, ◌++◌, length, inl, inr, refl, sym, ◌∙◌, ap, arith, Bool, true, false, not, ◌||◌, ◌==◌, cases_Bool, cond-true, cond-false, eqb-true, if◌then◌else◌, append_assoc, drop, slice_index, IsHeader, leads_to, cleared_header, cleared_chain, ExtHeader, bytes_of}
use Rattle.ip_spec.proofs.ClearedLemmas.{cleared_of, cleared_same}
use Rattle.ip_spec.proofs.StepLemmas.{leads_to-more, all_more}
use Rattle.ip_rewrite.proofs.ChainLemmas.{AreHeaders}
use Rattle.ip_rewrite.proofs.FrontLemmas.{front_len, front_more, link_more, more_len}
use Rattle.std.specs.List.{list_any}
use Rattle.ip_rewrite.specs.Order.{is_routing}
use Rattle.ip_rewrite.specs.Selection.{selects, kept_from, kept}
use Rattle.ip_rewrite.specs.Request.{cleared_if, ordered_if, changed_headers}
use Rattle.ip_rewrite.specs.Planning.{is_chosen, chosen}
use Rattle.ip_rewrite.specs.Writing.{AreWritten, front_with, routing_index, rank_at, of_rank_from}
use Rattle.ip_rewrite.specs.declared.request.Request.{Request}
use Rattle.ip_rewrite.specs.declared.which.Which.{Which}
use Rattle.ip_rewrite.specs.declared.writer.Choice.{Choice}
use Rattle.ip_rewrite.proofs.ClearingLemmas.{cleared_len, cleared_count}
use Rattle.ip_rewrite.proofs.OrderLemmas.{of_more_yes, of_more_no, ordered_len, bytes_joined}

pub kept_count : (w : Which) (i : ℕ) (c : List ExtHeader) → length (kept_from w i c) ≤ length c
kept_count w i [] = omega arith
kept_count w i (h ∷ c) = elim (cases_Bool (selects w i h)) [
  | inl s ↦ omega (arith, kept_count w (i + 1) c, ap (λ d. length d) (cond-true (selects w i h) (kept_from w (i + 1) c) (h ∷ kept_from w (i + 1) c) s))
  | inr s ↦ omega (arith, kept_count w (i + 1) c, ap (λ d. length d) (cond-false (selects w i h) (kept_from w (i + 1) c) (h ∷ kept_from w (i + 1) c) s))
]

-- one more header is cleared
chain_more : (c : List ExtHeader) (h : ExtHeader) → cleared_chain (c ++ h ∷ []) ≡ cleared_chain c ++ cleared_chain (h ∷ [])
chain_more [] h = refl
chain_more (g ∷ c) h = ap (λ x. cleared_of g ∷ x) (chain_more c h)

pub cleared_if_more : (clears : Bool) (c : List ExtHeader) (h : ExtHeader) → cleared_if clears (c ++ h ∷ []) ≡ cleared_if clears c ++ cleared_if clears (h ∷ [])
cleared_if_more true c h = chain_more c h
cleared_if_more false c h = refl

pub cleared_if_len : (clears : Bool) (c : List ExtHeader) → length (bytes_of (cleared_if clears c)) ≡ length (bytes_of c)
cleared_if_len true c = cleared_len c
cleared_if_len false c = refl

pub cleared_routing : (c : List ExtHeader) → list_any is_routing (cleared_chain c) ≡ list_any is_routing c
cleared_routing [] = refl
cleared_routing (h ∷ c) = ap (λ b. is_routing h || b) (cleared_routing c)

cleared_index : (c : List ExtHeader) → routing_index (cleared_chain c) ≡ routing_index c
cleared_index [] = refl
cleared_index (h ∷ c) = ap (λ b. if b then routing_index (cleared_chain c) + 1 else 0) (cleared_routing c) ∙ ap (λ n. if list_any is_routing c then n + 1 else 0) (cleared_index c)

pub index_cleared : (clears : Bool) (c : List ExtHeader) → routing_index (cleared_if clears c) ≡ routing_index c
index_cleared true c = cleared_index c
index_cleared false c = refl

ordered_if_len : (orders : Bool) (c : List ExtHeader) → length (bytes_of (ordered_if orders c)) ≡ length (bytes_of c)
ordered_if_len true c = ordered_len c
ordered_if_len false c = refl

pub changed_len : (r : Request) (c : List ExtHeader) → length (bytes_of (changed_headers r c)) ≡ length (bytes_of (kept r.without c))
changed_len r c = ordered_if_len r.orders (cleared_if r.clears (kept r.without c)) ∙ cleared_if_len r.clears (kept r.without c)

-- one more header, after those of which some are chosen
abbrev chosen_by : Bool → Bool → ℕ → ℕ → List ExtHeader → List ExtHeader
chosen_by orders clears k e c = if orders then of_rank_from k e 0 (cleared_if clears c) else cleared_if clears c

pub chosen_yes : (v : Choice) (j : ℕ) (c : List ExtHeader) (h : ExtHeader) → j ≡ length c → is_chosen v j h ≡ true → chosen v (c ++ h ∷ []) ≡ chosen v c ++ cleared_if v.clears (h ∷ [])
chosen_yes v j c h at is = more v.orders v.clears v.rank v.last_routing at is
  where
    more : (orders clears : Bool) (k e : ℕ) → j ≡ length c → (not orders || (rank_at e j h == k)) ≡ true → chosen_by orders clears k e (c ++ h ∷ []) ≡ chosen_by orders clears k e c ++ cleared_if clears (h ∷ [])
    more false clears k e at is = cleared_if_more clears c h
    more true false k e at is = of_more_yes k e 0 j c h (omega (arith, at)) (eqb-true (rank_at e j h) k is)
    more true true k e at is = ap (of_rank_from k e 0) (chain_more c h) ∙ of_more_yes k e 0 j (cleared_chain c) (cleared_of h) (omega (arith, at, cleared_count c)) (eqb-true (rank_at e j h) k is)

pub chosen_no : (v : Choice) (j : ℕ) (c : List ExtHeader) (h : ExtHeader) → j ≡ length c → is_chosen v j h ≡ false → chosen v (c ++ h ∷ []) ≡ chosen v c
chosen_no v j c h at isnt = more v.orders v.clears v.rank v.last_routing at isnt
  where
    more : (orders clears : Bool) (k e : ℕ) → j ≡ length c → (not orders || (rank_at e j h == k)) ≡ false → chosen_by orders clears k e (c ++ h ∷ []) ≡ chosen_by orders clears k e c
    more false clears k e at isnt = absurd (cc)
    more true false k e at isnt = of_more_no k e 0 j c h (omega (arith, at)) isnt
    more true true k e at isnt = ap (of_rank_from k e 0) (chain_more c h) ∙ of_more_no k e 0 j (cleared_chain c) (cleared_of h) (omega (arith, at, cleared_count c)) isnt

-- The last of the headers that are written is cleared where it is.
module _ (l : ℕ) (b buffer : List ℕ) (c : List ExtHeader) (h : ExtHeader) (out new : List ℕ) (k len : ℕ) (before : AreHeaders c) (header : IsHeader h.number h.bytes) (w : AreWritten l b buffer (c ++ h ∷ []) out k len)
    (clear : (f x r : List ℕ) → IsHeader h.number x → len ≡ length f → out ≡ f ++ x ++ r → new ≡ f ++ cleared_header h.number x ++ r) where
  abbrev g : ExtHeader
  g = cleared_of h

  abbrev n : ℕ
  n = slice_index b l

  abbrev f : List ℕ
  f = front_with l b c h.number

  abbrev rest : List ℕ
  rest = drop (length b + length (bytes_of (c ++ h ∷ []))) buffer

  long : length (bytes_of (c ++ g ∷ [])) ≡ length (bytes_of (c ++ h ∷ []))
  long = omega (arith, more_len c g, more_len c h, (cleared_same h.bytes h.number header).len)

  parts : out ≡ f ++ h.bytes ++ rest
  parts = w.bytes ∙ (ap (λ m. front_with l b (c ++ h ∷ []) m ++ rest) (leads_to-more n c h) ∙ ap (λ x. x ++ rest) (front_more l b c h))

  bytes : new ≡ front_with l b (c ++ g ∷ []) (leads_to n (c ++ g ∷ [])) ++ drop (length b + length (bytes_of (c ++ g ∷ []))) buffer
  bytes =
      clear f h.bytes rest header (w.link ∙ (link_more l b c h ∙ sym (front_len l b c h.number))) parts
      ∙ (ap (λ x. x ++ rest) (sym (front_more l b c g) ∙ ap (front_with l b (c ++ g ∷ [])) (sym (leads_to-more n c g)))
      ∙ ap (λ i. front_with l b (c ++ g ∷ []) (leads_to n (c ++ g ∷ [])) ++ drop (length b + i) buffer) (sym long))

  pub last_cleared : AreWritten l b buffer (c ++ g ∷ []) new k len
  last_cleared = record {
    at = w.at;
    headers = all_more (λ x. IsHeader x.number x.bytes) c g before (cleared_same h.bytes h.number header).header;
    bytes = bytes;
    len = w.len ∙ ap (λ i. length b + i) (sym long);
    link = w.link ∙ (link_more l b c h ∙ sym (link_more l b c g));
  }

pub one_len : (clears : Bool) (c : List ExtHeader) (h : ExtHeader) → IsHeader h.number h.bytes → length (bytes_of (c ++ cleared_if clears (h ∷ []))) ≡ length (bytes_of (c ++ h ∷ []))
one_len true c h header = omega (arith, more_len c (cleared_of h), more_len c h, (cleared_same h.bytes h.number header).len)
one_len false c h header = refl

-- fewer headers, of which some are chosen, are no longer
pub chosen_less : (v : Choice) (d c : List ExtHeader) (h : ExtHeader) → length (bytes_of (d ++ chosen v c)) ≤ length (bytes_of (d ++ chosen v (c ++ h ∷ [])))
chosen_less v d c h = elim (cases_Bool (is_chosen v (length c) h)) [
  | inl s ↦
      let more : d ++ chosen v (c ++ h ∷ []) ≡ d ++ chosen v c ++ cleared_if v.clears (h ∷ []) = ap (λ x. d ++ x) (chosen_yes v (length c) c h refl s) ∙ sym (append_assoc d (chosen v c) (cleared_if v.clears (h ∷ []))) in
      omega (arith, ap (λ (x : List ExtHeader). length (bytes_of x)) more, bytes_joined (d ++ chosen v c) (cleared_if v.clears (h ∷ [])))
  | inr s ↦ omega (arith, ap (λ (x : List ExtHeader). length (bytes_of (d ++ x))) (chosen_no v (length c) c h refl s))
]
