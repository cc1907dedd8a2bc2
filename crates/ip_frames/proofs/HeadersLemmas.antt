-- The list of the headers of a frame.
use Rattle.std.proofs.Common.{◌≡◌, ℕ, zero, suc, ◌+◌, ◌<◌, ◌≤◌, List, [], ◌∷◌, ◌++◌, length, drop, Option, Some, None, refl, sym, subst, arith, lit≤, add_assoc, add-zero, zero-add, append_assoc, length-append}
use Rattle.std.proofs.lemmas.List.{length-drop, drop-drop, append-nil}
use Rattle.std.proofs.lemmas.List.Sums.{sum_by-cons}
use Rattle.std.specs.Option.{option_or}
use Rattle.std.specs.Prelude.{option_to_list}
use Rattle.ip_frames.specs.Headers.{AreHeaders, Ending, LeadsTo, reading, headers_len, last_number, identifiers, vlan_tags}
use Rattle.ip_frames.specs.declared.protocol_number.ProtocolNumber.{ProtocolNumber}
use Rattle.ip_frames.specs.declared.frame_contents.FrameEnd.{FrameEnd}
use Rattle.ip_frames.specs.declared.frame_contents.FrameContents.{FrameContents}
use Rattle.ip_frames.specs.declared.frame_contents.VlanTags.{VlanTags}
use Rattle.ip_frames.specs.declared.header.FrameHeader.{FrameHeader}
use Rattle.ip_frames.specs.declared.header.Announced.{Announced}
use Rattle.ip_frames.specs.declared.header.HeaderReading.{HeaderReading}
use Rattle.ip_frames.specs.declared.header.HeaderReading.TheVariants.{Whole, End}
use Rattle.ip_frames.proofs.ReadingLemmas.{LiesWithin, reading_within}

abbrev ending : FrameEnd → Option ProtocolNumber → Ending
ending x n = record { end = x; number = n }

abbrev HasHeaders : Announced → List ℕ → Type 0
HasHeaders what b = (hs : List FrameHeader) × ((e : Ending) × AreHeaders what b hs e)

headers_by : (n : ℕ) (what : Announced) (b : List ℕ) (r : HeaderReading) → reading what b ≡ r → LiesWithin (length b) r → length b < suc n
    → ((what : Announced) (b : List ℕ) → length b < n → HasHeaders what b) → HasHeaders what b
headers_by n what b (Whole h) e within few others =
    let bounds : (1 ≤ h.len) × (h.len ≤ length b) = within.header h refl in
    let rest : HasHeaders h.announced (drop h.len b) = others h.announced (drop h.len b) (rw length-drop (omega arith)) in
    (h ∷ rest.0, (rest.1.0, (e, rest.1.1)))
headers_by n what b (End x m) e within few others = ([], (record { end = x; number = m }, e))

headers_below : (n : ℕ) (what : Announced) (b : List ℕ) → length b < n → HasHeaders what b
headers_below zero what b few = absurd (omega arith)
headers_below (suc n) what b few = headers_by n what b (reading what b) refl (reading_within what b) few (headers_below n)

-- there are headers
pub some_headers : (what : Announced) (b : List ℕ) → HasHeaders what b
some_headers what b = headers_below (length b + 1) what b (omega arith)

same_ending : (x y : FrameEnd) (n m : Option ProtocolNumber) → x ≡ y → n ≡ m → ending x n ≡ ending y m
same_ending x y n m e f = cc

-- There are no others.
pub one_list : (what : Announced) (b : List ℕ) (hs gs : List FrameHeader) (e f : Ending) → AreHeaders what b hs e → AreHeaders what b gs f → (hs ≡ gs) × (e ≡ f)
one_list what b [] [] e f p q =
    let ends : e.end ≡ f.end = cc in
    let numbers : e.number ≡ f.number = cc in
    (refl, same_ending e.end f.end e.number f.number ends numbers)
one_list what b [] (g ∷ gs) e f p q = absurd (cc)
one_list what b (h ∷ hs) [] e f p q = absurd (cc)
one_list what b (h ∷ hs) (g ∷ gs) e f p q =
    let same : h ≡ g = cc in
    let rest = one_list g.announced (drop g.len b) hs gs e f (subst (λ (x : FrameHeader). AreHeaders x.announced (drop x.len b) hs e) same p.1) q.1 in
    let tails : hs ≡ gs = rest.0 in
    (cc, rest.1)

-- All headers lie in the bytes.
pub headers_within : (what : Announced) (b : List ℕ) (hs : List FrameHeader) (e : Ending) → AreHeaders what b hs e → headers_len hs ≤ length b
headers_within what b [] e p = omega arith
headers_within what b (h ∷ hs) e p =
    let bounds : (1 ≤ h.len) × (h.len ≤ length b) = (reading_within what b).header h p.0 in
    let rest : headers_len hs ≤ length (drop h.len b) = headers_within h.announced (drop h.len b) hs e p.1 in
    omega (arith, length-drop h.len b, sum_by-cons (λ (x : FrameHeader). x.len) h hs)

-- what headers lead to after others of o bytes, with number n and the VLAN identifiers ids
abbrev pub contents_after : ℕ → Option ProtocolNumber → List ℕ → List FrameHeader → Ending → FrameContents
contents_after o n ids hs e = record {
  offset = o + headers_len hs;
  end = e.end;
  number = option_or e.number (last_number n hs);
  vlans = vlan_tags (ids ++ identifiers hs);
}

-- From bytes b, after `before`, headers of o bytes lead to where something is announced.
pub record IsReached (first : Announced) (before : Option ProtocolNumber) (b : List ℕ) (what : Announced) (o : ℕ) (n : Option ProtocolNumber) (v : VlanTags) : Type 0 where
  pub ids : List ℕ
  pub tags : v ≡ vlan_tags ids
  pub few : length ids ≤ o
  pub within : o ≤ length b
  pub leads : (hs : List FrameHeader) (e : Ending) → AreHeaders what (drop o b) hs e → LeadsTo first before b (contents_after o n ids hs e)

pub reached_none : (first : Announced) (before : Option ProtocolNumber) (b : List ℕ) → IsReached first before b first 0 before (vlan_tags [])
reached_none first before b = record {
  ids = [];
  tags = refl;
  few = omega arith;
  within = omega arith;
  leads = λ hs e p. record { headers = hs; ending = e; follow = p; reached = rw zero-add refl };
}

few_tags : (h : FrameHeader) → length (option_to_list h.vlan) ≤ 1
few_tags h = elim h.vlan as (λ v. length (option_to_list v) ≤ 1) [ None ↦ lit≤ tt | Some x ↦ lit≤ tt ]

contents_more : (o : ℕ) (n : Option ProtocolNumber) (ids : List ℕ) (h : FrameHeader) (hs : List FrameHeader) (e : Ending) → contents_after o n ids (h ∷ hs) e ≡ contents_after (o + h.len) (option_or h.number n) (ids ++ option_to_list h.vlan) hs e
contents_more o n ids h hs e =
    simp (sum_by-cons {X = FrameHeader}, add_assoc, append_assoc)

-- one header more
pub reached_more : (first : Announced) (before : Option ProtocolNumber) (b : List ℕ) (what : Announced) (o : ℕ) (n : Option ProtocolNumber) (v w : VlanTags) (h : FrameHeader) → IsReached first before b what o n v → reading what (drop o b) ≡ Whole h → ((ids : List ℕ) → v ≡ vlan_tags ids → w ≡ vlan_tags (ids ++ option_to_list h.vlan)) → IsReached first before b h.announced (o + h.len) (option_or h.number n) w
reached_more first before b what o n v w h r is more =
    let bounds : (1 ≤ h.len) × (h.len ≤ length (drop o b)) = (reading_within what (drop o b)).header h is in
    record {
      ids = r.ids ++ option_to_list h.vlan;
      tags = more r.ids r.tags;
      few = omega (arith, length-append r.ids (option_to_list h.vlan), few_tags h, r.few);
      within = omega (arith, length-drop o b, r.within);
      leads = λ hs e p.
          let P : List ℕ → Type 0 = λ x. AreHeaders h.announced x hs e in
          let follow : AreHeaders h.announced (drop h.len (drop o b)) hs e = subst P (sym (drop-drop h.len o b)) p in
          subst (LeadsTo first before b) (contents_more o n r.ids h hs e) (r.leads (h ∷ hs) e (is, follow));
    }

-- the end
pub reached_all : (first : Announced) (before : Option ProtocolNumber) (b : List ℕ) (what : Announced) (o : ℕ) (n : Option ProtocolNumber) (v : VlanTags) (x : FrameEnd) (m : Option ProtocolNumber) → IsReached first before b what o n v → reading what (drop o b) ≡ End x m → LeadsTo first before b (record { offset = o; end = x; number = option_or m n; vlans = v })
reached_all first before b what o n v x m r is =
    let all = r.leads [] (record { end = x; number = m }) is in
    let len = add-zero o in
    let ids = append-nil r.ids in
    let tags = r.tags in
    subst (LeadsTo first before b) (cc) all

-- how many bytes the next header has at most
pub next_len : (b : List ℕ) (what : Announced) (o : ℕ) (h : FrameHeader) → reading what (drop o b) ≡ Whole h → o ≤ length b → (1 ≤ h.len) × (o + h.len ≤ length b)
next_len b what o h is within =
    let bounds : (1 ≤ h.len) × (h.len ≤ length (drop o b)) = (reading_within what (drop o b)).header h is in
    (bounds.0, omega (arith, length-drop o b, bounds.1))
