use Rattle.ip_spec.proofs.Common.{rules, ◌≡◌, ℕ, ◌+◌, ◌-◌, ◌≤◌, ◌<◌, ◌||◌, ◌++◌, List, Bool, true, false, length, drop, subst, sym, ◌∙◌, ap, arith, common_steps, not, nat_lt, nat_eq, None, list_any, length-append, ExtHeader, bytes_of}
use Rattle.ip_dissect.specs.Dissection.{DissectedParts, dissected}
use Rattle.ip_dissect.specs.Summary.{summary_of}
use Rattle.ip_dissect.specs.declared.summary.Summary.{Summary}
use Rattle.ip_dissect.proofs.PacketLemmas.{summary_fits}
use Rattle.ip_rewrite.specs.Selection.{kept}
use Rattle.ip_rewrite.specs.Without.{without, without_fault, len_without, parts_without}
use Rattle.ip_rewrite.specs.Writing.{SelectsFirst, first_len, selects_otherwise, restricts, is_unrestricted}
use Rattle.ip_rewrite.specs.declared.which.Which.{Which}
use Rattle.ip_rewrite.specs.declared.which.Authentication.{Authentication}
use Rattle.ip_rewrite.specs.declared.which.Authentication.TheVariants.{Valid}
use Rattle.ip_rewrite.specs.declared.first_header.First.{First}
use Rattle.ip_rewrite.proofs.DissectLemmas.{dissects, without_option, written_front}
use Rattle.ip_rewrite.proofs.SelectionLemmas.{or_none}
use Rattle.ip_rewrite.proofs.FirstHeaderLemmas.{first_alone, free_field, free_fault, free_checksums}
use Rattle.ip_rewrite.proofs.first_header.write_without_first.Goals as goal

-- what is known of the packet after the tests
record IsAlone (s : List ℕ) (w : Which) (n : First) (o : Summary) : Type 0 where
  first : SelectsFirst w (dissected s).headers n.len
  free : is_unrestricted (dissected s) ≡ true
  unrestricted : list_any restricts (dissected s).headers ≡ false
  size : o.extensions_len - n.len ≡ length (bytes_of (kept w (dissected s).headers))

some_len : (n : ℕ) → nat_eq n 0 ≡ false → 0 < n
some_len n e = grind (arith, common_steps)

at_most : (a b : ℕ) → nat_lt a b ≡ false → b ≤ a
at_most a b e = grind (arith, common_steps)

gather : (s t : List ℕ) (w : Which) (n : First) (o : Summary) (b : Bool) → s ≡ t → o ≡ summary_of (dissected s) → n.len ≡ first_len 0 (dissected t).headers → n.selects_otherwise ≡ selects_otherwise w 0 (dissected t).headers → n.restricts ≡ list_any restricts (dissected t).headers
    → ((p : DissectedParts) → o ≡ summary_of p → b ≡ is_unrestricted p) → b ≡ true → n.selects_otherwise ≡ false → n.restricts ≡ false → nat_eq n.len 0 ≡ false → IsAlone s w n o
gather s t w n o b same is len other restrict unrestricted passed alone none some =
    let c : List ExtHeader = (dissected s).headers in
    let back : (dissected t).headers ≡ c = ap (λ (x : List ℕ). (dissected x).headers) (sym same) in
    let f : SelectsFirst w c n.len = first_alone w c n.len (ap (selects_otherwise w 0) (sym back) ∙ (sym other ∙ alone)) (len ∙ ap (first_len 0) back) (some_len n.len some) in
    let exts : o.extensions_len ≡ length (bytes_of c) = ap (λ (x : Summary). x.extensions_len) is in
    record {
      first = f;
      free = sym (unrestricted (dissected s) is) ∙ passed;
      unrestricted = ap (list_any restricts) (sym back) ∙ (sym restrict ∙ none);
      size = omega (arith, exts, ap (λ (d : List ExtHeader). length (bytes_of d)) f.all, length-append f.first.bytes (bytes_of f.others), f.size, ap (λ (d : List ExtHeader). length (bytes_of d)) f.kept);
    }

size_is : (s : List ℕ) (w : Which) (n : First) (o : Summary) → IsAlone s w n o → o ≡ summary_of (dissected s) → o.base_len + (o.extensions_len - n.len + o.payload_len) ≡ len_without w (dissected s)
size_is s w n o alone is = omega (arith, ap (λ (x : Summary). x.base_len) is, ap (λ (x : Summary). x.payload_len) is, alone.size)

fits : (s : List ℕ) (w : Which) (n : First) (o : Summary) (room : ℕ) → IsAlone s w n o → o ≡ summary_of (dissected s)
    → (nat_lt 65535 (o.extensions_len - n.len + o.payload_len) || nat_lt room (o.base_len + (o.extensions_len - n.len + o.payload_len))) ≡ false → len_without w (dissected s) ≤ room
fits s w n o room alone is e =
    let size : ℕ = o.base_len + (o.extensions_len - n.len + o.payload_len) in
    let most : size ≤ room = at_most room size (or_none (nat_lt 65535 (o.extensions_len - n.len + o.payload_len)) (nat_lt room size) e).1 in
    omega (arith, most, size_is s w n o alone is)

accepted : (s : List ℕ) (w : Which) (n : First) (o : Summary) (room : ℕ) → IsAlone s w n o → o ≡ summary_of (dissected s)
    → (nat_lt 65535 (o.extensions_len - n.len + o.payload_len) || nat_lt room (o.base_len + (o.extensions_len - n.len + o.payload_len))) ≡ false → (a : Authentication) → without_fault w a (dissected s) room ≡ None
accepted s w n o room alone is e a =
    let parts = or_none (nat_lt 65535 (o.extensions_len - n.len + o.payload_len)) (nat_lt room (o.base_len + (o.extensions_len - n.len + o.payload_len))) e in
    let payload : o.payload_len ≡ length (dissected s).payload = ap (λ (x : Summary). x.payload_len) is in
    free_fault w a (dissected s) n.len room alone.first alone.unrestricted alone.free (omega (arith, at_most _ _ parts.0, alone.size, payload)) (fits s w n o room alone is e)

pub is_unrestricted-requires : goal.is_unrestricted-requires
is_unrestricted-requires c = let fits = summary_fits c.first_of.result.0.bytes.now _ _ c.first_of.result.0.base_is c.first_of.result.0.summary_is in search (rules, fits)

pub overflow_add-field : goal.overflow_add-field
overflow_add-field c = let fits = summary_fits c.first_of.result.0.bytes.now _ _ c.first_of.result.0.base_is c.first_of.result.0.summary_is in search (rules, fits)

pub overflow_add-len : goal.overflow_add-len
overflow_add-len c = let fits = summary_fits c.first_of.result.0.bytes.now _ _ c.first_of.result.0.base_is c.first_of.result.0.summary_is in search (rules, fits)

pub write_after_first-requires-clause-first : goal.write_after_first-requires-clause-first
write_after_first-requires-clause-first c =
    let n : First = c.first_of.result.1 in
    let packet = c.first_of.result.0 in
    let s : List ℕ = packet.bytes.now in
    let w : Which = c.args.which in
    let alone : IsAlone s w n packet.summary =
    gather s c.args.packet.now w n packet.summary c.is_unrestricted.result c.first_of.ensures.bytes packet.summary_is c.first_of.ensures.len c.first_of.ensures.otherwise c.first_of.ensures.restricts c.is_unrestricted.ensures c.if-not-is_unrestricted.false
    (grind (arith, common_steps, c.if-first.false)) (grind (arith, common_steps, c.if-first.false)) (grind (arith, common_steps, c.if-first.false)) in
    alone.first

pub write_after_first-requires-clause-field : goal.write_after_first-requires-clause-field
write_after_first-requires-clause-field c =
    let n : First = c.first_of.result.1 in
    let packet = c.first_of.result.0 in
    let s : List ℕ = packet.bytes.now in
    let w : Which = c.args.which in
    let alone : IsAlone s w n packet.summary =
    gather s c.args.packet.now w n packet.summary c.is_unrestricted.result c.first_of.ensures.bytes packet.summary_is c.first_of.ensures.len c.first_of.ensures.otherwise c.first_of.ensures.restricts c.is_unrestricted.ensures c.if-not-is_unrestricted.false
    (grind (arith, common_steps, c.if-first.false)) (grind (arith, common_steps, c.if-first.false)) (grind (arith, common_steps, c.if-first.false)) in
    let payload : packet.summary.payload_len ≡ length (dissected s).payload = ap (λ (x : Summary). x.payload_len) packet.summary_is in
    omega (arith, alone.size, payload, free_field (dissected s) (kept w (dissected s).headers) (dissected s).payload alone.free)

pub write_after_first-requires-clause-option : goal.write_after_first-requires-clause-option
write_after_first-requires-clause-option c =
    let n : First = c.first_of.result.1 in
    let packet = c.first_of.result.0 in
    let s : List ℕ = packet.bytes.now in
    let w : Which = c.args.which in
    let alone : IsAlone s w n packet.summary =
    gather s c.args.packet.now w n packet.summary c.is_unrestricted.result c.first_of.ensures.bytes packet.summary_is c.first_of.ensures.len c.first_of.ensures.otherwise c.first_of.ensures.restricts c.is_unrestricted.ensures c.if-not-is_unrestricted.false
    (grind (arith, common_steps, c.if-first.false)) (grind (arith, common_steps, c.if-first.false)) (grind (arith, common_steps, c.if-first.false)) in
    let room : ℕ = length c.args.out.now in
    let none = accepted s w n packet.summary room alone packet.summary_is c.if-field-len.false in
    let size = size_is s w n packet.summary alone packet.summary_is in
    without_option w Valid (dissected s) room (none Valid)

pub write_after_first-requires-clause-fits : goal.write_after_first-requires-clause-fits
write_after_first-requires-clause-fits c =
    let n : First = c.first_of.result.1 in
    let packet = c.first_of.result.0 in
    let s : List ℕ = packet.bytes.now in
    let w : Which = c.args.which in
    let alone : IsAlone s w n packet.summary =
    gather s c.args.packet.now w n packet.summary c.is_unrestricted.result c.first_of.ensures.bytes packet.summary_is c.first_of.ensures.len c.first_of.ensures.otherwise c.first_of.ensures.restricts c.is_unrestricted.ensures c.if-not-is_unrestricted.false
    (grind (arith, common_steps, c.if-first.false)) (grind (arith, common_steps, c.if-first.false)) (grind (arith, common_steps, c.if-first.false)) in
    let room : ℕ = length c.args.out.now in
    fits s w n packet.summary room alone packet.summary_is c.if-field-len.false

pub returns-clause-fault : goal.returns-clause-fault
returns-clause-fault c =
    let n : First = c.first_of.result.1 in
    let packet = c.first_of.result.0 in
    let s : List ℕ = packet.bytes.now in
    let w : Which = c.args.which in
    let alone : IsAlone s w n packet.summary =
    gather s c.args.packet.now w n packet.summary c.is_unrestricted.result c.first_of.ensures.bytes packet.summary_is c.first_of.ensures.len c.first_of.ensures.otherwise c.first_of.ensures.restricts c.is_unrestricted.ensures c.if-not-is_unrestricted.false
    (grind (arith, common_steps, c.if-first.false)) (grind (arith, common_steps, c.if-first.false)) (grind (arith, common_steps, c.if-first.false)) in
    let room : ℕ = length c.args.out.now in
    let none = accepted s w n packet.summary room alone packet.summary_is c.if-field-len.false in
    let size = size_is s w n packet.summary alone packet.summary_is in
    λ a. ap (λ (x : List ℕ). without_fault w a (dissected x) room) (sym c.first_of.ensures.bytes) ∙ none a

pub returns-clause-len : goal.returns-clause-len
returns-clause-len c =
    let n : First = c.first_of.result.1 in
    let packet = c.first_of.result.0 in
    let s : List ℕ = packet.bytes.now in
    let w : Which = c.args.which in
    let alone : IsAlone s w n packet.summary =
    gather s c.args.packet.now w n packet.summary c.is_unrestricted.result c.first_of.ensures.bytes packet.summary_is c.first_of.ensures.len c.first_of.ensures.otherwise c.first_of.ensures.restricts c.is_unrestricted.ensures c.if-not-is_unrestricted.false
    (grind (arith, common_steps, c.if-first.false)) (grind (arith, common_steps, c.if-first.false)) (grind (arith, common_steps, c.if-first.false)) in
    let room : ℕ = length c.args.out.now in
    let none = accepted s w n packet.summary room alone packet.summary_is c.if-field-len.false in
    let size = size_is s w n packet.summary alone packet.summary_is in
    size ∙ ap (λ (x : List ℕ). len_without w (dissected x)) c.first_of.ensures.bytes

pub returns-clause-checksums : goal.returns-clause-checksums
returns-clause-checksums c =
    let n : First = c.first_of.result.1 in
    let packet = c.first_of.result.0 in
    let s : List ℕ = packet.bytes.now in
    let w : Which = c.args.which in
    let alone : IsAlone s w n packet.summary =
    gather s c.args.packet.now w n packet.summary c.is_unrestricted.result c.first_of.ensures.bytes packet.summary_is c.first_of.ensures.len c.first_of.ensures.otherwise c.first_of.ensures.restricts c.is_unrestricted.ensures c.if-not-is_unrestricted.false
    (grind (arith, common_steps, c.if-first.false)) (grind (arith, common_steps, c.if-first.false)) (grind (arith, common_steps, c.if-first.false)) in
    let f : SelectsFirst w (dissected c.args.packet.now).headers n.len = subst (λ (x : List ℕ). SelectsFirst w (dissected x).headers n.len) c.first_of.ensures.bytes alone.first in
    ap (λ b. not b) c.first_of.ensures.segments ∙ sym (free_checksums w (dissected c.args.packet.now) n.len f)

pub returns-clause-written : goal.returns-clause-written
returns-clause-written c =
    let n : First = c.first_of.result.1 in
    let packet = c.first_of.result.0 in
    let s : List ℕ = packet.bytes.now in
    let w : Which = c.args.which in
    let alone : IsAlone s w n packet.summary =
    gather s c.args.packet.now w n packet.summary c.is_unrestricted.result c.first_of.ensures.bytes packet.summary_is c.first_of.ensures.len c.first_of.ensures.otherwise c.first_of.ensures.restricts c.is_unrestricted.ensures c.if-not-is_unrestricted.false
    (grind (arith, common_steps, c.if-first.false)) (grind (arith, common_steps, c.if-first.false)) (grind (arith, common_steps, c.if-first.false)) in
    let room : ℕ = length c.args.out.now in
    let none = accepted s w n packet.summary room alone packet.summary_is c.if-field-len.false in
    let size = size_is s w n packet.summary alone packet.summary_is in
    c.write_after_first.ensures
    ∙ (ap (λ k. without w (dissected s) ++ drop k c.args.out.now) (sym size)
    ∙ ap (λ (x : List ℕ). without w (dissected x) ++ drop (packet.summary.base_len + (packet.summary.extensions_len - n.len + packet.summary.payload_len)) c.args.out.now) c.first_of.ensures.bytes)

pub returns-clause-dissects : goal.returns-clause-dissects
returns-clause-dissects c =
    let n : First = c.first_of.result.1 in
    let packet = c.first_of.result.0 in
    let s : List ℕ = packet.bytes.now in
    let w : Which = c.args.which in
    let alone : IsAlone s w n packet.summary =
    gather s c.args.packet.now w n packet.summary c.is_unrestricted.result c.first_of.ensures.bytes packet.summary_is c.first_of.ensures.len c.first_of.ensures.otherwise c.first_of.ensures.restricts c.is_unrestricted.ensures c.if-not-is_unrestricted.false
    (grind (arith, common_steps, c.if-first.false)) (grind (arith, common_steps, c.if-first.false)) (grind (arith, common_steps, c.if-first.false)) in
    let room : ℕ = length c.args.out.now in
    let none = accepted s w n packet.summary room alone packet.summary_is c.if-field-len.false in
    let size = size_is s w n packet.summary alone packet.summary_is in
    let p : DissectedParts = dissected s in
    let front = written_front p (kept w p.headers) p.number p.payload (drop (len_without w p) c.args.out.now) c.write_after_first.new.out (packet.summary.base_len + (packet.summary.extensions_len - n.len + packet.summary.payload_len))
    (without_option w Valid p room (none Valid)) c.write_after_first.ensures size in
    ap dissected front ∙ (dissects w Valid room s packet.base packet.base_is (none Valid) ∙ ap (λ (x : List ℕ). parts_without w (dissected x)) c.first_of.ensures.bytes)
