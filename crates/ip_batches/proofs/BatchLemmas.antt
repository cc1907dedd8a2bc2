-- Spans within a buffer, results stored one by one, and packets counted one by one.
use Rattle.std.proofs.Common.{◌≡◌, ℕ, ◌+◌, ◌<◌, ◌≤◌, suc, Bool, false, List, [], ◌∷◌, ◌++◌, map, length, get_or, set, take, drop, min, sym, ap, ◌∙◌, arith, nat_lt, append_assoc, add-one, drop-cons}
use Rattle.std.specs.Prelude.{position, None}
use Rattle.std.specs.List.{position_or_len}
use Rattle.std.proofs.lemmas.Grind.{common_steps}
use Rattle.std.proofs.lemmas.List.{take_more, map_more, get_or-map, set_at}
use Rattle.std.proofs.lemmas.List.Sums.{fails_before_first}
use Rattle.ip_spans.specs.HeaderSpan.{filled}
use Rattle.ip_batches.specs.Batch.{first_outside, packet_at, packets_at}
use Rattle.ip_batches.specs.declared.batch.PacketSpan.{PacketSpan}

-- Each span lies within the buffer if none is outside.
none_passes : {X : Type 0} (p : X → Bool) (xs : List X) → position p xs ≡ None → length xs ≤ position_or_len p xs
none_passes p xs none = grind (arith, common_steps)

pub span_within : (buffer : List ℕ) (spans : List PacketSpan) (i : ℕ) (d : PacketSpan) → first_outside buffer spans ≡ None → i < length spans
    → (get_or spans i d).offset + (get_or spans i d).len ≤ length buffer
span_within buffer spans i d none l =
    let test : PacketSpan → Bool = λ x. nat_lt (length buffer) (x.offset + x.len) in
    let few = none_passes test spans none in
    let inside : nat_lt (length buffer) ((get_or spans i d).offset + (get_or spans i d).len) ≡ false = fails_before_first test spans i d (omega (arith, l, few)) in
    grind (arith, inside)

-- The first i of the results `xs` are stored in the array that was `old`, and one more is.
module _ {X : Type 0} (xs old : List X) where
  pub one_stored : (ys : List X) (i : ℕ) (x d : X) → ys ≡ take i xs ++ drop i old → i < length xs → i < length old → x ≡ get_or xs i d
      → set ys i x ≡ take (i + 1) xs ++ drop (i + 1) old
  one_stored ys i x d stored l m is =
      let first : length (take i xs) ≡ i = grind (arith, common_steps) in
      ap (λ zs. set zs i x) stored ∙ ap (λ zs. set (take i xs ++ zs) i x) (drop-cons old i x m) ∙ set_at (take i xs) (get_or old i x) (drop (suc i) old) x i first
      ∙ ap (λ y. take i xs ++ y ∷ drop (suc i) old) is ∙ sym (append_assoc (take i xs) (get_or xs i d ∷ []) (drop (suc i) old))
      ∙ ap (λ zs. zs ++ drop (suc i) old) (sym (take_more xs i d l)) ∙ ap (λ n. take (i + 1) xs ++ drop n old) (sym (add-one i))

  pub all_stored : (ys : List X) (n : ℕ) → ys ≡ take n xs ++ drop n old → n ≡ min (length xs) (length old) → ys ≡ filled xs old
  all_stored ys n stored e = grind (arith, common_steps)

-- The packets at the spans, of which the one at the index i is next.
module _ (buffer : List ℕ) (spans : List PacketSpan) where
  packets_len : length (packets_at buffer spans) ≡ length spans
  packets_len = grind (arith, common_steps)

  -- One more result of f is stored.
  module _ {X : Type 0} (f : List ℕ → X) (old : List X) where
    results_len : length (map f (packets_at buffer spans)) ≡ length spans
    results_len = grind (arith, common_steps)

    result_at : (i : ℕ) (d : PacketSpan) (e : X) → i < length spans → get_or (map f (packets_at buffer spans)) i e ≡ f (packet_at buffer (get_or spans i d))
    result_at i d e l = get_or-map f (packets_at buffer spans) i [] e (omega (arith, l, packets_len)) ∙ ap f (get_or-map (packet_at buffer) spans i d [] l)

    pub next_stored : (ys : List X) (i n : ℕ) (s : List ℕ) (x : X) → ys ≡ take i (map f (packets_at buffer spans)) ++ drop i old → i < n → n ≡ min (length spans) (length old)
        → ((d : PacketSpan) → s ≡ packet_at buffer (get_or spans i d)) → x ≡ f s → set ys i x ≡ take (i + 1) (map f (packets_at buffer spans)) ++ drop (i + 1) old
    next_stored ys i n s x stored l e at is =
        let d : PacketSpan = record { offset = 0; len = 0 } in
        let within : i < length spans = omega (arith, l, e) in
        let room : i < length old = omega (arith, l, e) in
        one_stored (map f (packets_at buffer spans)) old ys i x x stored (omega (arith, within, results_len)) room (is ∙ ap f (at d) ∙ sym (result_at i d x within))

  -- One more packet has been taken.
  pub next_packet : (i : ℕ) (s : List ℕ) → i < length spans → ((d : PacketSpan) → s ≡ packet_at buffer (get_or spans i d))
      → packets_at buffer (take i spans) ++ s ∷ [] ≡ packets_at buffer (take (i + 1) spans)
  next_packet i s l at =
      let d : PacketSpan = record { offset = 0; len = 0 } in
      ap (λ x. packets_at buffer (take i spans) ++ x ∷ []) (at d) ∙ sym (map_more (packet_at buffer) spans i d l)
