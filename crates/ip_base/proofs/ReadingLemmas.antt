-- Bytes that were consumed, and requests that were refused after them.
use Rattle.std.proofs.Common.{◌≡◌, ℕ, ◌+◌, ◌<◌, ◌≤◌, List, ◌++◌, length, take, arith, Bool, rules, [], Option, length-append}
use Rattle.std.proofs.Math.Seq.{take-append-add}
use Rattle.std.proofs.lemmas.Grind.{common_steps}
use Rattle.std.proofs.lemmas.List.{length-take}
use Rattle.std.proofs.lemmas.Option.{IfSome_then}
use Rattle.std.specs.Io.KnownBytes.{Consumes}
use Rattle.std.specs.Option.{option_map}
use Rattle.std.specs.Prelude.{IfSome}
use Rattle.ip_base.specs.declared.err.layer.Layer.{Layer}
use Rattle.ip_base.specs.declared.err.len_error.LenError.{LenError}
use Rattle.ip_base.specs.ExactRead.{IsRefusal, IfSteady}
use Rattle.ip_base.specs.Limits.{left, started, advanced}
use Rattle.ip_base.specs.LimitedReader.{inner_of, limits_of, window, IsLimitedRefusal}
use Rattle.ip_base.specs.Reading.{IsRefused, IsRefusedAfter, IsConsumedInLayer, IsPastLimit, IsRefusedWithin, IsRefusedInLayer}
use Rattle.ip_base.specs.declared.err.io.limited_read_error.LimitedReadError.{LimitedReadError}
use Rattle.ip_base.specs.declared.io.limited_reader.LimitedReader.{LimitedReader}

-- bytes consumed from a prefix are consumed from the whole, if the prefix is long enough
pub consumed_of_front : (a b : Option (List ℕ)) (n m : ℕ) (bytes : List ℕ) → Consumes a b bytes → length bytes + m ≡ n → Consumes (option_map (take n) a) (option_map (take m) b) bytes
consumed_of_front a b n m bytes c e = search (rules, take-append-add)

-- a reader's refused request
pub refused_after : (Asks : List ℕ → ℕ → Type 0) (steady then_steady : Bool) (first then : Option (List ℕ)) (failed : Bool) (done : List ℕ) (count : ℕ)
    → then_steady ≡ steady → Consumes first then done → Asks done count → IsRefusal then_steady then count failed → IsRefused Asks steady first failed
refused_after Asks steady then_steady first then failed done count e c a r = search rules

-- a property of the bytes that follow consumed ones
pub lift_some : (a b : Option (List ℕ)) (done : List ℕ) (Q : List ℕ → Type 0) → Consumes a b done → IfSome b (λ y. Q (done ++ y)) → IfSome a Q
lift_some a b done Q c f = search rules

pub of_all : (o : Option (List ℕ)) (R : List ℕ → Type 0) → ((y : List ℕ) → R y) → IfSome o R
of_all o R f = search rules

pub of_begun : (a b : Option (List ℕ)) (done : List ℕ) (R : List ℕ → Type 0) → Consumes a b done → ((xs : List ℕ) → R (done ++ xs)) → IfSome a R
of_begun a b done R c f = lift_some a b done R c (of_all b (λ y. R (done ++ y)) f)

-- A property that holds if too few bytes follow those consumed.
module _ (Asks : List ℕ → ℕ → Type 0) (P : List ℕ → Type 0) (short : (done : List ℕ) (count : ℕ) (rest : List ℕ) → Asks done count → length rest < count → P (done ++ rest)) where
  short_of : (a b : Option (List ℕ)) (done : List ℕ) (count : ℕ) → Asks done count → Consumes a b done → IfSome b (λ ys. length ys < count) → IfSome a P
  short_of a b done count k c f = lift_some a b done P c (IfSome_then b f (λ ys. short done count ys k))

  few_of_front : (b : Option (List ℕ)) (m count : ℕ) → m < count → IfSome (option_map (take m) b) (λ ys. length ys < count)
  few_of_front b m count l = search (rules, length-take)

  pub refused_short : (steady : Bool) (first : Option (List ℕ)) (failed : Bool) → IsRefused Asks steady first failed → IfSteady steady first P
  refused_short steady first failed r = search rules

  within_short : (steady : Bool) (first : Option (List ℕ)) (failed : Bool) (done : List ℕ) (count n : ℕ)
      → IsRefusedAfter Asks steady first failed done count → length done + count ≤ n → IfSteady steady (option_map (take n) first) P
  within_short steady first failed done count n r l = grind (arith, common_steps)

  module _ {T : Type 0} (bytes_left : T → Option (List ℕ)) (is_steady has_failed : T → Bool) (layer : Layer) (old new : LimitedReader T) where
    pub past_limit_short : (e : LenError) → IsPastLimit bytes_left is_steady has_failed Asks layer old new e → IfSome (window bytes_left old) P
    past_limit_short e p = search (rules, short_of, few_of_front)

    pub refused_within_short : IsRefusedWithin bytes_left is_steady has_failed Asks layer old new → IfSteady (is_steady (inner_of old)) (window bytes_left old) P
    refused_within_short r = within_short _ _ _ r.done r.count (left (limits_of old)) r.refused r.within

-- Bytes consumed in a layer.
module _ {T : Type 0} (bytes_left : T → Option (List ℕ)) (layer : Layer) where
  -- no byte consumed, at the layer's start
  pub consumed_none : (old start : LimitedReader T) → inner_of start ≡ inner_of old → limits_of start ≡ started layer (limits_of old) → IsConsumedInLayer bytes_left layer old start []
  consumed_none old start same limits = search rules

  -- n more bytes consumed after h
  pub consumed_more : (old mid new : LimitedReader T) (h p : List ℕ) (n : ℕ) → IsConsumedInLayer bytes_left layer old mid h → length p ≡ n
      → Consumes (bytes_left (inner_of mid)) (bytes_left (inner_of new)) p → n ≤ left (limits_of mid) → limits_of new ≡ advanced n (limits_of mid)
      → IsConsumedInLayer bytes_left layer old new (h ++ p)
  consumed_more old mid new h p n t is c l e = grind (arith, common_steps, length-append, consumed_of_front)

  -- a request refused after consumed bytes
  module _ (is_steady has_failed : T → Bool) (Asks : List ℕ → ℕ → Type 0) where
    pub refused_in_layer : (old mid new : LimitedReader T) (done : List ℕ) (count : ℕ) (e : LimitedReadError) → IsConsumedInLayer bytes_left layer old mid done
        → is_steady (inner_of mid) ≡ is_steady (inner_of old) → has_failed (inner_of mid) ≡ has_failed (inner_of old)
        → Asks done count → IsLimitedRefusal bytes_left is_steady has_failed mid new count e → limits_of new ≡ limits_of mid
        → IsRefusedInLayer bytes_left is_steady has_failed Asks layer old new e
    refused_in_layer old mid new done count e t steady kept asked r same = search rules
