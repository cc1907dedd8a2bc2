-- Tests that ask frames, and tests that ask packets alone.
use Rattle.std.proofs.Common.{suc}
use Rattle.ip_spec.proofs.Common.{◌≡◌, ℕ, List, [], ◌∷◌, refl, sym, ap, ◌∙◌, Bool, true, false, ◌==◌, ◌||◌, if◌then◌else◌, Some, list_any}
use Rattle.ip_dissect.specs.Dissection.{dissected}
use Rattle.ip_filter.specs.Tests.{meets}
use Rattle.ip_filter.specs.Frames.{asks_frame, meets_in}
use Rattle.ip_filter.specs.Program.{led_to, passes}
use Rattle.ip_filter.specs.declared.filter.Test.{Test}
use Rattle.ip_filter.specs.declared.frame.Frame.{Frame}

neither : (a b : Bool) → (a || b) ≡ false → (a ≡ false) × (b ≡ false)
neither false b e = (refl, e)
neither true b e = absurd (cc e)

module _ (f : Frame) (s : List ℕ) where
  asked_of_packet : (x : Test) → asks_frame x ≡ false → meets_in f (Some s) x ≡ meets x (dissected s)
  asked_of_packet x none = rw none refl

  led_by_packet : (i n : ℕ) (xs : List Test) → list_any asks_frame xs ≡ false → led_to (meets_in f (Some s)) i n xs ≡ led_to (λ x. meets x (dissected s)) i n xs
  led_by_packet i n [] none = refl
  led_by_packet i n (x ∷ xs) none =
      let each = neither (asks_frame x) (list_any asks_frame xs) none in
      led_by_packet (suc i) (if i == n then (if meets_in f (Some s) x then x.if_met else x.if_not) else n) xs each.1
      ∙ ap (λ b. led_to (λ y. meets y (dissected s)) (suc i) (if i == n then (if b then x.if_met else x.if_not) else n) xs) (asked_of_packet x each.0)

  -- tests that ask no frame
  pub passes_by_packet : (xs : List Test) → list_any asks_frame xs ≡ false → passes xs (λ x. meets x (dissected s)) ≡ passes xs (meets_in f (Some s))
  passes_by_packet xs none = ap (λ n. n == 64) (sym (led_by_packet 0 0 xs none))
